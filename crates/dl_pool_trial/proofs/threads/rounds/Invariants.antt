use Rattle.std.proofs.Common.{◌≡◌, ◌≤◌, ◌+◌, ◌*◌, []}
use Rattle.dl_pool_trial.specs.Trials.{MakesRounds}
use Rattle.dl_pool_trial.proofs.threads.rounds.Given as goal

abbrev pub invariant-loop : goal.invariant-loop
invariant-loop l =
    (l.seat.table_id ≡ l.initial.seat.table_id) × (l.seat.me.1 ≡ l.initial.seat.me.1) × MakesRounds l.made l.initial.seat.me.0.pool l.seat.me.0.pool × (l.seat.me.0.rest.claimed ≡ [])
    × (l.initial.seat.me.0.rest.left ≤ l.seat.me.0.rest.left + 2 * l.counter) × (l.made ≤ l.counter) × (l.initial.seat.me.0.pool.look.count + l.counter ≤ l.seat.me.0.pool.look.count)
