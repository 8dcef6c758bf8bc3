use Rattle.std.proofs.Common.{◌≡◌, ◌++◌, [], None, map}
use Rattle.dl_coarse.specs.Passes.{CanJoinAll, own_at}
use Rattle.dl_coarse.proofs.closings.gather.Given as goal

abbrev pub invariant-loop-pass : goal.invariant-loop-pass
invariant-loop-pass g l =
    CanJoinAll l.table.table_id l.passes.items × (l.seat.table_id ≡ l.table.table_id) × (l.seat.me.0.turn ≡ None) × (l.seat.me.1 ≡ []) × (map own_at l.passes.items ++ l.seat.me.0.owns ≡ map own_at l.fn.passes.items)

abbrev pub decreases-loop-pass : goal.decreases-loop-pass
decreases-loop-pass g l = goal.left-loop-pass g l
