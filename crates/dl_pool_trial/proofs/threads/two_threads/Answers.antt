use Rattle.std.proofs.Common.{◌≡◌, ℕ, ◌∙◌, sym, subst, rules}
use Rattle.dl_pool.specs.Log.{HasAllCallers, IsWholeLog}
use Rattle.dl_pool.specs.Views.{joined}
use Rattle.dl_pool_trial.proofs.Adding.{Sees, IsFresh, dealt_fresh, both_callers, ends_as_begun}
use Rattle.dl_pool_trial.proofs.threads.two_threads.Goals as goal

pub close_own-word-requires-clause-all : goal.close_own-word-requires-clause-all
close_own-word-requires-clause-all g c =
    let first : c.deal_own-one.result.me.0.pool.number ≡ 1 = search rules in
    let second : c.deal_own-two.result.me.0.pool.number ≡ 2 = search rules in
    let callers : c.in_ok-table.table.shared.key.callers ≡ 2 = search rules in
    subst (λ (m : Sees). HasAllCallers c.in_ok-table.table.shared.key.callers m.0.pool) (sym c.join_own.ensures.seat.2)
    (both_callers c.in_ok-table.table.shared.key.callers c.run_both-first.new.one.me.0.pool c.run_both-first.new.two.me.0.pool callers
    (c.run_both-first.ensures.one.2.number ∙ first) (c.run_both-first.ensures.two.2.number ∙ second))

pub returns-clause-totals : goal.returns-clause-totals
returns-clause-totals g c =
    let places : c.in_ok-table.table.shared.key.layout.places ≡ 3 = search rules in
    let one_fresh : IsFresh c.deal_own-one.result.me.0.pool = subst (λ (m : Sees). IsFresh m.0.pool) (sym c.deal_own-one.ensures.dealt.1) (dealt_fresh c.in_ok-table.dealer.me.0.pool) in
    let two_fresh : IsFresh c.deal_own-two.result.me.0.pool = subst (λ (m : Sees). IsFresh m.0.pool) (sym c.deal_own-two.ensures.dealt.1) (dealt_fresh c.deal_own-one.new.seat.me.0.pool) in
    let log : IsWholeLog 3 c.close_own-word.result (joined c.run_both-first.new.one.me.0.pool c.run_both-first.new.two.me.0.pool) =
    subst (λ (z : ℕ × Sees). IsWholeLog z.0 c.close_own-word.result z.1.0.pool) (λ i. (places i, c.join_own.ensures.seat.2 i)) c.close_own-word.ensures in
    ends_as_begun 3 c.close_own-word.result c.run_both-first.result.0 c.run_both-first.result.1 c.deal_own-one.result.me.0.pool c.deal_own-two.result.me.0.pool
    c.run_both-first.new.one.me.0.pool c.run_both-first.new.two.me.0.pool log c.run_both-first.ensures.one.2 c.run_both-first.ensures.two.2 one_fresh two_fresh
