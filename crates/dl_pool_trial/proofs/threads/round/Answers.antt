use Rattle.std.proofs.Common.{◌∙◌, ap, arith}
use Rattle.dl_pool_trial.specs.declared.rule.Rest.{Rest}
use Rattle.dl_pool_trial.proofs.Adding.{Sees, got_adds, not_got_adds, give_adds, adds_both}
use Rattle.dl_pool_trial.proofs.threads.round.Goals as goal

pub returns-in_default : goal.returns-in_default
returns-in_default c =
    let h = not_got_adds c.args.table.now.key.callers 1 c.args.seat.now.me c.reserve_own.new.seat.me c.reserve_own.result c.in_default.not-Got c.reserve_own.ensures.answer in
    let same = ap (λ (x : Rest). x.claimed) h.2 in
    let left = ap (λ (x : Rest). x.left) h.2 in
    record { seat = (c.reserve_own.ensures.seat.0, h.1); made = (h.0, same ∙ c.requires.rest.0); left = omega arith; looks = h.3 }

pub returns-clause-made : goal.returns-clause-made
returns-clause-made c =
    let got = got_adds c.args.table.now.key.callers 1 c.in-Got.version c.args.seat.now.me c.reserve_own.new.seat.me c.in-Got.ensures.answer in
    let more = adds_both 1 0 1 0 0 0 c.args.seat.now.me.0.pool c.reserve_own.new.seat.me.0.pool c.visit.new.seat.me.0.pool got c.visit.ensures.lists.0 in
    let back = give_adds 1 c.give_own.result c.visit.new.seat.me c.give_own.new.seat.me c.give_own.ensures.answer in
    (adds_both 1 1 1 0 0 1 c.args.seat.now.me.0.pool c.visit.new.seat.me.0.pool c.give_own.new.seat.me.0.pool more back, ap (λ (m : Sees). m.0.rest.claimed) c.give_own.ensures.answer.3 ∙ c.visit.ensures.rest.0)
