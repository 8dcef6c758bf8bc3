use Rattle.std.proofs.Common.{rules, ◌≡◌, ◌+◌, ◌-◌, ℕ, Some, length, refl, ◌∙◌, sym, subst, arith}
use Rattle.std.specs.Prelude.{slice_get}
use Rattle.dl_core.specs.Sound.{numbers_from}
use Rattle.dl_coarse.specs.Openings.{HasYet}
use Rattle.dl_coarse.specs.Passes.{plan_in}
use Rattle.dl_coarse.proofs.Dealing.{IsFresh, one_less, dealt_one, is_fresh, fresh_more}
use Rattle.dl_coarse.proofs.Starting.{deals}
use Rattle.dl_coarse.proofs.openings.deal.Goals as goal

pub split_seat-own-requires : goal.split_seat-own-requires
split_seat-own-requires g c =
    let kept = c.loop-at.invariant in
    let callers : ℕ = length (plan_in g.M.Machine.opening c.args.coarse.now).sizes in
    let within = c.loop-at-test.true in
    let many = c.requires.callers in
    let less = one_less c.loop-at.at callers (omega arith) in
    let yet = subst (λ count. HasYet (plan_in g.M.Machine.opening c.args.coarse.now) (numbers_from (c.loop-at.at + 1) count) c.loop-at.seat.me) less kept.0 in
    (kept.1, search rules, deals g.M.Machine.runs g.M.Machine.state (plan_in g.M.Machine.opening c.args.coarse.now) c.loop-at.seat.id c.loop-at.seat.me.0 (c.loop-at.at + 1) (callers - (c.loop-at.at + 1)) yet.owns yet.no_turn)

pub loop-at-preserved : goal.loop-at-preserved
loop-at-preserved g c =
    let kept = c.loop-at.invariant in
    let callers : ℕ = length (plan_in g.M.Machine.opening c.args.coarse.now).sizes in
    let within = c.loop-at-test.true in
    let many = c.requires.callers in
    let less = one_less c.loop-at.at callers (omega arith) in
    let yet = subst (λ count. HasYet (plan_in g.M.Machine.opening c.args.coarse.now) (numbers_from (c.loop-at.at + 1) count) c.loop-at.seat.me) less kept.0 in
    let split = c.split_seat-own.ensures in (
      dealt_one (plan_in g.M.Machine.opening c.args.coarse.now) (c.loop-at.at + 1) (callers - (c.loop-at.at + 1)) c.loop-at.seat.me c.split_seat-own.new.seat.me yet split.2,
      split.0 ∙ kept.1,
      search rules,
      search rules,
      subst (λ passes. (at : ℕ) (pass : _) → slice_get passes at ≡ Some pass → IsFresh g.M.Machine.opening c.args.coarse.now at pass) (sym c.push_reserved.ensures.items)
          (fresh_more g.M.Machine.opening c.args.coarse.now c.loop-at.passes.items _ c.loop-at.at kept.2 kept.4
          (is_fresh g.M.Machine.opening c.args.coarse.now c.requires.plan c.args.coarse.now.counts c.loop-at.at (callers - (c.loop-at.at + 1)) c.loop-at.seat.me yet _ (split.3 ∙ kept.1) split.4 refl refl
          (c.requires.front ∙ c.requires.yet.front ∙ sym yet.front) c.in_ok-args.ensures.capacity)),
    )
