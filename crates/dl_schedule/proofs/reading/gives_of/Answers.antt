use Rattle.std.proofs.Common.{ℕ, ◌+◌, ◌∙◌, ap, sym, arith}
use Rattle.std.proofs.lemmas.Result.{err_from_is_err_and}
use Rattle.dl_schedule.specs.Rules.{steps_in}
use Rattle.dl_schedule.specs.Reading.{times_of}
use Rattle.dl_schedule.proofs.RuleLaws.{room_behind}
use Rattle.dl_schedule.proofs.Steps.{line_fails, line_says, steps_with}
use Rattle.dl_schedule.proofs.reading.gives_of.Goals as goal

pub returns-in_err-give : goal.returns-in_err-give
returns-in_err-give c =
    let p = err_from_is_err_and c.from_residual.result c.from_residual.ensures.1 in
    rw (p.1, p.2)
    (λ ne. sym c.loop-rest.invariant.says
    ∙ line_fails c.args.callers c.loop-rest.line c.loop-rest.gives c.loop-rest.rest.now c.first_line.result.0.now c.loop-rest.steps c.in_err-give.field-0.0
    c.first_line.ensures.line c.loop-rest.invariant.counted (sym c.give_of_line.ensures ∙ c.in_err-give.was))

pub loop-rest-preserved : goal.loop-rest-preserved
loop-rest-preserved c = record {
  says = line_says c.args.callers c.loop-rest.line c.loop-rest.gives c.add_give.new.gives c.loop-rest.rest.now c.first_line.result.0.now c.first_line.result.1.now c.loop-rest.steps c.in_ok-give.give
      c.first_line.ensures.line c.first_line.ensures.rest c.loop-rest.invariant.counted (sym c.give_of_line.ensures ∙ c.in_ok-give.was) c.in_ok-add_give.ensures
      ∙ c.loop-rest.invariant.says;
  counted =
      ap (λ (n : ℕ). c.loop-rest.steps + n) c.times_of-steps.ensures ∙ ap (λ (n : ℕ). n + times_of c.in_ok-give.give) c.loop-rest.invariant.counted
      ∙ sym (steps_with c.loop-rest.gives c.in_ok-give.give) ∙ ap steps_in (sym c.in_ok-add_give.ensures);
  few =
      (let room = room_behind c.args.callers c.loop-rest.line c.loop-rest.steps c.first_line.result.0.now c.in_ok-give.give c.loop-rest.invariant.few (sym c.give_of_line.ensures ∙ c.in_ok-give.was) in omega (arith, room));
  within = omega arith;
}
