use Rattle.std.proofs.Common.{refl, ap, subst, ◌∙◌}
use Rattle.dl_core.specs.declared.answers.Progress.{Progress}
use Rattle.dl_core.specs.declared.answers.Progress.TheVariants as progress
use Rattle.dl_coarse.specs.Lone.{IsOnward}
use Rattle.dl_coarse.proofs.LoneSteps.{left, is_onward, on_same}
use Rattle.dl_coarse.proofs.lone.one_event.Goals as goal

pub invariant_of-result : goal.invariant_of-result
invariant_of-result c =
    let fewer = left c.args.going c.advance.new.self (progress.Moved c.in-Moved.field-0) c.advance.ensures.same (λ plan code. c.advance.ensures.stepped plan code ∙ ap (λ (answer : Progress). (c.advance.new.self.state, answer)) c.in-Moved.is) tt in
    record { more = (fewer.0, fewer.2) }

pub returns-in-Moved-clause-onward : goal.returns-in-Moved-clause-onward
returns-in-Moved-clause-onward c next same =
    subst (IsOnward c.args.going) (on_same same)
    (is_onward c.args.going _ c.in-Moved.field-0 c.advance.ensures.same (λ plan code. c.advance.ensures.stepped plan code ∙ ap (λ (answer : Progress). (c.advance.new.self.state, answer)) c.in-Moved.is) c.advance.ensures.running refl)
