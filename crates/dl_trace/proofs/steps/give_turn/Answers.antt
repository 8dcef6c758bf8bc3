use Rattle.std.proofs.Common.{◌≡◌, ◌∙◌, false, sym, ap}
use Rattle.std.specs.Prelude.{if◌then◌else◌}
use Rattle.dl_core.specs.Core.{Core}
use Rattle.dl_trace.specs.Runs.{is_done, give_to}
use Rattle.dl_trace.proofs.Goings.{goes_as}
use Rattle.dl_trace.proofs.steps.give_turn.Goals as goal

pub returns : goal.returns
returns g c =
    let files = c.args.files.now in
    let undone : is_done files c.args.core.now.state c.args.caller ≡ false = sym c.is_done.ensures ∙ c.if-is_done.false in
    goes_as files (λ plan run like e. sym (ap (λ v. if v then run else give_to plan files run c.args.caller) (ap (λ (s : Core). is_done files s c.args.caller) e ∙ undone))) c.give_step.ensures
