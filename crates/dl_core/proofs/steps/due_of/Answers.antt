use Rattle.std.proofs.Common.{ap, ◌∙◌}
use Rattle.dl_core.specs.LocalSteps.{due}
use Rattle.dl_core.specs.Shown.{shown}
use Rattle.dl_core.proofs.KeptSame.{kept_same}
use Rattle.dl_core.proofs.LocalSteps.{ready_stays}
use Rattle.dl_core.proofs.steps.due_of.Goals as goal

pub returns-clause-due : goal.returns-clause-due
returns-clause-due c plan e =
    let by = c.requires.ready in
    c.make_ready.ensures.due plan e ∙ ap (due plan) (c.make_ready.ensures.ready by.plan by.code_is ∙ ready_stays by.plan (shown c.args.frame.now) by.ready)

pub returns-clause-same : goal.returns-clause-same
returns-clause-same c =
    let by = c.requires.ready in
    kept_same c.make_ready.new.frame c.args.frame.now (c.make_ready.ensures.ready by.plan by.code_is ∙ ready_stays by.plan (shown c.args.frame.now) by.ready) c.make_ready.ensures.rooms
