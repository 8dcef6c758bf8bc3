use Rattle.std.proofs.Common.{sym, subst}
use Rattle.dl_core.specs.declared.dues.Due.{Due}
use Rattle.dl_core.specs.declared.frames.Frame.{Frame as Kept}
use Rattle.dl_core.specs.Parts.{CanStep}
use Rattle.dl_core.proofs.steps.step.Goals as goal

pub take_step-requires-clause-needs : goal.take_step-requires-clause-needs
take_step-requires-clause-needs c =
    let by = c.requires.may.ready in
    subst (λ (f : Kept). CanStep c.args.code.now f c.args.heap.now c.args.counters.now c.due_of-due.result) (sym c.due_of-due.ensures.same)
    (subst (λ (d : Due). CanStep c.args.code.now c.args.frame.now c.args.heap.now c.args.counters.now d) (sym (c.due_of-due.ensures.due by.plan by.code_is)) c.requires.may.needs)
