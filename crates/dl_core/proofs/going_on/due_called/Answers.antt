use Rattle.std.proofs.Common.{sym, ap, ◌∙◌, arith}
use Rattle.std.specs.Prelude.{slice_get}
use Rattle.dl_core.specs.Shown.{shown}
use Rattle.dl_core.specs.LocalSteps.{next_root}
use Rattle.dl_core.proofs.Asking.{reserves_first, then_roots}
use Rattle.dl_core.proofs.going_on.due_called.Goals as goal

pub returns-then-frame-need : goal.returns-then-frame-need
returns-then-frame-need c plan e = sym (reserves_first plan (shown c.args.frame.now) c.allocs_of-need.result (c.allocs_of-need.ensures plan c.args.frame.now.args.items e) c.if-frame-need.true)

pub returns : goal.returns
returns c plan e =
    c.due_root.ensures ∙ ap next_root (c.get.ensures ∙ ap (λ l. slice_get l c.args.frame.now.taken) (c.requires.roots plan e))
    ∙ sym (then_roots plan (shown c.args.frame.now) c.allocs_of-need.result (c.allocs_of-need.ensures plan c.args.frame.now.args.items e) (omega (arith, c.if-frame-need.false)))
