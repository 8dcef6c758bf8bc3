use Rattle.std.proofs.Common.{◌≤◌, refl, ap, sym, subst, ◌∙◌, arith}
use Rattle.std.specs.FinMap as finite
use Rattle.dl_core.specs.Frames.{Frame}
use Rattle.dl_core.specs.LocalSteps.{ready}
use Rattle.dl_core.specs.Shown.{with_code, AreTidy}
use Rattle.dl_core.proofs.Moves.{can_with}
use Rattle.dl_core.proofs.calls.entered.Goals as goal

pub make_ready-requires : goal.make_ready-requires
make_ready-requires c =
    let is = c.prepare.ensures.shown (with_code c.args.code.now) refl in
    can_with c.args.code.now c.args.frame.now c.prepare.new.frame c.prepare.ensures.rooms (ap (λ (f : Frame). f.call) is)
    (omega (arith, c.prepare.ensures.few))
    (subst (λ (f : Frame). AreTidy f.book f.loose) (sym is) c.requires.can.tidy)
    (subst (λ (f : Frame). finite.len f.book ≤ c.args.frame.now.loose.room) (sym is) c.requires.can.room)
    c.requires.can

pub returns-clause-shown : goal.returns-clause-shown
returns-clause-shown c plan e = c.make_ready.ensures.ready plan e ∙ ap (ready plan) (c.prepare.ensures.shown plan e)
