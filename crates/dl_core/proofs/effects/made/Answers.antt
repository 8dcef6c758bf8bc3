use Rattle.std.proofs.Common.{ap, ◌∙◌}
use Rattle.std.specs.FinMap as finite
use Rattle.dl_core.specs.Frames.{Frame}
use Rattle.dl_core.proofs.Moves.{can_held}
use Rattle.dl_core.proofs.effects.made.Goals as goal

pub make_ready-requires : goal.make_ready-requires
make_ready-requires c =
    let is = c.hold.ensures.shown in
    let passed = c.pass_step.ensures.shown in
    can_held c.args.code.now c.args.frame.now c.hold.new.frame c.args.name (c.hold.ensures.rooms ∙ c.pass_step.ensures.rooms)
    (ap (λ (f : Frame). f.call) is ∙ ap (λ (f : Frame). f.call) passed) (ap (λ (f : Frame). f.locals) is ∙ ap (λ (f : Frame). f.locals) passed) c.requires.can (record { kind = c.args.kind; fields = 0 })
    (ap (λ (f : Frame). f.book) is ∙ ap (λ (f : Frame). finite.insert f.book c.args.name (record { kind = c.args.kind; fields = 0 })) passed) (ap (λ (f : Frame). f.loose) is ∙ ap (λ (f : Frame). f.loose) passed) c.requires.loose
