use Rattle.std.proofs.Common.{ap, ◌∙◌}
use Rattle.std.specs.FinMap as finite
use Rattle.dl_core.specs.Frames.{Frame, Book}
use Rattle.dl_core.specs.Shown.{shown}
use Rattle.dl_core.proofs.Moves.{can_held, moved_alike}
use Rattle.dl_core.proofs.effects.took.Goals as goal

pub make_ready-requires : goal.make_ready-requires
make_ready-requires c =
    let is = c.hold.ensures.shown in
    let moved = c.move_on.ensures.shown in
    let alike = moved_alike c.args.frame.now.loose.items (shown c.args.frame.now) in
    can_held c.args.code.now c.args.frame.now c.hold.new.frame c.args.name (c.hold.ensures.rooms ∙ c.move_on.ensures.rooms)
    (ap (λ (f : Frame). f.call) is ∙ ap (λ (f : Frame). f.call) moved ∙ alike.0) (ap (λ (f : Frame). f.locals) is ∙ ap (λ (f : Frame). f.locals) moved ∙ alike.1) c.requires.can (record { kind = c.args.kind; fields = 1 })
    (ap (λ (f : Frame). f.book) is ∙ ap (λ (b : Book). finite.insert b c.args.name (record { kind = c.args.kind; fields = 1 })) (ap (λ (f : Frame). f.book) moved ∙ alike.2)) (ap (λ (f : Frame). f.loose) is ∙ ap (λ (f : Frame). f.loose) moved ∙ alike.3) c.requires.loose
