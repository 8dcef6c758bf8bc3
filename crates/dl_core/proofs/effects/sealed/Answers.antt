use Rattle.std.proofs.Common.{ap}
use Rattle.dl_core.specs.Frames.{Frame}
use Rattle.dl_core.proofs.Moves.{can_alone}
use Rattle.dl_core.proofs.effects.sealed.Goals as goal

pub make_ready-requires : goal.make_ready-requires
make_ready-requires c =
    let is = c.release.ensures.shown in
    can_alone c.args.code.now c.args.frame.now c.release.new.frame c.args.name c.release.ensures.rooms
    (ap (λ (f : Frame). f.call) is) (ap (λ (f : Frame). f.locals) is) c.requires.can (ap (λ (f : Frame). f.book) is) (ap (λ (f : Frame). f.loose) is) c.requires.none
