use Rattle.std.proofs.Common.{ap, ◌∙◌}
use Rattle.dl_ir.specs.declared.names.Name.{Name}
use Rattle.dl_core.specs.Rooms.{Roomed}
use Rattle.dl_core.specs.Frames.{Frame}
use Rattle.dl_core.specs.Shown.{rooms_of}
use Rattle.dl_core.proofs.Moves.{can_behind}
use Rattle.dl_core.proofs.effects.let_go.Goals as goal

pub make_ready-requires : goal.make_ready-requires
make_ready-requires c =
    let is = c.release.ensures.shown in
    can_behind c.args.code.now c.args.frame.now c.release.new.frame c.args.name (c.release.ensures.rooms ∙ ap (λ (l : Roomed Name). rooms_of (record c.args.frame.now { loose = l })) c.drop_first.ensures)
    (ap (λ (f : Frame). f.call) is) (ap (λ (f : Frame). f.locals) is) c.requires.can (ap (λ (f : Frame). f.book) is) (ap (λ (f : Frame). f.loose) is ∙ ap (λ (l : Roomed Name). l.items) c.drop_first.ensures) c.requires.first
