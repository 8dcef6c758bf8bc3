use Rattle.std.proofs.Common.{ap, ◌∙◌}
use Rattle.std.specs.FinMap as finite
use Rattle.dl_ir.specs.Heap.{root}
use Rattle.dl_core.specs.Frames.{Frame}
use Rattle.dl_core.proofs.Moves.{can_held}
use Rattle.dl_core.proofs.effects.took_root.Goals as goal

pub returns-clause-can : goal.returns-clause-can
returns-clause-can c =
    let is = c.hold.ensures.shown in
    let next = c.take_next.ensures.shown in
    can_held c.args.code.now c.args.frame.now c.hold.new.frame (root c.args.number) (c.hold.ensures.rooms ∙ c.take_next.ensures.rooms)
    (ap (λ (f : Frame). f.call) is ∙ ap (λ (f : Frame). f.call) next) (ap (λ (f : Frame). f.locals) is ∙ ap (λ (f : Frame). f.locals) next) c.requires.can (record { kind = c.args.kind; fields = 0 })
    (ap (λ (f : Frame). f.book) is ∙ ap (λ (f : Frame). finite.insert f.book (root c.args.number) (record { kind = c.args.kind; fields = 0 })) next) (ap (λ (f : Frame). f.loose) is ∙ ap (λ (f : Frame). f.loose) next) c.requires.loose
