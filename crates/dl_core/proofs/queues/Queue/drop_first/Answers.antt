use Rattle.std.proofs.Common.{ap, ◌∙◌, arith}
use Rattle.dl_core.specs.Frames.{behind_of}
use Rattle.dl_core.specs.Rooms.{Roomed}
use Rattle.dl_core.proofs.Behind.{behind_drop}
use Rattle.dl_core.proofs.queues.Queue.drop_first.Goals as goal

pub returns-then-self-len : goal.returns-then-self-len
returns-then-self-len g c =
    let i = c.self.inside in
    (λ k. record { items = behind_drop i.items.items i.head (omega (arith, c.if-self-len.true, c.len.ensures)) k; room = i.room })
    ∙ ap (λ (r : Roomed _). record { items = behind_of r.items; room = r.room }) c.self.view_is
