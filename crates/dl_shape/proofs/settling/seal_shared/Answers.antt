use Rattle.std.proofs.Common.{◌∙◌}
use Rattle.dl_shape.proofs.Sealing.{seal_step, seal_fewer, seal_end}
use Rattle.dl_shape.proofs.settling.seal_shared.Goals as goal

pub loop-name-smaller : goal.loop-name-smaller
loop-name-smaller c = rw c.seal.ensures (seal_fewer c.loop-name.heap.objects c.in-Some.name c.in-Some.ensures)

pub loop-name-preserved : goal.loop-name-preserved
loop-name-preserved c = rw c.seal.ensures (record {
  seals = seal_step c.loop-name.heap.objects c.in-Some.name c.in-Some.ensures ∙ c.loop-name.invariant.seals;
  room = c.loop-name.invariant.room;
})

pub returns : goal.returns
returns c =
    let same = seal_end c.loop-name.heap.objects c.in_default.ensures ∙ c.loop-name.invariant.seals in
    λ i. record { objects = same i; room = c.loop-name.invariant.room i }
