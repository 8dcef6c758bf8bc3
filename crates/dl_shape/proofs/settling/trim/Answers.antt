use Rattle.std.proofs.Common.{ap, ◌∙◌, arith}
use Rattle.dl_ir.specs.Heap.{View}
use Rattle.std.specs.FinMap as map
use Rattle.dl_shape.proofs.Order.{loose_there, len_removed, trim_step}
use Rattle.dl_shape.proofs.settling.trim.Goals as goal

pub loop-name-smaller : goal.loop-name-smaller
loop-name-smaller c =
    let h = c.loop-name.heap.objects in
    let there = loose_there h c.in-Some.name c.in-Some.ensures in
    omega (arith, len_removed h c.in-Some.name there.0 there.1, ap (λ (v : View). map.len v.objects) c.remove.ensures)

pub loop-name-preserved : goal.loop-name-preserved
loop-name-preserved c =
    let h = c.loop-name.heap.objects in
    let there = loose_there h c.in-Some.name c.in-Some.ensures in
    let trims = c.loop-name.invariant.trims in
    let step = trim_step h c.in-Some.name trims.0 c.in-Some.ensures trims.1 in
    rw c.remove.ensures (record {
      trims = (step.0, step.1, step.2 ∙ trims.2);
      room = c.loop-name.invariant.room;
    })
