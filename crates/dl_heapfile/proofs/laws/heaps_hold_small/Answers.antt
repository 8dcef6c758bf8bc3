use Rattle.std.proofs.Common.{sym, subst}
use Rattle.dl_heapfile.proofs.Small.{FieldsSmall, SmallIn, small_got}
use Rattle.dl_heapfile.proofs.laws.heaps_hold_small.Goals as goal

pub loop-object-init : goal.loop-object-init
loop-object-init c = rw (c.into_iter-object-iterator.ensures.into_iter_gives, c.iter-object-items.ensures) (λ all. all)

pub loop-object-preserved : goal.loop-object-preserved
loop-object-preserved c = λ rest.
    let here = subst FieldsSmall c.fields.ensures.value c.fields_are_small.ensures in
    c.loop-object.invariant (subst SmallIn (sym c.in-Some.ensures.steps) (here, rest))

pub returns : goal.returns
returns c = small_got c.args.heap.now.objects (c.loop-object.invariant (subst SmallIn (sym c.in-None.ensures.steps.0) tt))
