use Rattle.std.proofs.Common.{ap, arith}
use Rattle.dl_ir.specs.Heap.{View}
use Rattle.dl_heapfile.proofs.Filling.{few_held, object_fault, too_many, built}
use Rattle.dl_heapfile.proofs.Listed.{sorted}
use Rattle.dl_heapfile.proofs.building.build.Goals as goal
use Rattle.dl_lemmas.proofs.Tests.{yes}

pub heap_with-requires-clause-sorted : goal.heap_with-requires-clause-sorted
heap_with-requires-clause-sorted c = yes _ (sorted c.args.source.now c.args.entries.now c.requires.in_place.listed)

pub heap_with-requires-clause-few : goal.heap_with-requires-clause-few
heap_with-requires-clause-few c = λ at e there. few_held c.args.source.now e.1 c.requires.start (c.requires.in_place.listed.forms at e there)

pub returns-in-Some-clause-built : goal.returns-in-Some-clause-built
returns-in-Some-clause-built c = λ _.
    object_fault c.args.source.now c.args.places c.args.line c.args.entries.now c.in_ok-heap.heap.objects (ap (λ (v : View). v.objects) c.in_ok-heap.ensures) c.in-Some.fault c.in-Some.ensures

pub returns-then-hidden-places-clause-built : goal.returns-then-hidden-places-clause-built
returns-then-hidden-places-clause-built c = λ _.
    too_many c.args.source.now c.args.places c.args.line c.args.entries.now c.in_ok-heap.heap.objects (ap (λ (v : View). v.objects) c.in_ok-heap.ensures) c.in_default.ensures
    (omega (arith, c.if-hidden-places.true, c.hidden_in-hidden.ensures.count))

pub returns-clause-built : goal.returns-clause-built
returns-clause-built c =
    built c.args.source.now c.args.places c.args.line c.args.entries.now c.in_ok-heap.heap.objects (ap (λ (v : View). v.objects) c.in_ok-heap.ensures) c.in_default.ensures
    (omega (arith, c.if-hidden-places.false, c.hidden_in-hidden.ensures.count))
