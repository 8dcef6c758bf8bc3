use Rattle.std.specs.FinMap.{entries}
use Rattle.dl_heapfile.proofs.Small.{SmallIn}
use Rattle.dl_heapfile.proofs.laws.heaps_hold_small.Given as goal

-- where the objects to come hold no other number, none does
abbrev pub invariant-loop-object : goal.invariant-loop-object
invariant-loop-object l = SmallIn l.object-iterator → SmallIn (entries l.heap.objects)
