use Rattle.std.proofs.Common.{◌≡◌}
use Rattle.dl_shape.specs.Settling.{sealed_heap}
use Rattle.dl_shape.proofs.Sealing.{unsealed}
use Rattle.dl_shape.proofs.settling.seal_shared.Given as goal

-- sealing what is left leads where it would have led at first
abbrev pub invariant-loop-name : goal.invariant-loop-name
invariant-loop-name l = record {
  seals : sealed_heap l.heap.objects ≡ sealed_heap l.fn.heap.objects;
  room : l.heap.room ≡ l.fn.heap.room;
}

abbrev pub decreases-loop-name : goal.decreases-loop-name
decreases-loop-name l = unsealed l.heap.objects
