use Rattle.std.proofs.Common.{◌≡◌, ◌≤◌, ℕ}
use Rattle.std.specs.FinMap as map
use Rattle.dl_shape.specs.Settling.{trim, trim_by}
use Rattle.dl_shape.proofs.settling.trim.Given as goal

-- so many further removals trim what is left, and trim the heap
abbrev pub invariant-loop-name : goal.invariant-loop-name
invariant-loop-name l = record {
  trims : (count : ℕ) × (map.len l.heap.objects ≤ count) × (trim_by count l.heap.objects ≡ trim l.fn.heap.objects);
  room : l.heap.room ≡ l.fn.heap.room;
}

abbrev pub decreases-loop-name : goal.decreases-loop-name
decreases-loop-name l = map.len l.heap.objects
