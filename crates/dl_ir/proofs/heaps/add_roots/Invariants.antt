use Rattle.std.proofs.Common.{◌≡◌, ◌+◌, ◌≤◌, ℕ, drop, length}
use Rattle.std.specs.FinMap as map
use Rattle.dl_ir.specs.Heap.{roots_of, StandInRow}
use Rattle.dl_ir.specs.Rows.{added}
use Rattle.dl_ir.proofs.heaps.add_roots.Given as goal

-- the roots to come, put in, make it what all roots make of it; there is room for them, and they stand in a row
abbrev pub invariant-loop-kind : goal.invariant-loop-kind
invariant-loop-kind l = record {
  objects : added l.heap.objects (roots_of l.kind (drop l.kind l.kinds)) ≡ added l.fn.heap.objects (roots_of 0 l.kinds);
  room : l.heap.room ≡ l.fn.heap.room;
  few : map.len l.heap.objects + length (roots_of l.kind (drop l.kind l.kinds)) ≤ l.heap.room;
  row : (next : ℕ) × StandInRow next (drop l.kind l.kinds);
}
