use Rattle.std.proofs.Common.{◌≡◌, ◌+◌, ◌≤◌, length, map}
use Rattle.std.specs.FinMap as finite
use Rattle.dl_ir.specs.Heap.{name_cmp}
use Rattle.dl_ir.specs.Rows.{added}
use Rattle.dl_core.specs.Heaps.{marked_object}
use Rattle.dl_core.proofs.Plain.{changed_entry}
use Rattle.dl_core.proofs.openings.shared_heap.Given as goal

abbrev pub invariant-loop-name : goal.invariant-loop-name
invariant-loop-name l = record {
  rows : added l.shared.rows (map (changed_entry name_cmp marked_object) l.name-iterator) ≡ added finite.empty (map (changed_entry name_cmp marked_object) (finite.entries l.heap.objects));
  room : l.shared.room ≡ l.room;
  few : finite.len l.shared.rows + length l.name-iterator ≤ l.room;
}
