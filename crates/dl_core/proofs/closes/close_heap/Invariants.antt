use Rattle.std.proofs.Common.{◌≡◌, ◌+◌, ◌≤◌, length, map}
use Rattle.std.specs.FinMap as finite
use Rattle.dl_ir.specs.Heap.{name_cmp}
use Rattle.dl_ir.specs.Rows.{added}
use Rattle.dl_core.specs.Heaps.{plain_object}
use Rattle.dl_core.proofs.Plain.{changed_entry}
use Rattle.dl_core.proofs.closes.close_heap.Given as goal

abbrev pub invariant-loop-name : goal.invariant-loop-name
invariant-loop-name l = record {
  rows : added l.heap.objects (map (changed_entry name_cmp plain_object) l.name-iterator) ≡ added finite.empty (map (changed_entry name_cmp plain_object) (finite.entries l.shared.rows));
  few : finite.len l.heap.objects + length l.name-iterator ≤ l.heap.room;
}
