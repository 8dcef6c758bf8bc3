use Rattle.std.proofs.Common.{◌≡◌, ◌≤◌, drop, length}
use Rattle.std.specs.FinMap as finite
use Rattle.dl_heapfile.proofs.Filling.{partly}
use Rattle.dl_heapfile.proofs.building.write.Given as goal

abbrev pub invariant-loop-field : goal.invariant-loop-field
invariant-loop-field l = record {
  heap : l.heap ≡ record l.fn.heap { objects = finite.insert l.fn.heap.objects l.name (partly l.field l.object) };
  left : l.value-iterator ≡ drop l.field l.object.fields;
  within : l.field ≤ length l.object.fields;
  few : length l.object.fields ≤ 16;
}
