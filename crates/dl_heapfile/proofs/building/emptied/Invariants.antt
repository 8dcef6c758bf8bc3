use Rattle.std.proofs.Common.{◌≡◌, ◌≤◌, length, map, take}
use Rattle.dl_heapfile.specs.Blanks.{nothing}
use Rattle.dl_heapfile.proofs.building.emptied.Given as goal

abbrev pub invariant-loop : goal.invariant-loop
invariant-loop l = record {
  so_far : l.fields ≡ map nothing (take l.counter l.object.fields);
  within : l.counter ≤ length l.object.fields;
}
