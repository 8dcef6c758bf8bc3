use Rattle.std.proofs.Common.{◌≡◌, ◌+◌, ◌≤◌, length}
use Rattle.std.specs.FinMap as map
use Rattle.dl_ir.specs.Rows.{added}
use Rattle.dl_replay.proofs.copies.copied.Given as goal

-- what is left, put in, makes what all makes of an empty heap; there is room for it
abbrev pub invariant-loop-name : goal.invariant-loop-name
invariant-loop-name l = record {
  objects : added l.copy.objects l.name-iterator ≡ added map.empty (map.entries l.heap.objects);
  few : map.len l.copy.objects + length l.name-iterator ≤ l.copy.room;
  room : l.copy.room ≡ l.room;
}
