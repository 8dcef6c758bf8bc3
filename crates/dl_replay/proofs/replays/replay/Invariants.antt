use Rattle.std.proofs.Common.{◌≡◌, ◌+◌, take}
use Rattle.dl_ir.specs.Heap.{IsHeapOf}
use Rattle.dl_meaning.specs.FirstStates.{HasTicketsBelow}
use Rattle.dl_shape.specs.Replay.{replayed, greatest_ticket, IsLegalFrom}
use Rattle.dl_replay.proofs.replays.replay.Given as goal

-- the entries so far are legal, and the heap is that of their replay
abbrev pub invariant-loop-at : goal.invariant-loop-at
invariant-loop-at l = record {
  same : l.entries ≡ l.history.entries;
  legal : IsLegalFrom l.source l.files (greatest_ticket l.start.objects + 1) l.start.objects (take l.at l.entries);
  left : l.heap.objects ≡ replayed l.source l.files l.start.objects (take l.at l.entries);
  of_module : IsHeapOf l.source l.heap.objects;
  below : HasTicketsBelow (l.first + l.at) l.heap.objects;
}
