use Rattle.std.proofs.Common.{◌≡◌, ◌++◌, ◌+◌, ◌≤◌, length, map}
use Rattle.std.specs.Vec.Iter.{into_iter_items}
use Rattle.dl_core.specs.declared.frames.Frame.{Frame as Kept}
use Rattle.dl_core.specs.Frames.{behind_of}
use Rattle.dl_core.proofs.closes.close_lists.Given as goal

abbrev pub invariant-loop-frame : goal.invariant-loop-frame
invariant-loop-frame l = record {
  entries : l.entries.items ++ map (λ (frame : Kept). frame.entries.items) (into_iter_items l.frame-iterator) ≡ l.fn.entries.items ++ map (λ (frame : Kept). frame.entries.items) (behind_of l.fn.frames.items);
  entries_room : length l.entries.items + length (into_iter_items l.frame-iterator) ≤ l.entries.room;
  refusals : l.refusals.items ++ map (λ (frame : Kept). frame.refusals.items) (into_iter_items l.frame-iterator) ≡ l.fn.refusals.items ++ map (λ (frame : Kept). frame.refusals.items) (behind_of l.fn.frames.items);
  refusals_room : length l.refusals.items + length (into_iter_items l.frame-iterator) ≤ l.refusals.room;
}
