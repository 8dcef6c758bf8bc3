use Rattle.std.proofs.Common.{◌≡◌, ◌≤◌, ℕ, None, drop, map}
use Rattle.dl_ir.specs.Meaning.{does, block_does, loops, in_turn}
use Rattle.dl_serial.specs.Frames.{state_of, context_of, HasRoom}
use Rattle.dl_serial.specs.Growth.{Grows}
use Rattle.dl_serial.proofs.run.+run.Given as goal

abbrev pub invariant-run_block-loop-s : goal.invariant-run_block-loop-s
invariant-run_block-loop-s l = record {
  gives : in_turn (map (does (context_of l.source l.task)) (drop l.s-index l.s-items)) (state_of l.frame l.heap) ≡ block_does (context_of l.source l.task) l.fn.block (state_of l.fn.frame l.fn.heap);
  turns : l.frame.turns ≤ l.fn.frame.turns;
  room : HasRoom l.task l.frame l.heap;
  same_room : l.heap.room ≡ l.fn.heap.room;
  end : l.frame.end ≡ None;
  grows : Grows l.fn.heap.objects l.heap.objects l.fn.frame.made l.frame.made;
}

abbrev pub invariant-run_loop-loop-frame : goal.invariant-run_loop-loop-frame
invariant-run_loop-loop-frame l = record {
  gives : (n : ℕ) × (l.frame.turns ≤ n) × (loops n l.c (block_does (context_of l.source l.task) l.body) (state_of l.frame l.heap) ≡ loops l.fn.frame.turns l.fn.c (block_does (context_of l.source l.task) l.fn.body) (state_of l.fn.frame l.fn.heap));
  turns : l.frame.turns ≤ l.fn.frame.turns;
  room : HasRoom l.task l.frame l.heap;
  same_room : l.heap.room ≡ l.fn.heap.room;
  end : l.frame.end ≡ None;
  grows : Grows l.fn.heap.objects l.heap.objects l.fn.frame.made l.frame.made;
}

abbrev pub decreases-run_loop-loop-frame : goal.decreases-run_loop-loop-frame
decreases-run_loop-loop-frame l = l.frame.turns
