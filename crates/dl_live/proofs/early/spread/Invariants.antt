use Rattle.std.proofs.Common.{◌≡◌, map, take}
use Rattle.dl_instr.specs.Drops.{moved}
use Rattle.dl_live.specs.Dropped.{with_added, start_of}
use Rattle.dl_live.specs.Marks.{drops_at}
use Rattle.dl_live.proofs.early.spread.Given as goal

abbrev pub invariant-loop-at : goal.invariant-loop-at
invariant-loop-at l = l.made ≡ with_added (drops_at l.table) 0 (map (moved (start_of (drops_at l.table))) (take l.at l.steps))
