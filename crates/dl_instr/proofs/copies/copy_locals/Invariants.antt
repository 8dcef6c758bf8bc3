use Rattle.std.proofs.Common.{◌≡◌, take}
use Rattle.dl_instr.proofs.copies.copy_locals.Given as goal

abbrev pub invariant-loop-original : goal.invariant-loop-original
invariant-loop-original l = l.copy ≡ take l.original-index l.originals
