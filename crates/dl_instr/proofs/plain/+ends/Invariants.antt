use Rattle.std.proofs.Common.{◌≡◌, ◌+◌, length, drop}
use Rattle.dl_instr.specs.Code.{block_code}
use Rattle.dl_instr.proofs.plain.+ends.Given as goal

abbrev pub invariant-block_end-loop-s : goal.invariant-block_end-loop-s
invariant-block_end-loop-s l = l.place + length (block_code (drop l.s-index l.s-items) l.place) ≡ l.fn.first + length (block_code l.fn.block l.fn.first)
