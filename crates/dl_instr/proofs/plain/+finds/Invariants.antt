use Rattle.std.proofs.Common.{◌≡◌, ◌+◌, length, drop, slice_get}
use Rattle.dl_instr.specs.Code.{block_code}
use Rattle.dl_instr.proofs.plain.+finds.Given as goal

abbrev pub invariant-block_step-loop-s : goal.invariant-block_step-loop-s
invariant-block_step-loop-s l =
    (l.place + length (block_code (drop l.s-index l.s-items) l.place) ≡ l.fn.first + length (block_code l.fn.block l.fn.first))
    × (slice_get (block_code (drop l.s-index l.s-items) l.place) l.left ≡ slice_get (block_code l.fn.block l.fn.first) l.fn.at)
