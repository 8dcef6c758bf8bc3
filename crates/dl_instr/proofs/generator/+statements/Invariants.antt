use Rattle.std.proofs.Common.{◌≡◌, ◌++◌, length, drop}
use Rattle.dl_instr.specs.Code.{block_code}
use Rattle.dl_instr.proofs.generator.+statements.Given as goal

abbrev pub invariant-add_block-loop-s : goal.invariant-add_block-loop-s
invariant-add_block-loop-s l =
    l.steps ++ block_code (drop l.s-index l.s-items) (length l.steps) ≡ l.fn.steps ++ block_code l.fn.block (length l.fn.steps)
