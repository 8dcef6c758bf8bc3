use Rattle.std.proofs.Common.{◌≡◌, ◌<◌, ℕ, Some, slice_get}
use Rattle.dl_instr.specs.Code.{op_code}
use Rattle.dl_instr.specs.Matching.{jump_in}
use Rattle.dl_instr.proofs.matching.is_plain_target.Given as goal

abbrev pub invariant-loop-from : goal.invariant-loop-from
invariant-loop-from l = (k : ℕ) → k < l.from → jump_in (slice_get (op_code l.op) k) ≡ Some l.place → ⊥
