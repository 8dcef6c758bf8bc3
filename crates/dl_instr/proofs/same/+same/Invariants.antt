use Rattle.std.proofs.Common.{◌≡◌, ℕ, ◌<◌, slice_get, length}
use Rattle.dl_instr.proofs.same.+same.Given as goal

abbrev pub invariant-same_block-loop-i : goal.invariant-same_block-loop-i
invariant-same_block-loop-i l = (length l.a ≡ length l.b) × ((k : ℕ) → k < l.i → slice_get l.a k ≡ slice_get l.b k)
