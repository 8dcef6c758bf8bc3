use Rattle.std.proofs.Common.{◌≡◌, ℕ, ◌<◌, slice_get, length}
use Rattle.dl_instr.proofs.same.same_lists.Given as goal

abbrev pub invariant-loop-i : goal.invariant-loop-i
invariant-loop-i g l = (length l.a ≡ length l.b) × ((k : ℕ) → k < l.i → slice_get l.a k ≡ slice_get l.b k)
