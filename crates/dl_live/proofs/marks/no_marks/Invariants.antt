use Rattle.std.proofs.Common.{◌≡◌, ℕ, false, length}
use Rattle.dl_live.specs.Marks.{is_marked}
use Rattle.dl_live.proofs.marks.no_marks.Given as goal

abbrev pub invariant-loop-at : goal.invariant-loop-at
invariant-loop-at l = (length l.marks ≡ l._at) × ((k : ℕ) → is_marked l.marks k ≡ false)
