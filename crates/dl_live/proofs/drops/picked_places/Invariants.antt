use Rattle.std.proofs.Common.{◌≡◌, ◌<◌, ℕ, MatchBool, length}
use Rattle.dl_live.specs.Dropped.{IsDroppedBefore}
use Rattle.dl_live.specs.Marks.{is_marked}
use Rattle.dl_live.proofs.drops.picked_places.Given as goal

abbrev pub invariant-loop-at : goal.invariant-loop-at
invariant-loop-at l = (length l.marks ≡ l.at) × ((k : ℕ) → k < l.at → MatchBool (is_marked l.marks k) (IsDroppedBefore l.op l.steps k l.local) (IsDroppedBefore l.op l.steps k l.local → ⊥))
