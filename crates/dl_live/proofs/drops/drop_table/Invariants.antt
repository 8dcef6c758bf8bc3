use Rattle.std.proofs.Common.{◌≡◌, ◌<◌, ◌↔◌, ℕ, true, length}
use Rattle.dl_live.specs.Dropped.{IsDroppedBefore}
use Rattle.dl_live.specs.Marks.{is_picked}
use Rattle.dl_live.proofs.drops.drop_table.Given as goal

abbrev pub invariant-loop-local : goal.invariant-loop-local
invariant-loop-local l = (length l.table ≡ l.local) × ((at k : ℕ) → k < l.local → (is_picked l.table at k ≡ true) ↔ IsDroppedBefore l.op l.steps at k)
