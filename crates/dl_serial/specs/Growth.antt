-- How many objects a heap may have more than another.
use Rattle.std.specs.Prelude.{◌≡◌, ℕ, ◌+◌, ◌≤◌}
use Rattle.std.specs.FinMap as finite
use Rattle.dl_ir.specs.Heap.{Objects, hidden_count}

-- there are no more new hidden objects than were made, and as many roots as before
pub record Grows (before after : Objects) (made_before made_after : ℕ) : Type 0 where
  pub hidden : hidden_count after + made_before ≤ hidden_count before + made_after
  pub roots : finite.len after + hidden_count before ≡ finite.len before + hidden_count after
