-- Names as a small set keeps them: in falling order.
use Rattle.std.specs.Prelude.{◌≡◌, ℕ, ◌≤◌, true, List, length, map, reverse}
use Rattle.std.specs.FinMap.{is_sorted}
use Rattle.dl_ir.specs.declared.names.Name.{Name}
use Rattle.dl_ir.specs.Heap.{name_cmp}

-- The names from the last to the first, with nothing under each.
abbrev pub rising : List Name → List (Name × Unit {0})
rising names = map (λ name. (name, tt)) (reverse names)

-- The names fall, there are no more than there may be, and there is memory for as many.
pub record IsMarks (names : List Name) (places capacity : ℕ) : Type 0 where
  pub falling : is_sorted name_cmp (rising names) ≡ true
  pub within : length names ≤ places
  pub reserved : places ≤ capacity
