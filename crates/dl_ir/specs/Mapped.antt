-- Finite maps whose values are all changed in one way.
use Rattle.std.specs.Prelude.{map}
use Rattle.std.specs.declared.cmp.Ordering.{Ordering}
use Rattle.std.specs.FinMap.{FinMap, entries, from_sorted}

-- The entry whose value is changed.
abbrev pub entry_with : {K X Y : Type 0} → (X → Y) → K × X → K × Y
entry_with change e = (e.0, change e.1)

-- The map of the same keys, with each value changed.
unfoldable pub with_values : {K X Y : Type 0} {R : K → K → Ordering} → (X → Y) → FinMap R X → FinMap R Y
with_values {K} {X} {Y} change m = from_sorted (map {B = K × Y} (entry_with change) (entries m))
