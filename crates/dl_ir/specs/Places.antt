-- Places in a sorted list of values under names.
use Rattle.std.specs.Prelude.{◌≡◌, ℕ, suc, zero, ◌+◌, ◌≤◌, true, List, [], ◌∷◌, Option, length, take}
use Rattle.std.specs.List.{filter_map}
use Rattle.std.specs.Option.{option_map}
use Rattle.std.specs.declared.cmp.Ordering.TheVariants.{Less, Equal, Greater}
use Rattle.std.specs.FinMap.{is_sorted}
use Rattle.dl_ir.specs.declared.names.Name.{Name}
use Rattle.dl_ir.specs.Heap.{name_cmp}

-- The entry at this place has the name, and those before it lesser names.
abbrev pub IsAt : {X : Type 0} → Name → List (Name × X) → ℕ → Type 0
IsAt name [] at = ⊥
IsAt name (e ∷ es) zero = name_cmp e.0 name ≡ Equal
IsAt name (e ∷ es) (suc at) = (name_cmp e.0 name ≡ Less) × IsAt name es at

-- No entry has the name, and at this place it would stand.
abbrev pub IsGap : {X : Type 0} → Name → List (Name × X) → ℕ → Type 0
IsGap name [] zero = Unit {0}
IsGap name [] (suc at) = ⊥
IsGap name (e ∷ es) zero = name_cmp e.0 name ≡ Greater
IsGap name (e ∷ es) (suc at) = (name_cmp e.0 name ≡ Less) × IsGap name es at

-- The entry, if it has a value.
abbrev pub with_value : {X : Type 0} → Name × Option X → Option (Name × X)
with_value e = option_map (λ value. (e.0, value)) e.1

-- The entries that have a value.
abbrev pub present : {X : Type 0} → List (Name × Option X) → List (Name × X)
present held = filter_map with_value held

-- The entries are sorted, as many have a value as is counted, none has one before the first place, and there is memory
-- for twice as many as may have a value.
pub record IsTable {X : Type 0} (held : List (Name × Option X)) (count first places capacity : ℕ) : Type 0 where
  pub sorted : is_sorted name_cmp held ≡ true
  pub counted : count ≡ length (present held)
  pub passed : present (take first held) ≡ []
  pub within : count ≤ places
  pub reserved : places + places ≤ capacity
