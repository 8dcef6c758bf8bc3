-- Values under names, as a table has them.
use Rattle.std.specs.Prelude.{ℕ, List, [], ◌∷◌, Option, Some, None, refl}
use Rattle.std.specs.Coded.{Coded, code_by, coded×, coded_ℕ}
use Rattle.std.specs.FinMap.{FinMap, code, get, insert}
use Rattle.dl_ir.specs.declared.names.Name.{Name}
use Rattle.dl_ir.specs.Values.{coded_name}
use Rattle.dl_ir.specs.Heap.{name_cmp}

-- A finite map from names to values, and the number of values that there is memory for.
pub record Rows (X : Type 0) : Type 0 where
  pub rows : FinMap name_cmp X
  pub room : ℕ

-- Rows are stored as the map and the room.
abbrev pub coded_rows : {X : Type 0} → Coded X → Coded (Rows X)
coded_rows {X} coded_value = code_by (FinMap name_cmp X × ℕ) (coded× (code coded_name coded_value) coded_ℕ) (λ t. (t.rows, t.room)) (λ p. record { rows = p.0; room = p.1 }) (λ _. refl)

-- The map with these entries put in, one after another.
abbrev pub added : {X : Type 0} → FinMap name_cmp X → List (Name × X) → FinMap name_cmp X
added rows [] = rows
added rows (e ∷ es) = added (insert rows e.0 e.1) es

-- The map in which this value under a name is changed, if it is there.
abbrev pub changed_of : {X : Type 0} → FinMap name_cmp X → Name → (X → X) → Option X → FinMap name_cmp X
changed_of rows name change None = rows
changed_of rows name change (Some value) = insert rows name (change value)

-- The map in which the value under a name is changed, if there is one.
abbrev pub changed : {X : Type 0} → FinMap name_cmp X → Name → (X → X) → FinMap name_cmp X
changed rows name change = changed_of rows name change (get rows name)
