-- Steps that go on until none is left.
use Rattle.std.specs.Prelude.{ℕ, zero, suc, Option, Some, None}

module _ {A : Type 0} (micro : A → Option A) where
  -- where at most so many steps lead; without a step left they lead no further
  abbrev pub go_on : ℕ → A → A
  go_on zero a = a
  go_on (suc count) a = elim (micro a) [ None ↦ a | Some b ↦ go_on count b ]
