-- Lists with memory for a number of elements.
use Rattle.std.specs.Prelude.{ℕ, List, refl}
use Rattle.std.specs.Coded.{Coded, code_by, coded×, coded_ℕ, coded_list}

-- a list, and the number of elements that there is memory for
pub record Roomed (X : Type 0) : Type 0 where
  pub items : List X
  pub room : ℕ

-- such a list is stored as the list and the room
abbrev pub coded_roomed : {X : Type 0} → Coded X → Coded (Roomed X)
coded_roomed {X} coded_value = code_by (List X × ℕ) (coded× (coded_list coded_value) coded_ℕ) (λ r. (r.items, r.room)) (λ p. record { items = p.0; room = p.1 }) (λ _. refl)
