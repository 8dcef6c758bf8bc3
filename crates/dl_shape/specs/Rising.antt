-- Lists in rising order of a key.
use Rattle.std.specs.Prelude.{◌≢◌, ℕ, List, [], ◌∷◌, map, AllPairs, nat_le, if◌then◌else◌}

-- an element put before the first one whose key is not below its own
abbrev pub put_by : {X : Type 0} → (X → ℕ) → X → List X → List X
put_by key x [] = x ∷ []
put_by key x (y ∷ rest) = if nat_le (key x) (key y) then x ∷ y ∷ rest else y ∷ put_by key x rest

-- the elements of a list, each once, in rising order of their keys
abbrev pub in_rising : {X : Type 0} → (X → ℕ) → List X → List X
in_rising key [] = []
in_rising key (x ∷ rest) = put_by key x (in_rising key rest)

-- no two elements of a list have the same key
abbrev pub AreApart : {X : Type 0} → (X → ℕ) → List X → Type 0
AreApart key xs = AllPairs (λ a b. a ≢ b) (map key xs)
