-- Texts that are made of lists.
use Rattle.std.specs.Prelude.{ℕ, ◌+◌, List, [], ◌∷◌, ◌++◌}

-- a text for each element of a list, made of its number from a first one on and of the element
abbrev pub each_from : {A : Type 0} → (ℕ → A → List ℕ) → ℕ → List A → List ℕ
each_from text number [] = []
each_from text number (x ∷ rest) = text number x ++ each_from text (number + 1) rest
