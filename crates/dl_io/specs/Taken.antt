-- What a sink tells of what it took.
use Rattle.std.specs.Prelude.{◌≡◌, ℕ, List, ◌++◌, Option, Some, None}

-- what a sink tells: the bytes written, where it tells them, and the number of faults so far
pub record Taken : Type 0 where
  pub written : Option (List ℕ)
  pub faults : ℕ

-- these bytes stand behind those written before, where a sink tells them
abbrev pub Took : Option (List ℕ) → Option (List ℕ) → List ℕ → Type 0
Took None now bytes = Unit {0}
Took (Some before) now bytes = now ≡ Some (before ++ bytes)
