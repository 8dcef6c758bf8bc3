-- The roots of kinds stand in one row.
use Rattle.std.proofs.Common.{◌≡◌, ℕ, ◌+◌, ◌≤◌, List, [], ◌∷◌, ◌++◌, sum_by, arith}
use Rattle.std.proofs.lemmas.List.Sums.{sum_by-cons}
use Rattle.dl_ir.specs.declared.modules.KindDecl.{KindDecl}
use Rattle.dl_ir.specs.Heap.{HasRootsAt, StandInRow}

-- the number of roots of a kind
abbrev count_of : KindDecl → ℕ
count_of kind = kind.count

-- roots at a number are roots at an equal one
at_same : (n m : ℕ) (kind : KindDecl) → n ≡ m → HasRootsAt n kind → HasRootsAt m kind
at_same n m kind e h = rw (← e) h

-- a kind whose roots follow those of the others stands in the row
pub row_push : (first next : ℕ) (kinds : List KindDecl) (kind : KindDecl) → next ≡ first + sum_by count_of kinds → StandInRow first kinds → HasRootsAt next kind → next + kind.count ≤ 1024 → StandInRow first (kinds ++ kind ∷ [])
row_push first next [] kind e r h few = let same : next ≡ first = omega (arith, e) in (at_same next first kind same h, omega (arith, same))
row_push first next (k ∷ kinds) kind e r h few =
    let more : next ≡ (first + k.count) + sum_by count_of kinds = omega (arith, e, sum_by-cons count_of k kinds) in (r.0, row_push (first + k.count) next kinds kind more r.1 h few)
