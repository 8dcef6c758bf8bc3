-- The roots of a module: how many there are.
use Rattle.std.proofs.Common.{◌≡◌, ℕ, zero, suc, ◌+◌, ◌≤◌, List, [], ◌∷◌, length, refl, ap, arith, length-append}
use Rattle.std.specs.Prelude.{sum_by}
use Rattle.std.proofs.lemmas.List.Sums.{sum_by-cons}
use Rattle.dl_ir.specs.declared.modules.KindDecl.{KindDecl}
use Rattle.dl_ir.specs.declared.objects.Obj.{Obj}
use Rattle.dl_ir.specs.Heap.{roots_from, roots_of, blank_object, StandInRow}

length-roots_from : (first count : ℕ) (o : Obj) → length (roots_from first count o) ≡ count
length-roots_from first zero o = refl
length-roots_from first (suc count) o = ap suc (length-roots_from (first + 1) count o)

-- the kinds have so many roots in all
pub roots_total : (kind : ℕ) (kinds : List KindDecl) → sum_by (λ (d : KindDecl). d.count) kinds ≡ length (roots_of kind kinds)
roots_total kind [] = refl
roots_total kind (d ∷ kinds) =
    let here = roots_from d.first d.count (blank_object kind d) in
    omega (arith, sum_by-cons (λ (x : KindDecl). x.count) d kinds, roots_total (kind + 1) kinds, length-append here (roots_of (kind + 1) kinds), length-roots_from d.first d.count (blank_object kind d))

-- and at most 1,024
pub few_roots : (next kind : ℕ) (kinds : List KindDecl) → StandInRow next kinds → next + length (roots_of kind kinds) ≤ 1024
few_roots next kind [] row = omega (arith, row)
few_roots next kind (d ∷ kinds) row =
    let here = roots_from d.first d.count (blank_object kind d) in
    let rest = roots_of (kind + 1) kinds in
    omega (arith, length-append here rest, length-roots_from d.first d.count (blank_object kind d), few_roots (next + d.count) (kind + 1) kinds row.1)
