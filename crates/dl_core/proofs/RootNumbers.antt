-- The numbers of roots are small, so that locals can hold them.
use Rattle.std.proofs.Common.{◌≡◌, ℕ, zero, suc, ◌+◌, ◌≤◌, ℤ, true, List, [], ◌∷◌, sym, subst, Some, arith, slice_get}
use Rattle.std.proofs.lemmas.Option.{none-some}
use Rattle.dl_ir.specs.declared.modules.KindDecl.{KindDecl}
use Rattle.dl_ir.specs.declared.modules.LocalDecl.{LocalDecl}
use Rattle.dl_ir.specs.declared.modules.Module.{Module}
use Rattle.dl_ir.specs.declared.modules.Ty.{Ty}
use Rattle.dl_ir.specs.declared.modules.Ty.TheVariants.{Int, Of}
use Rattle.dl_ir.specs.CallForms.{AllFit, FitsType}
use Rattle.dl_ir.specs.Heap.{HasStart, StandInRow}
use Rattle.dl_core.specs.Arguments.{AllHeld, CanHold}

-- the row of roots ends below 1,024
row_end : (next : ℕ) (kinds : List KindDecl) → StandInRow next kinds → next ≤ 1024
row_end next [] row = row
row_end next (k ∷ kinds) row = let rest = row_end (next + k.count) kinds row.1 in omega (arith, rest)

-- the roots of each root kind lie in the row
pub in_row : (next : ℕ) (kinds : List KindDecl) (at : ℕ) (kind : KindDecl) → StandInRow next kinds → slice_get kinds at ≡ Some kind → kind.is_root ≡ true
    → kind.first + kind.count ≤ 1024
in_row next [] at kind row there root = absurd (none-some kind there)
in_row next (k ∷ kinds) zero kind row there root =
    let same : k ≡ kind = cc in
    let first : k.first ≡ next = row.0.of_root (subst (λ (d : KindDecl). d.is_root ≡ true) (sym same) root) in
    let end : next + k.count ≤ 1024 = row_end (next + k.count) kinds row.1 in
    subst (λ (d : KindDecl). d.first + d.count ≤ 1024) same (omega (arith, first, end))
in_row next (k ∷ kinds) (suc at) kind row there root = in_row (next + k.count) kinds at kind row.1 there root

-- what may be given can be held
held_one : (source : Module) (ty : Ty) (argument : ℤ) → HasStart source → FitsType source ty argument → CanHold ty argument
held_one source Int argument start fits = tt
held_one source (Of kind) argument start fits = record {
  number = fits.number;
  is_number = fits.is_number;
  small = let below = in_row 0 source.kinds kind fits.decl start.row fits.declared fits.is_root in omega (arith, below, fits.not_behind);
}

-- what is given for an operation can be held
pub all_held : (source : Module) (params : List LocalDecl) (args : List ℤ) → HasStart source → AllFit source params args → AllHeld params args
all_held source [] [] start fits = tt
all_held source [] (a ∷ rest) start fits = absurd fits
all_held source (p ∷ params) [] start fits = absurd fits
all_held source (p ∷ params) (a ∷ rest) start fits = (held_one source p.ty a start fits.0, all_held source params rest start fits.1)
