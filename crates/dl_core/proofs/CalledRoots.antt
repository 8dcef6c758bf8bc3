-- The roots of a call are there.
use Rattle.std.proofs.Common.{◌≡◌, ℕ, zero, suc, ◌==◌, true, false, ℤ, List, [], ◌∷◌, Option, Some, refl, sym, ap, subst, ◌∙◌}
use Rattle.std.specs.Prelude.{slice_get, nat_lt, if◌then◌else◌}
use Rattle.std.specs.List.{zip}
use Rattle.std.specs.Option.{option_map_or}
use Rattle.dl_ir.specs.declared.calls.Call.{Call}
use Rattle.dl_ir.specs.declared.modules.LocalDecl.{LocalDecl}
use Rattle.dl_ir.specs.declared.modules.Module.{Module}
use Rattle.dl_ir.specs.declared.modules.OpDecl.{OpDecl}
use Rattle.dl_ir.specs.declared.modules.Ty.{Ty}
use Rattle.dl_ir.specs.declared.modules.Ty.TheVariants as types
use Rattle.dl_ir.specs.CallForms.{AllFit, FitsType, IsCallOf}
use Rattle.dl_ir.specs.Heap.{IsRootOf, root}
use Rattle.dl_shape.specs.Operation.{root_number}
use Rattle.dl_core.specs.Plans.{Plan, source_of, roots_of, roots_among, put_root, put_in}
use Rattle.dl_core.proofs.Elements.{Each}
use Rattle.dl_core.proofs.Names.{no_some, same_some}

each_put_in : (P : ℕ → Type 0) (n : ℕ) (ms : List ℕ) → P n → Each P ms → Each P (put_in n ms)
each_put_in P n [] p e = (p, tt)
each_put_in P n (m ∷ ms) p e = elim (n == m) as (λ b. Each P (if b then m ∷ ms else (if nat_lt n m then n ∷ m ∷ ms else m ∷ put_in n ms))) [
  | true ↦ e
  | false ↦ elim (nat_lt n m) as (λ b. Each P (if b then n ∷ m ∷ ms else m ∷ put_in n ms)) [ true ↦ (p, e) | false ↦ (e.0, each_put_in P n ms p e.1) ]
]

module _ (source : Module) where
  all_roots : (params : List LocalDecl) (arguments : List ℤ) → AllFit source params arguments → Each (λ n. (kind : ℕ) × IsRootOf source kind (root n)) (roots_among (zip params arguments))
  all_roots [] [] fits = tt
  all_roots [] (a ∷ rest) fits = absurd fits
  all_roots (p ∷ params) [] fits = absurd fits
  all_roots (p ∷ params) (a ∷ rest) fits = by p.ty fits.0 (roots_among (zip params rest)) (all_roots params rest fits.1)
    where
      by : (ty : Ty) → FitsType source ty a → (roots : List ℕ) → Each (λ n. (kind : ℕ) × IsRootOf source kind (root n)) roots → Each (λ n. (kind : ℕ) × IsRootOf source kind (root n)) (put_root ty a roots)
      by types.Int fit roots e = e
      by (types.Of kind) fit roots e =
          let same : root_number a ≡ fit.number = ap root_number fit.is_number in
          each_put_in (λ n. (kind : ℕ) × IsRootOf source kind (root n)) (root_number a) roots
          (subst (λ n. (kind : ℕ) × IsRootOf source kind (root n)) (sym same) (kind, record { declared = fit.decl; is_there = fit.declared; is_root = fit.is_root; ticket = refl; from_first = fit.not_before; to_last = fit.not_behind })) e

each_at_place : (P : ℕ → Type 0) (ns : List ℕ) (i n : ℕ) → Each P ns → slice_get ns i ≡ Some n → P n
each_at_place P [] i n e there = absurd (no_some there)
each_at_place P (m ∷ ns) zero n e there = subst P (same_some there) e.0
each_at_place P (m ∷ ns) (suc i) n e there = each_at_place P ns i n e.1 there

pub root_of_call : (plan : Plan) (call : Call) (at number : ℕ) → IsCallOf (source_of plan) call → slice_get (roots_of plan call) at ≡ Some number → (kind : ℕ) × IsRootOf (source_of plan) kind (root number)
root_of_call plan call at number fits there =
    let same : roots_of plan call ≡ roots_among (zip fits.op.params call.args) = ap (λ (o : Option OpDecl). option_map_or (λ (op : OpDecl). roots_among (zip op.params call.args)) o []) fits.declared in
    each_at_place (λ n. (kind : ℕ) × IsRootOf (source_of plan) kind (root n)) (roots_among (zip fits.op.params call.args)) at number (all_roots (source_of plan) fits.op.params call.args fits.fits) (ap (λ ns. slice_get ns at) (sym same) ∙ there)
