-- An operation begins in a state that fits.
use Rattle.std.proofs.Common.{◌≡◌, ℕ, zero, suc, ℤ, List, [], ◌∷◌, ◌++◌, length, map, refl, sym, subst, ap, ◌∙◌, Some, arith, slice_get}
use Rattle.std.specs.List.{zip}
use Rattle.std.proofs.lemmas.List.{length-map}
use Rattle.dl_ir.specs.declared.modules.LocalDecl.{LocalDecl}
use Rattle.dl_ir.specs.declared.modules.Module.{Module}
use Rattle.dl_ir.specs.declared.modules.Ty.{Ty}
use Rattle.dl_ir.specs.declared.modules.Ty.TheVariants as types
use Rattle.dl_ir.specs.declared.names.Value.{Value}
use Rattle.dl_ir.specs.declared.names.Value.TheVariants as values
use Rattle.dl_ir.specs.CallForms.{AllFit, FitsType}
use Rattle.dl_ir.specs.Heap.{Objects, IsHeapOf, blank, root}
use Rattle.dl_shape.specs.Operation.{root_number, argument_value}
use Rattle.dl_meaning.specs.Fitting.{HoldsType}
use Rattle.dl_meaning.specs.FirstStates.{FirstStatesFit, RootsAreHeld}

-- there is one value for each parameter, in order, and each is of the parameter's type
abbrev AllHold : Objects → List LocalDecl → List Value → Type 0
AllHold h [] [] = Unit {0}
AllHold h [] (v ∷ given) = ⊥
AllHold h (p ∷ params) [] = ⊥
AllHold h (p ∷ params) (v ∷ given) = HoldsType h p.ty v × AllHold h params given

-- the vars
abbrev first_vars : List LocalDecl → List Value
first_vars vars = map (λ (var : LocalDecl). blank var.ty) vars

abbrev typed : List LocalDecl → List Ty
typed locals = map (λ (local : LocalDecl). local.ty) locals

holds_blank : (h : Objects) (t : Ty) → HoldsType h t (blank t)
holds_blank h types.Int = tt
holds_blank h (types.Of kind) = tt

-- there is one local for each type
same_length : (h : Objects) (params vars : List LocalDecl) (given : List Value) → AllHold h params given → length (given ++ first_vars vars) ≡ length (typed (params ++ vars))
same_length h [] vars [] all = length-map vars (λ (var : LocalDecl). blank var.ty) ∙ sym (length-map vars (λ (local : LocalDecl). local.ty))
same_length h [] vars (v ∷ given) all = absurd all
same_length h (p ∷ params) vars [] all = absurd all
same_length h (p ∷ params) vars (v ∷ given) all = ap suc (same_length h params vars given all.1)

-- a var is of its type
vars_hold : (h : Objects) (vars : List LocalDecl) (x : ℕ) (t : Ty) (value : Value) → slice_get (typed vars) x ≡ Some t → slice_get (first_vars vars) x ≡ Some value → HoldsType h t value
vars_hold h [] x t value t_is value_is = cc
vars_hold h (d ∷ vars) zero t value t_is value_is =
    let one : d.ty ≡ t = cc in
    let is_blank : blank d.ty ≡ value = cc in
    subst (λ k. HoldsType h k value) one (subst (λ v. HoldsType h d.ty v) is_blank (holds_blank h d.ty))
vars_hold h (d ∷ vars) (suc x) t value t_is value_is = vars_hold h vars x t value t_is value_is

-- each local is of its type
all_hold : (h : Objects) (params vars : List LocalDecl) (given : List Value) (x : ℕ) (t : Ty) (value : Value) → AllHold h params given
    → slice_get (typed (params ++ vars)) x ≡ Some t → slice_get (given ++ first_vars vars) x ≡ Some value → HoldsType h t value
all_hold h [] vars [] x t value all t_is value_is = vars_hold h vars x t value t_is value_is
all_hold h [] vars (v ∷ given) x t value all t_is value_is = absurd all
all_hold h (p ∷ params) vars [] x t value all t_is value_is = absurd all
all_hold h (p ∷ params) vars (v ∷ given) zero t value all t_is value_is =
    let one : p.ty ≡ t = cc in
    let is_given : v ≡ value = cc in
    subst (λ k. HoldsType h k value) one (subst (λ w. HoldsType h p.ty w) is_given all.0)
all_hold h (p ∷ params) vars (v ∷ given) (suc x) t value all t_is value_is = all_hold h params vars given x t value all.1 t_is value_is

pub roots_are_held : RootsAreHeld
roots_are_held source h kind argument heap is =
    let there = heap.roots kind (root is.number) (record {
      declared = is.decl;
      is_there = is.declared;
      is_root = is.is_root;
      ticket = refl;
      from_first = is.not_before;
      to_last = is.not_behind;
    }) in
    record { object = there.0; is_there = there.1; of_kind = there.2 }

-- the values of arguments
abbrev given : List LocalDecl → List ℤ → List Value
given params arguments = map (λ (pair : LocalDecl × ℤ). argument_value pair.0.ty pair.1) (zip params arguments)

one_held : (source : Module) (h : Objects) (t : Ty) (argument : ℤ) → IsHeapOf source h → FitsType source t argument → HoldsType h t (argument_value t argument)
one_held source h types.Int argument heap fits = tt
one_held source h (types.Of kind) argument heap fits =
    subst (λ n. HoldsType h (types.Of kind) (values.Ref (Some (root n)))) (sym (ap root_number fits.is_number)) (roots_are_held source h kind argument heap fits)

all_held : (source : Module) (h : Objects) (params : List LocalDecl) (arguments : List ℤ) → IsHeapOf source h → AllFit source params arguments → AllHold h params (given params arguments)
all_held source h [] [] heap fits = tt
all_held source h [] (a ∷ rest) heap fits = absurd fits
all_held source h (p ∷ params) [] heap fits = absurd fits
all_held source h (p ∷ params) (a ∷ rest) heap fits = (one_held source h p.ty a heap fits.0, all_held source h params rest heap fits.1)

-- an operation begins in a state that fits
pub begun_fits : FirstStatesFit
begun_fits source op arguments h ticket turns fits heap positive below = let all = all_held source h op.params arguments heap fits in record {
  one_each = same_length h op.params op.vars (given op.params arguments) all;
  typed = λ x t value t_is value_is. all_hold h op.params op.vars (given op.params arguments) x t value all t_is value_is;
  heap = heap;
  ticket = positive;
  not_later = λ name object there. let before = below name object there in omega (arith, before);
  fresh = λ name object there own. let before = below name object there in absurd (omega (arith, before, own));
}
