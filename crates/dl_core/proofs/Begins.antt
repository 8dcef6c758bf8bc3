-- The locals with which an operation begins refer to its roots.
use Rattle.std.proofs.Common.{◌≡◌, ◌⊎◌, inl, inr, ℕ, ℤ, zero, suc, ◌<◌, Bool, true, false, cond, List, [], ◌∷◌, ◌++◌, length, map, Some, refl, sym, ap, subst, ◌∙◌, arith}
use Rattle.std.specs.Prelude.{◌==◌, slice_get, nat_lt, count_by, Contains, if◌then◌else◌}
use Rattle.std.specs.List.{zip}
use Rattle.std.proofs.lemmas.Bool.Decides.{nat_tests}
use Rattle.std.proofs.lemmas.List.Sums.{sum_by-cons, sum_by-append}
use Rattle.dl_ir.specs.declared.modules.LocalDecl.{LocalDecl}
use Rattle.dl_ir.specs.declared.modules.OpDecl.{OpDecl}
use Rattle.dl_ir.specs.declared.modules.Ty.{Ty}
use Rattle.dl_ir.specs.declared.modules.Ty.TheVariants as types
use Rattle.dl_ir.specs.declared.names.Name.{Name}
use Rattle.dl_ir.specs.declared.names.Value.{Value}
use Rattle.dl_ir.specs.declared.names.Value.TheVariants.{Int, Ref}
use Rattle.dl_ir.specs.declared.modules.Module.{Module}
use Rattle.dl_ir.specs.CallForms.{AllFit, FitsType}
use Rattle.dl_ir.specs.Heap.{Objects, IsHeapOf, HasObject, root, blank}
use Rattle.dl_meaning.specs.Fitting.{HoldsType}
use Rattle.std.proofs.lemmas.List.{length-map}
use Rattle.dl_ir.specs.References.{refers_to}
use Rattle.dl_shape.specs.Operation.{argument_value, first_locals, root_number}
use Rattle.dl_core.specs.Plans.{put_in, put_root, roots_among}
use Rattle.dl_core.proofs.Names.{same_some, no_some, name_itself}

-- what is in a list after a number was put in
put_has : (n m : ℕ) (ms : List ℕ) → Contains ms m → Contains (put_in n ms) m
put_has n m [] h = absurd (omega (arith, h.1))
put_has n m (k ∷ ks) h = elim (n == k) as (λ b. Contains (if b then k ∷ ks else (if nat_lt n k then n ∷ k ∷ ks else k ∷ put_in n ks)) m) [
  | true ↦ h
  | false ↦
      elim (nat_lt n k) as (λ b. Contains (if b then n ∷ k ∷ ks else k ∷ put_in n ks) m) [
        | true ↦ (suc h.0, omega (arith, h.1), h.2)
        | false ↦ by h (put_has n m ks)
      ]
]
  where
    by : Contains (k ∷ ks) m → (Contains ks m → Contains (put_in n ks) m) → Contains (k ∷ put_in n ks) m
    by (zero, lt, e) rest = (0, omega arith, e)
    by (suc i, lt, e) rest = let r = rest (i, omega (arith, lt), e) in (suc r.0, omega (arith, r.1), r.2)

put_itself : (n : ℕ) (ms : List ℕ) → Contains (put_in n ms) n
put_itself n [] = (0, omega arith, refl)
put_itself n (k ∷ ks) = by (n == k) refl (put_itself n ks)
  where
    by : (b : Bool) → (n == k) ≡ b → Contains (put_in n ks) n → Contains (if b then k ∷ ks else (if nat_lt n k then n ∷ k ∷ ks else k ∷ put_in n ks)) n
    by true e rest = (0, omega arith, let same : k ≡ n = grind (arith, nat_tests, e) in same)
    by false e rest = elim (nat_lt n k) as (λ c. Contains (if c then n ∷ k ∷ ks else k ∷ put_in n ks) n) [
      | true ↦ (0, omega arith, refl)
      | false ↦ (suc rest.0, omega (arith, rest.1), rest.2)
    ]

-- what is in it was there, or was put in
put_from : (n m : ℕ) (ms : List ℕ) (at : ℕ) → slice_get (put_in n ms) at ≡ Some m → (m ≡ n) ⊎ ((i : ℕ) × (slice_get ms i ≡ Some m))
put_from n m [] zero e = inl (sym (same_some e))
put_from n m [] (suc at) e = absurd (no_some e)
put_from n m (k ∷ ks) at e = by (n == k) (nat_lt n k) at e (put_from n m ks)
  where
    by : (b c : Bool) (at : ℕ) → slice_get (if b then k ∷ ks else (if c then n ∷ k ∷ ks else k ∷ put_in n ks)) at ≡ Some m
        → ((i : ℕ) → slice_get (put_in n ks) i ≡ Some m → (m ≡ n) ⊎ ((j : ℕ) × (slice_get ks j ≡ Some m))) → (m ≡ n) ⊎ ((i : ℕ) × (slice_get (k ∷ ks) i ≡ Some m))
    by true c at f rest = inr (at, f)
    by false true zero f rest = inl (sym (same_some f))
    by false true (suc at) f rest = inr (at, f)
    by false false zero f rest = inr (0, f)
    by false false (suc at) f rest = elim (rest at f) [
      | inl same ↦ inl same
      | inr old ↦ inr (suc old.0, old.1)
    ]

-- ---- arguments

abbrev values_of : List (LocalDecl × ℤ) → List Value
values_of given = map (λ (pair : LocalDecl × ℤ). argument_value pair.0.ty pair.1) given

-- a value that refers names a root of the list
refers_root : (given : List (LocalDecl × ℤ)) (local : ℕ) (name : Name) → slice_get (values_of given) local ≡ Some (Ref (Some name)) → (number : ℕ) × (name ≡ root number) × Contains (roots_among given) number
refers_root [] local name e = absurd (no_some e)
refers_root (g ∷ rest) zero name e = by g.0.ty (same_some e)
  where
    by : (ty : Ty) → argument_value ty g.1 ≡ Ref (Some name) → (number : ℕ) × (name ≡ root number) × Contains (put_root ty g.1 (roots_among rest)) number
    by types.Int f = absurd (let clash : Int g.1 ≡ Ref (Some name) = f in cc)
    by (types.Of kind) f = (root_number g.1, same_ref f, put_itself (root_number g.1) (roots_among rest))
      where
        same_ref : Ref (Some (root (root_number g.1))) ≡ Ref (Some name) → name ≡ root (root_number g.1)
        same_ref p = cc
refers_root (g ∷ rest) (suc local) name e =
    let later = refers_root rest local name e in
    (later.0, later.1, by g.0.ty later.0 later.2)
  where
    by : (ty : Ty) (number : ℕ) → Contains (roots_among rest) number → Contains (put_root ty g.1 (roots_among rest)) number
    by types.Int number h = h
    by (types.Of kind) number h = put_has (root_number g.1) number (roots_among rest) h

-- to a root of the list a value refers
root_referred : (given : List (LocalDecl × ℤ)) (at number : ℕ) → slice_get (roots_among given) at ≡ Some number → 0 < count_by (refers_to (root number)) (values_of given)
root_referred [] at number e = absurd (no_some e)
root_referred (g ∷ rest) at number e = by g.0.ty refl at e (root_referred rest)
  where
    more : ((i : ℕ) (n : ℕ) → slice_get (roots_among rest) i ≡ Some n → 0 < count_by (refers_to (root n)) (values_of rest)) → (i : ℕ) → slice_get (roots_among rest) i ≡ Some number → 0 < count_by (refers_to (root number)) (values_of (g ∷ rest))
    more later i f = omega (arith, later i number f, sum_by-cons (λ x. cond (refers_to (root number) x) 1 0) (argument_value g.0.ty g.1) (values_of rest))

    by : (ty : Ty) → g.0.ty ≡ ty → (i : ℕ) → slice_get (put_root ty g.1 (roots_among rest)) i ≡ Some number → ((j : ℕ) (n : ℕ) → slice_get (roots_among rest) j ≡ Some n → 0 < count_by (refers_to (root n)) (values_of rest))
        → 0 < count_by (refers_to (root number)) (values_of (g ∷ rest))
    by types.Int t i f later = more later i f
    by (types.Of kind) t i f later = elim (put_from (root_number g.1) number (roots_among rest) i f) [
      | inr old ↦ more later old.0 old.1
      | inl same ↦
          let value_is : argument_value g.0.ty g.1 ≡ Ref (Some (root number)) = ap (λ ty. argument_value ty g.1) t ∙ ap (λ n. Ref (Some (root n))) (sym same) in
          let one : ◌≡◌ {A = ℕ} (cond (refers_to (root number) (argument_value g.0.ty g.1)) 1 0) 1 = ap {B = ℕ} (λ b. cond b 1 0) (ap (refers_to (root number)) value_is ∙ name_itself (root number)) in
          omega (arith, one, sum_by-cons (λ x. cond (refers_to (root number) x) 1 0) (argument_value g.0.ty g.1) (values_of rest))
    ]

-- ---- first locals

blank_refers : (vars : List LocalDecl) (local : ℕ) (name : Name) → slice_get (map (λ (var : LocalDecl). blank var.ty) vars) local ≡ Some (Ref (Some name)) → ⊥
blank_refers [] local name e = no_some e
blank_refers (v ∷ vars) zero name e = by v.ty (same_some e)
  where
    by : (ty : Ty) → blank ty ≡ Ref (Some name) → ⊥
    by types.Int f = cc
    by (types.Of kind) f = cc
blank_refers (v ∷ vars) (suc local) name e = blank_refers vars local name e

append_from : (xs ys : List Value) (at : ℕ) (v : Value) → slice_get (xs ++ ys) at ≡ Some v → (slice_get xs at ≡ Some v) ⊎ ((i : ℕ) × (slice_get ys i ≡ Some v))
append_from [] ys at v e = inr (at, e)
append_from (x ∷ xs) ys zero v e = inl e
append_from (x ∷ xs) ys (suc at) v e = append_from xs ys at v e

-- a first local that refers names a root of the call
pub local_root : (op : OpDecl) (args : List ℤ) (local : ℕ) (name : Name) → slice_get (first_locals op args) local ≡ Some (Ref (Some name)) → (number : ℕ) × (name ≡ root number) × Contains (roots_among (zip op.params args)) number
local_root op args local name e = elim (append_from (values_of (zip op.params args)) (map (λ (var : LocalDecl). blank var.ty) op.vars) local (Ref (Some name)) e) [
  | inl here ↦ refers_root (zip op.params args) local name here
  | inr there ↦ absurd (blank_refers op.vars there.0 name there.1)
]

-- to each root of the call a first local refers
pub root_local : (op : OpDecl) (args : List ℤ) (at number : ℕ) → slice_get (roots_among (zip op.params args)) at ≡ Some number → 0 < count_by (refers_to (root number)) (first_locals op args)
root_local op args at number e =
    omega (arith, root_referred (zip op.params args) at number e, sum_by-append (λ x. cond (refers_to (root number) x) 1 0) (values_of (zip op.params args)) (map (λ (var : LocalDecl). blank var.ty) op.vars))

-- ---- first locals fit their types

module _ (source : Module) (h : Objects) (heap : IsHeapOf source h) where
  value_fits : (ty : Ty) (argument : ℤ) → FitsType source ty argument → HoldsType h ty (argument_value ty argument)
  value_fits types.Int argument fits = tt
  value_fits (types.Of kind) argument fits =
      let there = heap.roots kind (root fits.number) (record { declared = fits.decl; is_there = fits.declared; is_root = fits.is_root; ticket = refl; from_first = fits.not_before; to_last = fits.not_behind }) in
      subst (λ n. HasObject h (root n) kind) (sym (ap root_number fits.is_number)) (record { object = there.0; is_there = there.1; of_kind = there.2 })

  blank_fits : (vars : List LocalDecl) (local : ℕ) (ty : Ty) (value : Value) → slice_get (map (λ (var : LocalDecl). var.ty) vars) local ≡ Some ty → slice_get (map (λ (var : LocalDecl). blank var.ty) vars) local ≡ Some value → HoldsType h ty value
  blank_fits [] local ty value a b = absurd (no_some a)
  blank_fits (v ∷ vars) zero ty value a b = subst (λ t. HoldsType h t value) (same_some a) (subst (HoldsType h v.ty) (same_some b) (by v.ty))
    where
      by : (t : Ty) → HoldsType h t (blank t)
      by types.Int = tt
      by (types.Of kind) = tt
  blank_fits (v ∷ vars) (suc local) ty value a b = blank_fits vars local ty value a b

  pub locals_fit : (params : List LocalDecl) (args : List ℤ) (vars : List LocalDecl) → AllFit source params args → (local : ℕ) (ty : Ty) (value : Value) → slice_get (map (λ (var : LocalDecl). var.ty) (params ++ vars)) local ≡ Some ty
      → slice_get (values_of (zip params args) ++ map (λ (var : LocalDecl). blank var.ty) vars) local ≡ Some value → HoldsType h ty value
  locals_fit [] [] vars fits local ty value a b = blank_fits vars local ty value a b
  locals_fit [] (x ∷ args) vars fits local ty value a b = absurd fits
  locals_fit (p ∷ params) [] vars fits local ty value a b = absurd fits
  locals_fit (p ∷ params) (x ∷ args) vars fits zero ty value a b = subst (λ t. HoldsType h t value) (same_some a) (subst (HoldsType h p.ty) (same_some b) (value_fits p.ty x fits.0))
  locals_fit (p ∷ params) (x ∷ args) vars fits (suc local) ty value a b = locals_fit params args vars fits.1 local ty value a b

  pub one_local_each : (params : List LocalDecl) (args : List ℤ) (vars : List LocalDecl) → AllFit source params args → length (values_of (zip params args) ++ map (λ (var : LocalDecl). blank var.ty) vars) ≡ length (map (λ (var : LocalDecl). var.ty) (params ++ vars))
  one_local_each [] [] vars fits = length-map vars (λ (var : LocalDecl). blank var.ty) ∙ sym (length-map vars (λ (var : LocalDecl). var.ty))
  one_local_each [] (x ∷ args) vars fits = absurd fits
  one_local_each (p ∷ params) [] vars fits = absurd fits
  one_local_each (p ∷ params) (x ∷ args) vars fits = omega (arith, one_local_each params args vars fits.1)
