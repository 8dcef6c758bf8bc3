-- What stands at the number of a name that is found.
use Rattle.std.proofs.Common.{◌≡◌, ℕ, suc, ◌+◌, List, [], ◌∷◌, ◌++◌, length, map, refl, ap, ◌∙◌, Some, arith, inl, inr, slice_get, option_map}
use Rattle.std.specs.Str.{bytes_eq}
use Rattle.std.proofs.lemmas.Option.{slice_get-map}
use Rattle.dl_ir.specs.declared.modules.LocalDecl.{LocalDecl}
use Rattle.dl_ir.specs.declared.modules.Ty.{Ty}
use Rattle.dl_types.specs.Names.{first_named, local_named, local_of}
use Rattle.dl_types.proofs.Checking.{first_or_rest, one_or_other}
use Rattle.dl_lemmas.proofs.Places.{in_first, in_second}

-- the element at the number that is found
pub record Found {A B : Type 0} (meaning : A → B) (xs : List A) (start : ℕ) (found : ℕ × B) : Type 0 where
  pub place : ℕ
  pub element : A
  pub number : found.0 ≡ start + place
  pub is_there : slice_get xs place ≡ Some element
  pub means : meaning element ≡ found.1

pub first_found : {A B : Type 0} (name : A → List ℕ) (meaning : A → B) (start : ℕ) (xs : List A) (text : List ℕ) (found : ℕ × B)
    → first_named name meaning start xs text ≡ Some found → Found meaning xs start found
first_found name meaning start [] text found e = cc
first_found name meaning start (a ∷ more) text found e = elim (first_or_rest (bytes_eq (name a) text) (start, meaning a) (first_named name meaning (start + 1) more text) found e) [
  | inl here ↦ record { place = 0; element = a; number = let same = ap (λ p. p.0) here in omega (arith, same); is_there = refl; means = ap (λ p. p.1) here }
  | inr rest ↦
      let later = first_found name meaning (start + 1) more text found rest in
      record { place = suc later.place; element = later.element; number = omega (arith, later.number); is_there = later.is_there; means = later.means }
]

-- the types of parameters and vars
abbrev pub types_in : List LocalDecl → List LocalDecl → List Ty
types_in params vars = map (λ (local : LocalDecl). local.ty) (params ++ vars)

abbrev name_of : LocalDecl → List ℕ
name_of local = local.name

abbrev pub type_in : LocalDecl → Ty
type_in local = local.ty

-- the local that a name means has its type
pub local_found : (params vars : List LocalDecl) (text : List ℕ) (found : ℕ × Ty) → local_of params vars text ≡ Some found → slice_get (types_in params vars) found.0 ≡ Some found.1
local_found params vars text found e = elim (one_or_other (local_named 0 params text) (local_named (length params) vars text) found e) [
  | inl first ↦
      let f = first_found name_of type_in 0 params text found first in
      let same : found.0 ≡ f.place = omega (arith, f.number) in
      slice_get-map type_in (params ++ vars) found.0
      ∙ ap (option_map type_in) (in_first params vars found.0 f.element (ap (slice_get params) same ∙ f.is_there))
      ∙ ap (λ t. Some t) f.means
  | inr second ↦
      let f = first_found name_of type_in (length params) vars text found second in
      slice_get-map type_in (params ++ vars) found.0
      ∙ ap (option_map type_in) (in_second params vars f.place found.0 f.number ∙ f.is_there)
      ∙ ap (λ t. Some t) f.means
]
