-- When names are the same.
use Rattle.std.proofs.Common.{◌≡◌, ◌≢◌, ◌⊎◌, inl, inr, ℕ, true, false, Some, None, refl, subst, arith}
use Rattle.std.specs.Prelude.{nat_eq}
use Rattle.std.specs.Ordering.{eq_by_cmp}
use Rattle.std.proofs.lemmas.Bool.Decides.{nat_tests}
use Rattle.dl_ir.specs.declared.names.Name.{Name}
use Rattle.dl_ir.specs.Heap.{name_cmp}
use Rattle.dl_ir.specs.References.{name_eq}
use Rattle.dl_shape.proofs.Names.{names}
use Rattle.dl_lemmas.proofs.Maps.{eq_here, same_key}
use Rattle.dl_lemmas.proofs.Tests.{and_parts, not_both}
use Rattle.std.proofs.lemmas.Bool.{cases_Bool}

pub name_itself : (n : Name) → name_eq n n ≡ true
name_itself n = grind (arith, nat_tests)

-- names that are tested the same are one
pub same_named : (n m : Name) → name_eq n m ≡ true → n ≡ m
same_named n m e =
    let parts = and_parts (nat_eq n.ticket m.ticket) (nat_eq n.index m.index) e in
    let ticket : n.ticket ≡ m.ticket = grind (arith, nat_tests, parts.0) in
    let index : n.index ≡ m.index = grind (arith, nat_tests, parts.1) in
    λ i. record { ticket = ticket i; index = index i }

-- a name is another or not
pub same_name : (n m : Name) → (n ≡ m) ⊎ (n ≢ m)
same_name n m =
    elim (eq_by_cmp name_cmp n m) as (λ b. eq_by_cmp name_cmp n m ≡ b → (n ≡ m) ⊎ (n ≢ m)) [
      | true ↦ λ e. inl (same_key names n m e)
      | false ↦ λ e. inr (λ p. not_both (subst (λ k. eq_by_cmp name_cmp n k ≡ true) p (eq_here names n)) e)
    ] refl

pub name_differs : (n m : Name) → n ≢ m → name_eq n m ≡ false
name_differs n m other = elim (cases_Bool (name_eq n m)) [ inl t ↦ absurd (other (same_named n m t)) | inr f ↦ f ]

pub same_number : (a b : ℕ) → (a ≡ b) ⊎ (a ≢ b)
same_number a b = grind arith

pub same_some : {A : Type 0} {a b : A} → Some a ≡ Some b → a ≡ b
same_some e = cc

pub no_some : {A : Type 0} {a : A} → None ≡ Some a → ⊥
no_some e = cc
