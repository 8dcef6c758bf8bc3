-- Marks that are set and added.
use Rattle.std.proofs.Common.{◌≡◌, ℕ, zero, suc, ◌<◌, Bool, true, false, List, [], ◌∷◌, length, refl, ap, slice_set, arith, ◌⊎◌, inl, inr}
use Rattle.dl_live.specs.Marks.{is_marked, unmarked}

pub fewer : (marks : List Bool) (at : ℕ) → at < length marks → is_marked marks at ≡ false → unmarked (slice_set marks at true) < unmarked marks
fewer [] at h unset = absurd (omega arith)
fewer (true ∷ rest) zero h unset = absurd cc
fewer (false ∷ rest) zero h unset = omega arith
fewer (true ∷ rest) (suc at) h unset = fewer rest at (omega (arith, h)) unset
fewer (false ∷ rest) (suc at) h unset = let less = fewer rest at (omega (arith, h)) unset in omega (arith, less)

pub set_same : (marks : List Bool) (at : ℕ) → at < length marks → is_marked (slice_set marks at true) at ≡ true
set_same [] at h = absurd (omega arith)
set_same (x ∷ rest) zero h = refl
set_same (x ∷ rest) (suc at) h = set_same rest at (omega (arith, h))

pub set_kept : (marks : List Bool) (at to : ℕ) → is_marked marks to ≡ true → is_marked (slice_set marks at true) to ≡ true
set_kept [] at to is = is
set_kept (x ∷ rest) zero zero is = refl
set_kept (x ∷ rest) zero (suc to) is = is
set_kept (x ∷ rest) (suc at) zero is = is
set_kept (x ∷ rest) (suc at) (suc to) is = set_kept rest at to is

pub set_exact : (marks : List Bool) (at to : ℕ) → is_marked (slice_set marks at true) to ≡ true → (is_marked marks to ≡ true) ⊎ (to ≡ at)
set_exact [] at to is = inl is
set_exact (x ∷ rest) zero zero is = inr refl
set_exact (x ∷ rest) zero (suc to) is = inl is
set_exact (x ∷ rest) (suc at) zero is = inl is
set_exact (x ∷ rest) (suc at) (suc to) is = elim (set_exact rest at to is) [ inl old ↦ inl old | inr same ↦ inr (ap suc same) ]
