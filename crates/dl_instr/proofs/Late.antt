-- Latest places are unique and rise.
use Rattle.std.proofs.Common.{◌≡◌, ℕ, zero, suc, ◌-◌, ◌<◌, ◌≤◌, List, length, sym, subst, ◌∙◌, arith, inl, inr}
use Rattle.std.proofs.lemmas.Bool.{cases_lt, cases_order}
use Rattle.dl_instr.specs.declared.steps.Step.{Step}
use Rattle.dl_instr.specs.Matching.{IsNearest, IsLate}

module _ (plain steps : List Step) where
  one_nearest : (i next x y : ℕ) → IsNearest plain steps i next x → IsNearest plain steps i next y → x ≡ y
  one_nearest i next x y a b = elim (cases_order x y) [
    | inl same ↦ same
    | inr (inl less) ↦ absurd (a.last y less b.below b.fits)
    | inr (inr more) ↦ absurd (b.last x more a.below a.fits)
  ]

  pub one_late : (d x y : ℕ) → IsLate plain steps d x → IsLate plain steps d y → x ≡ y
  one_late zero x y a b = a ∙ sym b
  one_late (suc d) x y (n, a, near) (m, b, other) =
      let same = one_late d n m a b in
      one_nearest (length plain - suc d) m x y (subst (λ k. IsNearest plain steps (length plain - suc d) k x) same near) other

  pub late_within : (d x : ℕ) → IsLate plain steps d x → x ≤ length steps
  late_within zero x late = omega (arith, late)
  late_within (suc d) x (next, late, near) = let le = late_within d next late in omega (arith, le, near.below)

  -- where a step has a latest place, so has each later one
  pub later_of : (d e x : ℕ) → e ≤ d → IsLate plain steps d x → (y : ℕ) × IsLate plain steps e y × (x ≤ y)
  later_of zero e x h late =
      let same : 0 ≡ e = omega (arith, h) in
      (x, subst (λ n. IsLate plain steps n x) same late, omega arith)
  later_of (suc d) e x h late = elim (cases_lt d e) [
    | inl less ↦
        let same : suc d ≡ e = omega (arith, h, less) in
        (x, subst (λ n. IsLate plain steps n x) same late, omega arith)
    | inr more ↦
        let there = later_of d e late.0 more late.1 in
        let below = late.2.below in
        (there.0, there.1, omega (arith, there.2, below))
  ]

  pub later_above : (d e x y : ℕ) → e < d → IsLate plain steps d x → IsLate plain steps e y → x < y
  later_above zero e x y h late there = absurd (omega (arith, h))
  later_above (suc d) e x y h (next, late, near) there =
      let other = later_of d e next (omega (arith, h)) late in
      let same = one_late e other.0 y other.1 there in
      omega (arith, near.below, other.2, same)
