-- The places to which pieces bring a local.
use Rattle.std.proofs.Common.{◌≡◌, ℕ, ◌+◌, ◌<◌, ◌≤◌, true, false, Bool, List, length, slice_get, get_or, arith, inl, inr, ◌⊎◌, refl, sym, ap, subst, ◌∙◌}
use Rattle.std.proofs.lemmas.Bool.{cases_lt}
use Rattle.std.proofs.lemmas.Option.{slice_get_read, slice_get_within}
use Rattle.dl_instr.specs.declared.steps.Step.{Step}
use Rattle.dl_live.specs.Dropped.{IsFilled, Brings, IsBrought, fills}
use Rattle.dl_live.specs.Marks.{GoesOnAt, AreBrought, is_marked}

-- what is set is set no earlier than behind a step that does not set it
pub filled_later : (steps : List Step) (local first last at : ℕ) (step : Step) → at < length steps → step ≡ get_or steps at step → fills local step ≡ false
    → (f : IsFilled steps local first last) → at ≤ f.at → at + 1 ≤ f.at
filled_later steps local first last at step h is unset f below = elim (cases_lt at (f.at)) [
  | inl less ↦ omega (arith, less)
  | inr behind ↦
      let same : f.at ≡ at = omega (arith, behind, below) in
      let there = slice_get_read steps (length steps) at step refl h is in
      let other = f.there in
      let set = f.fills in
      let one : f.step ≡ step = let e = ap (slice_get steps) same in cc in
      let wrong : false ≡ true = sym unset ∙ ap (fills local) (sym one) ∙ set in
      absurd cc
]

-- marked are the places to which pieces bring the local that end below a number
pub record BroughtBelow (steps : List Step) (local : ℕ) (marks : List Bool) (below : ℕ) : Type 0 where
  pub same : length marks ≡ length steps
  pub sound : (to : ℕ) → is_marked marks to ≡ true → IsBrought steps local to
  pub all : (to : ℕ) → to < length steps → (b : IsBrought steps local to) → b.last < below → is_marked marks to ≡ true

pub brought_more : (steps : List Step) (local last : ℕ) (old new : List Bool) → BroughtBelow steps local old last → Brings steps local last → length new ≡ length old
    → ((to : ℕ) → GoesOnAt steps last to → to < length old → is_marked new to ≡ true) → ((to : ℕ) → is_marked old to ≡ true → is_marked new to ≡ true)
    → ((to : ℕ) → is_marked new to ≡ true → (is_marked old to ≡ true) ⊎ GoesOnAt steps last to) → BroughtBelow steps local new (last + 1)
brought_more steps local last old new was brings same marked kept exact = record {
  same = same ∙ was.same;
  sound = λ to is. elim (exact to is) [
    | inl before ↦ was.sound to before
    | inr goes ↦ record { last = last; step = goes.step; there = goes.there; on = goes.on; brings = brings }
  ];
  all = λ to h b less. elim (cases_lt (b.last) last) [
    | inl before ↦ kept to (was.all to h b before)
    | inr behind ↦
        let one : b.last ≡ last = omega (arith, behind, less) in
        let goes : GoesOnAt steps (b.last) to = record { step = b.step; there = b.there; on = b.on } in
        let long = was.same in
        marked to (subst (λ n. GoesOnAt steps n to) one goes) (omega (arith, h, long))
  ];
}

pub brought_none : (steps : List Step) (local last : ℕ) (marks : List Bool) → BroughtBelow steps local marks last → (Brings steps local last → ⊥)
    → BroughtBelow steps local marks (last + 1)
brought_none steps local last marks was none = record {
  same = was.same;
  sound = was.sound;
  all = λ to h b less. elim (cases_lt (b.last) last) [
    | inl before ↦ was.all to h b before
    | inr behind ↦
        let one : b.last ≡ last = omega (arith, behind, less) in
        absurd (none (subst (λ n. Brings steps local n) one (b.brings)))
  ];
}

pub brought_all : (steps : List Step) (local end : ℕ) (marks : List Bool) → length steps ≤ end → BroughtBelow steps local marks end → AreBrought steps local marks
brought_all steps local end marks h was = λ to within. (
  was.sound to,
  λ b. let there = slice_get_within steps b.last b.step b.there in was.all to within b (omega (arith, there, h)),
)
