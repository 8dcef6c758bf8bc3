-- Where steps and those added before them stand.
use Rattle.std.proofs.Common.{◌≡◌, ℕ, zero, suc, ◌+◌, ◌-◌, ◌<◌, ◌≤◌, Some, Bool, true, false, if◌then◌else◌, List, [], ◌∷◌, ◌++◌, length, slice_get, refl, sym, ap, ◌∙◌, arith, add-one, inl, inr}
use Rattle.std.proofs.lemmas.Bool.{cases_lt}
use Rattle.std.proofs.lemmas.List.{length-append}
use Rattle.dl_instr.specs.declared.steps.Step.{Step}
use Rattle.dl_instr.specs.declared.steps.Step.TheVariants.{Drop}
use Rattle.dl_live.specs.Dropped.{with_added, start_of, drops_of}
use Rattle.dl_lemmas.proofs.Places.{in_second, within_first}

module _ (added : ℕ → List Step) where
  -- where the step itself stands
  abbrev pub place_of : ℕ → ℕ
  place_of at = start_of added at + length (added at)

  pub next_start : (at : ℕ) → start_of added (at + 1) ≡ place_of at + 1
  next_start at = ap (start_of added) (add-one at)

  pub start_up : (i k j : ℕ) → i + k ≡ j → start_of added i ≤ start_of added j
  start_up i zero j is = let same : start_of added i ≡ start_of added j = ap (start_of added) (omega (arith, is)) in omega (arith, same)
  start_up i (suc k) j is =
      let up = start_up (i + 1) k j (omega (arith, is)) in
      omega (arith, up, next_start i)

  pub place_up : (i j : ℕ) → i < j → place_of i < place_of j
  place_up i j h = let up = start_up (i + 1) (j - (i + 1)) j (omega (arith, h)) in omega (arith, up, next_start i)

  pub length_is : (n : ℕ) (steps : List Step) (end : ℕ) → n + length steps ≡ end → length (with_added added n steps) + start_of added n ≡ start_of added end
  length_is n [] end is =
      let same : n ≡ end = omega (arith, is) in
      let start = ap (start_of added) same in
      omega (arith, start)
  length_is n (x ∷ rest) end is =
      let more = length_is (n + 1) rest end (omega (arith, is)) in
      omega (arith, more, next_start n, length-append (added n) (x ∷ with_added added (n + 1) rest))

  -- what stands at a place of the steps with steps added
  pub drop_there : (n : ℕ) (steps : List Step) (i j k y : ℕ) → i < length steps → n + i ≡ j → k < length (added j) → y + start_of added n ≡ start_of added j + k
      → slice_get (with_added added n steps) y ≡ slice_get (added j) k
  drop_there n [] i j k y h at less is = absurd (omega (arith, h))
  drop_there n (x ∷ rest) zero j k y h at less is =
      let same : n ≡ j = omega (arith, at) in
      let here : y ≡ k = let s = ap (start_of added) same in omega (arith, is, s) in
      let few = ap (λ m. length (added m)) same in
      within_first (added n) (x ∷ with_added added (n + 1) rest) y (omega (arith, here, less, few)) ∙ ap (λ m. slice_get (added m) y) same ∙ ap (slice_get (added j)) here
  drop_there n (x ∷ rest) (suc i) j k y h at less is =
      let up = start_up (n + 1) i j (omega (arith, at)) in
      let z = y - (length (added n) + 1) in
      in_second (added n) (x ∷ with_added added (n + 1) rest) (suc z) y (omega (arith, up, next_start n, is))
      ∙ drop_there (n + 1) rest i j k z (omega (arith, h)) (omega (arith, at)) less (omega (arith, up, next_start n, is))

  pub step_there : (n : ℕ) (steps : List Step) (i j y : ℕ) (s : Step) → slice_get steps i ≡ Some s → n + i ≡ j → y + start_of added n ≡ place_of j
      → slice_get (with_added added n steps) y ≡ Some s
  step_there n [] i j y s there at is = absurd cc
  step_there n (x ∷ rest) zero j y s there at is =
      let same : n ≡ j = omega (arith, at) in
      let here : y ≡ length (added n) + 0 = let a = ap (start_of added) same in let b = ap (λ m. length (added m)) same in omega (arith, is, a, b) in
      in_second (added n) (x ∷ with_added added (n + 1) rest) 0 y here ∙ there
  step_there n (x ∷ rest) (suc i) j y s there at is =
      let up = start_up (n + 1) i j (omega (arith, at)) in
      let z = y - (length (added n) + 1) in
      in_second (added n) (x ∷ with_added added (n + 1) rest) (suc z) y (omega (arith, up, next_start n, is))
      ∙ step_there (n + 1) rest i j z s there (omega (arith, at)) (omega (arith, up, next_start n, is))

  -- each place below a start stands behind one before it
  pub parted : (n y : ℕ) → y < start_of added n → (i : ℕ) × (i < n) × ((k : ℕ) × (y ≡ start_of added i + k) × (k ≤ length (added i)))
  parted zero y h = absurd (omega (arith, h))
  parted (suc n) y h = elim (cases_lt y (start_of added n)) [
    | inl before ↦ let p = parted n y before in (p.0, (let less = p.1 in omega (arith, less)), p.2)
    | inr behind ↦ (n, omega arith, (y - start_of added n, omega (arith, behind), omega (arith, behind, h)))
  ]

  pub below : (n i k y : ℕ) → y < start_of added n → y ≡ start_of added i + k → i < n
  below n i k y h is = elim (cases_lt i n) [
    | inl less ↦ less
    | inr past ↦ let up = start_up n (i - n) i (omega (arith, past)) in absurd (omega (arith, up, h, is))
  ]

-- each of the drops is of a local that is picked
pub picked_drop : (picks : ℕ → Bool) (n k : ℕ) (s : Step) → slice_get (drops_of picks n) k ≡ Some s → (p : ℕ) × (s ≡ Drop p) × (picks p ≡ true)
picked_drop picks zero k s there = absurd cc
picked_drop picks (suc n) k s there = elim (cases_lt k (length (drops_of picks n))) [
  | inl less ↦ picked_drop picks n k s (sym (within_first (drops_of picks n) (if picks n then Drop n ∷ [] else []) k less) ∙ there)
  | inr past ↦
      let z = k - length (drops_of picks n) in
      one_drop (picks n) n z s refl (sym (in_second (drops_of picks n) (if picks n then Drop n ∷ [] else []) z k (omega (arith, past))) ∙ there)
]
  where
    one_drop : (b : Bool) (p z : ℕ) (s : Step) → picks p ≡ b → slice_get (if b then Drop p ∷ [] else []) z ≡ Some s → (q : ℕ) × (s ≡ Drop q) × (picks q ≡ true)
    one_drop true p zero s is there = (p, cc, is)
    one_drop true p (suc z) s is there = absurd cc
    one_drop false p z s is there = absurd cc
