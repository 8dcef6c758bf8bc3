-- Functions that rise below a bound.
use Rattle.std.proofs.Common.{◌≡◌, ℕ, zero, suc, ◌+◌, ◌<◌, ◌≤◌, ap, arith, inl, inr, add-one}
use Rattle.std.proofs.lemmas.Bool.{cases_lt, cases_order}
use Rattle.dl_instr.specs.Drops.{front}

-- the function rises from each number to the next, below the bound
abbrev pub Rises : (ℕ → ℕ) → ℕ → Type 0
Rises f n = (i : ℕ) → i + 1 < n → f i < f (i + 1)

one_more : (f : ℕ → ℕ) (n i : ℕ) → Rises f n → suc i < n → f i < f (suc i)
one_more f n i rises h =
    let here : i + 1 < n = omega (arith, h) in
    let up = rises i here in
    let same : i + 1 ≡ suc i = add-one i in
    omega (arith, up, ap f same)

pub rising : (f : ℕ → ℕ) (n i j : ℕ) → Rises f n → i < j → j < n → f i < f j
rising f n i zero rises h k = absurd (omega (arith, h))
rising f n i (suc j) rises h k =
    let last = one_more f n j rises k in
    elim (cases_lt i j) [
      | inl less ↦ let up = rising f n i j rises less (omega (arith, k)) in omega (arith, up, last)
      | inr more ↦ let same : i ≡ j = omega (arith, h, more) in omega (arith, ap f same, last)
    ]

pub not_falling : (f : ℕ → ℕ) (n i j : ℕ) → Rises f n → i ≤ j → j < n → f i ≤ f j
not_falling f n i j rises h k = elim (cases_lt i j) [
  | inl less ↦ let up = rising f n i j rises less k in omega (arith, up)
  | inr more ↦ let same : i ≡ j = omega (arith, h, more) in omega (arith, ap f same)
]

-- the function takes no value twice
pub taken_once : (f : ℕ → ℕ) (n i j : ℕ) → Rises f n → i < n → j < n → f i ≡ f j → i ≡ j
taken_once f n i j rises h k same = elim (cases_order i j) [
  | inl is ↦ is
  | inr (inl less) ↦ let up = rising f n i j rises less k in absurd (omega (arith, up, same))
  | inr (inr more) ↦ let up = rising f n j i rises more h in absurd (omega (arith, up, same))
]

-- where the function is not behind, neither was the number
pub not_behind : (f : ℕ → ℕ) (n i j : ℕ) → Rises f n → i < n → f i ≤ f j → i ≤ j
not_behind f n i j rises h le = elim (cases_lt j i) [
  | inl less ↦ let up = rising f n j i rises less h in absurd (omega (arith, up, le))
  | inr more ↦ more
]

-- what is in front of a number below the bound lies below what is in front of the bound
pub front_below : (f : ℕ → ℕ) (n i : ℕ) → Rises f n → i < n → front f i < front f n
front_below f zero i rises h = absurd (omega (arith, h))
front_below f (suc m) zero rises h = omega arith
front_below f (suc m) (suc i) rises h = let up = rising f (suc m) i m rises (omega (arith, h)) (omega arith) in omega (arith, up)

pub front_next : (f : ℕ → ℕ) (i : ℕ) → front f (i + 1) ≡ f i + 1
front_next f i = ap (front f) (add-one i)
