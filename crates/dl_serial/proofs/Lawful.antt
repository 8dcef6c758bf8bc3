-- the pool of served calls is lawful
use Rattle.std.proofs.Common.{◌≡◌, ℕ, zero, suc, ◌+◌, ◌-◌, ◌<◌, ◌≤◌, ◌==◌, Bool, true, false, cond, List, [], ◌∷◌, ◌++◌, length, take, get_or, filter, fold, refl, sym, ap, ◌∙◌, arith, ℤ, pos, ◌+ℤ◌, ◌≤ℤ◌, inl, inr, true≢false}
use Rattle.std.specs.Prelude.{count_by, All, nat_le}
use Rattle.std.proofs.lemmas.Bool.{ne_eqb, eqb-true, eqb-false, leb-true}
use Rattle.std.proofs.lemmas.Bool.Decides.{leb_tells}
use Rattle.std.proofs.lemmas.List.Sums.{sum_by-cons}
use Rattle.dl_ir.specs.declared.moves.Move.{Move}
use Rattle.dl_serial.proofs.Rising.{IsNumbered}

-- the version of the move at a place
pub numbered_at : (from : ℕ) (moves : List Move) → IsNumbered from moves → (k : ℕ) (d : Move) → k < length moves → (get_or moves k d).version ≡ from + k
numbered_at from [] numbered k d within = absurd (omega arith)
numbered_at from (m ∷ rest) numbered zero d within = numbered.0 ∙ omega arith
numbered_at from (m ∷ rest) numbered (suc k) d within = numbered_at (from + 1) rest numbered.1 k d (omega arith) ∙ omega arith

-- the versions are 1 to the number of moves
pub numbered_range : (moves : List Move) → IsNumbered 1 moves → All (λ (m : Move). (1 ≤ m.version) × (m.version ≤ length moves)) moves
numbered_range moves numbered k d within = let at = numbered_at 1 moves numbered k d within in (omega (arith, at), omega (arith, at))

count-cons : (w : ℕ) (m : Move) (rest : List Move) → count_by (λ (x : Move). x.version == w) (m ∷ rest) ≡ cond (m.version == w) 1 0 + count_by (λ (x : Move). x.version == w) rest
count-cons w m rest = sum_by-cons (λ (x : Move). cond {A = ℕ} (x.version == w) 1 0) m rest

later_count : (w from : ℕ) (moves : List Move) → w < from → IsNumbered from moves → count_by (λ (x : Move). x.version == w) moves ≡ 0
later_count w from [] below numbered = refl
later_count w from (m ∷ rest) below numbered =
    let test : cond {A = ℕ} (m.version == w) 1 0 ≡ 0 = ap (λ (t : Bool). cond {A = ℕ} t 1 0) (ne_eqb m.version w (λ e. omega (arith, e, numbered.0))) in
    omega (arith, count-cons w m rest, test, later_count w (from + 1) rest (omega arith) numbered.1)

less_of : (a b : ℕ) → a ≤ b → (a ≡ b → ⊥) → a + 1 ≤ b
less_of a b low apart = omega arith

-- each version of the range comes once
pub numbered_once : (w from : ℕ) (moves : List Move) → IsNumbered from moves → from ≤ w → w < from + length moves → count_by (λ (x : Move). x.version == w) moves ≡ 1
numbered_once w from [] numbered low high = absurd (omega arith)
numbered_once w from (m ∷ rest) numbered low high =
    elim (m.version == w) as (λ t. (m.version == w) ≡ t → count_by (λ (x : Move). x.version == w) (m ∷ rest) ≡ 1) [
      | true ↦ λ t.
          let test : cond {A = ℕ} (m.version == w) 1 0 ≡ 1 = ap (λ (b : Bool). cond {A = ℕ} b 1 0) t in
          let here : m.version ≡ w = eqb-true m.version w t in
          omega (arith, count-cons w m rest, test, later_count w (from + 1) rest (omega (arith, here, numbered.0)) numbered.1)
      | false ↦ λ t.
          let test : cond {A = ℕ} (m.version == w) 1 0 ≡ 0 = ap (λ (b : Bool). cond {A = ℕ} b 1 0) t in
          let apart : m.version ≡ w → ⊥ = eqb-false m.version w t in
          let above : from + 1 ≤ w = less_of from w low (λ e. apart (numbered.0 ∙ e)) in
          omega (arith, count-cons w m rest, test, numbered_once w (from + 1) rest numbered.1 above (omega arith))
    ] refl

take-nil : (n : ℕ) → take {A = Move} n [] ≡ []
take-nil zero = refl
take-nil (suc n) = refl

take-zero : (rest : List Move) → take 0 rest ≡ []
take-zero [] = refl
take-zero (m ∷ rest) = refl

leb_above : (a b : ℕ) → nat_le a b ≡ false → b < a
leb_above a b t = elim (leb_tells a b) [ inl le ↦ absurd (true≢false (sym le.0 ∙ t)) | inr gt ↦ gt.1 ]

-- the moves up to a version are so many from the front
pub up_to : (w from : ℕ) (moves : List Move) → IsNumbered (from + 1) moves → filter (λ (m : Move). nat_le m.version w) moves ≡ take (w - from) moves
up_to w from [] numbered = sym (take-nil (w - from))
up_to w from (m ∷ rest) numbered =
    elim (nat_le m.version w) as (λ t. nat_le m.version w ≡ t → cond t (m ∷ filter (λ (x : Move). nat_le x.version w) rest) (filter (λ (x : Move). nat_le x.version w) rest) ≡ take (w - from) (m ∷ rest)) [
      | true ↦ λ t.
          let below : m.version ≤ w = leb-true m.version w t in
          let more : w - from ≡ suc (w - (from + 1)) = omega (arith, below, numbered.0) in
          ap (λ (l : List Move). m ∷ l) (up_to w (from + 1) rest numbered.1) ∙ sym (ap (λ (n : ℕ). take n (m ∷ rest)) more)
      | false ↦ λ t.
          let above : w < m.version = leb_above m.version w t in
          let none : w - from ≡ 0 = omega (arith, above, numbered.0) in
          let none_more : w - (from + 1) ≡ 0 = omega (arith, above, numbered.0) in
          up_to w (from + 1) rest numbered.1 ∙ ap (λ (n : ℕ). take n rest) none_more ∙ take-zero rest ∙ sym (ap (λ (n : ℕ). take n (m ∷ rest)) none)
    ] refl

-- the free places after moves
abbrev pub level : ℤ → List Move → ℤ
level free moves = fold (λ free (m : Move). free +ℤ m.change) free moves

-- the free places are never negative on the way
abbrev pub Stays : ℤ → List Move → Type 0
Stays free [] = pos 0 ≤ℤ free
Stays free (m ∷ rest) = (pos 0 ≤ℤ free) × Stays (free +ℤ m.change) rest

pub stays_append : (free : ℤ) (xs ys : List Move) → Stays free xs → Stays (level free xs) ys → Stays free (xs ++ ys)
stays_append free [] ys first second = second
stays_append free (x ∷ xs) ys first second = (first.0, stays_append (free +ℤ x.change) xs ys first.1 second)

stays_first : (free : ℤ) (moves : List Move) → Stays free moves → pos 0 ≤ℤ free
stays_first free [] stays = stays
stays_first free (m ∷ rest) stays = stays.0

pub stays_take : (free : ℤ) (moves : List Move) (n : ℕ) → Stays free moves → pos 0 ≤ℤ level free (take n moves)
stays_take free [] zero stays = stays
stays_take free [] (suc n) stays = stays
stays_take free (m ∷ rest) zero stays = stays.0
stays_take free (m ∷ rest) (suc n) stays = stays_take (free +ℤ m.change) rest n stays.1
