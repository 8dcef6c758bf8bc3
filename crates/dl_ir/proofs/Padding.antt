-- Numbers in cells, behind which 0 is kept.
use Rattle.std.proofs.Common.{◌≡◌, ℕ, zero, suc, ◌+◌, ◌<◌, ◌≤◌, ℤ, List, [], ◌∷◌, ◌++◌, length, take, set, refl, sym, ap, ◌∙◌, arith}
use Rattle.std.proofs.lemmas.List.{length-append, length-set, length-take-le}
use Rattle.dl_ir.specs.Padding.{padded, IsPadded}

pub length-padded : (m : ℕ) (l : List ℤ) → length (padded m l) ≡ m
length-padded zero l = refl
length-padded (suc m) [] = ap suc (length-padded m [])
length-padded (suc m) (x ∷ l) = ap suc (length-padded m l)

-- a number written behind the others
pub set-padded : (m : ℕ) (l : List ℤ) (x : ℤ) → length l < m → set (padded m l) (length l) x ≡ padded m (l ++ x ∷ [])
set-padded zero l x less = absurd (omega (arith, less))
set-padded (suc m) [] x less = refl
set-padded (suc m) (y ∷ l) x less = ap (λ (r : List ℤ). y ∷ r) (set-padded m l x (omega (arith, less)))

take-padded : (m : ℕ) (l : List ℤ) → length l ≤ m → take (length l) (padded m l) ≡ l
take-padded zero [] less = refl
take-padded zero (x ∷ l) less = absurd (omega (arith, less))
take-padded (suc m) [] less = refl
take-padded (suc m) (x ∷ l) less = ap (λ (r : List ℤ). x ∷ r) (take-padded m l (omega (arith, less)))

-- so many numbers are shown
pub shown : (cells : List ℤ) (len : ℕ) → IsPadded cells len → length (take len cells) ≡ len
shown cells len kept = length-take-le len cells (omega (arith, kept.few, kept.sixteen))

-- a number behind the others leaves cells that are padded, and is shown behind them
module _ (cells : List ℤ) (len : ℕ) (number : ℤ) (kept : IsPadded cells len) (less : len < 16) where
  abbrev held : List ℤ
  held = take len cells

  written : set cells len number ≡ padded 16 (held ++ number ∷ [])
  written = ap (λ (l : List ℤ). set l len number) kept.rest
      ∙ ap (λ n. set (padded 16 held) n number) (sym (shown cells len kept))
      ∙ set-padded 16 held number (omega (arith, shown cells len kept, less))

  longer : length (held ++ number ∷ []) ≡ len + 1
  longer = length-append held (number ∷ []) ∙ ap (λ n. n + 1) (shown cells len kept)

  pub pushed : take (len + 1) (set cells len number) ≡ take len cells ++ number ∷ []
  pushed = ap (take (len + 1)) written
      ∙ ap (λ n. take n (padded 16 (held ++ number ∷ []))) (sym longer)
      ∙ take-padded 16 (held ++ number ∷ []) (omega (arith, longer, less))

  pub still_padded : IsPadded (set cells len number) (len + 1)
  still_padded = record { few = omega (arith, less); sixteen = length-set cells len number ∙ kept.sixteen; rest = written ∙ ap (padded 16) (sym pushed) }
