-- A run of digits, byte by byte.
use Rattle.std.proofs.Common.{◌≡◌, ℕ, suc, ◌+◌, ◌-◌, ◌*◌, ◌<◌, Bool, true, false, not, ◌&&◌, List, [], ◌∷◌, length, get_or, drop, drop-cons, refl, ap, ◌∙◌, sym, arith}
use Rattle.std.specs.Prelude.{◌==◌}
use Rattle.std.proofs.lemmas.Bool.Decides.{nat_tests}
use Rattle.std.proofs.Math.Seq.{drop-length}
use Rattle.dl_text.specs.Bytes.{is_digit}
use Rattle.dl_syntax.specs.Line.{digits_from, digits_of}
use Rattle.dl_schedule.specs.Reading.{is_number}

-- each byte is a digit
abbrev pub all_digits : List ℕ → Bool
all_digits [] = true
all_digits (b ∷ rest) = is_digit b && all_digits rest

number_cons : (n b : ℕ) (rest : List ℕ) (v : Bool) → is_digit b ≡ v → ((m : ℕ) → is_number (digits_from m rest) ≡ all_digits rest)
    → is_number (digits_from n (b ∷ rest)) ≡ all_digits (b ∷ rest)
number_cons n b rest true e ih = rw e (ih (10 * n + (b - 48)))
number_cons n b rest false e ih = rw e refl

-- digits behind a number are read where each byte is one
pub number_from : (n : ℕ) (word : List ℕ) → is_number (digits_from n word) ≡ all_digits word
number_from n [] = refl
number_from n (b ∷ rest) = number_cons n b rest (is_digit b) refl (λ m. number_from m rest)

-- one digit more
pub digit_here : (i : ℕ) (word : List ℕ) → i < length word → is_digit (get_or word i 0) ≡ true → all_digits (drop (suc i) word) ≡ all_digits (drop i word)
digit_here i word within digit = sym (ap all_digits (drop-cons word i 0 within) ∙ rw digit refl)

-- a byte that is no digit
pub none_here : (i : ℕ) (word : List ℕ) → i < length word → is_digit (get_or word i 0) ≡ false → all_digits (drop i word) ≡ all_digits word
    → all_digits word ≡ false
none_here i word within none same = sym same ∙ ap all_digits (drop-cons word i 0 within) ∙ rw none refl

-- a word that is no number has a byte that is no digit, or none at all
pub word_number : (word : List ℕ) → all_digits word ≡ false → is_number (digits_of word) ≡ false
word_number [] e = refl
word_number (b ∷ rest) e = number_from 0 (b ∷ rest) ∙ e

pub filled_number : (word : List ℕ) → 0 < length word → is_number (digits_of word) ≡ all_digits word
filled_number [] h = absurd (omega (arith, h))
filled_number (b ∷ rest) h = number_from 0 (b ∷ rest)

-- where the bytes were gone through
pub all_at_end : (i : ℕ) (word : List ℕ) → i ≡ length word → all_digits (drop i word) ≡ all_digits word → all_digits word ≡ true
all_at_end i word end same = sym same ∙ ap (λ (k : ℕ). all_digits (drop k word)) end ∙ ap all_digits (drop-length word)

pub is_filled_number : (i : ℕ) (word : List ℕ) (empty : Bool) → i ≡ length word → empty ≡ (length word == 0) → all_digits (drop i word) ≡ all_digits word
    → not empty ≡ is_number (digits_of word)
is_filled_number i [] empty end is same = ap not is
is_filled_number i (b ∷ rest) empty end is same =
    let some : (length (b ∷ rest) == 0) ≡ false = grind (arith, nat_tests) in
    ap not (is ∙ some) ∙ sym (number_from 0 (b ∷ rest) ∙ all_at_end i (b ∷ rest) end same)
