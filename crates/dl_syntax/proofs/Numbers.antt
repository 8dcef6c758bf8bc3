-- What digits say, digit by digit.
use Rattle.std.proofs.Common.{◌≡◌, ℕ, suc, ◌+◌, ◌-◌, ◌*◌, ◌<◌, Bool, true, false, nat_le, List, [], ◌∷◌, ◌++◌, length, get_or, drop, drop-cons, refl, ap, ◌∙◌, sym, arith, Option, Some, None, append_assoc}
use Rattle.std.specs.Prelude.{ℤ}
use Rattle.std.proofs.lemmas.Bool.Decides.{nat_tests}
use Rattle.std.proofs.lemmas.Option.{same_Some}
use Rattle.dl_text.specs.Bytes.{is_digit}
use Rattle.dl_syntax.specs.Line.{digits_from, digits_of, at_most, number_of, numbers_of, with_number}

-- one digit more
digits_step : (n i : ℕ) (digits : List ℕ) → i < length digits → is_digit (get_or digits i 0) ≡ true
    → digits_from n (drop i digits) ≡ digits_from (10 * n + (get_or digits i 0 - 48)) (drop (suc i) digits)
digits_step n i digits within digit = ap (digits_from n) (drop-cons digits i 0 within) ∙ rw digit refl

too_big_cons : (most n b : ℕ) (rest : List ℕ) (v : Bool) → is_digit b ≡ v → most < n
    → ((m : ℕ) → most < m → at_most most (digits_from m rest) ≡ None) → at_most most (digits_from n (b ∷ rest)) ≡ None
too_big_cons most n b rest true e h ih = rw e (ih (10 * n + (b - 48)) (omega arith))
too_big_cons most n b rest false e h ih = rw e refl

-- a number that is too big stays so
pub too_big : (most n : ℕ) (digits : List ℕ) → most < n → at_most most (digits_from n digits) ≡ None
too_big most n [] h = let f : nat_le n most ≡ false = grind (arith, nat_tests) in rw f refl
too_big most n (b ∷ rest) h = too_big_cons most n b rest (is_digit b) refl h (λ m g. too_big most m rest g)

-- a digit that makes the number too big
pub too_big_here : (most n i : ℕ) (digits : List ℕ) → i < length digits → is_digit (get_or digits i 0) ≡ true → most < 10 * n + (get_or digits i 0 - 48)
    → at_most most (digits_from n (drop i digits)) ≡ at_most most (digits_of digits) → None ≡ at_most most (digits_of digits)
too_big_here most n i digits within digit big says =
    sym (too_big most (10 * n + (get_or digits i 0 - 48)) (drop (suc i) digits) big) ∙ sym (ap (at_most most) (digits_step n i digits within digit)) ∙ says

-- the numbers found so far, with those to come
abbrev pub onto : List ℤ → Option (List ℤ) → Option (List ℤ)
onto found (Some more) = Some (found ++ more)
onto found None = None

-- one more number
pub onto_number : (found : List ℤ) (n : ℤ) (more : Option (List ℤ)) → onto found (with_number (Some n) more) ≡ onto (found ++ n ∷ []) more
onto_number found n (Some ns) = ap (λ (xs : List ℤ). Some xs) (sym (append_assoc found (n ∷ []) ns))
onto_number found n None = refl

-- no number at a word, so none at all
pub onto_none : (found : List ℤ) (more : Option (List ℤ)) → onto found (with_number None more) ≡ None
onto_none found more = refl

-- there is one more number where there is one more word
one_more : (n : Option ℤ) (more : Option (List ℤ)) (ns : List ℤ) (count : ℕ) → ((ms : List ℤ) → more ≡ Some ms → length ms ≡ count)
    → with_number n more ≡ Some ns → length ns ≡ suc count
one_more (Some n) (Some ms) ns count counted e = ap length (sym (same_Some _ _ e)) ∙ ap suc (counted ms refl)
one_more (Some n) None ns count counted e = let clash : None ≡ Some ns = e in absurd (cc)
one_more None more ns count counted e = let clash : None ≡ Some ns = e in absurd (cc)

-- where each word says a number, there are as many numbers as words
pub as_many : (words : List (List ℕ)) (ns : List ℤ) → numbers_of words ≡ Some ns → length ns ≡ length words
as_many [] ns e = ap length (sym (same_Some _ _ e))
as_many (word ∷ words) ns e = one_more (number_of word) (numbers_of words) ns (length words) (as_many words) e
