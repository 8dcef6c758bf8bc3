-- The numbers that words of decimal digits say.
use Rattle.std.proofs.Common.{◌≡◌, ◌∙◌, ℕ, ◌^◌, ◌<◌, ◌≤◌, Bool, true, false, ◌&&◌, List, [], ◌∷◌, length, Some, None, refl, sym, ap, subst, arith}
use Rattle.std.specs.Prelude.{◌==◌, nat_le, nat_lt, slice_index}
use Rattle.std.specs.Char.{digit_value}
use Rattle.std.specs.List.{list_all}
use Rattle.std.specs.Str.Parse.{AllDigits, IsNumeral, digits_value, without_leading_plus}
use Rattle.std.proofs.lemmas.Bool.{eqb-true, le-leb, leb-true, lt-ltb, ltb-true}
use Rattle.clap.specs.ValueTests.{is_numeral}
use Rattle.clap.proofs.WalkLemmas.{both}
use Rattle.dl_command.specs.Numbers.{number_within}
use Rattle.dl_command.specs.Words.{Bytes}

digits_are : (ds : List ℕ) → list_all (λ d. nat_lt (digit_value d) 10) ds ≡ true → AllDigits 10 ds
digits_are [] e = tt
digits_are (d ∷ ds) e = let parts = both _ _ e in (ltb-true _ _ parts.0, digits_are ds parts.1)

digits_pass : (ds : List ℕ) → AllDigits 10 ds → list_all (λ d. nat_lt (digit_value d) 10) ds ≡ true
digits_pass [] all = refl
digits_pass (d ∷ ds) all = rw (lt-ltb (digit_value d) 10 all.0) (digits_pass ds all.1)

numeral_is : (word : Bytes) → is_numeral word ≡ true → IsNumeral 10 word
numeral_is word e = let parts = both _ _ e in (ltb-true _ _ parts.0, digits_are word parts.1)

numeral_passes : (word : Bytes) → IsNumeral 10 word → is_numeral word ≡ true
numeral_passes word is = rw (lt-ltb 0 (length word) is.0) (digits_pass word is.1)

-- the word says a number in the range
abbrev says_within : ℕ → ℕ → Bytes → Bool
says_within least most word = is_numeral word && (nat_le least (digits_value 10 word) && nat_le (digits_value 10 word) most)

record Within (least most : ℕ) (word : Bytes) : Type 0 where
  numeral : IsNumeral 10 word
  low : least ≤ digits_value 10 word
  high : digits_value 10 word ≤ most

within_is : (least most : ℕ) (word : Bytes) → says_within least most word ≡ true → Within least most word
within_is least most word e =
    let parts = both (is_numeral word) (nat_le least (digits_value 10 word) && nat_le (digits_value 10 word) most) e in
    let range = both (nat_le least (digits_value 10 word)) (nat_le (digits_value 10 word) most) parts.1 in
    record { numeral = numeral_is word parts.0; low = leb-true _ _ range.0; high = leb-true _ _ range.1 }

-- a word that is none in the range says none
none_within : (least most : ℕ) (word : Bytes) → ¬ Within least most word → number_within least most word ≡ None
none_within least most word outside = go (says_within least most word) refl
  where
    go : (b : Bool) → says_within least most word ≡ b → number_within least most word ≡ None
    go false is = rw is refl
    go true is = absurd (outside (within_is least most word is))

without_plus : (word : Bytes) → (slice_index word 0 == 43) ≡ false → without_leading_plus word ≡ word
without_plus word e = rw e refl

-- a word with a plus says no number
pub plus_says_none : (least most : ℕ) (word : Bytes) → (slice_index word 0 == 43) ≡ true → number_within least most word ≡ None
plus_says_none least most [] e = refl
plus_says_none least most (b ∷ rest) e = none_within least most (b ∷ rest) (λ within.
    let plus : b ≡ 43 = eqb-true b 43 e in
    let digit : digit_value 43 < 10 = subst (λ x. digit_value x < 10) plus within.numeral.1.0 in
    absurd (omega (arith, digit)))

-- what a numeral that is read says, and what fits
abbrev pub IsRead : Bytes → Type 0
IsRead word = IsNumeral 10 word × (digits_value 10 word < 2 ^ 64)

-- a word that is not read says no number within a range of 64 bits
pub unread_says_none : (least most : ℕ) (word : Bytes) → (slice_index word 0 == 43) ≡ false → most < 2 ^ 64
    → ¬ IsRead (without_leading_plus word) → number_within least most word ≡ None
unread_says_none least most word e small unread = none_within least most word (λ within.
    let read : IsRead word = (within.numeral, omega (arith, within.high, small)) in
    unread (subst IsRead (sym (without_plus word e)) read))

-- what is read of a word without a plus is what it says, where that is in the range
pub read_says : (least most : ℕ) (word : Bytes) (n : ℕ) → (slice_index word 0 == 43) ≡ false
    → IsRead (without_leading_plus word) → n ≡ digits_value 10 (without_leading_plus word) → least ≤ n → n ≤ most → number_within least most word ≡ Some n
read_says least most word n e read is low high =
    let whole = without_plus word e in
    let here : IsRead word = subst IsRead whole read in
    let value : n ≡ digits_value 10 word = is ∙ ap (digits_value 10) whole in
    let passes = numeral_passes word here.0 in
    rw (passes, le-leb least (digits_value 10 word) (omega (arith, low, value)), le-leb (digits_value 10 word) most (omega (arith, high, value))) (ap (λ v. Some v) (sym value))

-- and none where it is outside
pub outside_says_none : (least most : ℕ) (word : Bytes) (n : ℕ) → (slice_index word 0 == 43) ≡ false
    → n ≡ digits_value 10 (without_leading_plus word) → ¬ ((least ≤ n) × (n ≤ most)) → number_within least most word ≡ None
outside_says_none least most word n e is outside = none_within least most word (λ within.
    let value : n ≡ digits_value 10 word = is ∙ ap (digits_value 10) (without_plus word e) in
    outside (omega (arith, within.low, value), omega (arith, within.high, value)))
