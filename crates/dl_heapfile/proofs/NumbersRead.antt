-- Plain decimal numbers: what is read is what is written, and what is written is read.
use Rattle.std.proofs.Common.{◌≡◌, ℕ, ℤ, zero, suc, ◌+◌, ◌-◌, ◌*◌, ◌<◌, ◌≤◌, Bool, true, false, not, cond, ◌&&◌, List, [], ◌∷◌, ◌++◌, length, drop, get_or, refl, sym, ap, ap₂, subst, ◌∙◌, Option, Some, None, arith, pos, negsuc, append_assoc}
use Rattle.std.specs.Prelude.{◌==◌, ◌^◌, nat_le, decimal, fold, option_and_then, if◌then◌else◌}
use Rattle.std.specs.Fmt.{signed_decimal}
use Rattle.std.specs.Option.{option_map}
use Rattle.std.specs.List.{prefix_len, take_while}
use Rattle.std.proofs.lemmas.Bool.Decides.{nat_tests}
use Rattle.std.proofs.lemmas.Fmt.{decimal-digits_value, digits_decimal, digits_value-decimal, first_decimal, decimal_nonempty}
use Rattle.std.proofs.lemmas.Str.Parse.{IsNumeralModel, numerals_by_fold}
use Rattle.std.proofs.lemmas.List.{take-append-drop}
use Rattle.dl_text.specs.Bytes.{is_digit, next_value, value, AllAre}
use Rattle.dl_text.specs.Text.{Ends}
use Rattle.dl_heapfile.specs.Lines.{IsSmall}
use Rattle.dl_heapfile.specs.Reading.{is_plain, number_cut, number, negative, positive, integer}
use Rattle.dl_text.proofs.Pieces.{prefix_len-run, take_while-run, take_while-passes}
use Rattle.std.proofs.Math.Seq.{drop-append_seam}

-- one more, as a constructor
one_more : (n : ℕ) → 1 + n ≡ suc n
one_more n = omega arith

-- ---- the front of a text

pub front_dropped : (test : ℕ → Bool) (ds rest : List ℕ) → AllAre test ds → Ends test rest → drop (prefix_len test (ds ++ rest)) (ds ++ rest) ≡ rest
front_dropped test ds rest all ends = ap (λ n. drop n (ds ++ rest)) (prefix_len-run test ds rest all ends) ∙ drop-append_seam ds rest

pub front_ends : (test : ℕ → Bool) (text : List ℕ) → Ends test (drop (prefix_len test text) text)
front_ends test [] = tt
front_ends test (b ∷ text) = by (test b) refl (front_ends test text)
  where
    by : (v : Bool) → test b ≡ v → Ends test (drop (prefix_len test text) text) → Ends test (drop (cond v (1 + prefix_len test text) 0) (b ∷ text))
    by true is more = rw (one_more (prefix_len test text)) more
    by false is more = is

-- ---- numbers

numerals : IsNumeralModel (AllAre is_digit) value
numerals = numerals_by_fold (AllAre is_digit) (record {
  empty = tt;
  parts = λ c cs all. ((grind (arith, nat_tests, all.0), grind (arith, nat_tests, all.0)), all.1);
  more = λ c cs range all. (grind (arith, nat_tests, range.0, range.1), all);
}) (fold next_value) (record { empty = λ n. refl; more = λ n c cs range. ap (λ m. fold next_value m cs) {x = 10 * n + (c - 48)} {y = n * 10 + (c - 48)} (omega arith) })

pub plain_lead : (ds : List ℕ) → is_plain ds ≡ true → (0 < length ds) × (get_or ds 0 0 ≡ 48 → length ds ≡ 1)
plain_lead [] is = cc
plain_lead (d ∷ []) is = (omega arith, λ zero_first. refl)
plain_lead (d ∷ e ∷ ds) is = (omega arith, λ zero_first. absurd (let wrong : not (48 == 48) ≡ true = subst (λ (n : ℕ). not (n == 48) ≡ true) zero_first is in cc))

pub decimal_plain : (n : ℕ) → n < 2 ^ 64 → is_plain (decimal n) ≡ true
decimal_plain zero small = ap is_plain (decimal-digits_value numerals (48 ∷ []) (refl, tt) (omega arith) (λ zero_first. refl) (omega arith))
decimal_plain (suc n) small = by (decimal (suc n)) (first_decimal (suc n) (omega arith) small)
  where
    by : (ds : List ℕ) → 48 < get_or ds 0 0 → is_plain ds ≡ true
    by [] above = absurd (omega (arith, above))
    by (d ∷ []) above = refl
    by (d ∷ e ∷ ds) above = grind (arith, nat_tests, above)

-- what a number that is read says of the text
pub record IsNumber (most : ℕ) (text : List ℕ) (found : ℕ × List ℕ) : Type 0 where
  pub text_is : text ≡ decimal found.0 ++ found.1
  pub low : found.0 ≤ most
  pub ends : Ends is_digit found.1

cut_is : (most : ℕ) (digits rest : List ℕ) (found : ℕ × List ℕ) → number_cut most digits rest ≡ Some found
    → (is_plain digits ≡ true) × (value digits ≤ most) × (found ≡ (value digits, rest))
cut_is most digits rest found is = by (is_plain digits) (nat_le (value digits) most) refl refl is
  where
    by : (p q : Bool) → is_plain digits ≡ p → nat_le (value digits) most ≡ q → (if p && q then Some (value digits, rest) else None) ≡ Some found
        → (is_plain digits ≡ true) × (value digits ≤ most) × (found ≡ (value digits, rest))
    by true true p q e = (p, grind (arith, nat_tests, q), let same : (value digits, rest) ≡ found = cc in sym same)
    by true false p q e = cc
    by false q p _ e = cc

pub number_read : (most : ℕ) (text : List ℕ) (found : ℕ × List ℕ) → most < 2 ^ 64 → number most text ≡ Some found → IsNumber most text found
number_read most text found small is =
    let digits = take_while is_digit text in
    let rest = drop (prefix_len is_digit text) text in
    let cut = cut_is most digits rest found is in
    let lead = plain_lead digits cut.0 in
    let written : decimal (value digits) ≡ digits = decimal-digits_value numerals digits (take_while-passes is_digit text) lead.0 lead.1 (omega (arith, cut.1)) in
    subst (IsNumber most text) (sym cut.2) (record {
      text_is = sym (take-append-drop (prefix_len is_digit text) text) ∙ ap (λ (l : List ℕ). l ++ rest) (sym written);
      low = cut.1;
      ends = front_ends is_digit text;
    })

pub number_written : (most n : ℕ) (rest : List ℕ) → most < 2 ^ 64 → n ≤ most → Ends is_digit rest → number most (decimal n ++ rest) ≡ Some (n, rest)
number_written most n rest small low ends =
    let all = digits_decimal numerals n (omega arith) in
    let taken : take_while is_digit (decimal n ++ rest) ≡ decimal n = take_while-run is_digit (decimal n) rest all ends in
    let dropped : drop (prefix_len is_digit (decimal n ++ rest)) (decimal n ++ rest) ≡ rest = front_dropped is_digit (decimal n) rest all ends in
    let says : value (decimal n) ≡ n = digits_value-decimal numerals n (omega arith) in
    let fits : nat_le n most ≡ true = grind (arith, nat_tests, low) in
    ap₂ (number_cut most) taken dropped
    ∙ ap₂ (λ (p : Bool) (v : ℕ). if p && nat_le v most then Some (v, rest) else None) (decimal_plain n (omega arith)) says
    ∙ ap (λ (q : Bool). if q then Some (n, rest) else None) fits

-- ---- joined texts

pub assoc3 : (a b c d : List ℕ) → (a ++ b ++ c) ++ d ≡ a ++ (b ++ (c ++ d))
assoc3 a b c d = append_assoc (a ++ b) c d ∙ append_assoc a b (c ++ d)

pub assoc4 : (a b c d e : List ℕ) → (a ++ b ++ c ++ d) ++ e ≡ a ++ (b ++ (c ++ (d ++ e)))
assoc4 a b c d e = append_assoc (a ++ b ++ c) d e ∙ assoc3 a b c (d ++ e)

-- ---- what is found, step by step

pub then_some : {A B : Type 0} (o : Option A) (next : A → Option B) (b : B) → option_and_then next o ≡ Some b → (a : A) × (o ≡ Some a) × (next a ≡ Some b)
then_some None next b e = cc
then_some (Some a) next b e = (a, refl, e)

pub map_some : {A B : Type 0} (o : Option A) (f : A → B) (b : B) → option_map f o ≡ Some b → (a : A) × (o ≡ Some a) × (b ≡ f a)
map_some None f b e = cc
map_some (Some a) f b e = (a, refl, let same : f a ≡ b = cc in sym same)

-- ---- numbers with a sign

-- a number of signed 64 bits that is read
pub record IsInteger (text : List ℕ) (found : ℤ × List ℕ) : Type 0 where
  pub text_is : text ≡ signed_decimal found.0 ++ found.1
  pub small : IsSmall found.0
  pub ends : Ends is_digit found.1

no_zero : (n : ℕ) (more : List ℕ) → negative (suc n, more) ≡ Some (negsuc n, more)
no_zero n more = let some : (suc n == 0) ≡ false = grind (arith, nat_tests) in ap (λ (v : Bool). if v then None else Some (negsuc n, more)) some

negative_is : (rest : List ℕ) (n : ℕ) (more : List ℕ) (found : ℤ × List ℕ) → IsNumber (2 ^ 63) rest (n, more) → negative (n, more) ≡ Some found → IsInteger (45 ∷ rest) found
negative_is rest zero more found read is = cc
negative_is rest (suc n) more found read is =
    let told : Some (negsuc n, more) ≡ Some found = sym (no_zero n more) ∙ is in
    let same : (negsuc n, more) ≡ found = cc in
    let low = read.low in
    subst (IsInteger (45 ∷ rest)) same (record { text_is = ap (λ (l : List ℕ). 45 ∷ l) read.text_is; small = omega (arith, low); ends = read.ends })

pub integer_read : (text : List ℕ) (found : ℤ × List ℕ) → integer text ≡ Some found → IsInteger text found
integer_read [] found is = cc
integer_read (b ∷ rest) found is = by (b == 45) refl is
  where
    by : (v : Bool) → (b == 45) ≡ v → (if v then option_and_then negative (number (2 ^ 63) rest) else option_map positive (number (2 ^ 63 - 1) (b ∷ rest))) ≡ Some found → IsInteger (b ∷ rest) found
    by true e h =
        let minus : 45 ≡ b = grind (arith, nat_tests, e) in
        let one = then_some (number (2 ^ 63) rest) negative found h in
        subst (λ (c : ℕ). IsInteger (c ∷ rest) found) minus (negative_is rest one.0.0 one.0.1 found (number_read (2 ^ 63) rest one.0 (omega arith) one.1) one.2)
    by false e h =
        let one = map_some (number (2 ^ 63 - 1) (b ∷ rest)) positive found h in
        let read = number_read (2 ^ 63 - 1) (b ∷ rest) one.0 (omega arith) one.1 in
        let low = read.low in
        subst (IsInteger (b ∷ rest)) (sym one.2) (record { text_is = read.text_is; small = omega (arith, low); ends = read.ends })

digit_first : (ds rest : List ℕ) → AllAre is_digit ds → 0 < length ds → integer (ds ++ rest) ≡ option_map positive (number (2 ^ 63 - 1) (ds ++ rest))
digit_first [] rest all some = absurd (omega arith)
digit_first (d ∷ ds) rest all some =
    let no_minus : (d == 45) ≡ false = grind (arith, nat_tests, all.0) in
    ap (λ (v : Bool). if v then option_and_then negative (number (2 ^ 63) (ds ++ rest)) else option_map positive (number (2 ^ 63 - 1) (d ∷ ds ++ rest))) no_minus

pub decimal_digits : (n : ℕ) → n < 2 ^ 64 → AllAre is_digit (decimal n)
decimal_digits n small = digits_decimal numerals n small

pub integer_written : (z : ℤ) (rest : List ℕ) → IsSmall z → Ends is_digit rest → integer (signed_decimal z ++ rest) ≡ Some (z, rest)
integer_written (pos n) rest small ends =
    digit_first (decimal n) rest (decimal_digits n (omega (arith, small))) (decimal_nonempty n (omega (arith, small)))
    ∙ ap (option_map positive) (number_written (2 ^ 63 - 1) n rest (omega arith) (omega (arith, small)) ends)
integer_written (negsuc n) rest small ends = ap (option_and_then negative) (number_written (2 ^ 63) (suc n) rest (omega arith) (omega (arith, small)) ends) ∙ no_zero n rest
