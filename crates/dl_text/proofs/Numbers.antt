-- What a run of digits says grows with each digit.
use Rattle.std.proofs.Common.{◌≡◌, ℕ, ◌+◌, ◌-◌, ◌/◌, ◌≤◌, ◌<◌, List, [], ◌∷◌, length, drop, get_or, arith, sym, ap, ◌∙◌, drop-cons, subst, add-one}
use Rattle.std.specs.Prelude.{fold, nat_le, if◌then◌else◌, Some, None}
use Rattle.std.proofs.lemmas.Bool.Decides.{nat_tests}
use Rattle.dl_text.specs.Bytes.{is_digit, next_value, value, AllAre}
use Rattle.dl_text.specs.Text.{greatest}

pub fold-grows : (digits : List ℕ) (n : ℕ) → n ≤ fold next_value n digits
fold-grows [] n = omega arith
fold-grows (d ∷ digits) n = omega (arith, fold-grows digits (next_value n d))

-- one digit of those that are left
pub record OneDigit (digits : List ℕ) (i n : ℕ) : Type 0 where
  pub low : 48 ≤ get_or digits i 0
  pub high : get_or digits i 0 ≤ 57
  pub same : fold next_value (next_value n (get_or digits i 0)) (drop (i + 1) digits) ≡ value digits
  pub pass : AllAre is_digit (drop (i + 1) digits)

pub one_digit : (digits : List ℕ) (i n : ℕ) → i < length digits → fold next_value n (drop i digits) ≡ value digits → AllAre is_digit (drop i digits) → OneDigit digits i n
one_digit digits i n lt same pass =
    let d = get_or digits i 0 in
    let cut : drop i digits ≡ d ∷ drop (i + 1) digits = drop-cons digits i 0 lt ∙ ap (λ k. d ∷ drop k digits) (sym (add-one i)) in
    let pass' : AllAre is_digit (d ∷ drop (i + 1) digits) = subst (AllAre is_digit) cut pass in
    let same' : fold next_value n (d ∷ drop (i + 1) digits) ≡ value digits = ap (λ ds. fold next_value n ds) (sym cut) ∙ same in
    record {
      low = grind (arith, nat_tests, pass'.0);
      high = grind (arith, nat_tests, pass'.0);
      same = same';
      pass = pass'.1;
    }

pub too_big : (digits : List ℕ) (i n : ℕ) → OneDigit digits i n → (greatest - (get_or digits i 0 - 48)) / 10 < n → None ≡ (if nat_le (value digits) greatest then Some (value digits) else None)
too_big digits i n one above =
    let grows = fold-grows (drop (i + 1) digits) (next_value n (get_or digits i 0)) in
    let big : greatest < value digits = subst (λ v. greatest < v) one.same (omega (arith, grows, one.low, one.high, above)) in
    grind (arith, nat_tests, big)
