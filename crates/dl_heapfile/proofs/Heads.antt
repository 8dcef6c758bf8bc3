-- Where the heap part begins, and its heap line: what is read is what is written, and what is written is read.
use Rattle.std.proofs.Common.{◌≡◌, ◌≢◌, ℕ, zero, suc, ◌+◌, ◌-◌, ◌<◌, ◌≤◌, Bool, true, false, not, cond, List, [], ◌∷◌, ◌++◌, length, take, drop, refl, sym, ap, ap₂, subst, ◌∙◌, Option, Some, None, arith, append_assoc, length-append}
use Rattle.std.specs.Prelude.{◌==◌, ◌↔◌, max, codes, decimal, option_and_then, if◌then◌else◌, ◌^◌}
use Rattle.std.specs.Option.{option_map}
use Rattle.std.specs.List.{prefix_len, take_while}
use Rattle.std.proofs.lemmas.Bool.Decides.{nat_tests}
use Rattle.std.proofs.lemmas.List.{take-append-drop, append-nil}
use Rattle.dl_text.specs.Bytes.{is_blank, is_digit, AllAre}
use Rattle.dl_text.specs.Text.{Ends}
use Rattle.dl_heapfile.specs.Form.{goes_on, first_word, Skips, IsDecimal, IsHead}
use Rattle.dl_heapfile.specs.Faults.{HasNoHeap}
use Rattle.dl_heapfile.specs.Lines.{is_within}
use Rattle.dl_heapfile.specs.Reading.{behind, is_plain, plain, number, head, head_kept, head_ended}
use Rattle.dl_heapfile.proofs.NumbersRead.{then_some, map_some, front_dropped, IsNumber, number_read, number_written}
use Rattle.dl_heapfile.proofs.ValuesRead.{behind_read, behind_written}
use Rattle.dl_text.proofs.Pieces.{take_while-run, take_while-passes}
use Rattle.std.proofs.lemmas.List.Sums.{prefix_len-le-length}
use Rattle.std.proofs.lemmas.List.{drop-append-le, take-append-le}

-- ---- the first word

-- a byte that fails the test ends the front
front_stops : (test : ℕ → Bool) (b : ℕ) (a more : List ℕ) → test b ≡ false → prefix_len test (a ++ b ∷ more) ≡ prefix_len test a
front_stops test b [] more fails = ap (λ v. cond v (1 + prefix_len test more) 0) fails
front_stops test b (x ∷ a) more fails = ap (λ n. cond (test x) (1 + n) 0) (front_stops test b a more fails)

taken_stops : (test : ℕ → Bool) (b : ℕ) (a more : List ℕ) → test b ≡ false → take_while test (a ++ b ∷ more) ≡ take_while test a
taken_stops test b a more fails = ap (λ n. take n (a ++ b ∷ more)) (front_stops test b a more fails) ∙ take-append-le (prefix_len test a) a (b ∷ more) (prefix_len-le-length test a)

-- the first word of a text is that of its first line
pub word_of_line : (line more : List ℕ) → first_word (line ++ 10 ∷ more) ≡ first_word line
word_of_line line more =
    ap (take_while goes_on) (ap (λ n. drop n (line ++ 10 ∷ more)) (front_stops is_blank 10 line more refl) ∙ drop-append-le (prefix_len is_blank line) line (10 ∷ more) (prefix_len-le-length is_blank line))
    ∙ taken_stops goes_on 10 (drop (prefix_len is_blank line) line) more refl

-- ---- lines that are skipped

-- one more line
pub skips_more : (from line : ℕ) (bytes found text more : List ℕ) → Skips from bytes line found → found ≡ text ++ 10 ∷ more → AllAre is_within text → first_word text ≢ codes "heap" → Skips from bytes (line + 1) more
skips_more from line bytes found text more Skips.none cut within other = subst (λ (l : List ℕ). Skips from l (from + 1) more) (sym cut) (Skips.one text more within other Skips.none)
skips_more from line bytes found text more (Skips.one first rest in_first other_first later) cut within other =
    Skips.one first rest in_first other_first (skips_more (from + 1) line rest found text more later cut within other)

-- the text from a line on, with its line feed or without it
pub no_feed : (text : List ℕ) → AllAre is_within text → (front more : List ℕ) → text ≡ front ++ 10 ∷ more → ⊥
no_feed text all front more is = by front (subst (AllAre is_within) is all)
  where
    by : (front : List ℕ) → AllAre is_within (front ++ 10 ∷ more) → ⊥
    by [] all = let wrong : is_within 10 ≡ true = all.0 in cc
    by (x ∷ front) all = by front all.1

-- past a line that does not begin with the word
pub one_line_on : (bytes rest : List ℕ) (line : ℕ) (text more : List ℕ) → Skips 1 bytes line rest → AllAre is_within text → rest ≡ text ++ (10 ∷ more) → (first_word rest ≡ codes "heap" → ⊥)
    → Skips 1 bytes (line + 1) more
one_line_on bytes rest line text more skips within cut other =
    skips_more 1 line bytes rest text more skips cut within (λ is. other (ap first_word cut ∙ word_of_line text more ∙ is))

-- no line is left that begins with it
pub no_heap_left : (bytes rest : List ℕ) (line : ℕ) → Skips 1 bytes line rest → (line ≡ 1 → rest ≡ bytes) → 1 ≤ line → AllAre is_within rest → (first_word rest ≡ codes "heap" → ⊥)
    → HasNoHeap bytes (if length rest == 0 then max (line - 1) 1 else line)
no_heap_left bytes [] zero skips first low within other = absurd (omega (arith, low))
no_heap_left bytes [] (suc zero) skips first low within other = HasNoHeap.empty (sym (first refl))
no_heap_left bytes [] (suc (suc n)) skips first low within other =
    subst (HasNoHeap bytes) {x = suc n} {y = max (suc (suc n) - 1) 1} (omega arith)
    (HasNoHeap.ended (suc n) (omega arith) (subst (λ k. Skips 1 bytes k []) {x = suc (suc n)} {y = suc n + 1} (omega arith) skips))
no_heap_left bytes (b ∷ rest) line skips first low within other =
    let some : (length (b ∷ rest) == 0) ≡ false = grind (arith, nat_tests) in
    subst (λ v. HasNoHeap bytes (if v then max (line - 1) 1 else line)) (sym some) (HasNoHeap.cut line b rest skips (no_feed (b ∷ rest) within) other)

-- ---- the heap line

decimal_of : (digits : List ℕ) → is_plain digits ≡ true → AllAre is_digit digits → IsDecimal digits
decimal_of [] is all = cc
decimal_of (d ∷ []) is all = record { some = omega arith; all = all; lead = λ rest same. let last : [] ≡ rest = cc in sym last }
decimal_of (d ∷ e ∷ digits) is all = record {
  some = omega arith;
  all = all;
  lead = λ rest same. let zero_first : d ≡ 48 = cc in absurd (let wrong : not (48 == 48) ≡ true = subst (λ (n : ℕ). not (n == 48) ≡ true) zero_first is in cc);
}

plain_of : (digits : List ℕ) → IsDecimal digits → is_plain digits ≡ true
plain_of [] is = absurd (omega (arith, is.some))
plain_of (d ∷ []) is = refl
plain_of (d ∷ e ∷ digits) is = by (d == 48) refl
  where
    by : (v : Bool) → (d == 48) ≡ v → not v ≡ true
    by false e' = refl
    by true e' =
        let zero_first : d ≡ 48 = grind (arith, nat_tests, e') in
        absurd (let none : e ∷ digits ≡ [] = is.lead (e ∷ digits) (ap (λ (n : ℕ). n ∷ e ∷ digits) zero_first) in cc)

-- digits that are read
record IsPlain (text : List ℕ) (found : List ℕ × List ℕ) : Type 0 where
  text_is : text ≡ found.0 ++ found.1
  digits : IsDecimal found.0

plain_read : (text : List ℕ) (found : List ℕ × List ℕ) → plain text ≡ Some found → IsPlain text found
plain_read text found is = by (is_plain (take_while is_digit text)) refl is
  where
    by : (v : Bool) → is_plain (take_while is_digit text) ≡ v → (if v then Some (take_while is_digit text, drop (prefix_len is_digit text) text) else None) ≡ Some found → IsPlain text found
    by false e h = cc
    by true e h =
        let same : (take_while is_digit text, drop (prefix_len is_digit text) text) ≡ found = cc in
        subst (IsPlain text) same (record { text_is = sym (take-append-drop (prefix_len is_digit text) text); digits = decimal_of (take_while is_digit text) e (take_while-passes is_digit text) })

plain_written : (digits rest : List ℕ) → IsDecimal digits → Ends is_digit rest → plain (digits ++ rest) ≡ Some (digits, rest)
plain_written digits rest is ends =
    ap₂ (λ (a b : List ℕ). if is_plain a then Some (a, b) else None) (take_while-run is_digit digits rest is.all ends) (front_dropped is_digit digits rest is.all ends)
    ∙ ap (λ v. if v then Some (digits, rest) else None) (plain_of digits is)

-- a heap line that is read
pub head_read : (text : List ℕ) (found : List ℕ × List ℕ × List ℕ) → head text ≡ Some found → IsHead text found.0 found.1 found.2
head_read text found is =
    let first = then_some (option_and_then plain (behind (codes "heap ") text)) head_kept found is in
    let word = then_some (behind (codes "heap ") text) plain first.0 first.1 in
    let objects = plain_read word.0 first.0 word.2 in
    let second = then_some (option_and_then plain (behind (codes " kept ") first.0.1)) (head_ended first.0.0) found first.2 in
    let kept = then_some (behind (codes " kept ") first.0.1) plain second.0 second.1 in
    let hidden = plain_read kept.0 second.0 kept.2 in
    let end = map_some (behind (codes "\n") second.0.1) (λ (rest : List ℕ). (first.0.0, second.0.0, rest)) found second.2 in
    subst (λ (f : List ℕ × List ℕ × List ℕ). IsHead text f.0 f.1 f.2) (sym end.2) (record {
      text_is = whole (codes "heap ") first.0.0 (codes " kept ") second.0.0 (codes "\n") end.0 text word.0 first.0.1 kept.0 second.0.1
          (behind_read (codes "heap ") text word.0 word.1) objects.text_is (behind_read (codes " kept ") first.0.1 kept.0 kept.1) hidden.text_is (behind_read (codes "\n") second.0.1 end.0 end.1);
      number = objects.digits;
      kept = hidden.digits;
    })
  where
    whole : (a b c d e rest text one two three four : List ℕ) → text ≡ a ++ one → one ≡ b ++ two → two ≡ c ++ three → three ≡ d ++ four → four ≡ e ++ rest → text ≡ a ++ b ++ c ++ d ++ e ++ rest
    whole a b c d e rest text one two three four p q r s t =
        p ∙ ap (λ (l : List ℕ). a ++ l) (q ∙ ap (λ (l : List ℕ). b ++ l) (r ∙ ap (λ (l : List ℕ). c ++ l) (s ∙ ap (λ (l : List ℕ). d ++ l) t))) ∙ simp append_assoc

-- and one that is written
pub head_written : (text objects hidden rest : List ℕ) → IsHead text objects hidden rest → head text ≡ Some (objects, hidden, rest)
head_written text objects hidden rest is =
    ap head (is.text_is ∙ parted (codes "heap ") objects (codes " kept ") hidden (codes "\n") rest)
    ∙ ap (λ (o : Option (List ℕ)). option_and_then head_kept (option_and_then plain o)) (behind_written (codes "heap ") (objects ++ (codes " kept " ++ (hidden ++ (codes "\n" ++ rest)))))
    ∙ ap (option_and_then head_kept) (plain_written objects (codes " kept " ++ (hidden ++ (codes "\n" ++ rest))) is.number refl)
    ∙ ap (λ (o : Option (List ℕ)). option_and_then (head_ended objects) (option_and_then plain o)) (behind_written (codes " kept ") (hidden ++ (codes "\n" ++ rest)))
    ∙ ap (option_and_then (head_ended objects)) (plain_written hidden (codes "\n" ++ rest) is.kept refl)
    ∙ ap (option_map (λ (l : List ℕ). (objects, hidden, l))) (behind_written (codes "\n") rest)
  where
    parted : (a b c d e rest : List ℕ) → a ++ b ++ c ++ d ++ e ++ rest ≡ a ++ (b ++ (c ++ (d ++ (e ++ rest))))
    parted a b c d e rest = simp append_assoc

-- what is behind a heap line is shorter
longer : (a b c d e rest : List ℕ) → 1 ≤ length a → 1 ≤ length c → length rest + 2 ≤ length (a ++ b ++ c ++ d ++ e ++ rest)
longer a b c d e rest some more = simp length-append (omega (arith, some, more))

pub head_shorter : (text objects hidden rest : List ℕ) → IsHead text objects hidden rest → length rest + 2 ≤ length text
head_shorter text objects hidden rest is =
    subst (λ (l : List ℕ). length rest + 2 ≤ length l) (sym is.text_is) (longer (codes "heap ") objects (codes " kept ") hidden (codes "\n") rest (omega arith) (omega arith))

-- ---- the digits of a count

said : (digits : List ℕ) (n : ℕ) → n < 2 ^ 64 → digits ≡ decimal n → number (2 ^ 64 - 1) digits ≡ Some (n, [])
said digits n small is = ap (number (2 ^ 64 - 1)) (is ∙ sym (append-nil (decimal n))) ∙ number_written (2 ^ 64 - 1) n [] (omega arith) (omega (arith, small)) tt

no : false ≡ true → ⊥
no e = cc

same_found : (f g : ℕ × List ℕ) → Some f ≡ Some g → f ≡ g
same_found f g e = cc

-- bytes that begin with no number
pub none_said : (digits : List ℕ) (count : ℕ) → count < 2 ^ 64 → number (2 ^ 64 - 1) digits ≡ None → (false ≡ true) ↔ (digits ≡ decimal count)
none_said digits count small none = (λ e. absurd (no e), λ is. absurd (let clash : None ≡ Some (count, []) = sym none ∙ said digits count small is in cc))

-- bytes that begin with another number
pub other_said : (digits : List ℕ) (n : ℕ) (rest : List ℕ) (count : ℕ) → count < 2 ^ 64 → number (2 ^ 64 - 1) digits ≡ Some (n, rest) → (n ≡ count → ⊥) → (false ≡ true) ↔ (digits ≡ decimal count)
other_said digits n rest count small some differ =
    (λ e. absurd (no e), λ is. absurd (differ (ap (λ (f : ℕ × List ℕ). f.0) (same_found (n, rest) (count, []) (sym some ∙ said digits count small is)))))

-- bytes that begin with this number
pub this_said : (digits : List ℕ) (n : ℕ) (rest : List ℕ) (count : ℕ) (b : Bool) → count < 2 ^ 64 → number (2 ^ 64 - 1) digits ≡ Some (n, rest) → n ≡ count → (b ≡ true) ↔ (length rest ≡ 0) → (b ≡ true) ↔ (digits ≡ decimal count)
this_said digits n rest count b small some same empty = (λ yes. only (empty.0 yes), λ is. empty.1 (ap (λ (f : ℕ × List ℕ). length f.1) (same_found (n, rest) (count, []) (sym some ∙ said digits count small is))))
  where
    read : IsNumber (2 ^ 64 - 1) digits (n, rest)
    read = number_read (2 ^ 64 - 1) digits (n, rest) (omega arith) some

    end_of : (l : List ℕ) → length l ≡ 0 → l ≡ []
    end_of [] e = refl
    end_of (b ∷ l) e = absurd (omega (arith, e))

    only : length rest ≡ 0 → digits ≡ decimal count
    only end = read.text_is ∙ ap (λ (l : List ℕ). decimal n ++ l) (end_of rest end) ∙ append-nil (decimal n) ∙ ap decimal same
