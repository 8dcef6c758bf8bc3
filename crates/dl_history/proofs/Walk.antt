-- A caller's entries and refusals side by side: at each index, in turn, the next of the one or of the other is the one that is told.
use Rattle.std.proofs.Common.{◌≡◌, ℕ, zero, suc, ◌+◌, ◌-◌, ◌<◌, ◌≤◌, ◌==◌, ◌++◌, ◌⊎◌, inl, inr, Bool, true, false, cond, ◌&&◌, List, [], ◌∷◌, length, get_or, drop, Option, Some, None, slice_get, refl, sym, ◌∙◌, ap, subst, arith}
use Rattle.std.specs.Prelude.{option_and_then, All, Contains, count_by, if◌then◌else◌, is_some, nat_lt}
use Rattle.std.specs.Option.{option_map, option_map_or}
use Rattle.std.specs.List.{find, range_with_len}
use Rattle.std.specs.List.Sorted.{IsNonDecreasingBy}
use Rattle.std.proofs.lemmas.List.Elements.{All-head, All-tail, All-filter, All-contains_itself, filter_passes}
use Rattle.std.proofs.lemmas.List.Elements.{filter-append}
use Rattle.std.proofs.lemmas.List.{append-nil}
use Rattle.std.proofs.lemmas.List.FromFn.{length-range_with_len, get_or-range_with_len}
use Rattle.std.proofs.lemmas.List.Sorted.{All-permutation}
use Rattle.std.proofs.lemmas.Bool.Decides.{nat_tests}
use Rattle.dl_ir.specs.declared.answers.Answer.{Answer}
use Rattle.dl_ir.specs.declared.answers.Entry.{Entry}
use Rattle.dl_ir.specs.declared.answers.Refusal.{Refusal}
use Rattle.dl_ir.specs.declared.calls.Call.{Call}
use Rattle.dl_ir.specs.Cover.{runs_of, refusals_of, call_at, one_if_there, Covers}
use Rattle.dl_history.specs.Histories.{caller_at, index_at, joined, places_of, refusals_by, ArePlacesOf, AreByCaller}
use Rattle.dl_history.specs.Orders.{AreRefusalsOf, answer_at, answer_with}
use Rattle.dl_history.specs.Report.{is_entry_of, is_refusal_of, told_text, outcome_text, line_text, answer_line}
use Rattle.dl_text.specs.Lists.{each_from}
use Rattle.dl_text.proofs.Loops.{each_numbered}
use Rattle.std.proofs.lemmas.Option.{slice_get-get_or}
use Rattle.dl_lemmas.proofs.Counts.{count-cons, count-moves, count-filter}

eq_of : (a b : ℕ) → a ≡ b → (a == b) ≡ true
eq_of a b h = grind (arith, nat_tests)

is_of : (a b : ℕ) → (a == b) ≡ true → a ≡ b
is_of a b h = grind (arith, nat_tests)

differ_below : (a b : ℕ) → a < b → (a == b) ≡ false
differ_below a b h = grind (arith, nat_tests)

differ_above : (a b : ℕ) → b < a → (a == b) ≡ false
differ_above a b h = grind (arith, nat_tests)

-- a count over a first element that passes, or does not
count_yes : {X : Type 0} (p : X → Bool) (x : X) (xs : List X) → p x ≡ true → count_by p (x ∷ xs) ≡ 1 + count_by p xs
count_yes p x xs is = count-cons p x xs ∙ ap (λ (b : Bool). cond b 1 0 + count_by p xs) is

count_no : {X : Type 0} (p : X → Bool) (x : X) (xs : List X) → p x ≡ false → count_by p (x ∷ xs) ≡ count_by p xs
count_no p x xs is =
    let whole : count_by p (x ∷ xs) ≡ 0 + count_by p xs = count-cons p x xs ∙ ap (λ (b : Bool). cond b 1 0 + count_by p xs) is in
    omega arith

count_rest : {X : Type 0} (p : X → Bool) (x : X) (xs : List X) → count_by p xs ≤ count_by p (x ∷ xs)
count_rest p x xs = omega (arith, count-cons p x xs)

-- an element that passes is counted
count_some : {X : Type 0} (p : X → Bool) (xs : List X) (x : X) → Contains xs x → p x ≡ true → 0 < count_by p xs
count_some p [] x (k, within, is) passes = absurd (omega (arith, within))
count_some p (y ∷ ys) x (zero, within, is) passes = omega (arith, count_yes p y ys (ap p is ∙ passes))
count_some p (y ∷ ys) x (suc k, within, is) passes =
    let later : 0 < count_by p ys = count_some p ys x (k, omega arith, is) passes in
    omega (arith, count_rest p y ys)

-- the one element that passes is the one that is found
find_one : {X : Type 0} (p : X → Bool) (xs : List X) (x : X) → Contains xs x → p x ≡ true → count_by p xs ≡ 1 → find p xs ≡ Some x
find_one p [] x (k, within, is) passes one = absurd (omega (arith, within))
find_one p (y ∷ ys) x (zero, within, is) passes one =
    ap (λ (b : Bool). cond b (Some y) (find p ys)) (ap p is ∙ passes) ∙ ap Some is
find_one p (y ∷ ys) x (suc k, within, is) passes one =
    let there : Contains ys x = (k, omega arith, is) in
    elim (p y) as (λ b. p y ≡ b → cond b (Some y) (find p ys) ≡ Some x) [
      | true ↦ λ first. absurd (omega (arith, count_yes p y ys first, count_some p ys x there passes))
      | false ↦ λ first. find_one p ys x there passes (sym (count_no p y ys first) ∙ one)
    ] refl

-- where none passes, none is found
find_none : {X : Type 0} (p : X → Bool) (xs : List X) → count_by p xs ≡ 0 → find p xs ≡ None
find_none p [] none = refl
find_none p (y ∷ ys) none = elim (p y) as (λ b. p y ≡ b → cond b (Some y) (find p ys) ≡ None) [
  | true ↦ λ first. absurd (omega (arith, count_yes p y ys first))
  | false ↦ λ first. find_none p ys (sym (count_no p y ys first) ∙ none)
] refl

-- numbers that are all above another one are not counted as it
none_above : {X : Type 0} (key : X → ℕ) (i : ℕ) (xs : List X) → All (λ x. i < key x) xs → count_by (λ x. key x == i) xs ≡ 0
none_above key i [] above = refl
none_above key i (x ∷ xs) above =
    count_no (λ y. key y == i) x xs (differ_above (key x) i (All-head (λ y. i < key y) x xs above)) ∙ none_above key i xs (All-tail (λ y. i < key y) x xs above)

-- the least key that is there is that of the first element
record Headed {X : Type 0} (key : X → ℕ) (i : ℕ) (xs : List X) : Type 0 where
  pub head : X
  pub rest : List X
  pub is : xs ≡ head ∷ rest
  pub key_is : key head ≡ i

head_is : {X : Type 0} (key : X → ℕ) (i : ℕ) (xs : List X) → IsNonDecreasingBy key xs → ((k : ℕ) → k < i → count_by (λ x. key x == k) xs ≡ 0)
    → 0 < count_by (λ x. key x == i) xs → Headed key i xs
head_is key i [] up early some = absurd (omega arith)
head_is key i (x ∷ xs) up early some = elim (key x == i) as (λ b. (key x == i) ≡ b → Headed key i (x ∷ xs)) [
  | true ↦ λ same. record { head = x; rest = xs; is = refl; key_is = is_of (key x) i same }
  | false ↦ λ differs. absurd (elsewhere (apart (key x) i differs))
] refl
  where
    apart : (a b : ℕ) → (a == b) ≡ false → (a < b) ⊎ (b < a)
    apart a b h = elim (nat_lt a b) as (λ t. nat_lt a b ≡ t → (a < b) ⊎ (b < a)) [
      | true ↦ λ t. inl (below a b t)
      | false ↦ λ t. inr (beyond a b h t)
    ] refl
      where
        below : (a b : ℕ) → nat_lt a b ≡ true → a < b
        below a b t = grind (arith, nat_tests)

        beyond : (a b : ℕ) → (a == b) ≡ false → nat_lt a b ≡ false → b < a
        beyond a b h t = grind (arith, nat_tests)

    elsewhere : (key x < i) ⊎ (i < key x) → ⊥
    elsewhere (inl below) = omega (arith, early (key x) below, count_yes (λ y. key y == key x) x xs (eq_of (key x) (key x) refl))
    elsewhere (inr above) = omega (
      arith,
      none_above key i (x ∷ xs) (λ k d within.
          let first : key x ≤ key (get_or (x ∷ xs) k d) = up 0 k d (omega arith) within in omega arith),
    )

-- what a list has from a place on
drop_head : {X : Type 0} (n : ℕ) (xs : List X) (x : X) (rest : List X) → drop n xs ≡ x ∷ rest → (slice_get xs n ≡ Some x) × (drop (n + 1) xs ≡ rest)
drop_head zero [] x rest is = absurd (cc)
drop_head zero (y ∷ ys) x rest is = (cc, cc)
drop_head (suc n) [] x rest is = absurd (cc)
drop_head (suc n) (y ∷ ys) x rest is =
    let later = drop_head n ys x rest is in
    let next : suc n + 1 ≡ suc (n + 1) = omega arith in
    (later.0, ap (λ m. drop m (y ∷ ys)) next ∙ later.1)

drop_none : {X : Type 0} (n : ℕ) (xs : List X) → drop n xs ≡ [] → slice_get xs n ≡ None
drop_none n [] is = refl
drop_none zero (y ∷ ys) is = absurd (cc)
drop_none (suc n) (y ∷ ys) is = drop_none n ys is

-- the places of a list, counted by what stands there
count_places : {X : Type 0} (f : ℕ → Bool) (g : X → Bool) (a : ℕ) (xs : List X) → ((i : ℕ) (x : X) → slice_get xs i ≡ Some x → f (a + i) ≡ g x)
    → count_by f (range_with_len a (length xs)) ≡ count_by g xs
count_places f g a [] same = refl
count_places f g a (x ∷ xs) same =
    let first : f a ≡ g x = ap f (omega arith) ∙ same 0 x refl in
    let rest = count_places f g (a + 1) xs (λ i y there. ap f (omega arith) ∙ same (suc i) y there) in
    count-cons f a (range_with_len (a + 1) (length xs)) ∙ ap (λ (b : Bool). cond b 1 0 + count_by f (range_with_len (a + 1) (length xs))) first
    ∙ ap (λ n. cond (g x) 1 0 + n) rest ∙ sym (count-cons g x xs)

module _ (entries : List Entry) (all : List Refusal) (caller : ℕ) where
  -- an entry of the caller stands at a place
  pub record Holds (place : ℕ) : Type 0 where
    pub entry : Entry
    pub there : slice_get entries place ≡ Some entry
    pub of_caller : entry.caller ≡ caller

  -- a refusal is one of the caller
  pub record IsOf (refusal : Refusal) : Type 0 where
    pub there : Contains all refusal
    pub of_caller : refusal.caller ≡ caller

  -- what is left of the caller's places and refusals from an index on
  pub record Left (index : ℕ) (places : List ℕ) (refusals : List Refusal) : Type 0 where
    pub up_places : IsNonDecreasingBy (index_at entries) places
    pub up_refusals : IsNonDecreasingBy (λ (r : Refusal). r.index) refusals
    pub hold : All Holds places
    pub are_of : All IsOf refusals
    pub no_places : (k : ℕ) → k < index → count_by (λ p. index_at entries p == k) places ≡ 0
    pub no_refusals : (k : ℕ) → k < index → count_by (λ (r : Refusal). r.index == k) refusals ≡ 0
    pub places_left : (k : ℕ) → index ≤ k → count_by (λ p. index_at entries p == k) places ≡ runs_of caller k entries
    pub refusals_left : (k : ℕ) → index ≤ k → count_by (λ (r : Refusal). r.index == k) refusals ≡ refusals_of caller k all

  -- whose turn it is at an index
  data Turn (index : ℕ) (places : List ℕ) (refusals : List Refusal) : Type 0 where
    answered : (place : ℕ) (rest : List ℕ) → places ≡ place ∷ rest → Holds place → index_at entries place ≡ index
        → runs_of caller index entries ≡ 1 → refusals_of caller index all ≡ 0 → Turn index places refusals
    refused : (refusal : Refusal) (rest : List Refusal) → refusals ≡ refusal ∷ rest → IsOf refusal → refusal.index ≡ index
        → runs_of caller index entries ≡ 0 → refusals_of caller index all ≡ 1 → Turn index places refusals

  turn : (index : ℕ) (places : List ℕ) (refusals : List Refusal) → Left index places refusals → runs_of caller index entries + refusals_of caller index all ≡ 1 → Turn index places refusals
  turn index places refusals left once = elim (nat_lt 0 (runs_of caller index entries)) as (λ b. nat_lt 0 (runs_of caller index entries) ≡ b → Turn index places refusals) [
    | true ↦ λ some.
        let runs : 0 < runs_of caller index entries = positive _ some in
        let found = head_is (index_at entries) index places left.up_places left.no_places (omega (arith, left.places_left index (omega arith))) in
        answered found.head found.rest found.is (All-head Holds found.head found.rest (subst (All Holds) found.is left.hold)) found.key_is (omega arith) (omega arith)
    | false ↦ λ none.
        let runs : runs_of caller index entries ≡ 0 = zero_of _ none in
        let found = head_is (λ (r : Refusal). r.index) index refusals left.up_refusals left.no_refusals (omega (arith, left.refusals_left index (omega arith))) in
        refused found.head found.rest found.is (All-head IsOf found.head found.rest (subst (All IsOf) found.is left.are_of)) found.key_is runs (omega arith)
  ] refl
    where
      positive : (n : ℕ) → nat_lt 0 n ≡ true → 0 < n
      positive n h = grind (arith, nat_tests)

      zero_of : (n : ℕ) → nat_lt 0 n ≡ false → n ≡ 0
      zero_of n h = grind (arith, nat_tests)

  -- the rest of the places, once the first was told
  after_place : (index place : ℕ) (rest : List ℕ) (refusals : List Refusal) → Left index (place ∷ rest) refusals → index_at entries place ≡ index
      → runs_of caller index entries ≡ 1 → refusals_of caller index all ≡ 0 → Left (index + 1) rest refusals
  after_place index place rest refusals left is runs none = record {
    up_places = λ i j d le within. left.up_places (suc i) (suc j) d (omega arith) (omega arith);
    up_refusals = left.up_refusals;
    hold = All-tail Holds place rest left.hold;
    are_of = left.are_of;
    no_places = λ k below. elim (k == index) as (λ b. (k == index) ≡ b → count_by (λ p. index_at entries p == k) rest ≡ 0) [
      | true ↦ λ t.
          let same : k ≡ index = is_of k index t in
          omega (arith, count_yes (λ p. index_at entries p == k) place rest (eq_of (index_at entries place) k (is ∙ sym same)), left.places_left k (omega arith), ap (λ n. runs_of caller n entries) same)
      | false ↦ λ t. omega (arith, count_rest (λ p. index_at entries p == k) place rest, left.no_places k (earlier k index below t))
    ] refl;
    no_refusals = λ k below. elim (k == index) as (λ b. (k == index) ≡ b → count_by (λ (r : Refusal). r.index == k) refusals ≡ 0) [
      | true ↦ λ t.
          let same : k ≡ index = is_of k index t in
          left.refusals_left k (omega arith) ∙ ap (λ n. refusals_of caller n all) same ∙ none
      | false ↦ λ t. left.no_refusals k (earlier k index below t)
    ] refl;
    places_left = λ k from. sym (count_no (λ p. index_at entries p == k) place rest (differ_below (index_at entries place) k (omega arith))) ∙ left.places_left k (omega arith);
    refusals_left = λ k from. left.refusals_left k (omega arith);
  }
    where
      earlier : (k index : ℕ) → k < index + 1 → (k == index) ≡ false → k < index
      earlier k index below t = grind (arith, nat_tests)

  -- the rest of the refusals, once the first was told
  after_refusal : (index : ℕ) (refusal : Refusal) (places : List ℕ) (rest : List Refusal) → Left index places (refusal ∷ rest) → refusal.index ≡ index
      → runs_of caller index entries ≡ 0 → refusals_of caller index all ≡ 1 → Left (index + 1) places rest
  after_refusal index refusal places rest left is none one = record {
    up_places = left.up_places;
    up_refusals = λ i j d le within. left.up_refusals (suc i) (suc j) d (omega arith) (omega arith);
    hold = left.hold;
    are_of = All-tail IsOf refusal rest left.are_of;
    no_places = λ k below. elim (k == index) as (λ b. (k == index) ≡ b → count_by (λ p. index_at entries p == k) places ≡ 0) [
      | true ↦ λ t.
          let same : k ≡ index = is_of k index t in
          left.places_left k (omega arith) ∙ ap (λ n. runs_of caller n entries) same ∙ none
      | false ↦ λ t. left.no_places k (earlier k index below t)
    ] refl;
    no_refusals = λ k below. elim (k == index) as (λ b. (k == index) ≡ b → count_by (λ (r : Refusal). r.index == k) rest ≡ 0) [
      | true ↦ λ t.
          let same : k ≡ index = is_of k index t in
          omega (arith, count_yes (λ (r : Refusal). r.index == k) refusal rest (eq_of refusal.index k (is ∙ sym same)), left.refusals_left k (omega arith), ap (λ n. refusals_of caller n all) same)
      | false ↦ λ t. omega (arith, count_rest (λ (r : Refusal). r.index == k) refusal rest, left.no_refusals k (earlier k index below t))
    ] refl;
    places_left = λ k from. left.places_left k (omega arith);
    refusals_left = λ k from. sym (count_no (λ (r : Refusal). r.index == k) refusal rest (differ_below refusal.index k (omega arith))) ∙ left.refusals_left k (omega arith);
  }
    where
      earlier : (k index : ℕ) → k < index + 1 → (k == index) ≡ false → k < index
      earlier k index below t = grind (arith, nat_tests)

  -- the entry at a place of its index gives its answer
  answer_there : (index place : ℕ) (holds : Holds place) → index_at entries place ≡ index → answer_with index (slice_get entries place) ≡ Some holds.entry.answer
  answer_there index place holds is =
      let same : holds.entry.index ≡ index = sym (ap (λ (e : Option Entry). option_map_or (λ (entry : Entry). entry.index) e 0) holds.there) ∙ is in
      ap (answer_with index) holds.there ∙ ap (λ (b : Bool). if b then Some holds.entry.answer else None) (eq_of holds.entry.index index same)

  -- the entry at a place of another index gives none
  answer_elsewhere : (index place : ℕ) → Holds place → (index_at entries place == index) ≡ false → answer_with index (slice_get entries place) ≡ None
  answer_elsewhere index place holds differs =
      let other : (holds.entry.index == index) ≡ false = sym (ap (λ (e : Option Entry). option_map_or (λ (entry : Entry). entry.index) e 0 == index) holds.there) ∙ differs in
      ap (answer_with index) holds.there ∙ ap (λ (b : Bool). if b then Some holds.entry.answer else None) other

  no_answer : (index told : ℕ) (places : List ℕ) (refusals : List Refusal) → Left index (drop told places) refusals → runs_of caller index entries ≡ 0
      → answer_at entries index (slice_get places told) ≡ None
  no_answer index told places refusals left none = elim (drop told places) as (λ l. drop told places ≡ l → answer_at entries index (slice_get places told) ≡ None) [
    | [] ↦ λ is. ap (answer_at entries index) (drop_none told places is)
    | ◌∷◌ place rest ↦ λ is.
        let at = (drop_head told places place rest is).0 in
        let holds = All-head Holds place rest (subst (All Holds) is left.hold) in
        let count : count_by (λ p. index_at entries p == index) (place ∷ rest) ≡ 0
        = sym (ap (count_by (λ p. index_at entries p == index)) is) ∙ left.places_left index (omega arith) ∙ none in
        let differs : (index_at entries place == index) ≡ false = no_count place rest count in
        ap (answer_at entries index) at ∙ answer_elsewhere index place holds differs
  ] refl
    where
      no_count : (place : ℕ) (rest : List ℕ) → count_by (λ p. index_at entries p == index) (place ∷ rest) ≡ 0 → (index_at entries place == index) ≡ false
      no_count place rest count = elim (index_at entries place == index) as (λ b. (index_at entries place == index) ≡ b → b ≡ false) [
        | true ↦ λ t. absurd (omega (arith, count_yes (λ p. index_at entries p == index) place rest t))
        | false ↦ λ t. refl
      ] refl

  contains_at : {X : Type 0} (xs : List X) (n : ℕ) (x : X) → slice_get xs n ≡ Some x → Contains xs x
  contains_at [] n x there = absurd (cc)
  contains_at (y ∷ ys) zero x there = (0, omega arith, cc)
  contains_at (y ∷ ys) (suc n) x there = let later = contains_at ys n x there in (suc later.0, omega (arith, later.1), later.2)

  both : (a b c d : ℕ) → a ≡ b → c ≡ d → ((a == b) && (c == d)) ≡ true
  both a b c d first second = ap (λ (t : Bool). t && (c == d)) (eq_of a b first) ∙ eq_of c d second

  module _ (places : List ℕ) (refusals : List Refusal) (index told passed : ℕ) (left : Left index (drop told places) (drop passed refusals))
      (once : runs_of caller index entries + refusals_of caller index all ≡ 1) where
    answer_now : Option Answer
    answer_now = answer_at entries index (slice_get places told)

    -- what the two lists give is what is to be told of the operation with this index
    pub told_same : told_text (answer_at entries index (slice_get places told)) (slice_get refusals passed) ≡ outcome_text entries all caller index
    told_same = elim (turn index (drop told places) (drop passed refusals) left once) [
      | answered place rest is holds at runs none ↦
          let answer : answer_at entries index (slice_get places told) ≡ Some holds.entry.answer
          = ap (answer_at entries index) (drop_head told places place rest is).0 ∙ answer_there index place holds at in
          let same : holds.entry.index ≡ index = sym (ap (λ (e : Option Entry). option_map_or (λ (entry : Entry). entry.index) e 0) holds.there) ∙ at in
          let found : find (is_entry_of caller index) entries ≡ Some holds.entry
          = find_one (is_entry_of caller index) entries holds.entry (contains_at entries place holds.entry holds.there) (both _ _ _ _ holds.of_caller same) runs in
          ap (λ (a : Option Answer). told_text a (slice_get refusals passed)) answer
          ∙ sym (ap (λ (e : Option Entry). told_text (option_map (λ (entry : Entry). entry.answer) e) (find (is_refusal_of caller index) all)) found)
      | refused refusal rest is owned at none one ↦
          let answer : answer_at entries index (slice_get places told) ≡ None = no_answer index told places (drop passed refusals) left none in
          let there : slice_get refusals passed ≡ Some refusal = (drop_head passed refusals refusal rest is).0 in
          let found : find (is_refusal_of caller index) all ≡ Some refusal
          = find_one (is_refusal_of caller index) all refusal owned.there (both _ _ _ _ owned.of_caller at) one in
          let absent : find (is_entry_of caller index) entries ≡ None = find_none (is_entry_of caller index) entries none in
          ap (λ (a : Option Answer). told_text a (slice_get refusals passed)) answer ∙ ap (told_text None) there
          ∙ sym (ap (λ (e : Option Entry). told_text (option_map (λ (entry : Entry). entry.answer) e) (find (is_refusal_of caller index) all)) absent ∙ ap (told_text None) found)
    ]

    -- where an answer was told, the places go on
    pub next_told : is_some (answer_at entries index (slice_get places told)) ≡ true → Left (index + 1) (drop (told + 1) places) (drop passed refusals)
    next_told some = elim (turn index (drop told places) (drop passed refusals) left once) [
      | answered place rest is holds at runs none ↦
          subst (λ l. Left (index + 1) l (drop passed refusals)) (sym (drop_head told places place rest is).1)
          (after_place index place rest (drop passed refusals) (subst (λ l. Left index l (drop passed refusals)) is left) at runs none)
      | refused refusal rest is owned at none one ↦
          let no : is_some (answer_at entries index (slice_get places told)) ≡ false = ap (λ (a : Option Answer). is_some a) (no_answer index told places (drop passed refusals) left none) in
          absurd (cc)
    ]

    -- where none was, the refusals go on
    pub next_passed : is_some (answer_at entries index (slice_get places told)) ≡ false → Left (index + 1) (drop told places) (drop (passed + 1) refusals)
    next_passed not_some = elim (turn index (drop told places) (drop passed refusals) left once) [
      | answered place rest is holds at runs none ↦
          let some : is_some (answer_at entries index (slice_get places told)) ≡ true
          = ap (λ (a : Option Answer). is_some a) (ap (answer_at entries index) (drop_head told places place rest is).0 ∙ answer_there index place holds at) in
          absurd (cc)
      | refused refusal rest is owned at none one ↦
          subst (λ l. Left (index + 1) (drop told places) l) (sym (drop_head passed refusals refusal rest is).1)
          (after_refusal index refusal (drop told places) rest (subst (λ l. Left index (drop told places) l) is left) at none one)
    ]

  -- before the first operation all are left
  pub left_first : (places : List ℕ) (refusals : List Refusal) → ArePlacesOf entries caller places → AreRefusalsOf all caller refusals
      → runs_of caller 0 entries + refusals_of caller 0 all ≡ 0 → Left 1 places refusals
  left_first places refusals are those none =
      let runs : (k : ℕ) → count_by (λ p. index_at entries p == k) places ≡ runs_of caller k entries
      = λ k. count-moves (λ p. index_at entries p == k) (places_of entries caller) places are.each_once
      ∙ count-filter (λ p. caller_at entries p == caller) (λ p. index_at entries p == k) (range_with_len 0 (length entries))
      ∙ count_places (λ p. (caller_at entries p == caller) && (index_at entries p == k)) (is_entry_of caller k) 0 entries
      (λ i e there. ap (λ (o : Option Entry). (option_map_or (λ (entry : Entry). entry.caller) o 0 == caller) && (option_map_or (λ (entry : Entry). entry.index) o 0 == k))
      (ap (slice_get entries) (omega arith) ∙ there)) in
      let turned : (k : ℕ) → count_by (λ (r : Refusal). r.index == k) refusals ≡ refusals_of caller k all
      = λ k. ap (count_by (λ (r : Refusal). r.index == k)) those.those ∙ count-filter (λ (r : Refusal). r.caller == caller) (λ (r : Refusal). r.index == k) all in
      record {
        up_places = are.in_order;
        up_refusals = those.in_order;
        hold = All-permutation Holds (places_of entries caller) places are.each_once held;
        are_of = subst (All IsOf) (sym those.those) owned;
        no_places = λ k below. let zero_is : k ≡ 0 = omega arith in runs k ∙ ap (λ n. runs_of caller n entries) zero_is ∙ omega arith;
        no_refusals = λ k below. let zero_is : k ≡ 0 = omega arith in turned k ∙ ap (λ n. refusals_of caller n all) zero_is ∙ omega arith;
        places_left = λ k from. runs k;
        refusals_left = λ k from. turned k;
      }
    where
      below : All (λ place. place < length entries) (range_with_len 0 (length entries))
      below k d within =
          let inside : k < length entries = omega (arith, length-range_with_len 0 (length entries)) in
          omega (arith, get_or-range_with_len 0 (length entries) k d inside)

      there_of : (xs : List Entry) (n : ℕ) → n < length xs → (x : Entry) × (slice_get xs n ≡ Some x)
      there_of [] n within = absurd (omega arith)
      there_of (x ∷ xs) zero within = (x, refl)
      there_of (x ∷ xs) (suc n) within = there_of xs n (omega arith)

      held : All Holds (places_of entries caller)
      held k d within =
          let inside = All-filter (λ place. caller_at entries place == caller) (λ place. place < length entries) (range_with_len 0 (length entries)) below k d within in
          let of_it = filter_passes (λ place. caller_at entries place == caller) (range_with_len 0 (length entries)) k d within in
          let found = there_of entries (get_or (places_of entries caller) k d) inside in
          record {
            entry = found.0;
            there = found.1;
            of_caller = sym (ap (λ (e : Option Entry). option_map_or (λ (entry : Entry). entry.caller) e 0) found.1) ∙ is_of (caller_at entries (get_or (places_of entries caller) k d)) caller of_it;
          }

      owned : All IsOf (refusals_by caller all)
      owned k d within =
          let kept = All-filter (λ (r : Refusal). r.caller == caller) (Contains all) all (All-contains_itself all) k d within in
          let of_it = filter_passes (λ (r : Refusal). r.caller == caller) all k d within in
          record { there = kept; of_caller = is_of (get_or (refusals_by caller all) k d).caller caller of_it }

-- the refusals of a caller are those of its list
filter_all : (caller : ℕ) (rs : List Refusal) → All (λ (r : Refusal). r.caller ≡ caller) rs → refusals_by caller rs ≡ rs
filter_all caller [] of_it = refl
filter_all caller (r ∷ rs) of_it =
    ap (λ (b : Bool). cond b (r ∷ refusals_by caller rs) (refusals_by caller rs)) (eq_of r.caller caller (All-head (λ (r : Refusal). r.caller ≡ caller) r rs of_it))
    ∙ ap (λ l. r ∷ l) (filter_all caller rs (All-tail (λ (r : Refusal). r.caller ≡ caller) r rs of_it))

filter_none : (caller other : ℕ) (rs : List Refusal) → caller < other → All (λ (r : Refusal). r.caller ≡ other) rs → refusals_by caller rs ≡ []
filter_none caller other [] below of_it = refl
filter_none caller other (r ∷ rs) below of_it =
    let is : r.caller ≡ other = All-head (λ (r : Refusal). r.caller ≡ other) r rs of_it in
    ap (λ (b : Bool). cond b (r ∷ refusals_by caller rs) (refusals_by caller rs)) (differ_above r.caller caller (omega arith))
    ∙ filter_none caller other rs below (All-tail (λ (r : Refusal). r.caller ≡ other) r rs of_it)

filter_above : (caller other : ℕ) (rs : List Refusal) → other < caller → All (λ (r : Refusal). r.caller ≡ other) rs → refusals_by caller rs ≡ []
filter_above caller other [] above of_it = refl
filter_above caller other (r ∷ rs) above of_it =
    let is : r.caller ≡ other = All-head (λ (r : Refusal). r.caller ≡ other) r rs of_it in
    ap (λ (b : Bool). cond b (r ∷ refusals_by caller rs) (refusals_by caller rs)) (differ_below r.caller caller (omega arith))
    ∙ filter_above caller other rs above (All-tail (λ (r : Refusal). r.caller ≡ other) r rs of_it)

-- the lists have refusals of one caller each, from a caller on
abbrev AreFrom : ℕ → List (List Refusal) → Type 0
AreFrom first lists = (at : ℕ) (list : List Refusal) → slice_get lists at ≡ Some list → All (λ (r : Refusal). r.caller ≡ first + at) list

later : (first : ℕ) (list : List Refusal) (lists : List (List Refusal)) → AreFrom first (list ∷ lists) → AreFrom (first + 1) lists
later first list lists from at one there = let same : first + suc at ≡ first + 1 + at = omega arith in subst (λ n. All (λ (r : Refusal). r.caller ≡ n) one) same (from (suc at) one there)

none_from : (caller first : ℕ) (lists : List (List Refusal)) → caller < first → AreFrom first lists → refusals_by caller (joined lists) ≡ []
none_from caller first [] below from = refl
none_from caller first (list ∷ lists) below from =
    filter-append (λ (r : Refusal). r.caller == caller) list (joined lists)
    ∙ ap (λ l. l ++ refusals_by caller (joined lists)) (filter_none caller (first + 0) list (omega arith) (from 0 list refl))
    ∙ none_from caller (first + 1) lists (omega arith) (later first list lists from)

list_is : (caller first at : ℕ) (lists : List (List Refusal)) → caller ≡ first + at → AreFrom first lists
    → refusals_by caller (joined lists) ≡ option_map_or (λ l. l) (slice_get lists at) []
list_is caller first at [] is from = refl
list_is caller first zero (list ∷ lists) is from =
    filter-append (λ (r : Refusal). r.caller == caller) list (joined lists)
    ∙ ap (λ l. l ++ refusals_by caller (joined lists)) (filter_all caller list (subst (λ n. All (λ (r : Refusal). r.caller ≡ n) list) (sym is) (from 0 list refl)))
    ∙ ap (λ l. list ++ l) (none_from caller (first + 1) lists (omega arith) (later first list lists from)) ∙ append-nil list
list_is caller first (suc at) (list ∷ lists) is from =
    filter-append (λ (r : Refusal). r.caller == caller) list (joined lists)
    ∙ ap (λ l. l ++ refusals_by caller (joined lists)) (filter_above caller (first + 0) list (omega arith) (from 0 list refl))
    ∙ list_is caller (first + 1) at lists (omega arith) (later first list lists from)

module _ (lists : List (List Refusal)) (by_caller : AreByCaller lists) (caller : ℕ) (is_caller : 0 < caller) where
  from_one : AreFrom 1 lists
  from_one at list there = let same : at + 1 ≡ 1 + at = omega arith in subst (λ n. All (λ (r : Refusal). r.caller ≡ n) list) same (by_caller at list there).0

  pub listed : (list : List Refusal) → slice_get lists (caller - 1) ≡ Some list → AreRefusalsOf (joined lists) caller list
  listed list there = record {
    those = sym (list_is caller 1 (caller - 1) lists (omega arith) from_one ∙ ap (λ (o : Option (List Refusal)). option_map_or (λ l. l) o []) there);
    in_order = (by_caller (caller - 1) list there).1;
  }

  pub unlisted : slice_get lists (caller - 1) ≡ None → AreRefusalsOf (joined lists) caller []
  unlisted there = record {
    those = sym (list_is caller 1 (caller - 1) lists (omega arith) from_one ∙ ap (λ (o : Option (List Refusal)). option_map_or (λ l. l) o []) there);
    in_order = λ i j d le within. absurd (omega arith);
  }

-- the lines from an operation on begin with that of what the two lists give
module _ (entries : List Entry) (all : List Refusal) (caller : ℕ) (calls : List Call) (covers : (index : ℕ) → runs_of caller index entries + refusals_of caller index all ≡ one_if_there (call_at (calls ∷ []) 1 index)) where
  pub once : (i : ℕ) → i < length calls → runs_of caller (i + 1) entries + refusals_of caller (i + 1) all ≡ 1
  once i within =
      let next : i + 1 ≡ suc i = omega arith in
      let there : slice_get calls i ≡ Some (get_or calls i (record { op = 0; args = [] })) = slice_get-get_or calls i (record { op = 0; args = [] }) within in
      covers (i + 1) ∙ ap (λ n. one_if_there (call_at (calls ∷ []) 1 n)) next ∙ ap one_if_there there

  pub piece : (places : List ℕ) (refusals : List Refusal) (i told passed : ℕ) → Left entries all caller (i + 1) (drop told places) (drop passed refusals) → i < length calls
      → (answer : Option Answer) (refusal : Option Refusal) → answer ≡ answer_at entries (i + 1) (slice_get places told) → refusal ≡ slice_get refusals passed
      → each_from (λ index (call : Call). answer_line entries all caller index) (i + 1) (drop i calls)
      ≡ line_text caller (i + 1) (told_text answer refusal) ++ each_from (λ index (call : Call). answer_line entries all caller index) (i + 1 + 1) (drop (i + 1) calls)
  piece places refusals i told passed left within answer refusal is_answer is_refusal =
      let same : told_text answer refusal ≡ outcome_text entries all caller (i + 1)
      = ap (λ (a : Option Answer). told_text a refusal) is_answer ∙ ap (told_text (answer_at entries (i + 1) (slice_get places told))) is_refusal
      ∙ told_same entries all caller places refusals (i + 1) told passed left (once i within) in
      each_numbered (λ index (call : Call). answer_line entries all caller index) (i + 1) calls i (record { op = 0; args = [] }) within
      ∙ ap (λ text. line_text caller (i + 1) text ++ each_from (λ index (call : Call). answer_line entries all caller index) (i + 1 + 1) (drop (i + 1) calls)) (sym same)

-- what covers all files covers each caller's
pub covers_caller : (files : List (List Call)) (entries : List Entry) (all : List Refusal) → Covers files entries all → (i : ℕ) (calls : List Call) → i < length files → calls ≡ get_or files i calls
    → (index : ℕ) → runs_of (i + 1) index entries + refusals_of (i + 1) index all ≡ one_if_there (call_at (calls ∷ []) 1 index)
covers_caller files entries all covers i calls within is index =
    let next : i + 1 ≡ suc i = omega arith in
    let there : slice_get files i ≡ Some calls = slice_get-get_or files i calls within ∙ ap Some (sym is) in
    covers.once (i + 1) index ∙ ap (λ n. one_if_there (call_at files n index)) next ∙ same index there
  where
    same : (index : ℕ) → slice_get files i ≡ Some calls → one_if_there (call_at files (suc i) index) ≡ one_if_there (call_at (calls ∷ []) 1 index)
    same zero there = refl
    same (suc n) there = ap (λ (o : Option (List Call)). one_if_there (option_and_then (λ (calls : List Call). slice_get calls n) o)) there
