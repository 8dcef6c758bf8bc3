-- Each operation of the files stands once, so that no more are carried out, and no more refused, than there are.
use Rattle.std.proofs.Common.{◌≡◌, ℕ, zero, suc, ◌+◌, ◌<◌, ◌≤◌, ◌==◌, ◌&&◌, Bool, cond, true, List, [], ◌∷◌, Option, Some, None, length, get_or, refl, sym, ap, ◌∙◌, inl, inr, ◌⊎◌, arith}
use Rattle.std.specs.Prelude.{All, AllPairs, count_by, sum_by, slice_get, option_and_then}
use Rattle.std.specs.List.Sorted.{IsNonDecreasingBy}
use Rattle.std.proofs.lemmas.Bool.{cases_lt}
use Rattle.std.proofs.lemmas.Bool.Decides.{nat_tests}
use Rattle.std.proofs.lemmas.Option.{same_Some, slice_get_within}
use Rattle.std.proofs.lemmas.List.Elements.{All-append, All-head, All-nil, All-tail, All-weaker}
use Rattle.std.proofs.lemmas.List.Sorted.{length_permutation}
use Rattle.std.proofs.lemmas.List.Sums.{sum_by-cons, get_or-le-sum_by}
use Rattle.dl_ir.specs.declared.answers.Entry.{Entry}
use Rattle.dl_ir.specs.declared.answers.Refusal.{Refusal}
use Rattle.dl_ir.specs.declared.calls.Call.{Call}
use Rattle.dl_ir.specs.Cover.{Covers, call_at, one_if_there}
use Rattle.dl_shape.specs.Rising.{in_rising}
use Rattle.dl_shape.proofs.Rising.{rising_moves}
use Rattle.dl_history.specs.Histories.{AreByCaller, joined}
use Rattle.dl_machine.proofs.Covering.{Pairwise, append_pairs, from_pairs, pairs}
use Rattle.dl_command.specs.Promise.{AreInOrder}

-- ---- sums over operations

-- the sum over the indexes from 1 to this one
abbrev up_to : (ℕ → ℕ) → ℕ → ℕ
up_to f zero = 0
up_to f (suc n) = f (suc n) + up_to f n

-- the sum over the operations of files, whose callers have the numbers from this one on
abbrev over : (ℕ → ℕ → ℕ) → ℕ → List (List Call) → ℕ
over f first [] = 0
over f first (calls ∷ rest) = up_to (f first) (length calls) + over f (suc first) rest

up_few : (f : ℕ → ℕ) (n : ℕ) → ((i : ℕ) → f i ≤ 1) → up_to f n ≤ n
up_few f zero few = omega arith
up_few f (suc n) few = let rest = up_few f n few in omega (arith, rest, few (suc n))

over_few : (f : ℕ → ℕ → ℕ) (first : ℕ) (files : List (List Call)) → ((c i : ℕ) → f c i ≤ 1) → over f first files ≤ sum_by length files
over_few f first [] few = omega arith
over_few f first (calls ∷ rest) few =
    let here = up_few (f first) (length calls) (few first) in
    let later = over_few f (suc first) rest few in
    omega (arith, here, later, sum_by-cons (λ (calls : List Call). length calls) calls rest)

up_adds : (f g h : ℕ → ℕ) (n : ℕ) → ((i : ℕ) → h i ≡ f i + g i) → up_to h n ≡ up_to f n + up_to g n
up_adds f g h zero adds = refl
up_adds f g h (suc n) adds = let rest = up_adds f g h n adds in omega (arith, rest, adds (suc n))

over_adds : (f g h : ℕ → ℕ → ℕ) (first : ℕ) (files : List (List Call)) → ((c i : ℕ) → h c i ≡ f c i + g c i) → over h first files ≡ over f first files + over g first files
over_adds f g h first [] adds = refl
over_adds f g h first (calls ∷ rest) adds =
    let here = up_adds (f first) (g first) (h first) (length calls) (adds first) in
    let later = over_adds f g h (suc first) rest adds in
    omega (arith, here, later)

up_has : (f : ℕ → ℕ) (n i : ℕ) → 0 < i → i ≤ n → f i ≤ up_to f n
up_has f zero i low high = absurd (omega (arith, low, high))
up_has f (suc n) i low high = elim (cases_lt n i) [
  | inl past ↦ (let one : f i ≡ f (suc n) = ap f {x = i} {y = suc n} (omega (arith, past, high)) in omega (arith, one))
  | inr below ↦ (let rest = up_has f n i low (omega (arith, below)) in omega (arith, rest))
]

over_has : (f : ℕ → ℕ → ℕ) (first : ℕ) (files : List (List Call)) (at i : ℕ) (calls : List Call) → slice_get files at ≡ Some calls → 0 < i → i ≤ length calls → f (first + at) i ≤ over f first files
over_has f first [] at i calls there low high = absurd (cc)
over_has f first (own ∷ rest) zero i calls there low high =
    let same : own ≡ calls = same_Some own calls there in
    let long : length own ≡ length calls = ap (λ (cs : List Call). length cs) same in
    let here = up_has (f first) (length own) i low (omega (arith, high, long)) in
    let number : f (first + 0) i ≡ f first i = ap (λ (c : ℕ). f c i) {x = first + 0} {y = first} (omega arith) in
    let more : over f first (own ∷ rest) ≡ up_to (f first) (length own) + over f (suc first) rest = refl in
    omega (arith, here, number, more)
over_has f first (own ∷ rest) (suc at) i calls there low high =
    let later = over_has f (suc first) rest at i calls there low high in
    let number : f (first + suc at) i ≡ f (suc first + at) i = ap (λ (c : ℕ). f c i) {x = first + suc at} {y = suc first + at} (omega arith) in
    let more : over f first (own ∷ rest) ≡ up_to (f first) (length own) + over f (suc first) rest = refl in
    omega (arith, later, number, more)

-- ---- elements that stand for operations

-- an operation of the files has this caller and index
record IsOperation (files : List (List Call)) (caller index : ℕ) : Type 0 where
  at : ℕ
  number : caller ≡ 1 + at
  calls : List Call
  there : slice_get files at ≡ Some calls
  from_one : 0 < index
  to_last : index ≤ length calls

is_operation : (files : List (List Call)) (caller index : ℕ) → 0 < one_if_there (call_at files caller index) → IsOperation files caller index
is_operation files zero index some = absurd (omega (arith, some))
is_operation files (suc at) zero some = absurd (omega (arith, some))
is_operation files (suc at) (suc i) some = by (slice_get files at) refl some
  where
    inner : (calls : List Call) → slice_get files at ≡ Some calls → (o : Option Call) → slice_get calls i ≡ o → 0 < one_if_there o → IsOperation files (suc at) (suc i)
    inner calls there None at_call some = absurd (omega (arith, some))
    inner calls there (Some call) at_call some =
        let below = slice_get_within calls i call at_call in
        record { at = at; number = omega arith; calls = calls; there = there; from_one = omega arith; to_last = omega (arith, below) }

    by : (o : Option (List Call)) → slice_get files at ≡ o → 0 < one_if_there (option_and_then (λ (calls : List Call). slice_get calls i) o) → IsOperation files (suc at) (suc i)
    by None there some = absurd (omega (arith, some))
    by (Some calls) there some = inner calls there (slice_get calls i) refl some

module _ {X : Type 0} (caller index : X → ℕ) where
  abbrev is_of : ℕ → ℕ → X → Bool
  is_of c i x = (caller x == c) && (index x == i)

  abbrev one_of : X → ℕ → ℕ → ℕ
  one_of x c i = cond (is_of c i x) 1 0

  own_one : (x : X) → one_of x (caller x) (index x) ≡ 1
  own_one x = let own : is_of (caller x) (index x) x ≡ true = grind (arith, nat_tests) in ap {B = ℕ} (λ b. cond b 1 0) own

  -- each of the elements stands for an operation
  counted : (files : List (List Call)) (xs : List X) → All (λ x. IsOperation files (caller x) (index x)) xs → length xs ≤ over (λ c i. count_by (is_of c i) xs) 1 files
  counted files [] all = omega arith
  counted files (x ∷ rest) all =
      let is = All-head (λ y. IsOperation files (caller y) (index y)) x rest all in
      let later = counted files rest (All-tail (λ y. IsOperation files (caller y) (index y)) x rest all) in
      let adds = over_adds (one_of x) (λ c i. count_by (is_of c i) rest) (λ c i. count_by (is_of c i) (x ∷ rest)) 1 files (λ c i. sum_by-cons (λ y. cond (is_of c i y) 1 0) x rest) in
      let has = over_has (one_of x) 1 files is.at (index x) is.calls is.there is.from_one is.to_last in
      let own : one_of x (1 + is.at) (index x) ≡ 1 = ap (λ (c : ℕ). one_of x c (index x)) (sym is.number) ∙ own_one x in
      omega (arith, later, adds, has, own)

  -- where no operation stands more than once, there are no more elements than operations
  few : (files : List (List Call)) (xs : List X) → ((c i : ℕ) → count_by (is_of c i) xs ≤ one_if_there (call_at files c i)) → length xs ≤ sum_by length files
  few files xs once =
      let all = counted files xs (λ k d lt.
      let x = get_or xs k d in
      let one = get_or-le-sum_by (λ y. cond (is_of (caller x) (index x) y) 1 0) xs k d lt in
      let there = once (caller x) (index x) in
      let own = own_one x in
      is_operation files (caller x) (index x) (omega (arith, one, there, own))) in
      let most = over_few (λ c i. count_by (is_of c i) xs) 1 files (λ c i. let there = once c i in let most = one_at_most (call_at files c i) in omega (arith, there, most)) in
      omega (arith, all, most)
    where
      one_at_most : (o : Option Call) → one_if_there o ≤ 1
      one_at_most None = omega arith
      one_at_most (Some call) = omega arith

-- no more operations are carried out than there are
pub few_entries : (files : List (List Call)) (lists : List (List Entry)) (refusals : List Refusal) → Covers files (in_rising (λ (entry : Entry). entry.ticket) (joined lists)) refusals
    → length (joined lists) ≤ sum_by length files
few_entries files lists refusals covers =
    let history = in_rising (λ (entry : Entry). entry.ticket) (joined lists) in
    let most = few (λ (entry : Entry). entry.caller) (λ (entry : Entry). entry.index) files history (λ c i. let once = covers.once c i in omega (arith, once)) in
    let same = length_permutation (joined lists) history (rising_moves (λ (entry : Entry). entry.ticket) (joined lists)) in
    omega (arith, most, same)

-- and no more are refused
pub few_refusals : (files : List (List Call)) (history : List Entry) (refusals : List Refusal) → Covers files history refusals → length refusals ≤ sum_by length files
few_refusals files history refusals covers =
    few (λ (refusal : Refusal). refusal.caller) (λ (refusal : Refusal). refusal.index) files refusals (λ c i. let once = covers.once c i in omega (arith, once))

-- ---- refusals in order

abbrev Precedes : Refusal → Refusal → Type 0
Precedes earlier later = (earlier.caller < later.caller) ⊎ ((earlier.caller ≡ later.caller) × (earlier.index ≤ later.index))

-- the lists have the refusals of one caller each, from this one on, in order of index
abbrev AreFrom : ℕ → List (List Refusal) → Type 0
AreFrom first lists = (at : ℕ) (list : List Refusal) → slice_get lists at ≡ Some list
    → All (λ (refusal : Refusal). refusal.caller ≡ first + at) list × IsNonDecreasingBy (λ (refusal : Refusal). refusal.index) list

later_lists : (first : ℕ) (list : List Refusal) (lists : List (List Refusal)) → AreFrom first (list ∷ lists) → AreFrom (suc first) lists
later_lists first list lists are at other there =
    let is = are (suc at) other there in
    (All-weaker (λ (refusal : Refusal). refusal.caller ≡ first + suc at) (λ (refusal : Refusal). refusal.caller ≡ suc first + at) (λ r own. omega (arith, own)) other is.0, is.1)

from_or_above : (first : ℕ) (lists : List (List Refusal)) → AreFrom first lists → All (λ (refusal : Refusal). first ≤ refusal.caller) (joined lists)
from_or_above first [] are = All-nil (λ (refusal : Refusal). first ≤ refusal.caller)
from_or_above first (list ∷ lists) are =
    All-append (λ (refusal : Refusal). first ≤ refusal.caller) list (joined lists)
    (All-weaker (λ (refusal : Refusal). refusal.caller ≡ first + 0) (λ (refusal : Refusal). first ≤ refusal.caller) (λ r own. omega (arith, own)) list (are 0 list refl).0)
    (All-weaker (λ (refusal : Refusal). suc first ≤ refusal.caller) (λ (refusal : Refusal). first ≤ refusal.caller) (λ r above. omega (arith, above)) (joined lists) (from_or_above (suc first) lists (later_lists first list lists are)))

own_order : (caller : ℕ) (list : List Refusal) → All (λ (refusal : Refusal). refusal.caller ≡ caller) list → IsNonDecreasingBy (λ (refusal : Refusal). refusal.index) list → AllPairs Precedes list
own_order caller list own up i j d less inside = inr (own i d (omega (arith, less, inside)) ∙ sym (own j d inside), up i j d (omega (arith, less)) inside)

in_order_from : (first : ℕ) (lists : List (List Refusal)) → AreFrom first lists → Pairwise Precedes (joined lists)
in_order_from first [] are = tt
in_order_from first (list ∷ lists) are =
    let own = are 0 list refl in
    let above = from_or_above (suc first) lists (later_lists first list lists are) in
    append_pairs Precedes list (joined lists) (from_pairs Precedes list (own_order (first + 0) list own.0 own.1)) (in_order_from (suc first) lists (later_lists first list lists are))
    (λ i d inside j e inside_later. inl (omega (arith, own.0 i d inside, above j e inside_later)))

-- the refusals of all callers stand by caller and index
pub joined_in_order : (lists : List (List Refusal)) → AreByCaller lists → AreInOrder (joined lists)
joined_in_order lists by_caller = pairs Precedes (joined lists) (in_order_from 1 lists (λ at list there.
    let is = by_caller at list there in
    (All-weaker (λ (refusal : Refusal). refusal.caller ≡ at + 1) (λ (refusal : Refusal). refusal.caller ≡ 1 + at) (λ r own. omega (arith, own)) list is.0, is.1)))
