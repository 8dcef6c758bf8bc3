-- What passes that have run their files kept covers the files.
use Rattle.std.proofs.Common.{◌≡◌, ℕ, zero, suc, ◌+◌, ◌<◌, ◌≤◌, ◌==◌, ◌&&◌, ◌⊎◌, inl, inr, Bool, cond, true, false, List, [], ◌∷◌, ◌++◌, refl, sym, ap, ◌∙◌, subst, Option, Some, None, arith, map}
use Rattle.std.specs.Prelude.{slice_get, count_by, All, AllPairs, get_or, nat_le, if◌then◌else◌}
use Rattle.std.proofs.lemmas.List.Sums.{sum_by-append, sum_by-cons}
use Rattle.std.proofs.lemmas.List.Elements.{All-head, All-tail, All-cons, All-nil, All-weaker, All-append}
use Rattle.std.proofs.lemmas.List.Sorted.{All-permutation}
use Rattle.std.proofs.lemmas.List.Kept.{AllPairs-cons}
use Rattle.std.proofs.lemmas.Bool.{ne_eqb}
use Rattle.dl_ir.specs.declared.answers.Entry.{Entry}
use Rattle.dl_ir.specs.declared.answers.Refusal.{Refusal}
use Rattle.dl_ir.specs.declared.calls.Call.{Call}
use Rattle.dl_ir.specs.Cover.{call_at, runs_of, refusals_of, one_if_there, Covers}
use Rattle.dl_shape.specs.Rising.{put_by, in_rising}
use Rattle.dl_shape.proofs.Rising.{put_moves}
use Rattle.dl_core.specs.Passes.{PassView, IsIdle, entries_in, refusals_in}
use Rattle.dl_ir.specs.declared.closed.Closed.{Closed}
use Rattle.dl_core.specs.Plans.{Plan, IsPlan}
use Rattle.dl_core.specs.Closing.{all_of, begun_on, history_left, AreDone, EndsOn, IsLawfulEnd}
use Rattle.dl_core.proofs.Names.{same_some}
use Rattle.dl_order.specs.Ends.{RunsClose}
use Rattle.dl_machine.specs.Files.{call_in, HasServed, RunsFiles, calls_on}
use Rattle.std.proofs.lemmas.Bool.{leb-true, leb-false}

-- putting in order changes no count
module _ {X : Type 0} (key : X → ℕ) (p : X → Bool) where
  count_put : (x : X) (xs : List X) → count_by p (put_by key x xs) ≡ count_by p (x ∷ xs)
  count_put x [] = refl
  count_put x (y ∷ rest) = elim (nat_le (key x) (key y)) as (λ b. count_by p (if b then x ∷ y ∷ rest else y ∷ put_by key x rest) ≡ count_by p (x ∷ y ∷ rest)) [
    | true ↦ refl
    | false ↦
        let one = sum_by-cons (λ z. cond (p z) 1 0) y (put_by key x rest) in
        let two = count_put x rest in
        let three = sum_by-cons (λ z. cond (p z) 1 0) x rest in
        let four = sum_by-cons (λ z. cond (p z) 1 0) x (y ∷ rest) in
        let five = sum_by-cons (λ z. cond (p z) 1 0) y rest in
        omega (arith, one, two, three, four, five)
  ]

  count_rising : (xs : List X) → count_by p (in_rising key xs) ≡ count_by p xs
  count_rising [] = refl
  count_rising (x ∷ rest) =
      let one = count_put x (in_rising key rest) in
      let two = sum_by-cons (λ z. cond (p z) 1 0) x (in_rising key rest) in
      let three = sum_by-cons (λ z. cond (p z) 1 0) x rest in
      let four = count_rising rest in
      omega (arith, one, two, three, four)

-- the first of two operations of a caller has the lower index and the lower ticket
abbrev IsBefore : Entry → Entry → Type 0
IsBefore a b = (a.index < b.index) × (a.ticket < b.ticket)

-- two operations of a caller are one before the other
abbrev Fits : Entry → Entry → Type 0
Fits a b = a.caller ≡ b.caller → IsBefore a b ⊎ IsBefore b a

-- in rising tickets, and for each caller in rising indexes
abbrev Stands : Entry → Entry → Type 0
Stands a b = (a.ticket ≤ b.ticket) × (a.caller ≡ b.caller → a.index < b.index)

abbrev pub Pairwise : {X : Type 0} → (X → X → Type 0) → List X → Type 0
Pairwise R [] = Unit {0}
Pairwise R (x ∷ xs) = All (R x) xs × Pairwise R xs

pub pairs : {X : Type 0} (R : X → X → Type 0) (xs : List X) → Pairwise R xs → AllPairs R xs
pairs R [] h = λ i j d before within. absurd (omega arith)
pairs R (x ∷ xs) h = AllPairs-cons R x xs h.0 (pairs R xs h.1)

tail_pairs : {X : Type 0} (R : X → X → Type 0) (x : X) (xs : List X) → AllPairs R (x ∷ xs) → AllPairs R xs
tail_pairs R x xs h = λ i j d before within. h (suc i) (suc j) d (omega arith) (omega arith)

head_pairs : {X : Type 0} (R : X → X → Type 0) (x : X) (xs : List X) → AllPairs R (x ∷ xs) → All (R x) xs
head_pairs R x xs h = λ i d within. h 0 (suc i) d (omega arith) (omega arith)

pub from_pairs : {X : Type 0} (R : X → X → Type 0) (xs : List X) → AllPairs R xs → Pairwise R xs
from_pairs R [] h = tt
from_pairs R (x ∷ xs) h = (head_pairs R x xs h, from_pairs R xs (tail_pairs R x xs h))

pub append_pairs : {X : Type 0} (R : X → X → Type 0) (xs ys : List X) → Pairwise R xs → Pairwise R ys → All (λ x. All (R x) ys) xs → Pairwise R (xs ++ ys)
append_pairs R [] ys hx hy across = hy
append_pairs R (x ∷ xs) ys hx hy across =
    (All-append (R x) xs ys hx.0 (All-head (λ z. All (R z) ys) x xs across), append_pairs R xs ys hx.1 hy (All-tail (λ z. All (R z) ys) x xs across))

abbrev key : Entry → ℕ
key entry = entry.ticket

first_stands : (x y : Entry) → x.ticket ≤ y.ticket → Fits x y → Stands x y
first_stands x y le fits = (le, λ same. elim (fits same) [ inl is ↦ is.0 | inr is ↦ (let later = is.1 in absurd (omega arith)) ])

last_stands : (x y : Entry) → y.ticket < x.ticket → Fits x y → Stands y x
last_stands x y below fits = (omega arith, λ same. elim (fits (sym same)) [ inl is ↦ (let later = is.1 in absurd (omega arith)) | inr is ↦ is.0 ])

put_stands : (x : Entry) (xs : List Entry) → All (Fits x) xs → Pairwise Stands xs → Pairwise Stands (put_by key x xs)
put_stands x [] fits stands = (All-nil (Stands x), tt)
put_stands x (y ∷ rest) fits stands = elim (nat_le (key x) (key y)) as (λ b. nat_le (key x) (key y) ≡ b → Pairwise Stands (if b then x ∷ y ∷ rest else y ∷ put_by key x rest)) [
  | true ↦ λ le.
      let under : x.ticket ≤ y.ticket = leb-true _ _ le in
      let behind : All (Stands x) rest = λ k d within. first_stands x (get_or rest k d) (let up = (stands.0 k d within).0 in omega arith) (All-tail (Fits x) y rest fits k d within) in
      (All-cons (Stands x) y rest (first_stands x y under (All-head (Fits x) y rest fits)) behind, stands)
  | false ↦ λ above.
      let over : y.ticket < x.ticket = leb-false _ _ above in (
        All-permutation (Stands y) _ _ (put_moves key x rest) (All-cons (Stands y) x rest (last_stands x y over (All-head (Fits x) y rest fits)) stands.0),
        put_stands x rest (All-tail (Fits x) y rest fits) stands.1,
      )
] refl

all_put : (P : Entry → Type 0) (xs : List Entry) → All P xs → All P (in_rising key xs)
all_put P [] h = h
all_put P (x ∷ rest) h = All-permutation P _ _ (put_moves key x (in_rising key rest)) (All-cons P x (in_rising key rest) (All-head P x rest h) (all_put P rest (All-tail P x rest h)))

rising_stands : (xs : List Entry) → Pairwise Fits xs → Pairwise Stands (in_rising key xs)
rising_stands [] fits = tt
rising_stands (x ∷ rest) fits = put_stands x (in_rising key rest) (all_put (Fits x) rest fits.0) (rising_stands rest fits.1)

-- the entries of one caller
own_fit : (xs : List Entry) → AllPairs IsBefore xs → Pairwise Fits xs
own_fit [] rises = tt
own_fit (x ∷ xs) rises = ((λ i d within same. inl (head_pairs IsBefore x xs rises i d within)), own_fit xs (tail_pairs IsBefore x xs rises))

no_test : (a b index of : ℕ) → (a ≡ b → ⊥) → cond {A = ℕ} ((a == b) && (of == index)) 1 0 ≡ 0
no_test a b index of apart = ap (λ (t : Bool). cond {A = ℕ} (t && (of == index)) 1 0) (ne_eqb a b apart)

-- other callers' entries and refusals are not counted
no_runs : (caller other index : ℕ) (xs : List Entry) → (other ≡ caller → ⊥) → All (λ (entry : Entry). entry.caller ≡ other) xs → runs_of caller index xs ≡ 0
no_runs caller other index [] apart own = refl
no_runs caller other index (x ∷ xs) apart own =
    let is : x.caller ≡ other = All-head (λ (entry : Entry). entry.caller ≡ other) x xs own in
    let one = sum_by-cons (λ (entry : Entry). cond {A = ℕ} ((entry.caller == caller) && (entry.index == index)) 1 0) x xs in
    let two = no_test x.caller caller index x.index (λ same. apart (sym is ∙ same)) in
    let three = no_runs caller other index xs apart (All-tail (λ (entry : Entry). entry.caller ≡ other) x xs own) in
    omega (arith, one, two, three)

no_refusals : (caller other index : ℕ) (xs : List Refusal) → (other ≡ caller → ⊥) → All (λ (refusal : Refusal). refusal.caller ≡ other) xs → refusals_of caller index xs ≡ 0
no_refusals caller other index [] apart own = refl
no_refusals caller other index (x ∷ xs) apart own =
    let is : x.caller ≡ other = All-head (λ (refusal : Refusal). refusal.caller ≡ other) x xs own in
    let one = sum_by-cons (λ (refusal : Refusal). cond {A = ℕ} ((refusal.caller == caller) && (refusal.index == index)) 1 0) x xs in
    let two = no_test x.caller caller index x.index (λ same. apart (sym is ∙ same)) in
    let three = no_refusals caller other index xs apart (All-tail (λ (refusal : Refusal). refusal.caller ≡ other) x xs own) in
    omega (arith, one, two, three)

-- each pass has run all of its calls, and the callers have the numbers from this one on
abbrev pub HaveRun : ℕ → List PassView → Type 0
HaveRun first [] = Unit {0}
HaveRun first (view ∷ views) = ((view.caller ≡ first) × HasServed view) × HaveRun (suc first) views

from_or_above : (first : ℕ) (views : List PassView) → HaveRun first views → All (λ (entry : Entry). first ≤ entry.caller) (all_of (map entries_in views))
from_or_above first [] h = All-nil (λ (entry : Entry). first ≤ entry.caller)
from_or_above first (view ∷ views) h =
    let is = h.0.0 in
    All-append (λ (entry : Entry). first ≤ entry.caller) (entries_in view) (all_of (map entries_in views))
    (All-weaker (λ (entry : Entry). entry.caller ≡ view.caller) (λ (entry : Entry). first ≤ entry.caller) (λ entry own. omega arith) (entries_in view) h.0.1.serves.own)
    (All-weaker (λ (entry : Entry). suc first ≤ entry.caller) (λ (entry : Entry). first ≤ entry.caller) (λ entry above. omega arith) (all_of (map entries_in views)) (from_or_above (suc first) views h.1))

all_fit : (first : ℕ) (views : List PassView) → HaveRun first views → Pairwise Fits (all_of (map entries_in views))
all_fit first [] h = tt
all_fit first (view ∷ views) h =
    let is = h.0.0 in
    let later = from_or_above (suc first) views h.1 in
    append_pairs Fits (entries_in view) (all_of (map entries_in views)) (own_fit (entries_in view) h.0.1.serves.rises) (all_fit (suc first) views h.1)
    (λ i d within j e within_later same. let mine = h.0.1.serves.own i d within in let above = later j e within_later in absurd (omega arith))

-- operations of the first callers' numbers are not among those of later ones
none_before : (first : ℕ) (views : List PassView) (caller index : ℕ) → HaveRun first views → caller < first
    → runs_of caller index (all_of (map entries_in views)) + refusals_of caller index (all_of (map refusals_in views)) ≡ 0
none_before first [] caller index h below = refl
none_before first (view ∷ views) caller index h below =
    let is = h.0.0 in
    let apart : view.caller ≡ caller → ⊥ = λ same. omega arith in
    let one = sum_by-append (λ (entry : Entry). cond {A = ℕ} ((entry.caller == caller) && (entry.index == index)) 1 0) (entries_in view) (all_of (map entries_in views)) in
    let two = sum_by-append (λ (refusal : Refusal). cond {A = ℕ} ((refusal.caller == caller) && (refusal.index == index)) 1 0) (refusals_in view) (all_of (map refusals_in views)) in
    let three = no_runs caller view.caller index (entries_in view) apart h.0.1.serves.own in
    let four = no_refusals caller view.caller index (refusals_in view) apart h.0.1.serves.own_refusals in
    let five = none_before (suc first) views caller index h.1 (omega arith) in
    omega (arith, one, two, three, four, five)

abbrev calls_of_view : Option PassView → ℕ → Option Call
calls_of_view None index = None
calls_of_view (Some view) index = call_in view.calls index

each_once : (first : ℕ) (views : List PassView) (after index : ℕ) → HaveRun first views
    → runs_of (first + after) index (all_of (map entries_in views)) + refusals_of (first + after) index (all_of (map refusals_in views)) ≡ one_if_there (calls_of_view (slice_get views after) index)
each_once first [] after index h = refl
each_once first (view ∷ views) zero index h =
    let is = h.0.0 in
    let caller : ℕ = first + 0 in
    let same : view.caller ≡ caller = omega arith in
    let one = sum_by-append (λ (entry : Entry). cond {A = ℕ} ((entry.caller == caller) && (entry.index == index)) 1 0) (entries_in view) (all_of (map entries_in views)) in
    let two = sum_by-append (λ (refusal : Refusal). cond {A = ℕ} ((refusal.caller == caller) && (refusal.index == index)) 1 0) (refusals_in view) (all_of (map refusals_in views)) in
    let mine : runs_of caller index (entries_in view) + refusals_of caller index (refusals_in view) ≡ one_if_there (call_in view.calls index)
    = subst (λ (c : ℕ). runs_of c index (entries_in view) + refusals_of c index (refusals_in view) ≡ one_if_there (call_in view.calls index)) same (h.0.1.serves.once index) in
    let later = none_before (suc first) views caller index h.1 (omega arith) in
    omega (arith, one, two, mine, later)
each_once first (view ∷ views) (suc after) index h =
    let is = h.0.0 in
    let caller : ℕ = first + suc after in
    let apart : view.caller ≡ caller → ⊥ = λ same. omega arith in
    let one = sum_by-append (λ (entry : Entry). cond {A = ℕ} ((entry.caller == caller) && (entry.index == index)) 1 0) (entries_in view) (all_of (map entries_in views)) in
    let two = sum_by-append (λ (refusal : Refusal). cond {A = ℕ} ((refusal.caller == caller) && (refusal.index == index)) 1 0) (refusals_in view) (all_of (map refusals_in views)) in
    let three = no_runs caller view.caller index (entries_in view) apart h.0.1.serves.own in
    let four = no_refusals caller view.caller index (refusals_in view) apart h.0.1.serves.own_refusals in
    let next : suc first + after ≡ caller = omega arith in
    let later : runs_of caller index (all_of (map entries_in views)) + refusals_of caller index (all_of (map refusals_in views)) ≡ one_if_there (calls_of_view (slice_get views after) index)
    = subst (λ (c : ℕ). runs_of c index (all_of (map entries_in views)) + refusals_of c index (all_of (map refusals_in views)) ≡ one_if_there (calls_of_view (slice_get views after) index)) next
    (each_once (suc first) views after index h.1) in
    omega (arith, one, two, three, four, later)

call_there : (views : List PassView) (after index : ℕ) → one_if_there (calls_of_view (slice_get views after) index) ≡ one_if_there (call_at (map (λ (view : PassView). view.calls) views) (suc after) index)
call_there [] after zero = refl
call_there [] after (suc index) = refl
call_there (view ∷ views) zero zero = refl
call_there (view ∷ views) zero (suc index) = refl
call_there (view ∷ views) (suc after) zero = call_there views after zero
call_there (view ∷ views) (suc after) (suc index) = call_there views after (suc index)

pub covers_from : (views : List PassView) → HaveRun 1 views
    → Covers (map (λ (view : PassView). view.calls) views) (in_rising key (all_of (map entries_in views))) (all_of (map refusals_in views))
covers_from views h = record {
  once = once;
  in_order = λ i j d before within. (pairs Stands (in_rising key (all_of (map entries_in views))) (rising_stands (all_of (map entries_in views)) (all_fit 1 views h)) i j d before within).1;
}
  where
    once : (caller index : ℕ) → runs_of caller index (in_rising key (all_of (map entries_in views))) + refusals_of caller index (all_of (map refusals_in views))
        ≡ one_if_there (call_at (map (λ (view : PassView). view.calls) views) caller index)
    once zero index =
        let one = count_rising key (λ (entry : Entry). (entry.caller == 0) && (entry.index == index)) (all_of (map entries_in views)) in
        let two = none_before 1 views 0 index h (omega arith) in
        omega (arith, one, two)
    once (suc after) index =
        let one = count_rising key (λ (entry : Entry). (entry.caller == suc after) && (entry.index == index)) (all_of (map entries_in views)) in
        let two : runs_of (suc after) index (all_of (map entries_in views)) + refusals_of (suc after) index (all_of (map refusals_in views)) ≡ one_if_there (calls_of_view (slice_get views after) index)
        = subst (λ (c : ℕ). runs_of c index (all_of (map entries_in views)) + refusals_of c index (all_of (map refusals_in views)) ≡ one_if_there (calls_of_view (slice_get views after) index)) (omega arith) (each_once 1 views after index h) in
        let three = call_there views after index in
        omega (arith, one, two, three)

done_from : (first : ℕ) (views : List PassView) → HaveRun first views → (at : ℕ) (view : PassView) → slice_get views at ≡ Some view → IsIdle view × (view.caller ≡ first + at)
done_from first [] h at view there = absurd (cc)
done_from first (one ∷ views) h zero view there =
    subst (λ (v : PassView). IsIdle v × (v.caller ≡ first + 0)) (same_some there) (h.0.1.idle, (let is = h.0.0 in omega (arith, is)))
done_from first (one ∷ views) h (suc at) view there = let later = done_from (suc first) views h.1 at view there in let number = later.1 in (later.0, omega (arith, number))

are_done : (views : List PassView) → HaveRun 1 views → AreDone views
are_done views h at view there = let is = done_from 1 views h at view there in let number = is.1 in (is.0, omega (arith, number))

-- what is left is what a run of the files leaves
pub is_run : RunsClose → (plan : Plan) (files : List (List Call)) (views : List PassView) (closed : Closed) → IsPlan plan → HaveRun 1 views → begun_on views ≡ files → EndsOn plan views closed → RunsFiles plan files closed
is_run close plan files views closed is run same on = record {
  covers = subst (λ (all : List (List Call)). Covers all (history_left closed) (all_of closed.refusals)) same
      (subst (λ (entries : List (List Entry)). Covers (begun_on views) (in_rising key (all_of entries)) (all_of closed.refusals)) (sym on.entries)
      (subst (λ (refusals : List (List Refusal)). Covers (begun_on views) (in_rising key (all_of (map entries_in views))) (all_of refusals)) (sym on.refusals) (covers_from views run)));
  lawful = subst (λ (all : List (List Call)). IsLawfulEnd plan all closed) same (close plan views closed is (are_done views run) on);
}

module _ {P : Type 0} (view : P → PassView) where
  pub have_run_from : (first : ℕ) (passes : List P) → ((at : ℕ) (pass : P) → slice_get passes at ≡ Some pass → HasServed (view pass) × ((view pass).caller ≡ first + at)) → HaveRun first (map view passes)
  have_run_from first [] each = tt
  have_run_from first (pass ∷ passes) each =
      let is = each 0 pass refl in
      let number = is.1 in
      ((omega arith, is.0), have_run_from (suc first) passes (λ at other there. let later = each (suc at) other there in let number = later.1 in (later.0, omega arith)))

  pub begun_same : (passes : List P) → begun_on (map view passes) ≡ calls_on view passes
  begun_same [] = refl
  begun_same (pass ∷ passes) = ap (λ calls. (view pass).calls ∷ calls) (begun_same passes)
