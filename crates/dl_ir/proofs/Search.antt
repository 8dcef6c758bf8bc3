-- What a binary search finds among sorted entries.
use Rattle.std.proofs.Common.{◌≡◌, ℕ, zero, suc, ◌-◌, ◌<◌, ◌≤◌, [], ◌∷◌, length, get_or, refl, sym, subst, ◌∙◌, T, Result, Ok, Err, IfOk, IfErr, inl, inr, arith}
use Rattle.std.specs.List.Sorted.{IsSearchInRange, IsBinarySearchResult, IsNonDecreasingBy, IsPartitionPoint}
use Rattle.std.specs.Ordering.{ordering_index}
use Rattle.std.specs.declared.cmp.Ordering.{Ordering}
use Rattle.std.specs.declared.cmp.Ordering.TheVariants.{Less, Equal, Greater}
use Rattle.std.specs.FinMap.{is_sorted}
use Rattle.std.specs.FinMap.Entries.{below_all}
use Rattle.std.proofs.lemmas.Bool.{cases_lt}
use Rattle.std.proofs.lemmas.Cmp.{alike_right}
use Rattle.dl_ir.specs.declared.names.Name.{Name}
use Rattle.dl_ir.specs.Heap.{name_cmp}
use Rattle.dl_ir.specs.Places.{IsAt, IsGap}
use Rattle.dl_ir.proofs.NameOrder.{names_total}
use Rattle.dl_ir.proofs.SortedEntries.{Held, first_of_both, second_of_both, is_less}

-- a name below all is below each
below_each : {X : Type 0} → (x : Name) (es : Held X) (at : ℕ) (d : Name × X) → T (below_all name_cmp x es) → at < length es → name_cmp x (get_or es at d).0 ≡ Less
below_each {X} x [] at d below within = absurd (omega arith)
below_each {X} x (e ∷ es) zero d below within = is_less _ (first_of_both _ _ below)
below_each {X} x (e ∷ es) (suc at) d below within = below_each x es at d (second_of_both _ _ below) (omega arith)

-- earlier names are lesser
pub earlier : {X : Type 0} → (es : Held X) (i j : ℕ) (d : Name × X) → T (is_sorted name_cmp es) → i < j → j < length es → name_cmp (get_or es i d).0 (get_or es j d).0 ≡ Less
earlier {X} [] i j d sorted before within = absurd (omega arith)
earlier {X} (e ∷ es) i zero d sorted before within = absurd (omega arith)
earlier {X} (e ∷ es) zero (suc j) d sorted before within = below_each e.0 es j d (first_of_both _ _ sorted) (omega arith)
earlier {X} (e ∷ es) (suc i) (suc j) d sorted before within = earlier es i j d (second_of_both _ _ sorted) (omega arith) (omega arith)

at_most_two : (r : Ordering) → ordering_index r ≤ 2
at_most_two Less = omega arith
at_most_two Equal = omega arith
at_most_two Greater = omega arith

pub rises : (x y k : Name) → name_cmp x y ≡ Less → ordering_index (name_cmp x k) ≤ ordering_index (name_cmp y k)
rises x y k less =
    elim (name_cmp y k) as (λ r. name_cmp y k ≡ r → ordering_index (name_cmp x k) ≤ ordering_index r) [
      | Less ↦ λ is. subst (λ r. ordering_index r ≤ 0) (sym (names_total.trans x y k less is)) (omega arith)
      | Equal ↦ λ is. subst (λ r. ordering_index r ≤ 1) (sym less ∙ alike_right names_total y k x is) (omega arith)
      | Greater ↦ λ is. at_most_two _
    ] refl

-- so the comparisons with a name rise along the entries
comparisons_rise : {X : Type 0} → (k : Name) (es : Held X) → T (is_sorted name_cmp es) → IsNonDecreasingBy (λ (e : Name × X). ordering_index (name_cmp e.0 k)) es
comparisons_rise {X} k es sorted i j d le within =
    let index = λ (at : ℕ). ordering_index (name_cmp (get_or es at d).0 k) in
    elim (cases_lt i j) [
      | inl before ↦ rises _ _ k (earlier es i j d sorted before within)
      | inr behind ↦ let same : i ≡ j = omega arith in subst (λ at. index i ≤ index at) same (omega arith)
    ]

-- an entry that ties is at its place
pub is_at : {X : Type 0} → (k : Name) (es : Held X) (at : ℕ) (d : Name × X) → T (is_sorted name_cmp es) → at < length es → name_cmp (get_or es at d).0 k ≡ Equal → IsAt k es at
is_at {X} k [] at d sorted within tied = absurd (omega arith)
is_at {X} k (e ∷ es) zero d sorted within tied = tied
is_at {X} k (e ∷ es) (suc at) d sorted within tied =
    let before = below_each e.0 es at d (first_of_both _ _ sorted) (omega arith) in
    (sym (alike_right names_total _ k e.0 tied) ∙ before, is_at k es at d (second_of_both _ _ sorted) (omega arith) tied)

-- a name above the last is above all
above : {X : Type 0} → (k : Name) (e : Name × X) (es : Held X) (d : Name × X) → T (is_sorted name_cmp (e ∷ es)) → name_cmp (get_or (e ∷ es) (length es) d).0 k ≡ Less → IsGap k (e ∷ es) (suc (length es))
above {X} k e [] d sorted last = (last, tt)
above {X} k e (f ∷ es) d sorted last =
    let before : name_cmp e.0 (get_or (f ∷ es) (length es) d).0 ≡ Less = below_each e.0 (f ∷ es) (length es) d (first_of_both _ _ sorted) (omega arith) in
    (names_total.trans e.0 (get_or (f ∷ es) (length es) d).0 k before last, above k f es d (second_of_both _ _ sorted) last)

pub gap_above : {X : Type 0} → (k : Name) (es : Held X) (d : Name × X) → T (is_sorted name_cmp es) → 0 < length es → name_cmp (get_or es (length es - 1) d).0 k ≡ Less → IsGap k es (length es)
gap_above {X} k [] d sorted some last = absurd (omega arith)
gap_above {X} k (e ∷ es) d sorted some last =
    let at : length (e ∷ es) - 1 ≡ length es = omega arith in
    above k e es d sorted (subst (λ i. name_cmp (get_or (e ∷ es) i d).0 k ≡ Less) at last)

-- where those before are less and those behind greater there is a gap
pub is_gap : {X : Type 0} → (k : Name) (es : Held X) (at : ℕ) → at ≤ length es → IsPartitionPoint (λ (e : Name × X). name_cmp e.0 k ≡ Less) (λ (e : Name × X). name_cmp e.0 k ≡ Greater) es at → IsGap k es at
is_gap {X} k [] zero within parted = tt
is_gap {X} k [] (suc at) within parted = absurd (omega arith)
is_gap {X} k (e ∷ es) zero within parted = parted.1 zero e (omega arith) (omega arith)
is_gap {X} k (e ∷ es) (suc at) within parted =
    (parted.0 zero e (omega arith) (omega arith), is_gap k es at (omega arith) ((λ j d le lt. parted.0 (suc j) d (omega arith) (omega arith)), (λ j d le lt. parted.1 (suc j) d (omega arith) (omega arith))))

-- a binary search ends at the name, or at its gap
pub searched : {X : Type 0} → (k : Name) (es : Held X) (r : Result ℕ ℕ) → T (is_sorted name_cmp es) → IsSearchInRange r (length es) → IsBinarySearchResult (λ (e : Name × X). name_cmp e.0 k) es r → IfOk r (IsAt k es) × IfErr r (IsGap k es)
searched {X} k [] (Ok at) sorted within equal = absurd (omega arith)
searched {X} k (e ∷ es) (Ok at) sorted within equal = (is_at k (e ∷ es) at e sorted within (equal e), tt)
searched {X} k es (Err at) sorted within parted = (tt, is_gap k es at within (parted (comparisons_rise k es sorted)))
