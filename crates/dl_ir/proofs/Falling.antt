-- Names that fall: where a search ends among them, and what an edit makes of the set.
use Rattle.std.proofs.Common.{◌≡◌, inl, inr, ℕ, zero, suc, ◌+◌, ◌-◌, ◌<◌, ◌≤◌, Bool, true, false, cond, not, List, [], ◌∷◌, ◌++◌, map, reverse, length, get_or, take, drop, refl, sym, ap, subst, ◌∙◌, T, None, Some, Result, Ok, Err, IfOk, IfErr, arith, append_assoc}
use Rattle.std.specs.List.{insert, remove, slice_get}
use Rattle.std.specs.List.Sorted.{IsSearchInRange, IsBinarySearchResult, IsNonDecreasingBy, IsPartitionPoint}
use Rattle.std.specs.Option.{option_map}
use Rattle.std.specs.Ordering.{ordering_index, ordering_reverse, eq_by_cmp, is_eq}
use Rattle.std.specs.declared.cmp.Ordering.{Ordering}
use Rattle.std.specs.declared.cmp.Ordering.TheVariants.{Less, Equal, Greater}
use Rattle.std.specs.FinMap as finite
use Rattle.std.specs.FinMap.{FinMap, find, is_sorted, get-from_sorted, get-remove, same_map, entries-from_sorted, len-entries}
use Rattle.std.specs.FinMap.Entries.{below_all, where_key, is_sorted-where_key, find-where_key}
use Rattle.std.proofs.Math.Seq.{drop-cons}
use Rattle.std.proofs.lemmas.Bool.{cases_lt}
use Rattle.std.proofs.lemmas.Cmp.{alike_right, eq_by_cmp_equiv}
use Rattle.std.proofs.lemmas.List.{map-append, reverse-append, get_or-reverse, get_or-map, length-map, length-reverse, length-drop, take-append-drop}
use Rattle.std.proofs.lemmas.Option.{slice_get-get_or}
use Rattle.std.proofs.lemmas.List.Edits.{length-insert, length-remove}
use Rattle.dl_ir.specs.declared.names.Name.{Name}
use Rattle.dl_ir.specs.Heap.{name_cmp}
use Rattle.dl_ir.specs.Places.{IsAt, IsGap}
use Rattle.dl_ir.specs.Marks.{rising, IsMarks}
use Rattle.dl_ir.proofs.NameOrder.{names_total, exact_names, less_turned, greater_turned, equal_turned}
use Rattle.dl_ir.proofs.SortedEntries.{Held, yes, holds, first_of_both, second_of_both, is_less}
use Rattle.dl_ir.proofs.Lookups.{same_or_not, got_put, got_beside}
use Rattle.dl_ir.proofs.Edits.{made, got, got_none, sorted-insert, made-insert}
use Rattle.dl_ir.proofs.Search.{is_at, is_gap, earlier, rises}

-- ---- names turned round

rising-append : (a b : List Name) → rising (a ++ b) ≡ rising b ++ rising a
rising-append a b = ap (map (λ (n : Name). (n, tt))) (reverse-append a b) ∙ map-append _ (reverse b) (reverse a)

length-rising : (ns : List Name) → length (rising ns) ≡ length ns
length-rising ns = length-map (reverse ns) _ ∙ length-reverse ns

get_or-rising : (ns : List Name) (at : ℕ) (e : Name × Unit {0}) → at < length ns → (get_or (rising ns) at e).0 ≡ get_or ns (length ns - 1 - at) e.0
get_or-rising ns at e within =
    ap (λ (x : Name × Unit {0}). x.0) (get_or-map (λ (n : Name). (n, tt)) (reverse ns) at e.0 e (omega (arith, length-reverse ns))) ∙ get_or-reverse ns at e.0 within

insert_between : {A : Type 0} (a b : List A) (x : A) → insert (a ++ b) (length a) x ≡ a ++ x ∷ b
insert_between [] b x = refl
insert_between {A} (y ∷ a) b x = ap (λ (l : List A). y ∷ l) (insert_between a b x)

remove_between : {A : Type 0} (a b : List A) (x : A) → remove (a ++ x ∷ b) (length a) ≡ a ++ b
remove_between [] b x = refl
remove_between {A} (y ∷ a) b x = ap (λ (l : List A). y ∷ l) (remove_between a b x)

-- the names with one between two parts, turned round
rising_between : (a b : List Name) (n : Name) → rising (a ++ n ∷ b) ≡ rising b ++ (n, tt) ∷ rising a
rising_between a b n =
    rising-append a (n ∷ b) ∙ ap (λ (l : List (Name × Unit {0})). l ++ rising a) (rising-append (n ∷ []) b) ∙ append_assoc (rising b) ((n, tt) ∷ []) (rising a)

module _ (ns : List Name) (at : ℕ) where
  rising-insert : (n : Name) → at ≤ length ns → rising (insert ns at n) ≡ insert (rising ns) (length ns - at) (n, tt)
  rising-insert n within =
      let a = rising (drop at ns) in
      let b = rising (take at ns) in
      let long : length a ≡ length ns - at = length-rising (drop at ns) ∙ length-drop at ns in
      rising_between (take at ns) (drop at ns) n
      ∙ sym (insert_between a b (n, tt))
      ∙ ap (λ i. insert (a ++ b) i (n, tt)) long
      ∙ ap (λ (l : List (Name × Unit {0})). insert l (length ns - at) (n, tt)) (sym (rising-append (take at ns) (drop at ns)) ∙ ap rising (take-append-drop at ns))

  rising-remove : (n : Name) → at < length ns → rising (remove ns at) ≡ remove (rising ns) (length ns - 1 - at)
  rising-remove n within =
      let a = rising (drop (suc at) ns) in
      let b = rising (take at ns) in
      let m = get_or ns at n in
      let long : length a ≡ length ns - 1 - at = length-rising (drop (suc at) ns) ∙ length-drop (suc at) ns ∙ omega arith in
      rising-append (take at ns) (drop (suc at) ns)
      ∙ sym (remove_between a b (m, tt))
      ∙ ap (λ i. remove (a ++ (m, tt) ∷ b) i) long
      ∙ ap (λ (l : List (Name × Unit {0})). remove l (length ns - 1 - at)) (sym (rising_between (take at ns) (drop (suc at) ns) m) ∙ ap (λ (l : List Name). rising (take at ns ++ l)) (sym (drop-cons ns at n within)) ∙ ap rising (take-append-drop at ns))

-- ---- search

-- what a comparison and the one turned round come to
two : (r : Ordering) → ordering_index (ordering_reverse r) + ordering_index r ≡ 2
two Less = refl
two Equal = refl
two Greater = refl

both_ways : (k n : Name) → ordering_index (name_cmp k n) + ordering_index (name_cmp n k) ≡ 2
both_ways k n = subst (λ r. ordering_index r + ordering_index (name_cmp n k) ≡ 2) (sym (names_total.antisymm k n)) (two (name_cmp n k))

module _ (k : Name) (ns : List Name) (falling : T (is_sorted name_cmp (rising ns))) where
  later_is_less : (i j : ℕ) (d : Name) → i < j → j < length ns → name_cmp (get_or ns j d) (get_or ns i d) ≡ Less
  later_is_less i j d before within =
      let back = λ (at : ℕ). length ns - 1 - at in
      let here_j : back (back j) ≡ j = omega arith in
      let here_i : back (back i) ≡ i = omega arith in
      let at_j = get_or-rising ns (back j) (d, tt) (omega arith) ∙ ap (λ at. get_or ns at d) here_j in
      let at_i = get_or-rising ns (back i) (d, tt) (omega arith) ∙ ap (λ at. get_or ns at d) here_i in
      let is = earlier (rising ns) (back j) (back i) (d, tt) falling (omega arith) (omega (arith, length-rising ns)) in
      sym (ap (λ n. name_cmp n (get_or ns i d)) at_j) ∙ sym (ap (λ n. name_cmp (get_or (rising ns) (back j) (d, tt)).0 n) at_i) ∙ is

  -- the comparisons of a name with them rise
  comparisons_rise : IsNonDecreasingBy (λ (n : Name). ordering_index (name_cmp k n)) ns
  comparisons_rise i j d le within =
      let index = λ (at : ℕ). ordering_index (name_cmp k (get_or ns at d)) in
      elim (cases_lt i j) [
        | inl before ↦
            let up = rises (get_or ns j d) (get_or ns i d) k (later_is_less i j d before within) in
            omega (arith, up, both_ways k (get_or ns i d), both_ways k (get_or ns j d))
        | inr behind ↦ let same : i ≡ j = omega arith in subst (λ at. index i ≤ index at) same (omega arith)
      ]

  -- one that ties is at its place
  at_place : (at : ℕ) (d : Name) → at < length ns → name_cmp k (get_or ns at d) ≡ Equal → IsAt k (rising ns) (length ns - 1 - at)
  at_place at d within tied =
      let back : length ns - 1 - (length ns - 1 - at) ≡ at = omega arith in
      let here = get_or-rising ns (length ns - 1 - at) (d, tt) (omega arith) ∙ ap (λ i. get_or ns i d) back in
      is_at k (rising ns) (length ns - 1 - at) (d, tt) falling (omega (arith, length-rising ns)) (ap (λ n. name_cmp n k) here ∙ equal_turned k _ tied)

  -- where those before are greater and those behind less there is a gap
  gap_between : (at : ℕ) → at ≤ length ns → IsPartitionPoint (λ (n : Name). name_cmp k n ≡ Less) (λ (n : Name). name_cmp k n ≡ Greater) ns at → IsGap k (rising ns) (length ns - at)
  gap_between at within parted = is_gap k (rising ns) (length ns - at) (omega (arith, length-rising ns)) (
    (λ j e le lt. ap (λ n. name_cmp n k) (get_or-rising ns j e (omega arith)) ∙ greater_turned k _ (parted.1 (length ns - 1 - j) e.0 (omega arith) (omega arith))),
    (λ j e le lt. let small : j < length ns = omega (arith, length-rising ns) in ap (λ n. name_cmp n k) (get_or-rising ns j e small) ∙ less_turned k _ (parted.0 (length ns - 1 - j) e.0 (omega arith) (omega arith))),
  )

  -- a binary search ends at the name, or at its gap
  pub searched : (r : Result ℕ ℕ) → IsSearchInRange r (length ns) → IsBinarySearchResult (λ (n : Name). name_cmp k n) ns r
      → IfOk r (λ at. (at < length ns) × IsAt k (rising ns) (length ns - 1 - at)) × IfErr r (λ at. (at ≤ length ns) × IsGap k (rising ns) (length ns - at))
  searched (Ok at) within equal = ((within, at_place at k within (equal k)), tt)
  searched (Err at) within parted = (tt, (within, gap_between at within (parted comparisons_rise)))

-- the last name is the first of them turned round
pub last_first : (ns : List Name) → slice_get ns (length ns - 1) ≡ option_map (λ (e : Name × Unit {0}). e.0) (slice_get (rising ns) 0)
last_first [] = refl
last_first (n ∷ ns) =
    let all = n ∷ ns in
    let back : length all - 1 - 0 ≡ length all - 1 = omega arith in
    slice_get-get_or all (length all - 1) n (omega arith)
    ∙ ap Some (sym (get_or-rising all 0 (n, tt) (omega arith) ∙ ap (λ i. get_or all i n) back))
    ∙ ap (option_map (λ (e : Name × Unit {0}). e.0)) (sym (slice_get-get_or (rising all) 0 (n, tt) (omega (arith, length-rising all))))

-- ---- what is removed

-- all that is above a name is kept without it
kept_all : {X : Type 0} (k x : Name) (es : Held X) → name_cmp k x ≡ Equal → T (below_all name_cmp x es) → es ≡ where_key name_cmp (λ n. not (eq_by_cmp name_cmp k n)) es
kept_all k x [] tied below = refl
kept_all {X} k x (e ∷ es) tied below =
    let kept = where_key name_cmp (λ n. not (eq_by_cmp name_cmp k n)) es in
    ap (λ (l : Held X). e ∷ l) (kept_all k x es tied (second_of_both _ _ below))
    ∙ ap (λ r. cond (not (is_eq r)) (e ∷ kept) kept) (sym (names_total.congr k x e.0 tied ∙ is_less _ (first_of_both _ _ below)))

removed_at : {X : Type 0} (k : Name) (es : Held X) (at : ℕ) → T (is_sorted name_cmp es) → IsAt k es at → remove es at ≡ where_key name_cmp (λ n. not (eq_by_cmp name_cmp k n)) es
removed_at k [] at sorted is = absurd is
removed_at k (e ∷ es) zero sorted is =
    let kept = where_key name_cmp (λ n. not (eq_by_cmp name_cmp k n)) es in
    kept_all k e.0 es (equal_turned e.0 k is) (first_of_both _ _ sorted)
    ∙ ap (λ r. cond (not (is_eq r)) (e ∷ kept) kept) (sym (equal_turned e.0 k is))
removed_at {X} k (e ∷ es) (suc at) sorted is =
    let kept = where_key name_cmp (λ n. not (eq_by_cmp name_cmp k n)) es in
    ap (λ (l : Held X). e ∷ l) (removed_at k es at (second_of_both _ _ sorted) is.1)
    ∙ ap (λ r. cond (not (is_eq r)) (e ∷ kept) kept) (sym (less_turned e.0 k is.0))

flipped : {A : Type 0} (b : Bool) (x y : A) → cond (not b) x y ≡ cond b y x
flipped true x y = refl
flipped false x y = refl

module _ {X : Type 0} (k : Name) (es : Held X) (at : ℕ) (sorted : T (is_sorted name_cmp es)) (is_at : IsAt k es at) where
  sorted-remove : is_sorted name_cmp (remove es at) ≡ true
  sorted-remove = ap (is_sorted name_cmp) (removed_at k es at sorted is_at) ∙ yes _ (is_sorted-where_key name_cmp (λ n. not (eq_by_cmp name_cmp k n)) es sorted)

  made-remove : made (remove es at) ≡ finite.remove (made es) k
  made-remove = same_map names_total exact_names _ _ (λ q.
      get-from_sorted name_cmp (remove es at) q (holds _ sorted-remove)
      ∙ ap (find name_cmp q) (removed_at k es at sorted is_at)
      ∙ find-where_key name_cmp (λ n. not (eq_by_cmp name_cmp k n)) q (λ x tied. ap (λ r. not (is_eq r)) (sym (alike_right names_total q x k tied))) es
      ∙ flipped (eq_by_cmp name_cmp k q) _ _ ∙ ap (λ b. cond b None (find name_cmp q es)) ((eq_by_cmp_equiv names_total).symm k q)
      ∙ sym (get-remove names_total (made es) k q ∙ ap (cond (eq_by_cmp name_cmp q k) None) (get-from_sorted name_cmp es q sorted)))

-- a name that is there is put again
put_there : (k : Name) (m : FinMap name_cmp (Unit {0})) → finite.get m k ≡ Some tt → m ≡ finite.insert m k tt
put_there k m there = same_map names_total exact_names _ _ (λ q. elim (same_or_not q k) [
  | inl same ↦ ap (finite.get m) same ∙ there ∙ sym (ap (finite.get (finite.insert m k tt)) same ∙ got_put m k tt)
  | inr other ↦ sym (got_beside m k tt q other)
])

-- ---- the set

module _ {ns : List Name} {room capacity : ℕ} (marks : IsMarks ns room capacity) where
  falling : T (is_sorted name_cmp (rising ns))
  falling = holds _ marks.falling

  pub entries_are : finite.entries (made (rising ns)) ≡ rising ns
  entries_are = entries-from_sorted name_cmp (rising ns) falling

  pub len_is : finite.len (made (rising ns)) ≡ length ns
  len_is = len-entries (made (rising ns)) ∙ ap length entries_are ∙ length-rising ns

  module _ (k : Name) (at : ℕ) where
    module _ (gap : IsGap k (rising ns) (length ns - at)) (within : at ≤ length ns) where
      pub absent : finite.get (made (rising ns)) k ≡ None
      absent = sym (got_none k (rising ns) (length ns - at) falling gap)

      pub inserted : made (rising (insert ns at k)) ≡ finite.insert (made (rising ns)) k tt
      inserted = ap made (rising-insert ns at k within) ∙ made-insert k (rising ns) (length ns - at) falling gap tt

      pub marks-inserted : (larger : ℕ) → length ns < room → capacity ≤ larger → IsMarks (insert ns at k) room larger
      marks-inserted larger less rises = record {
        falling = ap (is_sorted name_cmp) (rising-insert ns at k within) ∙ sorted-insert k (rising ns) (length ns - at) falling gap tt;
        within = omega (arith, length-insert ns at k within);
        reserved = omega (arith, marks.reserved);
      }

    module _ (is_at : IsAt k (rising ns) (length ns - 1 - at)) where
      pub there : made (rising ns) ≡ finite.insert (made (rising ns)) k tt
      there = put_there k (made (rising ns)) (let e = got k (rising ns) (length ns - 1 - at) falling is_at in sym e.3)

      module _ (within : at < length ns) where
        pub removed : made (rising (remove ns at)) ≡ finite.remove (made (rising ns)) k
        removed = ap made (rising-remove ns at k within) ∙ made-remove k (rising ns) (length ns - 1 - at) falling is_at

        pub marks-removed : (same_capacity : ℕ) → same_capacity ≡ capacity → IsMarks (remove ns at) room same_capacity
        marks-removed same_capacity same = record {
          falling = ap (is_sorted name_cmp) (rising-remove ns at k within) ∙ sorted-remove k (rising ns) (length ns - 1 - at) falling is_at;
          within = omega (arith, length-remove ns at within, marks.within);
          reserved = omega (arith, marks.reserved, same);
        }
