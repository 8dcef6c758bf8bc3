-- The counts beside the objects are the numbers of fields that refer to them, whatever is done to the heap.
use Rattle.std.proofs.Common.{◌≡◌, inl, inr, ℕ, zero, suc, pos, not, ◌+◌, ◌-◌, ◌*◌, ◌^◌, ◌<◌, ◌≤◌, Bool, true, false, cond, ◌&&◌, ◌||◌, List, [], ◌∷◌, length, set, refl, sym, ap, subst, ◌∙◌, Option, Some, None, arith}
use Rattle.std.specs.Prelude.{is_some, count_by, sum_by, nat_lt, nat_le, ◌==◌, slice_get, option_and_then, if◌then◌else◌}
use Rattle.std.specs.Option.{option_map, option_map_or}
use Rattle.std.specs.Ordering.{eq_by_cmp}
use Rattle.std.specs.FinMap as map
use Rattle.std.specs.FinMap.{FinMap, len-entries, len-insert, get-empty, same_map}
use Rattle.std.proofs.lemmas.List.Sums.{sum_by-cons, sum_by-set, count_by-le-length}
use Rattle.std.proofs.lemmas.Bool.Decides.{nat_tests}
use Rattle.std.proofs.lemmas.List.{length-set}
use Rattle.std.proofs.lemmas.Option.{get_or_from_slice_get, slice_get_within}
use Rattle.dl_ir.specs.declared.names.Name.{Name}
use Rattle.dl_ir.specs.declared.names.Value.{Value}
use Rattle.dl_ir.specs.declared.names.Value.TheVariants.{Int}
use Rattle.dl_ir.specs.declared.objects.Obj.{Obj}
use Rattle.dl_ir.specs.Counted.{Counted}
use Rattle.dl_ir.specs.Heap.{Objects, name_cmp, with_field, with_field_of}
use Rattle.dl_ir.specs.Rows.{Rows}
use Rattle.dl_ir.specs.References.{refers_to, refs, is_open, is_loose, is_shared, first_name, with_seal, with_seal_of}
use Rattle.dl_ir.specs.Census.{open_at, is_none, is_many, IsFiledAt, IsFiled, IsFiledBut, Gains, Loses, AreThere, HasFewFields, IsKept}
use Rattle.dl_ir.proofs.NameOrder.{names_total, exact_names}
use Rattle.dl_ir.proofs.Members.{Held, In, get_in, zeros}
use Rattle.dl_ir.proofs.Totals.{sum-put, total-remove}
use Rattle.dl_ir.proofs.Lookups.{same_or_not, got_put, got_beside, gone, got_left}
use Rattle.dl_ir.proofs.Subsets.{first_is}

-- the number of an object's fields that refer to a name
abbrev pub in_object : Name → Name × Obj → ℕ
in_object n e = count_by (refers_to n) e.1.fields

-- to put over an object is to remove it and put
pub put_over : (h : Objects) (k : Name) (v : Obj) → map.insert (map.remove h k) k v ≡ map.insert h k v
put_over h k v = same_map names_total exact_names _ _ (λ q. elim (same_or_not q k) [
  | inl same ↦ ap (map.get (map.insert (map.remove h k) k v)) same ∙ got_put (map.remove h k) k v ∙ sym (ap (map.get (map.insert h k v)) same ∙ got_put h k v)
  | inr other ↦ got_beside (map.remove h k) k v q other ∙ got_left h k q other ∙ sym (got_beside h k v q other)
])

-- a new object adds the fields of its own
pub refs-put : (h : Objects) (k : Name) (v : Obj) (n : Name) → map.get h k ≡ None → refs (map.insert h k v) n ≡ count_by (refers_to n) v.fields + refs h n
refs-put h k v n none =
    ap (sum_by (in_object n)) (map.entries-insert names_total h k v)
    ∙ sum-put (in_object n) k v (map.entries h) (sym (map.get-entries h k) ∙ none)

-- what is removed takes its fields with it
pub refs-left : (h : Objects) (k : Name) (v : Obj) (n : Name) → map.get h k ≡ Some v → refs h n ≡ count_by (refers_to n) v.fields + refs (map.remove h k) n
refs-left h k v n is = total-remove (in_object n) h k v is

-- what is written over gives its fields for others
pub refs-over : (h : Objects) (k : Name) (v w : Obj) (n : Name) → map.get h k ≡ Some v
    → refs (map.insert h k w) n + count_by (refers_to n) v.fields ≡ refs h n + count_by (refers_to n) w.fields
refs-over h k v w n is =
    let over = ap (λ (g : Objects). refs g n) (put_over h k w) in
    omega (arith, over, refs-put (map.remove h k) k w n (gone h k), refs-left h k v n is)

-- where each object has few fields, few refer to a name
sums : (m : ℕ) (f : Name × Obj → ℕ) (es : Held) → ((e : Name × Obj) → In e es → f e ≤ m) → sum_by f es ≤ length es * m
sums m f [] each = omega arith
sums m f (e ∷ es) each =
    let more : length (e ∷ es) * m ≡ m + length es * m = omega arith in
    omega (arith, sum_by-cons f e es, each e (inl refl), sums m f es (λ x there. each x (inr there)), more)

pub refs-few : (h : Objects) (room : ℕ) (n : Name) → HasFewFields h → map.len h ≤ room → refs h n ≤ room * 16
refs-few h room n few within =
    let all = sums 16 (in_object n) (map.entries h) (λ e there. omega (arith, few e.0 e.1 (get_in h e there), count_by-le-length (refers_to n) e.1.fields)) in
    omega (arith, all, len-entries h, within)

-- a field that is written
pub field_counted : (n : Name) (fields : List Value) (at : ℕ) (old new : Value) → slice_get fields at ≡ Some old
    → count_by (refers_to n) (set fields at new) + count_by (refers_to n) (old ∷ []) ≡ count_by (refers_to n) fields + count_by (refers_to n) (new ∷ [])
field_counted n fields at old new is =
    let one = λ (x : Value). cond (refers_to n x) 1 0 in
    let written = sum_by-set one fields at new old (slice_get_within fields at old is) in
    let there = ap one (get_or_from_slice_get fields at old old is) in
    omega (arith, written, there, sum_by-cons one old [], sum_by-cons one new [])

pub some_none : {X : Type 0} {x : X} → Some x ≡ None → ⊥
some_none is = cc

pub true_false : true ≡ false → ⊥
true_false is = cc

pub has_not : {X : Type 0} (o : Option X) → is_some o ≡ false → o ≡ None
has_not None is = refl
has_not (Some x) is = cc

mapped : (f : ℕ → ℕ) (o : Option ℕ) (c : ℕ) → option_map f o ≡ Some c → (x : ℕ) × (o ≡ Some x) × (c ≡ f x)
mapped f None c is = cc
mapped f (Some x) c is = (x, refl, cc)

pub either : (a b : Bool) → (a || b) ≡ false → (a ≡ false) × (b ≡ false)
either true b is = cc
either false b is = (refl, is)

pub some_same : {X : Type 0} {x y : X} → Some x ≡ Some y → x ≡ y
some_same is = cc

not_not : (b : Bool) → not b ≡ false → b ≡ true
not_not true is = refl
not_not false is = cc

none_below : (n : ℕ) → nat_lt 0 n ≡ false → n ≡ 0
none_below n is = grind (arith, nat_tests)

-- nothing is written beyond the end
set_beyond : (l : List Value) (at : ℕ) (v : Value) → slice_get l at ≡ None → set l at v ≡ l
set_beyond [] at v is = refl
set_beyond (x ∷ l) zero v is = cc
set_beyond (x ∷ l) (suc at) v is = ap (λ (r : List Value). x ∷ r) (set_beyond l at v is)

-- a written object is there as before, and as open as before
module _ (h : Objects) (k : Name) (o w : Obj) (is : map.get h k ≡ Some o) where
  pub has_still : (n : Name) → map.contains_key (map.insert h k w) n ≡ map.contains_key h n
  has_still n = elim (same_or_not n k) [
    | inl same ↦ ap (map.contains_key (map.insert h k w)) same ∙ ap is_some (got_put h k w) ∙ sym (ap (map.contains_key h) same ∙ ap is_some is)
    | inr other ↦ ap is_some (got_beside h k w n other)
  ]

  open_still : o.sealed ≡ w.sealed → (n : Name) → open_at n (map.get (map.insert h k w) n) ≡ open_at n (map.get h n)
  open_still same_seal n = elim (same_or_not n k) [
    | inl same ↦ subst (λ m. open_at m (map.get (map.insert h k w) m) ≡ open_at m (map.get h m)) (sym same) (
        ap (open_at k) (got_put h k w) ∙ ap (λ b. nat_lt 0 k.ticket && (if b then false else true)) (sym same_seal) ∙ ap (open_at k) (sym is))
    | inr other ↦ ap (open_at n) (got_beside h k w n other)
  ]

  len_still : map.len (map.insert h k w) ≡ map.len h
  len_still = len-insert names_total h k w ∙ ap (λ q. cond (is_some q) (map.len h) (map.len h + 1)) is

  few_still : HasFewFields h → length w.fields ≤ 16 → HasFewFields (map.insert h k w)
  few_still few here n x there = elim (same_or_not n k) [
    | inl same ↦
        let held : w ≡ x = some_same (sym (ap (map.get (map.insert h k w)) same ∙ got_put h k w) ∙ there) in
        subst (λ (y : Obj). length y.fields ≤ 16) held here
    | inr other ↦ few n x (sym (got_beside h k w n other) ∙ there)
  ]

-- the census with other objects
abbrev pub over : Counted → Objects → Counted
over c h = record c { objects = record c.objects { rows = h } }

refiled : (c : Counted) (h : Objects) → IsFiled c → ((n : Name) → map.contains_key h n ≡ map.contains_key c.objects.rows n)
    → ((n : Name) → open_at n (map.get h n) ≡ open_at n (map.get c.objects.rows n)) → map.len h ≡ map.len c.objects.rows → IsFiled (over c h)
refiled c h filed there opened same = record {
  each = λ n.
      let old = filed.each n in
      record {
        counted = old.counted ∙ sym (there n);
        loose = old.loose ∙ ap (λ b. b && is_none (map.get c.counts.rows n)) (sym (opened n));
        shared = old.shared ∙ ap (λ b. b && is_many (map.get c.counts.rows n)) (sym (opened n));
      };
  rooms = record { within = subst (λ m. m ≤ c.objects.room) (sym same) filed.rooms.within; counts = filed.rooms.counts; loose = filed.rooms.loose; shared = filed.rooms.shared };
}

-- counts are far below what a word holds
pub small_counts : (c : Counted) (d : Bool) → IsKept c d → (n : Name) (k : ℕ) → map.get c.counts.rows n ≡ Some k → k ≤ 2 ^ 52
small_counts c d kept n k is =
    omega (arith, kept.counted n k is, refs-few c.objects.rows c.objects.room n kept.few_fields kept.filed.rooms.within, kept.small)

pub small_refs : (c : Counted) (d : Bool) → IsKept c d → (n : Name) → refs c.objects.rows n ≤ 2 ^ 52
small_refs c d kept n =
    omega (arith, refs-few c.objects.rows c.objects.room n kept.few_fields kept.filed.rooms.within, kept.small)

-- a heap without objects
pub refs_nothing : (n : Name) → refs map.empty n ≡ 0
refs_nothing n = zeros (in_object n) (map.entries map.empty) (λ e there. absurd (some_none (sym (get_in map.empty e there) ∙ get-empty name_cmp e.0)))

pub kept_empty : (c : Counted) (room : ℕ) → c.objects ≡ record { rows = map.empty; room = room } → c.counts ≡ record { rows = map.empty; room = room } → IsFiled c → room ≤ 2 ^ 48 → IsKept c false
kept_empty c room objects counts filed small = record {
  filed = filed;
  counted = λ n k is. absurd (some_none (sym is ∙ ap (λ (t : Rows ℕ). map.get t.rows n) counts ∙ get-empty name_cmp n));
  few_fields = λ n o is. absurd (some_none (sym is ∙ ap (λ (t : Rows Obj). map.get t.rows n) objects ∙ get-empty name_cmp n));
  dangling = λ _ n none. ap (λ (t : Rows Obj). refs t.rows n) objects ∙ refs_nothing n;
  small = subst (λ (t : Rows Obj). t.room ≤ 2 ^ 48) (sym objects) small;
}

-- the tests of the names that are loose, and of those that are shared
test_is : (h : Objects) (n : Name) (o : Option Obj) (q : Option ℕ) (fits : ℕ → Bool) (passes : Option ℕ → Bool) → ((c : ℕ) → passes (Some c) ≡ fits c)
    → is_some q ≡ is_some o → ((c : ℕ) → q ≡ Some c → c ≡ refs h n) → (open_at n o && passes q) ≡ option_map_or (λ (x : Obj). is_open (n, x) && fits (refs h n)) o false
test_is h n None q fits passes at same counted = refl
test_is h n (Some x) None fits passes at same counted = absurd (true_false (sym same))
test_is h n (Some x) (Some c) fits passes at same counted = ap (λ b. is_open (n, x) && b) (at c) ∙ ap (λ m. is_open (n, x) && fits m) (counted c refl)

pub first_loose_is : (c : Counted) (d : Bool) → IsKept c d → option_map (λ (e : Name × Unit {0}). e.0) (slice_get (map.entries c.loose.rows) 0) ≡ first_name (is_loose c.objects.rows) c.objects.rows
first_loose_is c d kept = first_is c.loose.rows c.objects.rows (is_loose c.objects.rows) (λ n.
    (kept.filed.each n).loose ∙ test_is c.objects.rows n (map.get c.objects.rows n) (map.get c.counts.rows n) (λ m. m == 0) is_none (λ m. refl) (kept.filed.each n).counted (kept.counted n))

pub first_shared_is : (c : Counted) (d : Bool) → IsKept c d → option_map (λ (e : Name × Unit {0}). e.0) (slice_get (map.entries c.shared.rows) 0) ≡ first_name (is_shared c.objects.rows) c.objects.rows
first_shared_is c d kept = first_is c.shared.rows c.objects.rows (is_shared c.objects.rows) (λ n.
    (kept.filed.each n).shared ∙ test_is c.objects.rows n (map.get c.objects.rows n) (map.get c.counts.rows n) (λ m. nat_le 2 m) is_many (λ m. refl) (kept.filed.each n).counted (kept.counted n))

-- what a census keeps, told of its objects under a name of their own
keeps : (c final : Counted) (d : Bool) (h : Objects) → final.objects ≡ record c.objects { rows = h } → IsFiled final
    → ((n : Name) (k : ℕ) → map.get final.counts.rows n ≡ Some k → k ≡ refs h n) → HasFewFields h → (d ≡ false → (n : Name) → map.get h n ≡ None → refs h n ≡ 0)
    → c.objects.room ≤ 2 ^ 48 → IsKept final d
keeps c final d h objects filed counted few dangling small = record {
  filed = filed;
  counted = λ n k is. counted n k is ∙ sym (ap (λ (t : Rows Obj). refs t.rows n) objects);
  few_fields = subst (λ (t : Rows Obj). HasFewFields t.rows) (sym objects) few;
  dangling = λ no n none. ap (λ (t : Rows Obj). refs t.rows n) objects ∙ dangling no n (sym (ap (λ (t : Rows Obj). map.get t.rows n) objects) ∙ none);
  small = subst (λ (t : Rows Obj). t.room ≤ 2 ^ 48) (sym objects) small;
}

field_parts : (o : Option Obj) (field : ℕ) (before : Value) → Some before ≡ option_and_then (λ (x : Obj). slice_get x.fields field) o
    → (x : Obj) × (o ≡ Some x) × (slice_get x.fields field ≡ Some before)
field_parts None field before is = cc
field_parts (Some x) field before is = (x, refl, sym is)

pub no_field : (h : Objects) (name : Name) (field : ℕ) (value : Value) → None ≡ option_and_then (λ (x : Obj). slice_get x.fields field) (map.get h name) → h ≡ with_field h name field value
no_field h name field value is = elim (map.get h name) as (λ o. map.get h name ≡ o → None ≡ option_and_then (λ (x : Obj). slice_get x.fields field) o → h ≡ with_field_of h name field value o) [
  | None ↦ λ _ _. refl
  | Some x ↦ λ there none.
      let same : set x.fields field value ≡ x.fields = set_beyond x.fields field value (sym none) in
      same_map names_total exact_names _ _ (λ q. elim (same_or_not q name) [
        | inl one ↦ ap (map.get h) one ∙ there ∙ ap (λ l. Some (record x { fields = l })) (sym same) ∙ sym (ap (map.get (map.insert h name (record x { fields = set x.fields field value }))) one ∙ got_put h name (record x { fields = set x.fields field value }))
        | inr other ↦ sym (got_beside h name (record x { fields = set x.fields field value }) q other)
      ])
] refl is

-- a field is written, the value before it is counted no more, and the new one is
module _ (c : Counted) (d : Bool) (kept : IsKept c d) (name : Name) (field : ℕ) (before value : Value)
    (held : Some before ≡ option_and_then (λ (x : Obj). slice_get x.fields field) (map.get c.objects.rows name)) where
  abbrev heap : Objects
  heap = c.objects.rows

  abbrev written : Objects
  written = with_field heap name field value

  parts : (x : Obj) × (map.get heap name ≡ Some x) × (slice_get x.fields field ≡ Some before)
  parts = field_parts (map.get heap name) field before held

  abbrev new_object : Obj
  new_object = record parts.0 { fields = set parts.0.fields field value }

  written_is : written ≡ map.insert heap name new_object
  written_is = ap (with_field_of heap name field value) parts.1

  pub filed_field : IsFiled (over c written)
  filed_field = subst (λ g. IsFiled (over c g)) (sym written_is) (
      refiled c (map.insert heap name new_object) kept.filed (has_still heap name parts.0 new_object parts.1) (open_still heap name parts.0 new_object parts.1 refl) (len_still heap name parts.0 new_object parts.1))

  balance : (n : Name) → refs written n + count_by (refers_to n) (before ∷ []) ≡ refs heap n + count_by (refers_to n) (value ∷ [])
  balance n =
      omega (arith, ap (λ g. refs g n) written_is, refs-over heap name parts.0 new_object n parts.1, field_counted n parts.0.fields field before value parts.2)

  counted_before : (n : Name) → count_by (refers_to n) (before ∷ []) ≤ refs heap n
  counted_before n =
      omega (arith, field_counted n parts.0.fields field before (Int (pos 0)) parts.2, refs-left heap name parts.0 n parts.1)

  pub lost_few : (now : FinMap name_cmp ℕ) → Loses c.counts.rows now (before ∷ []) → (n : Name) (k : ℕ) → map.get now n ≡ Some k → k + 1 < 2 ^ 64
  lost_few now loses n k is =
      let old = mapped (λ count. count - count_by (refers_to n) (before ∷ [])) (map.get c.counts.rows n) k (sym (loses n) ∙ is) in
      omega (arith, old.2, small_counts c d kept n old.0 old.1)

  pub kept_field : (final : Counted) (now : FinMap name_cmp ℕ) (there : Bool) → final.objects ≡ record c.objects { rows = written } → IsFiled final
      → Loses c.counts.rows now (before ∷ []) → Gains now final.counts.rows (value ∷ []) → (there ≡ true → AreThere written (value ∷ [])) → IsKept final (d || not there)
  kept_field final now there objects filed loses gains are_there = keeps c final (d || not there) written objects filed
      (λ n k is.
      let mid = mapped (λ count. count + count_by (refers_to n) (value ∷ [])) (map.get now n) k (sym (gains n) ∙ is) in
      let old = mapped (λ count. count - count_by (refers_to n) (before ∷ [])) (map.get c.counts.rows n) mid.0 (sym (loses n) ∙ mid.1) in
      omega (arith, mid.2, old.2, kept.counted n old.0 old.1, balance n, counted_before n))
      (subst HasFewFields (sym written_is) (few_still heap name parts.0 new_object parts.1 kept.few_fields (omega (arith, length-set parts.0.fields field value, kept.few_fields name parts.0 parts.1))))
      (λ no n none.
      let split = either d (not there) no in
      let gone_before = has_not (map.get heap n) (sym (has_still heap name parts.0 new_object parts.1 n) ∙ ap (λ g. map.contains_key g n) (sym written_is) ∙ ap is_some none) in
      omega (arith, balance n, kept.dangling split.0 n gone_before, are_there (not_not there split.1) n none))
      kept.small

-- what holds of a heap without the object, and of one that has it sealed, holds once it is sealed
by_seal : (h : Objects) (k : Name) (P : Objects → Type 0) → (map.get h k ≡ None → P h) → ((x : Obj) → map.get h k ≡ Some x → P (map.insert h k (record x { sealed = true }))) → P (with_seal h k)
by_seal h k P none some = elim (map.get h k) as (λ o. map.get h k ≡ o → P (with_seal_of h k o)) [ None ↦ none | Some x ↦ some x ] refl

never : (b : Bool) → (b && false) ≡ false
never true = refl
never false = refl

module _ (h : Objects) (k : Name) where
  seal_has : (n : Name) → map.contains_key (with_seal h k) n ≡ map.contains_key h n
  seal_has n = by_seal h k (λ g. map.contains_key g n ≡ map.contains_key h n) (λ _. refl) (λ x is. has_still h k x (record x { sealed = true }) is n)

  seal_beside : (n : Name) → eq_by_cmp name_cmp n k ≡ false → map.get (with_seal h k) n ≡ map.get h n
  seal_beside n other = by_seal h k (λ g. map.get g n ≡ map.get h n) (λ _. refl) (λ x is. got_beside h k (record x { sealed = true }) n other)

  seal_closed : open_at k (map.get (with_seal h k) k) ≡ false
  seal_closed = by_seal h k (λ g. open_at k (map.get g k) ≡ false) (λ none. ap (open_at k) none) (λ x is. ap (open_at k) (got_put h k (record x { sealed = true })) ∙ never (nat_lt 0 k.ticket))

  seal_len : map.len (with_seal h k) ≡ map.len h
  seal_len = by_seal h k (λ g. map.len g ≡ map.len h) (λ _. refl) (λ x is. len_still h k x (record x { sealed = true }) is)

  seal_refs : (n : Name) → refs (with_seal h k) n ≡ refs h n
  seal_refs n = by_seal h k (λ g. refs g n ≡ refs h n) (λ _. refl) (λ x is. omega (arith, refs-over h k x (record x { sealed = true }) n is))

  seal_few : HasFewFields h → HasFewFields (with_seal h k)
  seal_few few = by_seal h k HasFewFields (λ _. few) (λ x is. few_still h k x (record x { sealed = true }) is few (few k x is))

-- an object is sealed, and its name is neither among the loose nor among the shared ones
pub filed_sealed : (c : Counted) (k : Name) → IsFiled c → IsFiled (record {
  objects = record c.objects { rows = with_seal c.objects.rows k };
  counts = c.counts;
  loose = record c.loose { rows = map.remove c.loose.rows k };
  shared = record c.shared { rows = map.remove c.shared.rows k };
})
filed_sealed c k is =
    let heap = with_seal c.objects.rows k in
    let new : Counted = record {
      objects = record c.objects { rows = heap };
      counts = c.counts;
      loose = record c.loose { rows = map.remove c.loose.rows k };
      shared = record c.shared { rows = map.remove c.shared.rows k };
    } in
    let here : IsFiledAt new k = record {
      counted = (is.each k).counted ∙ sym (seal_has c.objects.rows k k);
      loose = ap is_some (gone c.loose.rows k) ∙ sym (ap (λ b. b && is_none (map.get c.counts.rows k)) (seal_closed c.objects.rows k));
      shared = ap is_some (gone c.shared.rows k) ∙ sym (ap (λ b. b && is_many (map.get c.counts.rows k)) (seal_closed c.objects.rows k));
    } in
    record {
      each = λ n. elim (same_or_not n k) as (λ _. IsFiledAt new n) [
        | inl same ↦ subst (IsFiledAt new) (sym same) here
        | inr other ↦
            let old = is.each n in
            let o = sym (seal_beside c.objects.rows k n other) in
            record {
              counted = old.counted ∙ ap is_some o;
              loose = ap is_some (got_left c.loose.rows k n other) ∙ old.loose ∙ ap (λ x. open_at n x && is_none (map.get c.counts.rows n)) o;
              shared = ap is_some (got_left c.shared.rows k n other) ∙ old.shared ∙ ap (λ x. open_at n x && is_many (map.get c.counts.rows n)) o;
            }
      ];
      rooms = record { within = subst (λ m. m ≤ c.objects.room) (sym (seal_len c.objects.rows k)) is.rooms.within; counts = is.rooms.counts; loose = is.rooms.loose; shared = is.rooms.shared };
    }

pub kept_sealed : (c : Counted) (d : Bool) (kept : IsKept c d) (name : Name) (final : Counted) → final.objects ≡ record c.objects { rows = with_seal c.objects.rows name } → IsFiled final → final.counts ≡ c.counts → IsKept final d
kept_sealed c d kept name final objects filed counts = keeps c final d (with_seal c.objects.rows name) objects filed
    (λ n k is. kept.counted n k (sym (ap (λ (t : Rows ℕ). map.get t.rows n) counts) ∙ is) ∙ sym (seal_refs c.objects.rows name n))
    (seal_few c.objects.rows name kept.few_fields)
    (λ no n none.
    let none_before = has_not (map.get c.objects.rows n) (sym (seal_has c.objects.rows name n) ∙ ap is_some none) in
    seal_refs c.objects.rows name n ∙ kept.dangling no n none_before)
    kept.small

-- an object is taken out, and its values are counted no more
module _ (c : Counted) (d : Bool) (kept : IsKept c d) (name : Name) where
  counted_left : (now : FinMap name_cmp ℕ) (n : Name) (k : ℕ) → now ≡ map.remove c.counts.rows name → map.get now n ≡ Some k → (eq_by_cmp name_cmp n name ≡ false) × (map.get c.counts.rows n ≡ Some k)
  counted_left now n k left is = elim (same_or_not n name) [
    | inl same ↦ absurd (some_none (sym is ∙ ap (λ g. map.get g n) left ∙ ap (map.get (map.remove c.counts.rows name)) same ∙ gone c.counts.rows name))
    | inr other ↦ (other, sym (ap (λ g. map.get g n) left ∙ got_left c.counts.rows name n other) ∙ is)
  ]

  few_left : HasFewFields (map.remove c.objects.rows name)
  few_left n o is = elim (same_or_not n name) [
    | inl same ↦ absurd (some_none (sym is ∙ ap (map.get (map.remove c.objects.rows name)) same ∙ gone c.objects.rows name))
    | inr other ↦ kept.few_fields n o (sym (got_left c.objects.rows name n other) ∙ is)
  ]

  pub kept_taken : (final : Counted) (object : Obj) (now : FinMap name_cmp ℕ) → Some object ≡ map.get c.objects.rows name → final.objects ≡ record c.objects { rows = map.remove c.objects.rows name } → IsFiled final
      → now ≡ map.remove c.counts.rows name → Loses now final.counts.rows object.fields → IsKept final (d || nat_lt 0 (refs c.objects.rows name))
  kept_taken final object now there objects filed left loses =
      keeps c final (d || nat_lt 0 (refs c.objects.rows name)) (map.remove c.objects.rows name) objects filed
      (λ n k is.
      let mid = mapped (λ count. count - count_by (refers_to n) object.fields) (map.get now n) k (sym (loses n) ∙ is) in
      let old = counted_left now n mid.0 left mid.1 in
      omega (arith, mid.2, kept.counted n mid.0 old.1, refs-left c.objects.rows name object n (sym there)))
      few_left
      (λ no n none.
      let split = either d (nat_lt 0 (refs c.objects.rows name)) no in
      elim (same_or_not n name) [
        | inl same ↦ omega (arith, refs-left c.objects.rows name object n (sym there), ap (refs c.objects.rows) same, none_below (refs c.objects.rows name) split.1)
        | inr other ↦ omega (arith, refs-left c.objects.rows name object n (sym there), kept.dangling split.0 n (sym (got_left c.objects.rows name n other) ∙ none))
      ])
      kept.small

  -- nothing was there to be taken out
  pub same_left : None ≡ map.get c.objects.rows name → map.remove c.objects.rows name ≡ c.objects.rows
  same_left none = same_map names_total exact_names _ _ (λ q. elim (same_or_not q name) [
    | inl same ↦ ap (map.get (map.remove c.objects.rows name)) same ∙ gone c.objects.rows name ∙ none ∙ ap (map.get c.objects.rows) (sym same)
    | inr other ↦ got_left c.objects.rows name q other
  ])

  pub kept_absent : (final : Counted) → None ≡ map.get c.objects.rows name → final.objects ≡ record c.objects { rows = map.remove c.objects.rows name } → IsFiled final
      → final.counts.rows ≡ map.remove c.counts.rows name → IsKept final d
  kept_absent final none objects filed left = keeps c final d (map.remove c.objects.rows name) objects filed
      (λ n k is. kept.counted n k (counted_left final.counts.rows n k left is).1 ∙ ap (λ g. refs g n) (sym (same_left none)))
      few_left
      (λ no n absent. ap (λ g. refs g n) (same_left none) ∙ kept.dangling no n (ap (λ g. map.get g n) (sym (same_left none)) ∙ absent))
      kept.small

-- a new object is put in
pub but_entered : (now : Counted) (name : Name) (object : Obj) → IsFiled now → map.get now.objects.rows name ≡ None → map.len now.objects.rows < now.objects.room
    → IsFiledBut name (record now { objects = record now.objects { rows = map.insert now.objects.rows name object } })
but_entered now name object filed absent room =
    let longer : map.len (map.insert now.objects.rows name object) ≡ map.len now.objects.rows + 1
    = len-insert names_total now.objects.rows name object ∙ ap (λ q. cond (is_some q) (map.len now.objects.rows) (map.len now.objects.rows + 1)) absent in
    record {
      each = λ n other.
          let old = filed.each n in
          let same = sym (got_beside now.objects.rows name object n other) in
          record {
            counted = old.counted ∙ ap is_some same;
            loose = old.loose ∙ ap (λ o. open_at n o && is_none (map.get now.counts.rows n)) same;
            shared = old.shared ∙ ap (λ o. open_at n o && is_many (map.get now.counts.rows n)) same;
          };
      rooms = record { within = omega (arith, longer, room); counts = filed.rooms.counts; loose = filed.rooms.loose; shared = filed.rooms.shared };
    }

-- sixteen more fit in each count
pub gain_fits : (c : Counted) (d : Bool) (kept : IsKept c d) (n : Name) (k : ℕ) → map.get c.counts.rows n ≡ Some k → k + 16 < 2 ^ 64
gain_fits c d kept n k is = omega (arith, small_counts c d kept n k is)

-- and its values are counted
module _ (c : Counted) (d : Bool) (kept : IsKept c d) (name : Name) (object : Obj) (absent : map.get c.objects.rows name ≡ None) (few : length object.fields ≤ 16) where
  abbrev entered : Objects
  entered = map.insert c.objects.rows name object

  pub kept_entered : (final : Counted) (now : FinMap name_cmp ℕ) (there : Bool) → final.objects ≡ record c.objects { rows = entered } → IsFiled final → Gains c.counts.rows now object.fields
      → final.counts.rows ≡ map.insert now name (refs c.objects.rows name + count_by (refers_to name) object.fields) → (there ≡ true → AreThere c.objects.rows object.fields) → IsKept final (d || not there)
  kept_entered final now there objects filed gains counts are_there =
      let own = refs c.objects.rows name + count_by (refers_to name) object.fields in
      keeps c final (d || not there) entered objects filed
      (λ n k is. elim (same_or_not n name) [
        | inl same ↦
            let held : own ≡ k = some_same (sym (ap (λ g. map.get g n) counts ∙ ap (map.get (map.insert now name own)) same ∙ got_put now name own) ∙ is) in
            omega (arith, held, refs-put c.objects.rows name object name absent, ap (refs entered) same)
        | inr other ↦
            let mid = mapped (λ count. count + count_by (refers_to n) object.fields) (map.get c.counts.rows n) k (sym (gains n) ∙ sym (ap (λ g. map.get g n) counts ∙ got_beside now name own n other) ∙ is) in
            omega (arith, mid.2, kept.counted n mid.0 mid.1, refs-put c.objects.rows name object n absent)
      ])
      (λ n o is. elim (same_or_not n name) [
        | inl same ↦
            let held : object ≡ o = some_same (sym (ap (map.get entered) same ∙ got_put c.objects.rows name object) ∙ is) in
            subst (λ (x : Obj). length x.fields ≤ 16) held few
        | inr other ↦ kept.few_fields n o (sym (got_beside c.objects.rows name object n other) ∙ is)
      ])
      (λ no n none.
      let split = either d (not there) no in
      elim (same_or_not n name) [
        | inl same ↦ absurd (some_none (sym (ap (map.get entered) same ∙ got_put c.objects.rows name object) ∙ none))
        | inr other ↦
            let before = sym (got_beside c.objects.rows name object n other) ∙ none in
            omega (arith, refs-put c.objects.rows name object n absent, kept.dangling split.0 n before, are_there (not_not there split.1) n before)
      ])
      kept.small
