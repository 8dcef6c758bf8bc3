-- The tables beside the objects: what filing a name, and counting values, make of them.
use Rattle.std.proofs.Common.{◌≡◌, inl, inr, ℕ, ◌+◌, ◌-◌, ◌<◌, ◌≤◌, Bool, true, false, cond, ◌&&◌, List, [], ◌∷◌, ◌++◌, length, get_or, take, refl, sym, ap, subst, ◌∙◌, Option, Some, None, arith}
use Rattle.std.specs.Prelude.{is_some, count_by, nat_le, ◌==◌}
use Rattle.std.specs.Option.{option_map}
use Rattle.std.specs.Ordering.{eq_by_cmp, is_eq}
use Rattle.std.specs.FinMap as map
use Rattle.std.specs.FinMap.{FinMap, len-remove, len-empty, get-empty, same_map}
use Rattle.std.proofs.lemmas.Bool.{eqb-true}
use Rattle.std.proofs.lemmas.List.Sums.{sum_by-append, count_by-le-length}
use Rattle.std.proofs.lemmas.List.{take_more}
use Rattle.std.proofs.lemmas.Cmp.{tied_itself}
use Rattle.dl_ir.specs.declared.names.Name.{Name}
use Rattle.dl_ir.specs.declared.names.Value.{Value}
use Rattle.dl_ir.specs.declared.names.Value.TheVariants.{Int, Ref}
use Rattle.dl_ir.specs.declared.objects.Obj.{Obj}
use Rattle.dl_ir.specs.Counted.{Counted}
use Rattle.dl_ir.specs.Heap.{Objects, name_cmp}
use Rattle.dl_ir.specs.References.{name_eq, refers_to, target_in}
use Rattle.dl_ir.specs.Census.{open_at, is_none, is_many, IsFiledAt, IsFiled, IsFiledBut, marked, with_count, Changes, AreThere}
use Rattle.dl_ir.specs.Rows.{Rows}
use Rattle.dl_ir.proofs.NameOrder.{names_total, exact_names, name_eq_itself}
use Rattle.dl_ir.proofs.Lookups.{same_or_not, got_put, got_beside, gone, got_left, has_marked, has_beside}
use Rattle.dl_ir.proofs.Present.{rows_gap, is_none as is_none_of}
use Rattle.dl_ir.proofs.Subsets.{room_for}

-- the census with this count of a name, which is filed by these tests
abbrev pub after : Counted → Name → ℕ → Bool → Bool → Counted
after c k count loose shared = record {
  objects = c.objects;
  counts = record c.counts { rows = map.insert c.counts.rows k count };
  loose = record c.loose { rows = marked loose c.loose.rows k };
  shared = record c.shared { rows = marked shared c.shared.rows k };
}

some_none : true ≡ false → ⊥
some_none is = cc

open_there : (n : Name) (o : Option Obj) (b : Bool) → (open_at n o && b) ≡ true → is_some o ≡ true
open_there n None b is = is
open_there n (Some o) b is = refl

-- what is filed but for a name is filed once that is
pub filed : (c : Counted) (k : Name) (count : ℕ) → IsFiledBut k c → map.contains_key c.objects.rows k ≡ true
    → IsFiled (after c k count (open_at k (map.get c.objects.rows k) && (count == 0)) (open_at k (map.get c.objects.rows k) && nat_le 2 count))
filed c k count but there =
    let loose = open_at k (map.get c.objects.rows k) && (count == 0) in
    let shared = open_at k (map.get c.objects.rows k) && nat_le 2 count in
    let new = after c k count loose shared in
    let here : IsFiledAt new k = record {
      counted = ap is_some (got_put c.counts.rows k count) ∙ sym there;
      loose = has_marked loose c.loose.rows k ∙ ap (λ o. open_at k (map.get c.objects.rows k) && is_none o) (sym (got_put c.counts.rows k count));
      shared = has_marked shared c.shared.rows k ∙ ap (λ o. open_at k (map.get c.objects.rows k) && is_many o) (sym (got_put c.counts.rows k count));
    } in
    record {
      each = λ n. elim (same_or_not n k) as (λ _. IsFiledAt new n) [
        | inl same ↦ subst (IsFiledAt new) (sym same) here
        | inr other ↦
            let old = but.each n other in
            record {
              counted = ap is_some (got_beside c.counts.rows k count n other) ∙ old.counted;
              loose = has_beside loose c.loose.rows k n other ∙ old.loose ∙ ap (λ o. open_at n (map.get c.objects.rows n) && is_none o) (sym (got_beside c.counts.rows k count n other));
              shared = has_beside shared c.shared.rows k n other ∙ old.shared ∙ ap (λ o. open_at n (map.get c.objects.rows n) && is_many o) (sym (got_beside c.counts.rows k count n other));
            }
      ];
      rooms = record { within = but.rooms.within; counts = but.rooms.counts; loose = but.rooms.loose; shared = but.rooms.shared };
    }

-- where it is filed, it is so but for any name
pub but_any : (c : Counted) (k : Name) → IsFiled c → IsFiledBut k c
but_any c k is = record { each = λ n other. is.each n; rooms = is.rooms }

-- what has a count that was written is there
pub counted_there : (c : Counted) (k : Name) (count : ℕ) → IsFiled (with_count k count c) → map.contains_key c.objects.rows k ≡ true
counted_there c k count is = sym (is.each k).counted ∙ ap is_some (got_put c.counts.rows k count)

-- a count that is written back is as it was
put_again : (m : FinMap name_cmp ℕ) (k : Name) (a b : ℕ) → map.get m k ≡ Some b → map.insert (map.insert m k a) k b ≡ m
put_again m k a b is = same_map names_total exact_names _ _ (λ q. elim (same_or_not q k) [
  | inl same ↦ ap (map.get (map.insert (map.insert m k a) k b)) same ∙ got_put (map.insert m k a) k b ∙ sym (ap (map.get m) same ∙ is)
  | inr other ↦ got_beside (map.insert m k a) k b q other ∙ got_beside m k a q other
])

pub recounted : (c : Counted) (k : Name) (now before : ℕ) → IsFiled c → map.get c.counts.rows k ≡ Some before → IsFiled (with_count k before (with_count k now c))
recounted c k now before filed is = subst (λ m. IsFiled (record c { counts = record c.counts { rows = m } })) (sym (put_again c.counts.rows k now before is)) filed

-- what is filed by the count before is filed by the count now once the name is marked by that
pub refiled_as : (c : Counted) (k : Name) (before count : ℕ) (loose shared : Rows (Unit {0})) → IsFiled (with_count k before c) → map.get c.counts.rows k ≡ Some count
    → map.contains_key loose.rows k ≡ (open_at k (map.get c.objects.rows k) && (count == 0))
    → ((n : Name) → eq_by_cmp name_cmp n k ≡ false → map.contains_key loose.rows n ≡ map.contains_key c.loose.rows n) → loose.room ≡ c.loose.room
    → map.contains_key shared.rows k ≡ (open_at k (map.get c.objects.rows k) && nat_le 2 count)
    → ((n : Name) → eq_by_cmp name_cmp n k ≡ false → map.contains_key shared.rows n ≡ map.contains_key c.shared.rows n) → shared.room ≡ c.shared.room
    → IsFiled (record { objects = c.objects; counts = c.counts; loose = loose; shared = shared })
refiled_as c k before count loose shared filed now loose_here loose_beside loose_same shared_here shared_beside shared_same =
    let new : Counted = record { objects = c.objects; counts = c.counts; loose = loose; shared = shared } in
    let here : IsFiledAt new k = record {
      counted = ap is_some now ∙ sym (counted_there c k before filed);
      loose = loose_here ∙ ap (λ o. open_at k (map.get c.objects.rows k) && is_none o) (sym now);
      shared = shared_here ∙ ap (λ o. open_at k (map.get c.objects.rows k) && is_many o) (sym now);
    } in
    record {
      each = λ n. elim (same_or_not n k) as (λ _. IsFiledAt new n) [
        | inl same ↦ subst (IsFiledAt new) (sym same) here
        | inr other ↦
            let old = filed.each n in
            let count_same = got_beside c.counts.rows k before n other in
            record {
              counted = ap is_some (sym count_same) ∙ old.counted;
              loose = loose_beside n other ∙ old.loose ∙ ap (λ o. open_at n (map.get c.objects.rows n) && is_none o) count_same;
              shared = shared_beside n other ∙ old.shared ∙ ap (λ o. open_at n (map.get c.objects.rows n) && is_many o) count_same;
            }
      ];
      rooms = record { within = filed.rooms.within; counts = filed.rooms.counts; loose = loose_same ∙ filed.rooms.loose; shared = shared_same ∙ filed.rooms.shared };
    }

module _ (c : Counted) (k : Name) (but : IsFiledBut k c) (there : map.contains_key c.objects.rows k ≡ true) where
  within : {X : Type 0} (few : FinMap name_cmp X) → ((n : Name) → eq_by_cmp name_cmp n k ≡ false → map.contains_key few n ≡ true → map.contains_key c.objects.rows n ≡ true)
      → (n : Name) → map.contains_key few n ≡ true → map.contains_key c.objects.rows n ≡ true
  within few others n is = elim (same_or_not n k) [
    | inl same ↦ ap (map.contains_key c.objects.rows) same ∙ there
    | inr other ↦ others n other is
  ]

  -- there is room for the name in each table
  pub loose_room : map.get c.loose.rows k ≡ None → map.len c.loose.rows < c.loose.room
  loose_room none =
      let less = room_for c.loose.rows c.objects.rows k tt (within c.loose.rows (λ n other is. open_there n _ _ (sym (but.each n other).loose ∙ is))) there none in
      omega (arith, less, but.rooms.within, but.rooms.loose)

  pub shared_room : map.get c.shared.rows k ≡ None → map.len c.shared.rows < c.shared.room
  shared_room none =
      let less = room_for c.shared.rows c.objects.rows k tt (within c.shared.rows (λ n other is. open_there n _ _ (sym (but.each n other).shared ∙ is))) there none in
      omega (arith, less, but.rooms.within, but.rooms.shared)

-- the census without a name
abbrev pub left : Counted → Name → Counted
left c k = record {
  objects = record c.objects { rows = map.remove c.objects.rows k };
  counts = record c.counts { rows = map.remove c.counts.rows k };
  loose = record c.loose { rows = map.remove c.loose.rows k };
  shared = record c.shared { rows = map.remove c.shared.rows k };
}

pub fewer : {X : Type 0} (m : FinMap name_cmp X) (k : Name) → map.len (map.remove m k) ≤ map.len m
fewer m k = elim (map.contains_key m k) as (λ b. map.len (map.remove m k) ≡ cond b (map.len m - 1) (map.len m) → map.len (map.remove m k) ≤ map.len m) [
  | true ↦ λ is. omega (arith, is)
  | false ↦ λ is. omega (arith, is)
] (len-remove names_total m k)

pub filed_left : (c : Counted) (k : Name) → IsFiled c → IsFiled (left c k)
filed_left c k is =
    let here : IsFiledAt (left c k) k = record {
      counted = ap is_some (gone c.counts.rows k) ∙ sym (ap is_some (gone c.objects.rows k));
      loose = ap is_some (gone c.loose.rows k) ∙ sym (ap (λ o. open_at k o && is_none (map.get (map.remove c.counts.rows k) k)) (gone c.objects.rows k));
      shared = ap is_some (gone c.shared.rows k) ∙ sym (ap (λ o. open_at k o && is_many (map.get (map.remove c.counts.rows k) k)) (gone c.objects.rows k));
    } in
    record {
      each = λ n. elim (same_or_not n k) as (λ _. IsFiledAt (left c k) n) [
        | inl same ↦ subst (IsFiledAt (left c k)) (sym same) here
        | inr other ↦
            let old = is.each n in
            let o = sym (got_left c.objects.rows k n other) in
            let q = sym (got_left c.counts.rows k n other) in
            record {
              counted = ap is_some (got_left c.counts.rows k n other) ∙ old.counted ∙ ap is_some o;
              loose = ap is_some (got_left c.loose.rows k n other) ∙ old.loose ∙ ap (λ x. open_at n x && is_none (map.get c.counts.rows n)) o ∙ ap (λ x. open_at n (map.get (map.remove c.objects.rows k) n) && is_none x) q;
              shared = ap is_some (got_left c.shared.rows k n other) ∙ old.shared ∙ ap (λ x. open_at n x && is_many (map.get c.counts.rows n)) o ∙ ap (λ x. open_at n (map.get (map.remove c.objects.rows k) n) && is_many x) q;
            }
      ];
      rooms = record { within = omega (arith, fewer c.objects.rows k, is.rooms.within); counts = is.rooms.counts; loose = is.rooms.loose; shared = is.rooms.shared };
    }

-- a name that has no object is in no table
pub filed_absent : (c : Counted) (k : Name) → IsFiled c → map.get c.objects.rows k ≡ None → IsFiled (record c { objects = record c.objects { rows = map.remove c.objects.rows k }; counts = record c.counts { rows = map.remove c.counts.rows k } })
filed_absent c k is none =
    let uncounted = is_none_of _ ((is.each k).counted ∙ ap is_some none) in
    subst (λ h. IsFiled (record c { objects = record c.objects { rows = h }; counts = record c.counts { rows = map.remove c.counts.rows k } })) (rows_gap k c.objects.rows none) (
    subst (λ q. IsFiled (record c { counts = record c.counts { rows = q } })) (rows_gap k c.counts.rows uncounted) is)

and_parts : (a b : Bool) → (a && b) ≡ true → (a ≡ true) × (b ≡ true)
and_parts true b is = (refl, is)
and_parts false b is = cc

eq_itself : (n : Name) → eq_by_cmp name_cmp n n ≡ true
eq_itself n = ap is_eq (tied_itself names_total n)

alike : (a b : Name) → name_eq a b ≡ true → a ≡ b
alike a b is = let parts = and_parts _ _ is in λ i. record { ticket = eqb-true a.ticket b.ticket parts.0 i; index = eqb-true a.index b.index parts.1 i }

pub differ : (a b : Name) → eq_by_cmp name_cmp a b ≡ false → name_eq a b ≡ false
differ a b other = elim (name_eq a b) as (λ t. name_eq a b ≡ t → t ≡ false) [
  | true ↦ λ is. sym (eq_itself b) ∙ sym (ap (λ n. eq_by_cmp name_cmp n b) (alike a b is)) ∙ other
  | false ↦ λ is. refl
] refl

-- counts that change by what refers to a name: one value after another
module _ (by : ℕ → ℕ → ℕ) (by_none : (c : ℕ) → by c 0 ≡ c) where
  same_count : (n : Name) (v : Value) (o : Option ℕ) → refers_to n v ≡ false → o ≡ option_map (λ (count : ℕ). by count (count_by (refers_to n) (v ∷ []))) o
  same_count n v None none = refl
  same_count n v (Some c) none = ap Some (sym (by_none c) ∙ ap (λ b. by c (0 + cond b 1 0)) (sym none))

  -- the count of what it refers to changes, and no other
  change_one : (before : FinMap name_cmp ℕ) (t : Name) (count : ℕ) → map.get before t ≡ Some count → Changes by before (map.insert before t (by count 1)) (Ref (Some t) ∷ [])
  change_one before t count is n = elim (same_or_not n t) [
    | inl same ↦ subst (λ m. map.get (map.insert before t (by count 1)) m ≡ option_map (λ (c : ℕ). by c (count_by (refers_to m) (Ref (Some t) ∷ []))) (map.get before m)) (sym same) (
        got_put before t (by count 1)
        ∙ ap (λ b. Some (by count (0 + cond b 1 0))) (sym (name_eq_itself t))
        ∙ ap (option_map (λ (c : ℕ). by c (count_by (refers_to t) (Ref (Some t) ∷ [])))) (sym is))
    | inr other ↦ got_beside before t (by count 1) n other ∙ same_count n (Ref (Some t)) (map.get before n) (differ n t other)
  ]

  pub change_of : (before : FinMap name_cmp ℕ) (v : Value) (t : Name) (count : ℕ) → Some t ≡ target_in v → map.get before t ≡ Some count → Changes by before (map.insert before t (by count 1)) (v ∷ [])
  change_of before (Int x) t count refers is = cc
  change_of before (Ref None) t count refers is = cc
  change_of before (Ref (Some u)) t count refers is =
      let same : t ≡ u = cc in
      subst (λ m. Changes by before (map.insert before t (by count 1)) (Ref (Some m) ∷ [])) same (change_one before t count is)

  -- none changes where it has none
  change_none : (before : FinMap name_cmp ℕ) (t : Name) → map.get before t ≡ None → Changes by before before (Ref (Some t) ∷ [])
  change_none before t is n = elim (same_or_not n t) [
    | inl same ↦ subst (λ m. map.get before m ≡ option_map (λ (c : ℕ). by c (count_by (refers_to m) (Ref (Some t) ∷ []))) (map.get before m)) (sym same) (is ∙ ap (option_map (λ (c : ℕ). by c (count_by (refers_to t) (Ref (Some t) ∷ [])))) (sym is))
    | inr other ↦ same_count n (Ref (Some t)) (map.get before n) (differ n t other)
  ]

  pub change_none_of : (before : FinMap name_cmp ℕ) (v : Value) (t : Name) → Some t ≡ target_in v → map.get before t ≡ None → Changes by before before (v ∷ [])
  change_none_of before (Int x) t refers is = cc
  change_none_of before (Ref None) t refers is = cc
  change_none_of before (Ref (Some u)) t refers is =
      let same : t ≡ u = cc in
      subst (λ m. Changes by before before (Ref (Some m) ∷ [])) same (change_none before t is)

  -- nor by a value that refers to nothing
  pub change_null : (before : FinMap name_cmp ℕ) (v : Value) → None ≡ target_in v → Changes by before before (v ∷ [])
  change_null before (Int x) refers n = same_count n (Int x) (map.get before n) refl
  change_null before (Ref None) refers n = same_count n (Ref None) (map.get before n) refl
  change_null before (Ref (Some u)) refers n = cc

  unchanged : (o : Option ℕ) → o ≡ option_map (λ (count : ℕ). by count 0) o
  unchanged None = refl
  unchanged (Some c) = ap Some (sym (by_none c))

  pub change_begins : (before : FinMap name_cmp ℕ) → Changes by before before []
  change_begins before n = unchanged (map.get before n)

  module _ (by_more : (c a b : ℕ) → by (by c a) b ≡ by c (a + b)) where
    both : (o : Option ℕ) (a b : ℕ) → option_map (λ c. by c b) (option_map (λ c. by c a) o) ≡ option_map (λ c. by c (a + b)) o
    both None a b = refl
    both (Some c) a b = ap Some (by_more c a b)

    -- a further value
    pub change_more : (before now next : FinMap name_cmp ℕ) (vs : List Value) (v : Value) → Changes by before now vs → Changes by now next (v ∷ []) → Changes by before next (vs ++ v ∷ [])
    change_more before now next vs v first last n =
        last n
        ∙ ap (option_map (λ (c : ℕ). by c (count_by (refers_to n) (v ∷ [])))) (first n)
        ∙ both (map.get before n) (count_by (refers_to n) vs) (count_by (refers_to n) (v ∷ []))
        ∙ ap (λ k. option_map (λ (c : ℕ). by c k) (map.get before n)) (sym (sum_by-append (λ (x : Value). cond (refers_to n x) 1 0) vs (v ∷ [])))

map_some : (k c : ℕ) (o : Option ℕ) → option_map (λ x. x + k) o ≡ Some c → (x : ℕ) × (o ≡ Some x) × (c ≡ x + k)
map_some k c None is = cc
map_some k c (Some x) is = (x, refl, cc)

-- counts stay within their bound while fewer values are counted than it allows
pub gain_few : (before now : FinMap name_cmp ℕ) (vs : List Value) (total bound : ℕ) → Changes (λ count more. count + more) before now vs
    → ((n : Name) (c : ℕ) → map.get before n ≡ Some c → c + total < bound) → length vs < total → (n : Name) (c : ℕ) → map.get now n ≡ Some c → c + 1 < bound
gain_few before now vs total bound changes few more n c is =
    let old = map_some (count_by (refers_to n) vs) c (map.get before n) (sym (changes n) ∙ is) in
    omega (arith, few n old.0 old.1, old.2, count_by-le-length (refers_to n) vs)

-- what a value refers to is there, or it refers to nothing
pub there_one : (h : Objects) (v : Value) (t : Name) → Some t ≡ target_in v → map.contains_key h t ≡ true → AreThere h (v ∷ [])
there_one h (Int x) t refers there n none = cc
there_one h (Ref None) t refers there n none = cc
there_one h (Ref (Some u)) t refers there n none =
    let same : t ≡ u = cc in
    elim (same_or_not n u) [
      | inl is ↦ absurd (some_none (sym there ∙ ap (map.contains_key h) (same ∙ sym is) ∙ ap is_some none))
      | inr other ↦ ap (λ b. 0 + cond b 1 0) (differ n u other)
    ]

pub there_null : (h : Objects) (v : Value) → None ≡ target_in v → AreThere h (v ∷ [])
there_null h (Int x) refers n none = refl
there_null h (Ref None) refers n none = refl
there_null h (Ref (Some u)) refers n none = cc

-- what these values and a further one refer to is there
pub there_more : (h : Objects) (vs : List Value) (v : Value) → AreThere h vs → AreThere h (v ∷ []) → AreThere h (vs ++ v ∷ [])
there_more h vs v first last n none =
    sum_by-append (λ (x : Value). cond (refers_to n x) 1 0) vs (v ∷ []) ∙ omega (arith, first n none, last n none)

-- the values up to a place, and the next
pub next_value : (xs : List Value) (i : ℕ) (v : Value) → i < length xs → v ≡ get_or xs i v → take i xs ++ v ∷ [] ≡ take (i + 1) xs
next_value xs i v within is = ap (λ (y : Value). take i xs ++ y ∷ []) is ∙ sym (take_more xs i v within)

-- nothing is filed at first
abbrev bare_map : (X : Type 0) → FinMap name_cmp X
bare_map X = map.empty

none_in : (X : Type 0) (n : Name) → map.get (bare_map X) n ≡ None
none_in X n = get-empty {X = X} name_cmp n

pub filed_empty : (room : ℕ) → IsFiled (record { objects = record { rows = map.empty; room = room }; counts = record { rows = map.empty; room = room }; loose = record { rows = map.empty; room = room }; shared = record { rows = map.empty; room = room } })
filed_empty room = record {
  each = λ n. record {
    counted = ap is_some (none_in _ n) ∙ sym (ap is_some (none_in _ n));
    loose = ap is_some (none_in _ n) ∙ sym (ap (λ o. open_at n o && is_none (map.get (bare_map ℕ) n)) (none_in _ n));
    shared = ap is_some (none_in _ n) ∙ sym (ap (λ o. open_at n o && is_many (map.get (bare_map ℕ) n)) (none_in _ n));
  };
  rooms = record { within = omega (arith, len-empty name_cmp Obj); counts = refl; loose = refl; shared = refl };
}
