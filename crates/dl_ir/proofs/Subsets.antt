-- A table whose names are all names of another.
use Rattle.std.proofs.Common.{◌≡◌, suc, ◌+◌, ◌<◌, ◌≤◌, Bool, true, false, cond, ◌&&◌, List, [], ◌∷◌, length, map, refl, sym, ap, subst, ◌∙◌, T, Option, Some, None, arith, inl, inr}
use Rattle.std.specs.Prelude.{is_some, find, slice_get}
use Rattle.std.specs.Option.{option_map, option_map_or}
use Rattle.std.specs.Ordering.{is_lt, eq_by_cmp}
use Rattle.std.specs.FinMap as maps
use Rattle.std.specs.FinMap.{FinMap, is_sorted, entries_sorted, entries-from_sorted, get-from_sorted, get-entries, same_map, len-entries, len-insert}
use Rattle.std.specs.FinMap.Entries.{below_all, where_key, is_sorted-where_key, find-where_key}
use Rattle.std.proofs.lemmas.List.{length-map}
use Rattle.dl_ir.specs.declared.names.Name.{Name}
use Rattle.dl_ir.specs.declared.objects.Obj.{Obj}
use Rattle.dl_ir.specs.Heap.{Objects, name_cmp}
use Rattle.dl_ir.proofs.NameOrder.{names_total, exact_names}
use Rattle.dl_ir.proofs.SortedEntries.{Held}
use Rattle.dl_ir.proofs.Lookups.{same_or_not, got_beside}
use Rattle.dl_ir.proofs.Members.{In, get_in}

-- the entries' names alone
abbrev pub bare : {X : Type 0} → Held X → Held (Unit {0})
bare es = map (λ e. (e.0, tt)) es

abbrev pub names : {X : Type 0} → Held X → List Name
names es = map (λ e. e.0) es

names-bare : {X : Type 0} (es : Held X) → names (bare es) ≡ names es
names-bare [] = refl
names-bare (e ∷ es) = ap (λ l. e.0 ∷ l) (names-bare es)

below-bare : {X : Type 0} (x : Name) (es : Held X) → below_all name_cmp x (bare es) ≡ below_all name_cmp x es
below-bare x [] = refl
below-bare x (e ∷ es) = ap (λ b. is_lt (name_cmp x e.0) && b) (below-bare x es)

sorted-bare : {X : Type 0} (es : Held X) → is_sorted name_cmp (bare es) ≡ is_sorted name_cmp es
sorted-bare [] = refl
sorted-bare (e ∷ es) = ap (λ b. b && is_sorted name_cmp (bare es)) (below-bare e.0 es) ∙ ap (λ b. below_all name_cmp e.0 es && b) (sorted-bare es)

abbrev unit_of : {X : Type 0} → Option X → Option (Unit {0})
unit_of o = option_map (λ _. tt) o

find-bare : {X : Type 0} (q : Name) (es : Held X) → maps.find name_cmp q (bare es) ≡ unit_of (maps.find name_cmp q es)
find-bare q [] = refl
find-bare q (e ∷ es) = elim (eq_by_cmp name_cmp q e.0) as (λ b. cond b (Some tt) (maps.find name_cmp q (bare es)) ≡ unit_of (cond b (Some e.1) (maps.find name_cmp q es))) [ true ↦ refl | false ↦ find-bare q es ]

-- the entries of the names that pass
abbrev pub those : {X : Type 0} → (Name → Bool) → Held X → Held X
those p es = where_key name_cmp p es

among : (test : Name × Obj → Bool) (n : Name) (o : Option Obj) → option_map_or (λ (x : Obj). test (n, x)) o false ≡ true → is_some o ≡ true
among test n None is = is
among test n (Some x) is = refl

one_side : {X Y : Type 0} (here : Option X) (there : Option Y) → (is_some here ≡ true → is_some there ≡ true) → unit_of here ≡ cond (is_some here) (unit_of there) None
one_side None there within = refl
one_side (Some x) None within = absurd (subst T (sym (within refl)) tt)
one_side (Some x) (Some y) within = refl

pushed : {X : Type 0} (b : Bool) (o : Option X) → cond b (unit_of o) None ≡ unit_of (cond b o None)
pushed true o = refl
pushed false o = refl

those_in : (p : Name → Bool) (test : Name × Obj → Bool) (es : Held Obj) → ((e : Name × Obj) → In e es → p e.0 ≡ test e)
    → slice_get (names (those p es)) 0 ≡ option_map (λ (e : Name × Obj). e.0) (find test es)
those_in p test [] same = refl
those_in p test (e ∷ es) same =
    ap (λ b. slice_get (names (cond b (e ∷ those p es) (those p es))) 0) (same e (inl refl))
    ∙ elim (test e) as (λ b. slice_get (names (cond b (e ∷ those p es) (those p es))) 0 ≡ option_map (λ (x : Name × Obj). x.0) (cond b (Some e) (find test es))) [
      | true ↦ refl
      | false ↦ those_in p test es (λ f there. same f (inr there))
    ]

those_few : (p : Name → Bool) (es : Held Obj) → length (those p es) ≤ length es
those_few p [] = omega arith
those_few p (e ∷ es) = elim (p e.0) as (λ b. length (cond b (e ∷ those p es) (those p es)) ≤ suc (length es)) [ true ↦ omega (arith, those_few p es) | false ↦ omega (arith, those_few p es) ]

first_bare : {X : Type 0} (es : Held X) → option_map (λ (e : Name × X). e.0) (slice_get es 0) ≡ slice_get (names es) 0
first_bare [] = refl
first_bare (e ∷ es) = refl

module _ {X : Type 0} (few : FinMap name_cmp X) (all : Objects) where
  abbrev passes : Name → Bool
  passes n = maps.contains_key few n

  abbrev chosen : Held Obj
  chosen = those passes (maps.entries all)

  few_sorted : T (is_sorted name_cmp (bare (maps.entries few)))
  few_sorted = subst T (sym (sorted-bare (maps.entries few))) (entries_sorted few)

  chosen_sorted : T (is_sorted name_cmp (bare chosen))
  chosen_sorted = subst T (sym (sorted-bare chosen)) (is_sorted-where_key name_cmp passes (maps.entries all) (entries_sorted all))

  module _ (within : (n : Name) → maps.contains_key few n ≡ true → maps.contains_key all n ≡ true) where
    same_rows : maps.from_sorted {R = name_cmp} (bare (maps.entries few)) ≡ maps.from_sorted (bare chosen)
    same_rows = same_map names_total exact_names _ _ (λ q.
        get-from_sorted name_cmp (bare (maps.entries few)) q few_sorted
        ∙ find-bare q (maps.entries few)
        ∙ ap unit_of (sym (get-entries few q))
        ∙ one_side (maps.get few q) (maps.get all q) (within q)
        ∙ pushed (passes q) (maps.get all q)
        ∙ ap (λ (o : Option Obj). unit_of (cond (passes q) o None)) (get-entries all q)
        ∙ ap unit_of (sym (find-where_key name_cmp passes q (λ x tied. ap passes (sym (exact_names q x tied))) (maps.entries all)))
        ∙ sym (find-bare q chosen)
        ∙ sym (get-from_sorted name_cmp (bare chosen) q chosen_sorted))

    same_names : names (maps.entries few) ≡ names chosen
    same_names =
        sym (names-bare (maps.entries few))
        ∙ ap names (sym (entries-from_sorted name_cmp (bare (maps.entries few)) few_sorted) ∙ ap maps.entries same_rows ∙ entries-from_sorted name_cmp (bare chosen) chosen_sorted)
        ∙ names-bare chosen

    -- it has no more names than the other
    pub no_more : maps.len few ≤ maps.len all
    no_more =
        let count = sym (length-map (maps.entries few) (λ e. e.0)) ∙ ap length same_names ∙ length-map chosen (λ e. e.0) in
        omega (arith, len-entries few, len-entries all, those_few passes (maps.entries all), count)

  -- its first name is that of the first object that passes the test of its names
  pub first_is : (test : Name × Obj → Bool) → ((n : Name) → maps.contains_key few n ≡ option_map_or (λ (o : Obj). test (n, o)) (maps.get all n) false)
      → option_map (λ (e : Name × X). e.0) (slice_get (maps.entries few) 0) ≡ option_map (λ (e : Name × Obj). e.0) (find test (maps.entries all))
  first_is test same =
      first_bare (maps.entries few)
      ∙ ap (λ l. slice_get l 0) (same_names (λ n is. among test n (maps.get all n) (sym (same n) ∙ is)))
      ∙ those_in passes test (maps.entries all) (λ e there. same e.0 ∙ ap (λ (o : Option Obj). option_map_or (λ (x : Obj). test (e.0, x)) o false) (get_in all e there))

-- there is room for a name of the other that it does not have
pub room_for : {X : Type 0} (few : FinMap name_cmp X) (all : Objects) (k : Name) (v : X) → ((n : Name) → maps.contains_key few n ≡ true → maps.contains_key all n ≡ true)
    → maps.contains_key all k ≡ true → maps.get few k ≡ None → maps.len few < maps.len all
room_for few all k v within there none =
    let more = no_more (maps.insert few k v) all (λ n is. elim (same_or_not n k) [
      | inl same ↦ ap (maps.contains_key all) same ∙ there
      | inr other ↦ within n (sym (ap is_some (got_beside few k v n other)) ∙ is)
    ]) in
    let one = len-insert names_total few k v ∙ ap (λ o. cond (is_some o) (maps.len few) (maps.len few + 1)) none in
    omega (arith, more, one)
