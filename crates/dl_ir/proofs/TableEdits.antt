-- What an edit of a table's entries makes of the table.
use Rattle.std.proofs.Common.{◌≡◌, ℕ, zero, suc, ◌+◌, ◌-◌, ◌<◌, ◌≤◌, true, cond, [], length, take, set, min, refl, sym, ap, subst, ◌∙◌, T, Option, Some, None, arith}
use Rattle.std.specs.Prelude.{is_some}
use Rattle.std.specs.List.{insert, slice_get}
use Rattle.std.specs.Option.{option_map, option_map_or}
use Rattle.std.specs.FinMap as map
use Rattle.std.specs.FinMap.{FinMap, is_sorted, len-insert, len-remove, empty_of_len, get-empty, entries-from_sorted}
use Rattle.std.proofs.Math.Nat.{min-le_left, min-le_right}
use Rattle.std.proofs.lemmas.List.{take-set-le}
use Rattle.dl_ir.specs.declared.names.Name.{Name}
use Rattle.dl_ir.specs.Heap.{name_cmp}
use Rattle.dl_ir.specs.Places.{IsAt, IsGap, IsTable, present}
use Rattle.dl_ir.specs.Rows.{changed_of}
use Rattle.dl_ir.proofs.NameOrder.{names_total}
use Rattle.dl_ir.proofs.SortedEntries.{Held, holds}
use Rattle.dl_ir.proofs.Edits.{got, sorted-set, made-set, gap_within, got_none, sorted-insert, made-insert}
use Rattle.dl_ir.proofs.Present.{rows, flat, sorted_present, got_rows, len_rows, rows_put, rows_none, rows_gap, passed_less, passed_set, passed_insert}

-- how many more names have a value once this one has, and how many fewer once it has none
abbrev pub more : {X : Type 0} → Option X → ℕ
more o = option_map_or (λ _. 0) o 1

abbrev pub fewer : {X : Type 0} → Option X → ℕ
fewer o = option_map_or (λ _. 1) o 0

len_more : {X : Type 0} → (o : Option X) (n : ℕ) → cond (is_some o) n (n + 1) ≡ n + more o
len_more None n = refl
len_more (Some v) n = omega arith

len_fewer : {X : Type 0} → (o : Option X) (n : ℕ) → cond (is_some o) (n - 1) n ≡ n - fewer o
len_fewer None n = omega arith
len_fewer (Some v) n = refl

module _ {X : Type 0} {es : Held (Option X)} {count first room capacity : ℕ} (table : IsTable es count first room capacity) where
  sorted : T (is_sorted name_cmp es)
  sorted = holds _ table.sorted

  -- as many rows as are counted
  pub len_is : map.len (rows es) ≡ count
  len_is = len_rows es sorted ∙ sym table.counted

  -- the rows in order are the entries that have a value
  pub entries_are : map.entries (rows es) ≡ present es
  entries_are = entries-from_sorted name_cmp (present es) (sorted_present es sorted)

  module _ (k : Name) (at : ℕ) where
    module _ (is_at : IsAt k es at) where
      -- the entry at the place, whose value the rows have
      pub entry : (e : Name × Option X) × (slice_get es at ≡ Some e) × (e.0 ≡ k) × (map.get (rows es) k ≡ e.1)
      entry = let e = got k es at sorted is_at in (e.0, e.1, e.2, got_rows es k sorted ∙ ap flat (sym e.3))

      rows-put : (v : X) → rows (set es at (k, Some v)) ≡ map.insert (rows es) k v
      rows-put v = rows_put k es _ sorted (holds _ (sorted-set k es at sorted is_at (Some v))) v (made-set k es at sorted is_at (Some v))

      rows-none : rows (set es at (k, None)) ≡ map.remove (rows es) k
      rows-none = rows_none k es _ sorted (holds _ (sorted-set k es at sorted is_at None)) (made-set k es at sorted is_at None)

      len-put : (v : X) → length (present (set es at (k, Some v))) ≡ count + more (map.get (rows es) k)
      len-put v = sym (len_rows (set es at (k, Some v)) (holds _ (sorted-set k es at sorted is_at (Some v)))) ∙ ap map.len (rows-put v)
          ∙ len-insert names_total (rows es) k v ∙ len_more (map.get (rows es) k) _ ∙ ap (λ n. n + more (map.get (rows es) k)) len_is

      len-none : length (present (set es at (k, None))) ≡ count - fewer (map.get (rows es) k)
      len-none = sym (len_rows (set es at (k, None)) (holds _ (sorted-set k es at sorted is_at None))) ∙ ap map.len rows-none
          ∙ len-remove names_total (rows es) k ∙ len_fewer (map.get (rows es) k) _ ∙ ap (λ n. n - fewer (map.get (rows es) k)) len_is

      -- a value is put
      pub filled : (v : X) → rows (set es at (k, Some v)) ≡ map.insert (rows es) k v
      filled = rows-put

      pub table-filled : (v : X) (o : Option X) → map.get (rows es) k ≡ o → count + more o ≤ room → IsTable (set es at (k, Some v)) (count + more o) (min first at) room capacity
      table-filled v o is within = record {
        sorted = sorted-set k es at sorted is_at (Some v);
        counted = ap (λ p. count + more p) (sym is) ∙ sym (len-put v);
        passed = ap present (take-set-le (min first at) es at (k, Some v) (min-le_right first at)) ∙ passed_less es (min first at) first (min-le_left first at) table.passed;
        within = within;
        reserved = table.reserved;
      }

      -- a value is taken
      pub emptied : rows (set es at (k, None)) ≡ map.remove (rows es) k
      emptied = rows-none

      pub table-emptied : (o : Option X) → map.get (rows es) k ≡ o → IsTable (set es at (k, None)) (count - fewer o) first room capacity
      table-emptied o is = let e = entry in record {
        sorted = sorted-set k es at sorted is_at None;
        counted = ap (λ p. count - fewer p) (sym is) ∙ sym len-none;
        passed = subst (λ (n : Name). present (take first (set es at (n, None))) ≡ []) e.2 (passed_set es first at e.0 None e.1 (λ _. refl) table.passed);
        within = omega (arith, table.within);
        reserved = table.reserved;
      }

      -- a value is changed, if there is one
      module _ (change : X → X) where
        rows-changed : (o : Option X) → map.get (rows es) k ≡ o → rows (set es at (k, option_map change o)) ≡ changed_of (rows es) k change o
        rows-changed None is = rows-none ∙ sym (rows_gap k (rows es) is)
        rows-changed (Some v) is = rows-put (change v)

        len-changed : (o : Option X) → map.get (rows es) k ≡ o → length (present (set es at (k, option_map change o))) ≡ count
        len-changed None is = len-none ∙ ap (λ o. count - fewer o) is ∙ omega arith
        len-changed (Some v) is = len-put (change v) ∙ ap (λ o. count + more o) is ∙ omega arith

        none_changed : (o : Option X) → o ≡ None → option_map change o ≡ None
        none_changed o is = ap (option_map change) is

        pub after : rows (set es at (k, option_map change (entry.0).1)) ≡ changed_of (rows es) k change (entry.0).1
        after = rows-changed (entry.0).1 entry.3

        pub table-after : IsTable (set es at (k, option_map change (entry.0).1)) count first room capacity
        table-after = let e = entry in record {
          sorted = sorted-set k es at sorted is_at (option_map change e.0.1);
          counted = sym (len-changed e.0.1 e.3);
          passed = subst (λ (n : Name). present (take first (set es at (n, option_map change e.0.1))) ≡ []) e.2 (passed_set es first at e.0 (option_map change e.0.1) e.1 (none_changed e.0.1) table.passed);
          within = table.within;
          reserved = table.reserved;
        }

    module _ (is_gap : IsGap k es at) where
      pub absent : map.get (rows es) k ≡ None
      absent = got_rows es k sorted ∙ ap flat (sym (got_none k es at sorted is_gap))

      pub inserted : (v : X) → rows (insert es at (k, Some v)) ≡ map.insert (rows es) k v
      inserted v = rows_put k es _ sorted (holds _ (sorted-insert k es at sorted is_gap (Some v))) v (made-insert k es at sorted is_gap (Some v))

      len-inserted : (v : X) → length (present (insert es at (k, Some v))) ≡ count + 1
      len-inserted v = sym (len_rows (insert es at (k, Some v)) (holds _ (sorted-insert k es at sorted is_gap (Some v)))) ∙ ap map.len (inserted v)
          ∙ len-insert names_total (rows es) k v ∙ len_more (map.get (rows es) k) _ ∙ ap (λ o. map.len (rows es) + more o) absent ∙ ap (λ n. n + 1) len_is

      pub table-inserted : (v : X) (larger : ℕ) → count < room → capacity ≤ larger → IsTable (insert es at (k, Some v)) (count + 1) (min first at) room larger
      table-inserted v larger less rises = record {
        sorted = sorted-insert k es at sorted is_gap (Some v);
        counted = sym (len-inserted v);
        passed = ap present (passed_insert es (min first at) at (k, Some v) (min-le_right first at) (gap_within k es at sorted is_gap)) ∙ passed_less es (min first at) first (min-le_left first at) table.passed;
        within = omega (arith, less);
        reserved = omega (arith, table.reserved, rises);
      }

-- the table whose entries stand otherwise, with the same values
pub roomed : {X : Type 0} {es new : Held (Option X)} {count first at room capacity same_capacity : ℕ} → IsTable es count first room capacity
    → present new ≡ present es → is_sorted name_cmp new ≡ true → present (take at new) ≡ [] → same_capacity ≡ capacity → IsTable new count at room same_capacity
roomed table same sorted passed capacity = record {
  sorted = sorted;
  counted = table.counted ∙ ap length (sym same);
  passed = passed;
  within = table.within;
  reserved = rw capacity table.reserved;
}

within_more : {X : Type 0} → (o : Option X) (count room : ℕ) → count ≤ room → (o ≡ None → count < room) → count + more o ≤ room
within_more None count room within less = let l = less refl in omega (arith, l)
within_more (Some v) count room within less = omega (arith, within)

-- there is room for one more where there has to be one
pub has_room : {X : Type 0} {es : Held (Option X)} {count first room capacity : ℕ} (new : Held (Option X)) (k : Name) (o : Option X) → IsTable es count first room capacity
    → (map.get (rows es) k ≡ None → map.len (rows es) < room) → present new ≡ present es → map.get (rows new) k ≡ o → count + more o ≤ room
has_room {X} {es} {count} {first} {room} new k o table less same is =
    within_more o count room table.within (λ none.
    let free = less (ap (λ (l : Held X). map.get (map.from_sorted {R = name_cmp} l) k) (sym same) ∙ is ∙ none) in
    omega (arith, free, len_is table))

-- what is there was counted
pub fewer_within : {X : Type 0} {es : Held (Option X)} {count first room capacity : ℕ} (k : Name) (o : Option X) → IsTable es count first room capacity
    → map.get (rows es) k ≡ o → fewer o ≤ count
fewer_within k None table is = omega arith
fewer_within {X} {es} {count = zero} k (Some v) table is =
    let none = ap (λ (m : FinMap name_cmp X). map.get m k) (empty_of_len (rows es) (len_is table)) ∙ get-empty name_cmp k in
    cc
fewer_within {X} {es} {count = suc count} k (Some v) table is = omega arith
