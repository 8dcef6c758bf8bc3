-- What an edit of the sorted entries does to the table that they make.
use Rattle.std.proofs.Common.{◌≡◌, ℕ, ◌<◌, ◌≤◌, true, length, set, sym, ap, ◌∙◌, T, Some, None}
use Rattle.std.specs.List.{insert, slice_get}
use Rattle.std.specs.FinMap as map
use Rattle.std.specs.FinMap.{put, is_sorted, get-from_sorted, entries-from_sorted, entries-insert, same_entries_map}
use Rattle.std.specs.FinMap.Entries.{is_sorted-put}
use Rattle.dl_ir.specs.declared.names.Name.{Name}
use Rattle.dl_ir.specs.Heap.{name_cmp}
use Rattle.dl_ir.specs.Places.{IsAt, IsGap}
use Rattle.dl_ir.proofs.NameOrder.{names_total}
use Rattle.dl_ir.proofs.SortedEntries.{Held, yes, insert_gap, set_at, find_at, find_gap}

-- the heap that sorted entries make
abbrev pub made : {X : Type 0} → Held X → map.FinMap name_cmp X
made es = map.from_sorted es

module _ {X : Type 0} (k : Name) (es : Held X) (sorted : T (is_sorted name_cmp es)) where
  -- an entry that is put is inserted
  pub made-put : (v : X) → made (put name_cmp k v es) ≡ map.insert (made es) k v
  made-put v = same_entries_map _ _ (
      entries-from_sorted name_cmp _ (is_sorted-put name_cmp names_total k v es sorted)
      ∙ sym (entries-insert names_total (made es) k v ∙ ap (put name_cmp k v) (entries-from_sorted name_cmp es sorted)))

module _ {X : Type 0} (k : Name) (es : Held X) (at : ℕ) (sorted : T (is_sorted name_cmp es)) where
  module _ (is_at : IsAt k es at) where
    pub at_within : at < length es
    at_within = (find_at k es at is_at).4

    -- the entry at the place is what the map has
    pub got : (e : Name × X) × (slice_get es at ≡ Some e) × (e.0 ≡ k) × (Some e.1 ≡ map.get (made es) k)
    got = let found = find_at k es at is_at in (found.0, found.1, found.2, sym (get-from_sorted name_cmp es k sorted ∙ found.3))

    pub sorted-set : (v : X) → is_sorted name_cmp (set es at (k, v)) ≡ true
    sorted-set v = ap (is_sorted name_cmp) (set_at k v es at is_at) ∙ yes _ (is_sorted-put name_cmp names_total k v es sorted)

    pub made-set : (v : X) → made (set es at (k, v)) ≡ map.insert (made es) k v
    made-set v = ap made (set_at k v es at is_at) ∙ made-put k es sorted v

  module _ (is_gap : IsGap k es at) where
    pub gap_within : at ≤ length es
    gap_within = (find_gap k es at sorted is_gap).1

    pub got_none : None ≡ map.get (made es) k
    got_none = sym (get-from_sorted name_cmp es k sorted ∙ (find_gap k es at sorted is_gap).0)

    pub sorted-insert : (v : X) → is_sorted name_cmp (insert es at (k, v)) ≡ true
    sorted-insert v = ap (is_sorted name_cmp) (insert_gap k v es at is_gap) ∙ yes _ (is_sorted-put name_cmp names_total k v es sorted)

    pub made-insert : (v : X) → made (insert es at (k, v)) ≡ map.insert (made es) k v
    made-insert v = ap made (insert_gap k v es at is_gap) ∙ made-put k es sorted v
