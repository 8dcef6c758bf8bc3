-- The entries that have a value, and what an edit of all makes of them.
use Rattle.std.proofs.Common.{◌≡◌, inl, inr, ℕ, zero, suc, ◌≤◌, Bool, true, false, cond, ◌&&◌, List, [], ◌∷◌, length, take, set, refl, sym, ap, subst, ◌∙◌, T, Option, Some, None, arith}
use Rattle.std.specs.Prelude.{is_some}
use Rattle.std.specs.List.{filter, cons_option, insert, slice_get}
use Rattle.std.specs.Option.{option_map, option_and_then}
use Rattle.std.specs.Ordering.{is_lt, is_eq, eq_by_cmp}
use Rattle.std.specs.declared.cmp.Ordering.TheVariants.{Equal}
use Rattle.std.specs.FinMap as map
use Rattle.std.specs.FinMap.{FinMap, find, is_sorted, get-from_sorted, get-insert, get-remove, entries-from_sorted, len-entries, same_map}
use Rattle.std.specs.FinMap.Entries.{below_all}
use Rattle.dl_ir.specs.declared.names.Name.{Name}
use Rattle.dl_ir.specs.Heap.{name_cmp}
use Rattle.dl_ir.specs.Places.{present}
use Rattle.dl_ir.proofs.NameOrder.{names_total, exact_names}
use Rattle.std.specs.Cmp.{Equal-is}
use Rattle.dl_ir.proofs.Lookups.{same_or_not, gone, got_left}
use Rattle.dl_ir.proofs.SortedEntries.{Held, first_of_both, second_of_both, is_less}
use Rattle.dl_ir.proofs.Edits.{made}

both : (a b : Bool) → T a → T b → T (a && b)
both true b p q = q
both false b p q = p

-- an entry before others, if it has a value
abbrev kept : {X : Type 0} → Name → Option X → Held X → Held X
kept n o rest = cons_option (option_map (λ v. (n, v)) o) rest

-- the rows that the entries make
abbrev pub rows : {X : Type 0} → Held (Option X) → FinMap name_cmp X
rows es = map.from_sorted (present es)

-- the value in a value that may be there
abbrev pub flat : {X : Type 0} → Option (Option X) → Option X
flat o = option_and_then (λ v. v) o

-- ---- order

below_kept : {X : Type 0} → (x n : Name) (o : Option X) (rest : Held X) → T (is_lt (name_cmp x n)) → T (below_all name_cmp x rest) → T (below_all name_cmp x (kept n o rest))
below_kept x n None rest here there = there
below_kept x n (Some v) rest here there = both _ _ here there

below_present : {X : Type 0} → (x : Name) (es : Held (Option X)) → T (below_all name_cmp x es) → T (below_all name_cmp x (present es))
below_present x [] below = tt
below_present x (e ∷ es) below = below_kept x e.0 e.1 _ (first_of_both _ _ below) (below_present x es (second_of_both _ _ below))

sorted_kept : {X : Type 0} → (n : Name) (o : Option X) (rest : Held X) → T (below_all name_cmp n rest) → T (is_sorted name_cmp rest) → T (is_sorted name_cmp (kept n o rest))
sorted_kept n None rest here there = there
sorted_kept n (Some v) rest here there = both _ _ here there

-- the entries that have a value are sorted too
pub sorted_present : {X : Type 0} → (es : Held (Option X)) → T (is_sorted name_cmp es) → T (is_sorted name_cmp (present es))
sorted_present [] sorted = tt
sorted_present (e ∷ es) sorted = sorted_kept e.0 e.1 _ (below_present e.0 es (first_of_both _ _ sorted)) (sorted_present es (second_of_both _ _ sorted))

-- ---- lookup

-- what ties with a name below all is not found
find_tied : {X : Type 0} → (k x : Name) (es : Held X) → name_cmp k x ≡ Equal → T (below_all name_cmp x es) → find name_cmp k es ≡ None
find_tied k x [] tied below = refl
find_tied k x (e ∷ es) tied below =
    ap (λ r. cond (is_eq r) (Some e.1) (find name_cmp k es)) (names_total.congr k x e.0 tied ∙ is_less _ (first_of_both _ _ below))
    ∙ find_tied k x es tied (second_of_both _ _ below)

is_tied : (k x : Name) → eq_by_cmp name_cmp k x ≡ true → name_cmp k x ≡ Equal
is_tied k x is = (Equal-is (name_cmp k x)).0 is

find_kept : {X : Type 0} → (k n : Name) (o : Option X) (es : Held (Option X)) → T (below_all name_cmp n es) → find name_cmp k (present es) ≡ flat (find name_cmp k es)
    → find name_cmp k (kept n o (present es)) ≡ flat (cond (eq_by_cmp name_cmp k n) (Some o) (find name_cmp k es))
find_kept k n None es below rest =
    elim (eq_by_cmp name_cmp k n) as (λ b. eq_by_cmp name_cmp k n ≡ b → find name_cmp k (present es) ≡ flat (cond b (Some None) (find name_cmp k es))) [
      | true ↦ λ is. find_tied k n (present es) (is_tied k n is) (below_present n es below)
      | false ↦ λ is. rest
    ] refl
find_kept k n (Some v) es below rest =
    elim (eq_by_cmp name_cmp k n) as (λ b. cond b (Some v) (find name_cmp k (present es)) ≡ flat (cond b (Some (Some v)) (find name_cmp k es))) [
      | true ↦ refl
      | false ↦ rest
    ]

find_present : {X : Type 0} → (k : Name) (es : Held (Option X)) → T (is_sorted name_cmp es) → find name_cmp k (present es) ≡ flat (find name_cmp k es)
find_present k [] sorted = refl
find_present k (e ∷ es) sorted = find_kept k e.0 e.1 es (first_of_both _ _ sorted) (find_present k es (second_of_both _ _ sorted))

-- what the rows have is what the entries have
pub got_rows : {X : Type 0} → (es : Held (Option X)) (k : Name) → T (is_sorted name_cmp es) → map.get (rows es) k ≡ flat (map.get (made es) k)
got_rows es k sorted = get-from_sorted name_cmp (present es) k (sorted_present es sorted) ∙ find_present k es sorted ∙ ap flat (sym (get-from_sorted name_cmp es k sorted))

pub len_rows : {X : Type 0} → (es : Held (Option X)) → T (is_sorted name_cmp es) → map.len (rows es) ≡ length (present es)
len_rows es sorted = len-entries (rows es) ∙ ap length (entries-from_sorted name_cmp (present es) (sorted_present es sorted))

-- ---- edits

flat_put : {X : Type 0} → (b : Bool) (v : X) (o : Option (Option X)) → flat (cond b (Some (Some v)) o) ≡ cond b (Some v) (flat o)
flat_put true v o = refl
flat_put false v o = refl

flat_none : {X : Type 0} → (b : Bool) (o : Option (Option X)) → flat (cond b (Some None) o) ≡ cond b None (flat o)
flat_none true o = refl
flat_none false o = refl

module _ {X : Type 0} (k : Name) (es new : Held (Option X)) (sorted : T (is_sorted name_cmp es)) (after : T (is_sorted name_cmp new)) where
  pub rows_put : (v : X) → made new ≡ map.insert (made es) k (Some v) → rows new ≡ map.insert (rows es) k v
  rows_put v is = same_map names_total exact_names _ _ (λ q.
      got_rows new q after ∙ ap (λ (m : FinMap name_cmp (Option X)). flat (map.get m q)) is
      ∙ ap flat (get-insert names_total (made es) k (Some v) q) ∙ flat_put (eq_by_cmp name_cmp q k) v _
      ∙ ap (cond (eq_by_cmp name_cmp q k) (Some v)) (sym (got_rows es q sorted)) ∙ sym (get-insert names_total (rows es) k v q))

  pub rows_none : made new ≡ map.insert (made es) k None → rows new ≡ map.remove (rows es) k
  rows_none is = same_map names_total exact_names _ _ (λ q.
      got_rows new q after ∙ ap (λ (m : FinMap name_cmp (Option X)). flat (map.get m q)) is
      ∙ ap flat (get-insert names_total (made es) k None q) ∙ flat_none (eq_by_cmp name_cmp q k) _
      ∙ ap (cond (eq_by_cmp name_cmp q k) None) (sym (got_rows es q sorted)) ∙ sym (get-remove names_total (rows es) k q))

-- where there is no value, none is removed
pub rows_gap : {X : Type 0} → (k : Name) (m : FinMap name_cmp X) → map.get m k ≡ None → m ≡ map.remove m k
rows_gap {X} k m none = same_map names_total exact_names _ _ (λ q. elim (same_or_not q k) [
  | inl same ↦ subst (λ n. map.get m n ≡ map.get (map.remove m k) n) (sym same) (none ∙ sym (gone m k))
  | inr other ↦ sym (got_left m k q other)
])

-- what is not there is none
pub is_none : {X : Type 0} → (o : Option X) → is_some o ≡ false → o ≡ None
is_none None is = refl
is_none (Some v) is = cc

-- ---- what stands before a place

nothing_kept : {X : Type 0} → (n : Name) (o : Option X) (rest : Held X) → kept n o rest ≡ [] → (o ≡ None) × (rest ≡ [])
nothing_kept n None rest is = (refl, is)
nothing_kept n (Some v) rest is = cc

kept_nothing : {X : Type 0} → (n : Name) (o : Option X) (rest : Held X) → o ≡ None → rest ≡ [] → kept n o rest ≡ []
kept_nothing n o rest none nothing = rw (none, nothing) refl

-- if no name before a place has a value, none before a lesser place does
pub passed_less : {X : Type 0} → (es : Held (Option X)) (m n : ℕ) → m ≤ n → present (take n es) ≡ [] → present (take m es) ≡ []
passed_less [] zero n le passed = refl
passed_less [] (suc m) n le passed = refl
passed_less (e ∷ es) zero n le passed = refl
passed_less (e ∷ es) (suc m) zero le passed = absurd (omega (arith, le))
passed_less (e ∷ es) (suc m) (suc n) le passed =
    let parts = nothing_kept e.0 e.1 _ passed in
    kept_nothing e.0 e.1 _ parts.0 (passed_less es m n (omega (arith, le)) parts.1)

-- nor after an edit that gives none to a name
pub passed_set : {X : Type 0} → (es : Held (Option X)) (n at : ℕ) (e : Name × Option X) (o : Option X) → slice_get es at ≡ Some e → (e.1 ≡ None → o ≡ None)
    → present (take n es) ≡ [] → present (take n (set es at (e.0, o))) ≡ []
passed_set [] n at e o is none passed = passed
passed_set (x ∷ es) zero at e o is none passed = refl
passed_set {X} (x ∷ es) (suc n) zero e o is none passed =
    let parts = nothing_kept x.0 x.1 _ passed in
    let same : x ≡ e = cc in
    kept_nothing e.0 o _ (none (ap (λ (y : Name × Option X). y.1) (sym same) ∙ parts.0)) parts.1
passed_set (x ∷ es) (suc n) (suc at) e o is none passed =
    let parts = nothing_kept x.0 x.1 _ passed in
    kept_nothing x.0 x.1 _ parts.0 (passed_set es n at e o is none parts.1)

-- nor after one behind the place
pub passed_insert : {A : Type 0} → (es : List A) (n at : ℕ) (x : A) → n ≤ at → at ≤ length es → take n (insert es at x) ≡ take n es
passed_insert es zero at x le within = refl
passed_insert [] (suc n) at x le within = absurd (omega arith)
passed_insert (e ∷ es) (suc n) zero x le within = absurd (omega arith)
passed_insert {A} (e ∷ es) (suc n) (suc at) x le within = ap (λ (l : List A). e ∷ l) (passed_insert es n at x (omega arith) (omega arith))

-- a name without a value is passed
pub passed_more : {X : Type 0} → (es : Held (Option X)) (n : ℕ) (e : Name × Option X) → slice_get es n ≡ Some e → e.1 ≡ None → present (take n es) ≡ [] → present (take (suc n) es) ≡ []
passed_more [] n e is none passed = cc
passed_more {X} (x ∷ es) zero e is none passed =
    let same : x ≡ e = cc in
    kept_nothing x.0 x.1 _ (ap (λ (y : Name × Option X). y.1) same ∙ none) refl
passed_more (x ∷ es) (suc n) e is none passed =
    let parts = nothing_kept x.0 x.1 _ passed in
    kept_nothing x.0 x.1 _ parts.0 (passed_more es n e is none parts.1)

-- where nothing has a value before a place, what has one there is the first that does
first_kept : {X : Type 0} → (n : Name) (o : Option X) (rest : Held X) → is_some o ≡ true → option_map (λ (e : Name × X). e.0) (slice_get (kept n o rest) 0) ≡ Some n
first_kept n None rest is = cc
first_kept n (Some v) rest is = refl

pub first_there : {X : Type 0} → (es : Held (Option X)) (n : ℕ) (e : Name × Option X) → slice_get es n ≡ Some e → is_some e.1 ≡ true → present (take n es) ≡ []
    → option_map (λ (e : Name × X). e.0) (slice_get (present es) 0) ≡ Some e.0
first_there [] n e is some passed = cc
first_there {X} (x ∷ es) zero e is some passed =
    let same : x ≡ e = cc in
    first_kept x.0 x.1 _ (ap (λ (y : Name × Option X). is_some y.1) same ∙ some) ∙ ap (λ (y : Name × Option X). Some y.0) same
first_there {X} (x ∷ es) (suc n) e is some passed =
    let parts = nothing_kept x.0 x.1 _ passed in
    rw parts.0 (first_there es n e is some parts.1)

pub first_none : {X : Type 0} → (es : Held (Option X)) (n : ℕ) → length es ≤ n → present (take n es) ≡ []
    → option_map (λ (e : Name × X). e.0) (slice_get (present es) 0) ≡ option_map (λ (e : Name × Option X). e.0) (slice_get es n)
first_none [] n le passed = refl
first_none (x ∷ es) zero le passed = absurd (omega (arith, le))
first_none (x ∷ es) (suc n) le passed =
    let parts = nothing_kept x.0 x.1 _ passed in
    rw parts.0 (first_none es n (omega (arith, le)) parts.1)

-- ---- without the names that have no value

abbrev pub has_value : {X : Type 0} → Name × Option X → Bool
has_value e = is_some e.1

below_filter : {X : Type 0} → (x : Name) (p : Name × X → Bool) (es : Held X) → T (below_all name_cmp x es) → T (below_all name_cmp x (filter p es))
below_filter x p [] below = tt
below_filter x p (e ∷ es) below =
    let rest = below_filter x p es (second_of_both _ _ below) in
    elim (p e) as (λ b. T (below_all name_cmp x (cond b (e ∷ filter p es) (filter p es)))) [
      | true ↦ both _ _ (first_of_both _ _ below) rest
      | false ↦ rest
    ]

pub sorted_filter : {X : Type 0} → (p : Name × X → Bool) (es : Held X) → T (is_sorted name_cmp es) → T (is_sorted name_cmp (filter p es))
sorted_filter p [] sorted = tt
sorted_filter p (e ∷ es) sorted =
    let rest = sorted_filter p es (second_of_both _ _ sorted) in
    elim (p e) as (λ b. T (is_sorted name_cmp (cond b (e ∷ filter p es) (filter p es)))) [
      | true ↦ both _ _ (below_filter e.0 p es (first_of_both _ _ sorted)) rest
      | false ↦ rest
    ]

packed_kept : {X : Type 0} → (n : Name) (o : Option X) (es : Held (Option X)) → (present (filter has_value es) ≡ present es) × (length (filter has_value es) ≡ length (present es))
    → (present (cond (is_some o) ((n, o) ∷ filter has_value es) (filter has_value es)) ≡ kept n o (present es))
    × (length (cond (is_some o) ((n, o) ∷ filter has_value es) (filter has_value es)) ≡ length (kept n o (present es)))
packed_kept n None es rest = rest
packed_kept {X} n (Some v) es rest = (ap (λ (l : Held X). (n, v) ∷ l) rest.0, ap suc rest.1)

pub packed : {X : Type 0} → (es : Held (Option X)) → (present (filter has_value es) ≡ present es) × (length (filter has_value es) ≡ length (present es))
packed [] = (refl, refl)
packed (e ∷ es) = packed_kept e.0 e.1 es (packed es)
