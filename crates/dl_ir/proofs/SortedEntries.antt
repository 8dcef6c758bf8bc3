-- Edits of a heap's sorted entries at a place.
use Rattle.std.proofs.Common.{◌≡◌, ℕ, zero, suc, ◌<◌, ◌≤◌, Bool, true, false, cond, ◌&&◌, List, [], ◌∷◌, length, set, refl, sym, ap, subst, ◌∙◌, T, Some, None, arith}
use Rattle.std.specs.List.{insert, slice_get}
use Rattle.std.specs.Ordering.{is_lt, is_eq}
use Rattle.std.specs.declared.cmp.Ordering.{Ordering}
use Rattle.std.specs.declared.cmp.Ordering.TheVariants.{Less, Equal, Greater}
use Rattle.std.specs.FinMap.{find, put, is_sorted}
use Rattle.std.specs.FinMap.Entries.{by_order, below_all}
use Rattle.dl_ir.specs.declared.names.Name.{Name}
use Rattle.dl_ir.specs.Heap.{name_cmp}
use Rattle.dl_ir.specs.Places.{IsAt, IsGap}
use Rattle.dl_ir.proofs.NameOrder.{names_total, exact_names, less_turned, greater_turned, equal_turned}

abbrev pub Held : Type 0 → Type 0
Held X = List (Name × X)

pub yes : (b : Bool) → T b → b ≡ true
yes true h = refl
yes false h = absurd h

pub holds : (b : Bool) → b ≡ true → T b
holds b h = subst T (sym h) tt

pub first_of_both : (a b : Bool) → T (a && b) → T a
first_of_both true b h = tt
first_of_both false b h = h

pub second_of_both : (a b : Bool) → T (a && b) → T b
second_of_both true b h = h
second_of_both false b h = absurd h

pub is_less : (r : Ordering) → T (is_lt r) → r ≡ Less
is_less Less h = refl
is_less Equal h = absurd h
is_less Greater h = absurd h

-- an entry that comes in the gap is put
pub insert_gap : {X : Type 0} → (k : Name) (v : X) (es : Held X) (at : ℕ) → IsGap k es at → insert es at (k, v) ≡ put name_cmp k v es
insert_gap {X} k v [] zero h = refl
insert_gap {X} k v [] (suc at) h = absurd h
insert_gap {X} k v (e ∷ es) zero h = ap (λ r. by_order r ((k, v) ∷ e ∷ es) ((e.0, v) ∷ es) (e ∷ put name_cmp k v es)) (sym (greater_turned e.0 k h))
insert_gap {X} k v (e ∷ es) (suc at) h =
    ap (λ (l : Held X). e ∷ l) (insert_gap k v es at h.1)
    ∙ ap (λ r. by_order r ((k, v) ∷ e ∷ es) ((e.0, v) ∷ es) (e ∷ put name_cmp k v es)) (sym (less_turned e.0 k h.0))

-- an entry that is written over is put
pub set_at : {X : Type 0} → (k : Name) (v : X) (es : Held X) (at : ℕ) → IsAt k es at → set es at (k, v) ≡ put name_cmp k v es
set_at {X} k v [] at h = absurd h
set_at {X} k v (e ∷ es) zero h =
    ap (λ (n : Name). (n, v) ∷ es) (sym (exact_names e.0 k h))
    ∙ ap (λ r. by_order r ((k, v) ∷ e ∷ es) ((e.0, v) ∷ es) (e ∷ put name_cmp k v es)) (sym (equal_turned e.0 k h))
set_at {X} k v (e ∷ es) (suc at) h =
    ap (λ (l : Held X). e ∷ l) (set_at k v es at h.1)
    ∙ ap (λ r. by_order r ((k, v) ∷ e ∷ es) ((e.0, v) ∷ es) (e ∷ put name_cmp k v es)) (sym (less_turned e.0 k h.0))

-- what is at the place is found
pub find_at : {X : Type 0} → (k : Name) (es : Held X) (at : ℕ) → IsAt k es at → (e : Name × X) × (slice_get es at ≡ Some e) × (e.0 ≡ k) × (find name_cmp k es ≡ Some e.1) × (at < length es)
find_at {X} k [] at h = absurd h
find_at {X} k (e ∷ es) zero h = (e, refl, exact_names e.0 k h, ap (λ r. cond (is_eq r) (Some e.1) (find name_cmp k es)) (equal_turned e.0 k h), omega arith)
find_at {X} k (e ∷ es) (suc at) h =
    let rest = find_at k es at h.1 in
    (rest.0, rest.1, rest.2, ap (λ r. cond (is_eq r) (Some e.1) (find name_cmp k es)) (less_turned e.0 k h.0) ∙ rest.3, omega (arith, rest.4))

-- what is below each name is not found
find_below : {X : Type 0} → (k x : Name) (es : Held X) → name_cmp k x ≡ Less → T (below_all name_cmp x es) → find name_cmp k es ≡ None
find_below {X} k x [] less below = refl
find_below {X} k x (e ∷ es) less below =
    ap (λ r. cond (is_eq r) (Some e.1) (find name_cmp k es)) (names_total.trans k x e.0 less (is_less _ (first_of_both _ _ below)))
    ∙ find_below k x es less (second_of_both _ _ below)

-- what has a gap is not found
pub find_gap : {X : Type 0} → (k : Name) (es : Held X) (at : ℕ) → T (is_sorted name_cmp es) → IsGap k es at → (find name_cmp k es ≡ None) × (at ≤ length es)
find_gap {X} k [] zero sorted h = (refl, omega arith)
find_gap {X} k [] (suc at) sorted h = absurd h
find_gap {X} k (e ∷ es) zero sorted h =
    let less = greater_turned e.0 k h in
    (ap (λ r. cond (is_eq r) (Some e.1) (find name_cmp k es)) less ∙ find_below k e.0 es less (first_of_both _ _ sorted), omega arith)
find_gap {X} k (e ∷ es) (suc at) sorted h =
    let rest = find_gap k es at (second_of_both _ _ sorted) h.1 in
    (ap (λ r. cond (is_eq r) (Some e.1) (find name_cmp k es)) (less_turned e.0 k h.0) ∙ rest.0, omega (arith, rest.1))
