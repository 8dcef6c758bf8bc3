-- The heap of a heap file without a fault is one from which a run may start.
use Rattle.std.proofs.Common.{◌≡◌, ℕ, zero, suc, ◌+◌, ◌<◌, ◌≤◌, true, false, ◌⊎◌, inl, inr, List, [], ◌∷◌, length, max, fold, refl, sym, ap, subst, ◌∙◌, T, Some, arith, length-append}
use Rattle.std.specs.List.{slice_get}
use Rattle.std.specs.FinMap as finite
use Rattle.std.specs.FinMap.{is_sorted}
use Rattle.std.proofs.lemmas.Bool.{cases_lt}
use Rattle.dl_ir.specs.declared.modules.KindDecl.{KindDecl}
use Rattle.dl_ir.specs.declared.modules.Module.{Module}
use Rattle.dl_ir.specs.declared.names.Name.{Name}
use Rattle.dl_ir.specs.declared.objects.Obj.{Obj}
use Rattle.dl_ir.specs.Heap.{Objects, name_cmp, root, roots_from, roots_of, blank_object, StandInRow, HasStart, IsRootOf, IsHeapOf}
use Rattle.dl_shape.specs.Startable.{IsStartable}
use Rattle.dl_heapfile.specs.Form.{AreInPlace, root_count}
use Rattle.dl_heapfile.specs.Faults.{heap_of, Every, RefersWell, HasOneField}
use Rattle.dl_heapfile.proofs.Rising.{Entries, get_there, there_got, entries-heap_of}
use Rattle.dl_heapfile.proofs.Listed.{IsRootAt, IsHiddenBehind, root_at, hidden_at, sorted}
use Rattle.std.proofs.lemmas.Option.{same_Some}
use Rattle.dl_lemmas.proofs.Places.{one_at}

-- ---- the roots of kinds stand in one row

pub length-roots_from : (first count : ℕ) (o : Obj) → length (roots_from first count o) ≡ count
length-roots_from first zero o = refl
length-roots_from first (suc count) o = ap suc (length-roots_from (first + 1) count o)

-- a root kind of the row has its roots from some number on, and ends before the row does
row_at : (next at : ℕ) (kinds : List KindDecl) (i : ℕ) (d : KindDecl) → StandInRow next kinds → slice_get kinds i ≡ Some d → d.is_root ≡ true → (next ≤ d.first) × (d.first + d.count ≤ next + length (roots_of at kinds))
row_at next at [] i d row is is_root = cc
row_at next at (e ∷ kinds) zero d row is is_root =
    let same : e ≡ d = same_Some e d is in
    let first : e.first ≡ next = row.0.of_root (subst (λ (k : KindDecl). k.is_root ≡ true) (sym same) is_root) in
    let here = roots_from e.first e.count (blank_object at e) in
    subst (λ (k : KindDecl). (next ≤ k.first) × (k.first + k.count ≤ next + length (roots_of at (e ∷ kinds)))) same
    (omega (arith, first), omega (arith, first, length-append here (roots_of (at + 1) kinds), length-roots_from e.first e.count (blank_object at e)))
row_at next at (e ∷ kinds) (suc i) d row is is_root =
    let rest = row_at (next + e.count) (at + 1) kinds i d row.1 is is_root in
    let here = roots_from e.first e.count (blank_object at e) in
    (omega (arith, rest.0), omega (arith, rest.1, length-append here (roots_of (at + 1) kinds), length-roots_from e.first e.count (blank_object at e)))

-- the roots of an earlier kind come before those of a later one
row_apart : (next : ℕ) (kinds : List KindDecl) (i j : ℕ) (d e : KindDecl) → StandInRow next kinds → slice_get kinds i ≡ Some d → slice_get kinds j ≡ Some e → i < j → d.is_root ≡ true → e.is_root ≡ true → d.first + d.count ≤ e.first
row_apart next [] i j d e row at_i at_j less root_d root_e = cc
row_apart next (k ∷ kinds) i zero d e row at_i at_j less root_d root_e = absurd (omega (arith, less))
row_apart next (k ∷ kinds) zero (suc j) d e row at_i at_j less root_d root_e =
    let same : k ≡ d = same_Some k d at_i in
    let first : k.first ≡ next = row.0.of_root (subst (λ (f : KindDecl). f.is_root ≡ true) (sym same) root_d) in
    let later = row_at (next + k.count) 0 kinds j e row.1 at_j root_e in
    subst (λ (f : KindDecl). f.first + f.count ≤ e.first) same (omega (arith, first, later.0))
row_apart next (k ∷ kinds) (suc i) (suc j) d e row at_i at_j less root_d root_e = row_apart (next + k.count) kinds i j d e row.1 at_i at_j (omega (arith, less)) root_d root_e

-- a root is of one kind
pub one_kind : (source : Module) (one other : ℕ) (name : Name) → StandInRow 0 source.kinds → IsRootOf source one name → IsRootOf source other name → one ≡ other
one_kind source one other name row first second = elim (cases_lt one other) [
  | inl below ↦
      let apart = row_apart 0 source.kinds one other first.declared second.declared row first.is_there second.is_there below first.is_root second.is_root in
      absurd (omega (arith, apart, first.to_last, second.from_first))
  | inr at_least ↦ elim (cases_lt other one) [
    | inl below ↦
        let apart = row_apart 0 source.kinds other one second.declared first.declared row second.is_there first.is_there below second.is_root first.is_root in
        absurd (omega (arith, apart, second.to_last, first.from_first))
    | inr least ↦ omega (arith, at_least, least)
  ]
]

-- and one of all of them
pub within_roots : (source : Module) (kind : ℕ) (name : Name) → StandInRow 0 source.kinds → IsRootOf source kind name → name.index < root_count source
within_roots source kind name row is =
    let ends = row_at 0 0 source.kinds kind is.declared row is.is_there is.is_root in
    omega (arith, ends.1, is.to_last)

pub root_named : (source : Module) (kind : ℕ) (name : Name) → IsRootOf source kind name → root name.index ≡ name
root_named source kind name is = ap (λ t. record { ticket = t; index = name.index }) (sym is.ticket)

-- ---- tickets

fold_low : (most greatest : ℕ) (es : Entries) → greatest ≤ most → ((at : ℕ) (e : Name × Obj) → slice_get es at ≡ Some e → e.0.ticket ≤ most) → fold (λ best (e : Name × Obj). max best e.0.ticket) greatest es ≤ most
fold_low most greatest [] low each = low
fold_low most greatest (e ∷ es) low each = fold_low most (max greatest e.0.ticket) es (omega (arith, low, each 0 e refl)) (λ at f there. each (suc at) f there)

-- ---- the heap

module _ (source : Module) (es : Entries) (start : HasStart source) (placed : AreInPlace source es) (well : Every (RefersWell source (heap_of es)) es) (one : Every (HasOneField (heap_of es)) es) where
  abbrev heap : Objects
  heap = heap_of es

  rising : T (is_sorted name_cmp es)
  rising = sorted source es placed.listed

  -- an object is that of a root, or hidden
  abbrev Told : Name → Obj → Type 0
  Told name object = ((at : ℕ) × IsRootAt source at (name, object)) ⊎ ((before : Entries) × IsHiddenBehind source before (name, object))

  told : (name : Name) (object : Obj) → finite.get heap name ≡ Some object → Told name object
  told name object is =
      let found = there_got es name object is in
      elim (cases_lt found.0 (root_count source)) [
        | inl low ↦ inl (found.0, root_at source es placed.listed found.0 (name, object) found.1 low)
        | inr high ↦ inr (_, hidden_at source es placed.listed found.0 (name, object) found.1 high)
      ]

  root_there : (kind : ℕ) (name : Name) → IsRootOf source kind name → (object : Obj) × (finite.get heap name ≡ Some object) × (object.kind ≡ kind) × (object.sealed ≡ false)
  root_there kind name is =
      let low = within_roots source kind name start.row is in
      let found = one_at es name.index (omega (arith, low, placed.all_roots)) in
      let at_root = root_at source es placed.listed name.index found.0 found.1 low in
      let same : found.0.0 ≡ name = at_root.name ∙ root_named source kind name is in (
        found.0.1,
        subst (λ n. finite.get heap n ≡ Some found.0.1) same (get_there es name.index found.0 rising found.1),
        one_kind source found.0.1.kind kind name start.row (subst (IsRootOf source found.0.1.kind) same at_root.root_of) is,
        at_root.unsealed,
      )

  is_heap : IsHeapOf source heap
  is_heap = record {
    roots = root_there;
    exposed = λ name object is ticket. elim (told name object is) [
      | inl at_root ↦ at_root.1.root_of
      | inr hidden ↦ absurd (omega (arith, hidden.1.ticket, ticket))
    ];
    hidden = λ name object is hides. elim (told name object is) [
      | inl at_root ↦ absurd (omega (arith, hides, ap (λ (n : Name). n.ticket) at_root.1.name))
      | inr hidden ↦ hidden.1.node
    ];
    fields = λ name object declared is has. let found = there_got es name object is in well found.0 (name, object) found.1 declared has;
  }

  low_ticket : (at : ℕ) (e : Name × Obj) → slice_get es at ≡ Some e → e.0.ticket ≤ 4611686018427387904
  low_ticket at e there = elim (cases_lt at (root_count source)) [
    | inl low ↦ omega (arith, ap (λ (n : Name). n.ticket) (root_at source es placed.listed at e there low).name)
    | inr high ↦ (hidden_at source es placed.listed at e there high).low_ticket
  ]

  pub startable : IsStartable source heap
  startable = record {
    of_module = is_heap;
    settled = λ name object is hides unsealed. let found = there_got es name object is in one found.0 (name, object) found.1 hides unsealed;
    low_tickets = subst (λ l. fold (λ best (e : Name × Obj). max best e.0.ticket) 0 l ≤ 4611686018427387904) (sym (entries-heap_of es rising)) (fold_low 4611686018427387904 0 es (omega arith) low_ticket);
    low_indexes = λ name object is hides. elim (told name object is) [
      | inl at_root ↦ absurd (omega (arith, hides, ap (λ (n : Name). n.ticket) at_root.1.name))
      | inr hidden ↦ (hidden.1.index, hidden.1.low_index)
    ];
  }
