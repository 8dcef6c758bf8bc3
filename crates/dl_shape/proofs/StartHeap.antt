-- The start heap of a module is a heap of it. `dl_ir` shows the same of `Heap::start`, and keeps its lemma to itself.
use Rattle.std.proofs.Common.{◌≡◌, ℕ, zero, suc, ◌+◌, ◌<◌, ◌≤◌, true, false, cond, List, [], ◌∷◌, ◌++◌, refl, sym, ap, subst, ◌∙◌, Some, arith, ◌⊎◌, inl, inr, eqb}
use Rattle.std.specs.List.{slice_get}
use Rattle.std.specs.Cmp.{Equal-is}
use Rattle.std.specs.Ordering.{is_eq, eq_by_cmp}
use Rattle.std.specs.declared.cmp.Ordering.TheVariants.{Less, Equal, Greater}
use Rattle.std.specs.FinMap as maps
use Rattle.std.specs.FinMap.{find, get-from_entries}
use Rattle.std.proofs.lemmas.Bool.{cases_lt, lt-ltb}
use Rattle.std.proofs.lemmas.Cmp.{tied_itself}
use Rattle.std.proofs.lemmas.List.{length-map}
use Rattle.dl_ir.specs.declared.modules.Module.{Module}
use Rattle.dl_ir.specs.declared.modules.KindDecl.{KindDecl}
use Rattle.dl_ir.specs.declared.modules.FieldDecl.{FieldDecl}
use Rattle.dl_ir.specs.declared.modules.Ty.{Ty}
use Rattle.dl_ir.specs.declared.modules.Ty.TheVariants.{Int, Of}
use Rattle.dl_ir.specs.declared.names.Name.{Name}
use Rattle.dl_ir.specs.declared.names.Value.{Value}
use Rattle.dl_ir.specs.declared.objects.Obj.{Obj}
use Rattle.dl_ir.specs.Heap.{Objects, name_cmp, root, roots_from, roots_of, blank, blank_fields, blank_object, start_objects, StandInRow, HasRootsAt, HasStart, HasType, HasFields, IsHeapOf}
use Rattle.dl_ir.proofs.NameOrder.{names_total, exact_names, less_turned}

abbrev Entries : Type 0
Entries = List (Name × Obj)

-- one root before another
below_root : (n m : ℕ) → n < m → name_cmp (root n) (root m) ≡ Less
below_root n m less = ap (λ b. cond b Less (cond (eqb n m) Equal Greater)) (lt-ltb n m less)

-- where the roots of a kind begin
begins : (next : ℕ) (d : KindDecl) → HasRootsAt next d → (d.first ≡ next) ⊎ ((d.first ≡ 0) × (d.count ≡ 0))
begins next d has = elim d.is_root as (λ b. d.is_root ≡ b → (d.first ≡ next) ⊎ ((d.first ≡ 0) × (d.count ≡ 0))) [ true ↦ λ is. inl (has.of_root is) | false ↦ λ is. inr (has.of_node is) ] refl

-- the name is one of so many roots
record IsAmong (name : Name) (first count : ℕ) : Type 0 where
  ticket : name.ticket ≡ 0
  from_first : first ≤ name.index
  to_last : name.index < first + count

-- what is found is one of these roots, or behind them
found_among : (name : Name) (first count : ℕ) (o : Obj) (rest : Entries) (p : Obj) → find name_cmp name (roots_from first count o ++ rest) ≡ Some p
    → (IsAmong name first count × (p ≡ o)) ⊎ (find name_cmp name rest ≡ Some p)
found_among name first zero o rest p is = inr is
found_among name first (suc count) o rest p is =
    let others = roots_from (first + 1) count o ++ rest in
    elim (eq_by_cmp name_cmp name (root first)) as (λ b. eq_by_cmp name_cmp name (root first) ≡ b → cond b (Some o) (find name_cmp name others) ≡ Some p → (IsAmong name first (suc count) × (p ≡ o)) ⊎ (find name_cmp name rest ≡ Some p)) [
      | true ↦ λ t found.
          let same : name ≡ root first = exact_names name (root first) ((Equal-is (name_cmp name (root first))).0 t) in
          let index : name.index ≡ first = ap (λ (n : Name). n.index) same in
          inl (record { ticket = ap (λ (n : Name). n.ticket) same; from_first = omega arith; to_last = omega arith }, cc)
      | false ↦ λ t found. elim (found_among name (first + 1) count o rest p found) [
        | inl among ↦ inl (record { ticket = among.0.ticket; from_first = omega (arith, among.0.from_first); to_last = omega (arith, among.0.to_last) }, among.1)
        | inr behind ↦ inr behind
      ]
    ] refl is

-- what is found among the roots of kinds is a root of one of them
found_kind : (name : Name) (kind : ℕ) (kinds : List KindDecl) (p : Obj) → find name_cmp name (roots_of kind kinds) ≡ Some p
    → (i : ℕ) × (d : KindDecl) × (slice_get kinds i ≡ Some d) × IsAmong name d.first d.count × (p ≡ blank_object (kind + i) d)
found_kind name kind [] p is = cc
found_kind name kind (d ∷ kinds) p is = elim (found_among name d.first d.count (blank_object kind d) (roots_of (kind + 1) kinds) p is) [
  | inl among ↦ (0, d, refl, among.0, among.1 ∙ ap (λ k. blank_object k d) {x = kind} {y = kind + 0} (omega arith))
  | inr behind ↦
      let rest = found_kind name (kind + 1) kinds p behind in
      (suc rest.0, rest.1, rest.2, rest.3, rest.4 ∙ ap (λ k. blank_object k rest.1) {x = kind + 1 + rest.0} {y = kind + suc rest.0} (omega arith))
]

-- a kind of the row has its roots from some number on
row_at : (next : ℕ) (kinds : List KindDecl) (i : ℕ) (d : KindDecl) → StandInRow next kinds → slice_get kinds i ≡ Some d → (at : ℕ) × (next ≤ at) × HasRootsAt at d
row_at next [] i d row is = cc
row_at next (e ∷ kinds) zero d row is = let same : e ≡ d = cc in (next, omega arith, subst (HasRootsAt next) same row.0)
row_at next (e ∷ kinds) (suc i) d row is =
    let rest = row_at (next + e.count) kinds i d row.1 is in (rest.0, omega (arith, rest.1), rest.2)

-- one of these roots is found
find_among : (index first count : ℕ) (o : Obj) (rest : Entries) → first ≤ index → index < first + count → find name_cmp (root index) (roots_from first count o ++ rest) ≡ Some o
find_among index first zero o rest low high = absurd (omega arith)
find_among index first (suc count) o rest low high =
    let others = roots_from (first + 1) count o ++ rest in
    elim (cases_lt first index) [
      | inl below ↦ ap (λ r. cond (is_eq r) (Some o) (find name_cmp (root index) others)) (less_turned (root first) (root index) (below_root first index below))
          ∙ find_among index (first + 1) count o rest (omega arith) (omega arith)
      | inr at_least ↦
          let same : first ≡ index = omega arith in
          subst (λ n. find name_cmp (root n) ((root first, o) ∷ others) ≡ Some o) same (ap (λ r. cond (is_eq r) (Some o) (find name_cmp (root first) others)) (tied_itself names_total (root first)))
    ]

-- and behind them one that comes later
find_behind : (index first count : ℕ) (o : Obj) (rest : Entries) → first + count ≤ index → find name_cmp (root index) (roots_from first count o ++ rest) ≡ find name_cmp (root index) rest
find_behind index first zero o rest past = refl
find_behind index first (suc count) o rest past =
    ap (λ r. cond (is_eq r) (Some o) (find name_cmp (root index) (roots_from (first + 1) count o ++ rest))) (less_turned (root first) (root index) (below_root first index (omega arith)))
    ∙ find_behind index (first + 1) count o rest (omega arith)

find_kind : (index next kind : ℕ) (kinds : List KindDecl) (i : ℕ) (d : KindDecl) → StandInRow next kinds → slice_get kinds i ≡ Some d → d.is_root ≡ true → d.first ≤ index → index < d.first + d.count
    → find name_cmp (root index) (roots_of kind kinds) ≡ Some (blank_object (kind + i) d)
find_kind index next kind [] i d row is is_root low high = cc
find_kind index next kind (e ∷ kinds) zero d row is is_root low high =
    let same : e ≡ d = cc in
    subst (λ (f : KindDecl). find name_cmp (root index) (roots_from f.first f.count (blank_object kind f) ++ roots_of (kind + 1) kinds) ≡ Some (blank_object (kind + 0) d)) (sym same) (
    find_among index d.first d.count (blank_object kind d) (roots_of (kind + 1) kinds) low high ∙ ap (λ k. Some (blank_object k d)) {x = kind} {y = kind + 0} (omega arith))
find_kind index next kind (e ∷ kinds) (suc i) d row is is_root low high =
    let at = row_at (next + e.count) kinds i d row.1 is in
    let first = at.2.of_root is_root in
    let past : e.first + e.count ≤ index = elim (begins next e row.0) [ inl here ↦ omega (arith, at.1, first) | inr none ↦ omega (arith, none.0, none.1) ] in
    find_behind index e.first e.count (blank_object kind e) (roots_of (kind + 1) kinds) past
    ∙ find_kind index (next + e.count) (kind + 1) kinds i d row.1 is is_root low high
    ∙ ap (λ k. Some (blank_object k d)) {x = kind + 1 + i} {y = kind + suc i} (omega arith)

-- a field begins with a value of its type
blank_type : (h : Objects) (ty : Ty) → HasType h ty (blank ty)
blank_type h Int = tt
blank_type h (Of kind) = tt

blank_at : (fields : List FieldDecl) (at : ℕ) (field : FieldDecl) (value : Value) → slice_get fields at ≡ Some field → slice_get (blank_fields fields) at ≡ Some value → value ≡ blank field.ty
blank_at [] at field value is has = cc
blank_at (f ∷ fields) zero field value is has = let same : f ≡ field = cc in let held : blank f.ty ≡ value = cc in sym held ∙ ap (λ (x : FieldDecl). blank x.ty) same
blank_at (f ∷ fields) (suc at) field value is has = blank_at fields at field value is has

pub blank_has_fields : (h : Objects) (fields : List FieldDecl) → HasFields h fields (blank_fields fields)
blank_has_fields h fields = record {
  one_each = length-map fields (λ (f : FieldDecl). blank f.ty);
  typed = λ at field value is has. subst (HasType h field.ty) (sym (blank_at fields at field value is has)) (blank_type h field.ty);
}

same_some : {d e : KindDecl} → Some d ≡ Some e → d ≡ e
same_some is = cc

-- a kind with a root is a root kind
has_roots : (at : ℕ) (d : KindDecl) → HasRootsAt at d → 0 < d.count → d.is_root ≡ true
has_roots at d has some = elim d.is_root as (λ b. d.is_root ≡ b → b ≡ true) [ true ↦ λ is. refl | false ↦ λ is. absurd (omega (arith, (has.of_node is).1)) ] refl

module _ (m : Module) (start : HasStart m) where
  found : (name : Name) → maps.get (start_objects m) name ≡ find name_cmp name (roots_of 0 m.kinds)
  found name = get-from_entries names_total (roots_of 0 m.kinds) name

  of_kind : (name : Name) (object : Obj) → maps.get (start_objects m) name ≡ Some object
      → (i : ℕ) × (d : KindDecl) × (slice_get m.kinds i ≡ Some d) × IsAmong name d.first d.count × (object ≡ blank_object i d)
  of_kind name object is =
      let got = found_kind name 0 m.kinds object (sym (found name) ∙ is) in
      (got.0, got.1, got.2, got.3, got.4 ∙ ap (λ k. blank_object k got.1) {x = 0 + got.0} {y = got.0} (omega arith))

  pub start_is_heap : IsHeapOf m (start_objects m)
  start_is_heap = record {
    roots = λ kind name is.
        let same : root name.index ≡ name = ap (λ t. record { ticket = t; index = name.index }) (sym is.ticket) in
        let object = blank_object kind is.declared in
        let here : find name_cmp (root name.index) (roots_of 0 m.kinds) ≡ Some object =
        find_kind name.index 0 0 m.kinds kind is.declared start.row is.is_there is.is_root is.from_first is.to_last ∙ ap (λ k. Some (blank_object k is.declared)) {x = 0 + kind} {y = kind} (omega arith) in
        (object, found name ∙ subst (λ n. find name_cmp n (roots_of 0 m.kinds) ≡ Some object) same here, refl, refl);
    exposed = λ name object is ticket.
        let got = of_kind name object is in
        let at = row_at 0 m.kinds got.0 got.1 start.row got.2 in
        let kind : object.kind ≡ got.0 = ap (λ (o : Obj). o.kind) got.4 in
        record {
          declared = got.1;
          is_there = ap (slice_get m.kinds) kind ∙ got.2;
          is_root = has_roots at.0 got.1 at.2 (omega (arith, got.3.from_first, got.3.to_last));
          ticket = ticket;
          from_first = got.3.from_first;
          to_last = got.3.to_last;
        };
    hidden = λ name object is hidden. let got = of_kind name object is in absurd (omega (arith, got.3.ticket, hidden));
    fields = λ name object declared is has.
        let got = of_kind name object is in
        let kind : object.kind ≡ got.0 = ap (λ (o : Obj). o.kind) got.4 in
        let there : slice_get m.kinds got.0 ≡ Some declared = ap (slice_get m.kinds) (sym kind) ∙ has in
        let same : got.1 ≡ declared = same_some (sym got.2 ∙ there) in
        let held : blank_fields declared.fields ≡ object.fields = ap (λ (k : KindDecl). blank_fields k.fields) (sym same) ∙ sym (ap (λ (o : Obj). o.fields) got.4) in
        subst (HasFields (start_objects m) declared.fields) held (blank_has_fields (start_objects m) declared.fields);
  }
