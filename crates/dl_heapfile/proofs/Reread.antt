-- The printed part of a heap from which a run may start is a heap file of it.
use Rattle.std.proofs.Common.{◌≡◌, ℕ, ℤ, zero, suc, ◌+◌, ◌<◌, ◌≤◌, true, false, inl, inr, List, [], ◌∷◌, ◌++◌, length, take, max, fold, get_or, refl, sym, ap, subst, ◌∙◌, Some, None, arith, append_assoc, length-append}
use Rattle.std.specs.Prelude.{◌^◌, All, Ok, codes, decimal}
use Rattle.std.specs.List.{slice_get, flat_map}
use Rattle.std.specs.Cmp.{ranked}
use Rattle.std.specs.Ordering.{nat_cmp, ordering_then}
use Rattle.std.specs.declared.cmp.Ordering.{Ordering}
use Rattle.std.specs.declared.cmp.Ordering.TheVariants.{Less, Equal, Greater}
use Rattle.std.specs.FinMap as finite
use Rattle.std.specs.FinMap.{entries_sorted}
use Rattle.std.proofs.lemmas.Bool.{cases_lt}
use Rattle.std.proofs.lemmas.Cmp.{tied_itself}
use Rattle.std.proofs.lemmas.List.{length-take-le}
use Rattle.std.proofs.lemmas.Option.{slice_get_within, slice_get-get_or, same_Some}
use Rattle.dl_ir.specs.declared.modules.FieldDecl.{FieldDecl}
use Rattle.dl_ir.specs.declared.modules.KindDecl.{KindDecl}
use Rattle.dl_ir.specs.declared.modules.Module.{Module}
use Rattle.dl_ir.specs.declared.modules.Ty.{Ty}
use Rattle.dl_ir.specs.declared.modules.Ty.TheVariants.{Int, Of}
use Rattle.dl_ir.specs.declared.names.Name.{Name}
use Rattle.dl_ir.specs.declared.names.Value.{Value}
use Rattle.dl_ir.specs.declared.names.Value.TheVariants as values
use Rattle.dl_ir.specs.declared.objects.Obj.{Obj}
use Rattle.dl_ir.specs.Heap.{Objects, name_cmp, root, roots_of, StandInRow, HasStart, HasRootsAt, HasType, HasFields, IsHidden, roots_from, blank_object, hidden_count}
use Rattle.dl_ir.specs.References.{refs}
use Rattle.dl_ir.proofs.NameOrder.{names_total}
use Rattle.dl_history.specs.Report.{name_text, object_text, object_line}
use Rattle.dl_shape.specs.Startable.{IsStartable}
use Rattle.dl_heapfile.specs.Lines.{IsSmall, IsSmallName, MayHold, AllMayHold, HasForm}
use Rattle.dl_heapfile.specs.Form.{Skips, MayFollow, AreInPlace, IsDecimal, root_count}
use Rattle.dl_heapfile.specs.Faults.{Builds, Reads}
use Rattle.dl_heapfile.specs.Laws.{HoldsSmall, WhatIsSpeltIsRead}
use Rattle.dl_heapfile.proofs.NumbersRead.{decimal_plain, plain_lead, decimal_digits}
use Rattle.dl_heapfile.proofs.Rising.{Entries, get_there, there_got, heap_of-entries}
use Rattle.dl_heapfile.proofs.Listed.{in_all}
use Rattle.dl_heapfile.proofs.Starting.{length-roots_from, within_roots, root_named}
use Rattle.dl_heapfile.proofs.Spelled.{lines_of, tell}
use Rattle.dl_lemmas.proofs.Entries.{Rise, rise_sorted}
use Rattle.dl_lemmas.proofs.Places.{front_get, one_at}

-- ---- the roots come first

-- a name below a root is that of an earlier root
less_root : (n : Name) (k : ℕ) → name_cmp n (root k) ≡ Less → (n.ticket ≡ 0) × (n.index < k)
less_root n k less = by (nat_cmp n.ticket 0) (nat_cmp n.index k) refl refl less
  where
    by : (r s : Ordering) → r ≡ nat_cmp n.ticket 0 → s ≡ nat_cmp n.index k → ordering_then r s ≡ Less → (n.ticket ≡ 0) × (n.index < k)
    by Less s first second is = let below : n.ticket < 0 = ranked n.ticket 0 Less first in absurd (omega (arith, below))
    by Equal Less first second is = (ranked n.ticket 0 Equal first, ranked n.index k Less second)
    by Equal Equal first second is = cc
    by Equal Greater first second is = cc
    by Greater s first second is = cc

-- and above it is no earlier one
above_root : (n : Name) (k : ℕ) → name_cmp (root k) n ≡ Less → n.ticket ≡ 0 → k < n.index
above_root n k less ticket = by (nat_cmp 0 n.ticket) (nat_cmp k n.index) refl refl less
  where
    by : (r s : Ordering) → r ≡ nat_cmp 0 n.ticket → s ≡ nat_cmp k n.index → ordering_then r s ≡ Less → k < n.index
    by Less s first second is = let below : 0 < n.ticket = ranked 0 n.ticket Less first in absurd (omega (arith, below, ticket))
    by Equal Less first second is = ranked k n.index Less second
    by Equal Equal first second is = cc
    by Equal Greater first second is = cc
    by Greater s first second is = cc

not_itself : (n : Name) → name_cmp n n ≡ Less → ⊥
not_itself n less = let clash : Less ≡ Equal = sym less ∙ tied_itself names_total n in cc

-- the entries hold the roots from one number to another, and no other name below the second has ticket 0
record HoldsRoots (first end : ℕ) (es : Entries) : Type 0 where
  rise : Rise name_cmp es
  low : (at : ℕ) (e : Name × Obj) → slice_get es at ≡ Some e → e.0.ticket ≡ 0 → first ≤ e.0.index
  there : (i : ℕ) → first ≤ i → i < end → (at : ℕ) × (e : Name × Obj) × (slice_get es at ≡ Some e) × (e.0 ≡ root i)

-- the first is the first root
first_root : (first end : ℕ) (x : Name × Obj) (es : Entries) → first < end → HoldsRoots first end (x ∷ es) → x.0 ≡ root first
first_root first end x es less roots = by (roots.there first (omega arith) less)
  where
    by : (at : ℕ) × (e : Name × Obj) × (slice_get (x ∷ es) at ≡ Some e) × (e.0 ≡ root first) → x.0 ≡ root first
    by (zero, e, there, name) = ap (λ (o : Name × Obj). o.0) (same_Some x e there) ∙ name
    by (suc at, e, there, name) =
        let below = less_root x.0 first (subst (λ n. name_cmp x.0 n ≡ Less) name (roots.rise 0 (suc at) x e refl there (omega arith))) in
        absurd (omega (arith, below.1, roots.low 0 x refl below.0))

-- and the others hold the others
other_roots : (first end : ℕ) (x : Name × Obj) (es : Entries) → first < end → HoldsRoots first end (x ∷ es) → HoldsRoots (first + 1) end es
other_roots first end x es less roots =
    let name = first_root first end x es less roots in
    record {
      rise = λ i j e f at_i at_j below. roots.rise (suc i) (suc j) e f at_i at_j (omega (arith, below));
      low = λ at e there ticket. let above = above_root e.0 first (subst (λ n. name_cmp n e.0 ≡ Less) name (roots.rise 0 (suc at) x e refl there (omega arith))) ticket in omega (arith, above);
      there = λ i least below. by name i least (roots.there i (omega (arith, least)) below);
    }
  where
    by : x.0 ≡ root first → (i : ℕ) → first + 1 ≤ i → (at : ℕ) × (e : Name × Obj) × (slice_get (x ∷ es) at ≡ Some e) × (e.0 ≡ root i) → (at : ℕ) × (e : Name × Obj) × (slice_get es at ≡ Some e) × (e.0 ≡ root i)
    by name i least (zero, e, there, is) =
        let same : root first ≡ root i = sym name ∙ ap (λ (o : Name × Obj). o.0) (same_Some x e there) ∙ is in
        let index : first ≡ i = ap (λ (n : Name). n.index) same in
        absurd (omega (arith, index, least))
    by name i least (suc at, e, there, is) = (at, e, there, is)

no_entry : (at : ℕ) (e : Name × Obj) → slice_get [] at ≡ Some e → ⊥
no_entry at e is = cc

root_stands : (first end : ℕ) (es : Entries) (at : ℕ) → first + at < end → HoldsRoots first end es → (e : Name × Obj) × (slice_get es at ≡ Some e) × (e.0 ≡ root (first + at))
root_stands first end [] at less roots = let none = roots.there first (omega arith) (omega (arith, less)) in absurd (no_entry none.0 none.1 none.2)
root_stands first end (x ∷ es) zero less roots =
    (x, refl, first_root first end x es (omega (arith, less)) roots ∙ ap root {x = first} {y = first + 0} (omega arith))
root_stands first end (x ∷ es) (suc at) less roots =
    let rest = root_stands (first + 1) end es at (omega (arith, less)) (other_roots first end x es (omega (arith, less)) roots) in
    (rest.0, rest.1, rest.2 ∙ ap root {x = first + 1 + at} {y = first + suc at} (omega arith))

-- ---- tickets

fold_above : (greatest : ℕ) (es : Entries) → greatest ≤ fold (λ best (e : Name × Obj). max best e.0.ticket) greatest es
fold_above greatest [] = omega arith
fold_above greatest (e ∷ es) = omega (arith, fold_above (max greatest e.0.ticket) es)

fold_each : (greatest : ℕ) (es : Entries) (at : ℕ) (e : Name × Obj) → slice_get es at ≡ Some e → e.0.ticket ≤ fold (λ best (f : Name × Obj). max best f.0.ticket) greatest es
fold_each greatest [] at e there = cc
fold_each greatest (x ∷ es) zero e there =
    subst (λ (y : Name × Obj). y.0.ticket ≤ fold (λ best (f : Name × Obj). max best f.0.ticket) greatest (x ∷ es)) (same_Some x e there) (omega (arith, fold_above (max greatest x.0.ticket) es))
fold_each greatest (x ∷ es) (suc at) e there = fold_each (max greatest x.0.ticket) es at e there

-- ---- fields

held : (heap : Objects) (ty : Ty) (value : Value) → ((name : Name) → IsHidden name → (kind : ℕ) → (object : Obj) × (finite.get heap name ≡ Some object) → IsSmallName name) → ((number : ℤ) → value ≡ values.Int number → IsSmall number)
    → HasType heap ty value → MayHold ty value
held heap Int (values.Int number) names small has = small number refl
held heap Int (values.Ref target) names small has = absurd has
held heap (Of kind) (values.Int number) names small has = absurd has
held heap (Of kind) (values.Ref None) names small has = tt
held heap (Of kind) (values.Ref (Some name)) names small has = names name has.0 kind (has.1.object, has.1.is_there)

all_held : (decls : List FieldDecl) (held : List Value) → length held ≡ length decls → ((at : ℕ) (field : FieldDecl) (value : Value) → slice_get decls at ≡ Some field → slice_get held at ≡ Some value → MayHold field.ty value) → AllMayHold decls held
all_held [] [] long each = tt
all_held [] (v ∷ held) long each = absurd (omega (arith, long))
all_held (d ∷ decls) [] long each = absurd (omega (arith, long))
all_held (d ∷ decls) (v ∷ held) long each = (each 0 d v refl refl, all_held decls held (omega (arith, long)) (λ at field value is has. each (suc at) field value is has))

-- ---- the heap

all_less : (es : Entries) (at : ℕ) (e : Name × Obj) → Rise name_cmp es → slice_get es at ≡ Some e → All (λ (earlier : Name × Obj). name_cmp earlier.0 e.0 ≡ Less) (take at es)
all_less es at e rise there k d within =
    let inside = slice_get_within es at e there in
    let long = length-take-le at es (omega (arith, inside)) in
    let here : slice_get es k ≡ Some (get_or (take at es) k d) = sym (front_get es at k (omega (arith, within, long))) ∙ slice_get-get_or (take at es) k d within in
    rise k at (get_or (take at es) k d) e here there (omega (arith, within, long))

-- there are at most 1,024 roots
row_end : (next at : ℕ) (kinds : List KindDecl) → StandInRow next kinds → next + length (roots_of at kinds) ≤ 1024
row_end next at [] row = omega (arith, row)
row_end next at (d ∷ kinds) row =
    let here = roots_from d.first d.count (blank_object at d) in
    omega (arith, length-append here (roots_of (at + 1) kinds), length-roots_from d.first d.count (blank_object at d), row_end (next + d.count) (at + 1) kinds row.1)

-- a kind with a root is a root kind
has_roots : (next : ℕ) (d : KindDecl) → HasRootsAt next d → 0 < d.count → d.is_root ≡ true
has_roots next d has some = elim d.is_root as (λ b. d.is_root ≡ b → b ≡ true) [ true ↦ λ is. refl | false ↦ λ is. absurd (omega (arith, (has.of_node is).1, some)) ] refl

-- each number of the row is that of a root
root_of_row : (next at i : ℕ) (kinds : List KindDecl) → StandInRow next kinds → next ≤ i → i < next + length (roots_of at kinds) → (k : ℕ) × (d : KindDecl) × (slice_get kinds k ≡ Some d) × (d.is_root ≡ true) × (d.first ≤ i) × (i < d.first + d.count)
root_of_row next at i [] row least less = absurd (omega (arith, least, less))
root_of_row next at i (d ∷ kinds) row least less =
    let here = roots_from d.first d.count (blank_object at d) in
    elim (cases_lt i (next + d.count)) [
      | inl within ↦
          let is_root = has_roots next d row.0 (omega (arith, least, within)) in
          let first = row.0.of_root is_root in
          (0, d, refl, is_root, omega (arith, first, least), omega (arith, first, within))
      | inr past ↦
          let rest = root_of_row (next + d.count) (at + 1) i kinds row.1 (omega (arith, past)) (omega (arith, less, length-append here (roots_of (at + 1) kinds), length-roots_from d.first d.count (blank_object at d))) in
          (suc rest.0, rest.1, rest.2, rest.3, rest.4, rest.5)
    ]

got_at : (heap : Objects) (at : ℕ) (e : Name × Obj) → slice_get (finite.entries heap) at ≡ Some e → finite.get heap e.0 ≡ Some e.1
got_at heap at e there = subst (λ h. finite.get h e.0 ≡ Some e.1) (heap_of-entries heap) (get_there (finite.entries heap) at e (entries_sorted heap) there)

module _ (source : Module) (heap : Objects) (start : HasStart source) (can : IsStartable source heap) (small : HoldsSmall heap) where
  abbrev es : Entries
  es = finite.entries heap

  rise : Rise name_cmp es
  rise = rise_sorted name_cmp es (entries_sorted heap)

  place : (name : Name) (object : Obj) → finite.get heap name ≡ Some object → (at : ℕ) × (slice_get es at ≡ Some (name, object))
  place name object is = there_got es name object (subst (λ h. finite.get h name ≡ Some object) (sym (heap_of-entries heap)) is)

  few_roots : root_count source ≤ 1024
  few_roots = let end = row_end 0 0 source.kinds start.row in omega (arith, end)

  -- a root of the module is there
  root_there : (i : ℕ) → i < root_count source → (at : ℕ) × (e : Name × Obj) × (slice_get es at ≡ Some e) × (e.0 ≡ root i)
  root_there i less =
      let kind = root_of_row 0 0 i source.kinds start.row (omega arith) (omega (arith, less)) in
      let object = can.of_module.roots kind.0 (root i) (record { declared = kind.1; is_there = kind.2; is_root = kind.3; ticket = refl; from_first = kind.4; to_last = kind.5 }) in
      let found = place (root i) object.0 object.1 in
      (found.0, (root i, object.0), found.1, refl)

  roots : HoldsRoots 0 (root_count source) es
  roots = record { rise = rise; low = λ at e there ticket. omega arith; there = λ i least less. root_there i less }

  root_name : (at : ℕ) (e : Name × Obj) → slice_get es at ≡ Some e → at < root_count source → e.0 ≡ root at
  root_name at e there less =
      let stands = root_stands 0 (root_count source) es at (omega (arith, less)) roots in
      ap (λ (o : Name × Obj). o.0) (same_Some e stands.0 (sym there ∙ stands.1)) ∙ stands.2 ∙ ap root {x = 0 + at} {y = at} (omega arith)

  many : root_count source ≤ length es
  many = elim (cases_lt (length es) (root_count source)) [
    | inl short ↦
        let stands = root_stands 0 (root_count source) es (length es) (omega (arith, short)) roots in
        let inside = slice_get_within es (length es) stands.0 stands.1 in absurd (omega (arith, inside))
    | inr long ↦ long
  ]

  -- what is behind the roots is hidden
  hidden_name : (at : ℕ) (e : Name × Obj) → slice_get es at ≡ Some e → root_count source ≤ at → IsHidden e.0
  hidden_name at e there least = elim (cases_lt 0 e.0.ticket) [
    | inl hides ↦ hides
    | inr none ↦
        let ticket : e.0.ticket ≡ 0 = omega (arith, none) in
        let is = can.of_module.exposed e.0 e.1 (got_at heap at e there) ticket in
        let low = within_roots source e.1.kind e.0 start.row is in
        let stands = one_at es e.0.index (omega (arith, low, many)) in
        let same : stands.0.0 ≡ e.0 = root_name e.0.index stands.0 stands.1 low ∙ root_named source e.1.kind e.0 is in
        let less = rise e.0.index at stands.0 e stands.1 there (omega (arith, low, least)) in
        absurd (not_itself e.0 (subst (λ n. name_cmp n e.0 ≡ Less) same less))
  ]

  follows : (at : ℕ) (e : Name × Obj) → slice_get es at ≡ Some e → MayFollow source (take at es) e
  follows at e there =
      let inside = slice_get_within es at e there in
      let long = length-take-le at es (omega (arith, inside)) in
      elim (cases_lt at (root_count source)) [
        | inl low ↦
            let name = root_name at e there low in
            let is = can.of_module.exposed e.0 e.1 (got_at heap at e there) (ap (λ (n : Name). n.ticket) name) in
            let object = can.of_module.roots e.1.kind e.0 is in
            let same : object.0 ≡ e.1 = same_Some object.0 e.1 (sym object.1 ∙ got_at heap at e there) in
            MayFollow.next_root (omega (arith, long, low)) (name ∙ ap root (sym long)) is (ap (λ (o : Obj). o.sealed) (sym same) ∙ object.3)
        | inr high ↦
            let hides = hidden_name at e there high in
            let indexes = can.low_indexes e.0 e.1 (got_at heap at e there) hides in
            let greatest = can.low_tickets in
            let low = fold_each 0 es at e there in
            MayFollow.next_hidden (omega (arith, long, high)) (all_less es at e rise there) (can.of_module.hidden e.0 e.1 (got_at heap at e there) hides) hides (omega (arith, low, greatest)) indexes.0 indexes.1
      ]

  hidden_small : (name : Name) (object : Obj) → finite.get heap name ≡ Some object → IsHidden name → IsSmallName name
  hidden_small name object is hides =
      let found = place name object is in
      let low = fold_each 0 es found.0 (name, object) found.1 in
      let greatest = can.low_tickets in
      let indexes = can.low_indexes name object is hides in
      record { ticket = omega (arith, low, greatest); index = omega (arith, indexes.1) }

  small_name : (at : ℕ) (e : Name × Obj) → slice_get es at ≡ Some e → IsSmallName e.0
  small_name at e there = elim (cases_lt at (root_count source)) [
    | inl low ↦ let name = root_name at e there low in record { ticket = omega (arith, ap (λ (n : Name). n.ticket) name); index = omega (arith, ap (λ (n : Name). n.index) name, low, few_roots) }
    | inr high ↦ hidden_small e.0 e.1 (got_at heap at e there) (hidden_name at e there high)
  ]

  -- the object has a kind, whose fields it has
  form : (at : ℕ) (e : Name × Obj) → slice_get es at ≡ Some e → HasForm source e.1
  form at e there = elim (cases_lt at (root_count source)) [
    | inl low ↦ let is = can.of_module.exposed e.0 e.1 (got_at heap at e there) (ap (λ (n : Name). n.ticket) (root_name at e there low)) in of_kind is.declared is.is_there
    | inr high ↦ let is = can.of_module.hidden e.0 e.1 (got_at heap at e there) (hidden_name at e there high) in of_kind is.declared is.is_there
  ]
    where
      of_kind : (declared : KindDecl) → slice_get source.kinds e.1.kind ≡ Some declared → HasForm source e.1
      of_kind declared is =
          let has = can.of_module.fields e.0 e.1 declared (got_at heap at e there) is in
          record {
            declared = declared;
            is_there = is;
            fields = all_held declared.fields e.1.fields has.one_each (λ place field value decl value_is. held heap field.ty value (λ name hides kind object. hidden_small name object.0 object.1 hides)
                (λ number same. small e.0 e.1 place number (got_at heap at e there) (value_is ∙ ap Some same)) (has.typed place field value decl value_is));
          }

  pub in_place : AreInPlace source es
  in_place = record { listed = record { each = follows; names = small_name; forms = form }; all_roots = many }

-- ---- the text

pub is_decimal : (n : ℕ) → n < 2 ^ 64 → IsDecimal (decimal n)
is_decimal n small =
    let plain = plain_lead (decimal n) (decimal_plain n small) in
    record { some = plain.0; all = decimal_digits n small; lead = λ rest is. by rest is (plain.1 (ap (λ (l : List ℕ). get_or l 0 0) is)) }
  where
    by : (rest : List ℕ) → decimal n ≡ 48 ∷ rest → length (decimal n) ≡ 1 → rest ≡ []
    by [] is one = refl
    by (b ∷ rest) is one = absurd (omega (arith, one, ap length is))

-- each line has a byte
some_byte : (a b : List ℕ) (x : ℕ) → 1 ≤ length (a ++ (x ∷ b))
some_byte a b x = omega (arith, length-append a (x ∷ b))

lines_long : (source : Module) (all : Entries) → length all ≤ length (lines_of source all)
lines_long source [] = omega arith
lines_long source (e ∷ all) =
    let line = object_line source e in
    let more = flat_map (object_line source) all in
    let some : 1 ≤ length line = some_byte (name_text e.0 ++ codes " " ++ object_text e.1 (slice_get source.kinds e.1.kind)) [] 10 in
    omega (arith, ap length (append_assoc line more (codes "end\n")), length-append line (more ++ codes "end\n"), lines_long source all, some)

-- what lines lead to is no longer than they
skips_short : (line to : ℕ) (bytes found : List ℕ) → Skips line bytes to found → length found ≤ length bytes
skips_short line to bytes found Skips.none = omega arith
skips_short line to bytes found (Skips.one text rest within other later) = omega (arith, length-append text (10 ∷ rest), skips_short (line + 1) to rest found later)

pub what_is_spelt_is_read : WhatIsSpeltIsRead
what_is_spelt_is_read source places bytes heap start well small short =
    let es = finite.entries heap in
    let placed = in_place source heap start well.startable small in
    let same = heap_of-entries heap in
    let hidden = hidden_count heap in
    let lines = flat_map (object_line source) es in
    let spelt = well.spelt in
    let front = codes "heap " ++ decimal (length es) ++ codes " kept " ++ decimal hidden ++ codes "\n" in
    let cut : spelt.text ≡ front ++ lines_of source es = spelt.is_part ∙ append_assoc front lines (codes "end\n") in
    let text_short = skips_short 1 spelt.line bytes spelt.text spelt.begins.skips in
    let long = lines_long source es in
    let few : length es < 2 ^ 64 = omega (arith, text_short, short, long, ap length cut, length-append front (lines_of source es)) in
    let kept = in_all source es placed in
    subst (λ h. Reads source places bytes (Ok h)) same (Reads.counted (record {
      text = spelt.text;
      rest = lines_of source es;
      begins = spelt.begins;
      head = record { text_is = cut; number = is_decimal (length es) few; kept = is_decimal hidden (omega (arith, few, kept, ap hidden_count same)) };
      tells = tell source es [] es (spelt.line + 1) placed refl;
    }) (record { number = refl; kept = ap (λ h. decimal (hidden_count h)) (sym same) }) (Builds.is_heap
    (λ at e there declared is. subst (λ h. HasFields h declared.fields e.1.fields) (sym same) (well.startable.of_module.fields e.0 e.1 declared (got_at heap at e there) is))
    (λ at e there hides unsealed. subst (λ h. refs h e.0 ≡ 1) (sym same) (well.startable.settled e.0 e.1 (got_at heap at e there) hides unsealed))
    (subst (λ h. hidden_count h ≤ places) (sym same) well.fits)))
