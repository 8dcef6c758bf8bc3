-- The start heap has no ticket and no hidden object, and a run may start from it.
use Rattle.std.proofs.Common.{◌≡◌, ℕ, zero, suc, ◌+◌, cond, List, [], ◌∷◌, ◌++◌, refl, sym, ap, subst, ◌∙◌, max, fold, length, filter, Some, inl, inr, arith}
use Rattle.std.specs.Prelude.{nat_lt}
use Rattle.std.specs.declared.cmp.Ordering.TheVariants.{Less, Equal, Greater}
use Rattle.std.specs.FinMap as finite
use Rattle.std.specs.FinMap.{entries-insert, put, len-entries, len-empty}
use Rattle.std.specs.FinMap.Entries.{by_order}
use Rattle.dl_ir.specs.declared.modules.KindDecl.{KindDecl}
use Rattle.dl_ir.specs.declared.modules.Module.{Module}
use Rattle.dl_ir.specs.declared.names.Name.{Name}
use Rattle.dl_ir.specs.declared.objects.Obj.{Obj}
use Rattle.dl_ir.specs.Heap.{name_cmp, roots_from, roots_of, blank_object, start_objects, hidden_count, HasStart, IsHidden}
use Rattle.dl_ir.proofs.Members.{Held, In, in_entries}
use Rattle.dl_ir.proofs.NameOrder.{names_total}
use Rattle.dl_shape.proofs.StartHeap.{start_is_heap}
use Rattle.dl_shape.specs.Startable.{greatest_ticket, IsStartable, StartsAreStartable}

-- every entry is that of a root
abbrev AreRoots : Held → Type 0
AreRoots [] = Unit {0}
AreRoots (e ∷ es) = (e.0.ticket ≡ 0) × AreRoots es

roots-append : (es fs : Held) → AreRoots es → AreRoots fs → AreRoots (es ++ fs)
roots-append [] fs first second = second
roots-append (e ∷ es) fs first second = (first.0, roots-append es fs first.1 second)

roots-roots_from : (first count : ℕ) (object : Obj) → AreRoots (roots_from first count object)
roots-roots_from first zero object = tt
roots-roots_from first (suc count) object = (refl, roots-roots_from (first + 1) count object)

roots-roots_of : (kind : ℕ) (kinds : List KindDecl) → AreRoots (roots_of kind kinds)
roots-roots_of kind [] = tt
roots-roots_of kind (k ∷ kinds) = roots-append _ _ (roots-roots_from k.first k.count (blank_object kind k)) (roots-roots_of (kind + 1) kinds)

roots-put : (name : Name) (object : Obj) (es : Held) → name.ticket ≡ 0 → AreRoots es → AreRoots (put name_cmp name object es)
roots-put name object [] root roots = (root, tt)
roots-put name object (e ∷ es) root roots =
    elim (name_cmp name e.0) as (λ r. AreRoots (by_order r ((name, object) ∷ e ∷ es) ((e.0, object) ∷ es) (e ∷ put name_cmp name object es))) [
      | Less ↦ (root, roots)
      | Equal ↦ roots
      | Greater ↦ (roots.0, roots-put name object es root roots.1)
    ]

no_length : {A : Type 0} (xs : List A) → length xs ≡ 0 → xs ≡ []
no_length [] is = refl
no_length (x ∷ xs) is = absurd (omega arith)

roots-empty : AreRoots (finite.entries (finite.empty {X = Obj} {R = name_cmp}))
roots-empty = subst AreRoots (sym (no_length _ (sym (len-entries (finite.empty {X = Obj} {R = name_cmp})) ∙ len-empty name_cmp Obj))) tt

roots-from_entries : (es : Held) → AreRoots es → AreRoots (finite.entries (finite.from_entries {R = name_cmp} es))
roots-from_entries [] roots = roots-empty
roots-from_entries (e ∷ es) roots =
    subst AreRoots (sym (entries-insert names_total (finite.from_entries es) e.0 e.1)) (roots-put e.0 e.1 _ roots.0 (roots-from_entries es roots.1))

no_ticket : (es : Held) → AreRoots es → fold (λ greatest (e : Name × Obj). max greatest e.0.ticket) 0 es ≡ 0
no_ticket [] roots = refl
no_ticket (e ∷ es) roots = ap (λ (n : ℕ). fold (λ greatest (d : Name × Obj). max greatest d.0.ticket) (max 0 n) es) roots.0 ∙ no_ticket es roots.1

none_hidden : (es : Held) → AreRoots es → length (filter (λ (e : Name × Obj). nat_lt 0 e.0.ticket) es) ≡ 0
none_hidden [] roots = refl
none_hidden (e ∷ es) roots =
    let others = filter (λ (d : Name × Obj). nat_lt 0 d.0.ticket) es in
    ap (λ (n : ℕ). length (cond (nat_lt 0 n) (e ∷ others) others)) roots.0 ∙ none_hidden es roots.1

root_in : (e : Name × Obj) (es : Held) → AreRoots es → In e es → e.0.ticket ≡ 0
root_in e [] roots there = absurd there
root_in e (x ∷ es) roots there = elim there [
  | inl same ↦ ap (λ (y : Name × Obj). y.0.ticket) (sym same) ∙ roots.0
  | inr later ↦ root_in e es roots.1 later
]

roots-start : (source : Module) → AreRoots (finite.entries (start_objects source))
roots-start source = roots-from_entries (roots_of 0 source.kinds) (roots-roots_of 0 source.kinds)

-- the first ticket after a start heap is 1
pub greatest_ticket-start : (source : Module) → greatest_ticket (start_objects source) ≡ 0
greatest_ticket-start source = no_ticket _ (roots-start source)

-- a start heap has no hidden object
pub hidden_count-start : (source : Module) → hidden_count (start_objects source) ≡ 0
hidden_count-start source = none_hidden _ (roots-start source)

-- nor a name of one
no_hidden : (source : Module) (name : Name) (object : Obj) → finite.get (start_objects source) name ≡ Some object → IsHidden name → ⊥
no_hidden source name object there hidden =
    let zero_ticket = root_in (name, object) _ (roots-start source) (in_entries (start_objects source) name object there) in omega (arith, hidden, zero_ticket)

pub start_is_startable : (source : Module) → HasStart source → IsStartable source (start_objects source)
start_is_startable source start = record {
  of_module = start_is_heap source start;
  settled = λ name object there hidden unsealed. absurd (no_hidden source name object there hidden);
  low_tickets = omega (arith, greatest_ticket-start source);
  low_indexes = λ name object there hidden. absurd (no_hidden source name object there hidden);
}

pub starts_are_startable : StartsAreStartable
starts_are_startable source checked = start_is_startable source checked.start
