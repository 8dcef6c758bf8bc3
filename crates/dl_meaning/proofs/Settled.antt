-- A heap of the module stays one where it is settled.
use Rattle.std.proofs.Common.{◌≡◌, ℕ, suc, zero, ◌<◌, Bool, true, false, cond, ◌&&◌, ◌||◌, List, [], ◌∷◌, refl, sym, ap, subst, ◌∙◌, Option, Some, None, arith, slice_get, option_map}
use Rattle.std.specs.Prelude.{count_by, nat_lt, nat_le, if◌then◌else◌}
use Rattle.std.specs.Cmp.{Equal-is}
use Rattle.std.specs.Ordering.{eq_by_cmp}
use Rattle.std.specs.FinMap as finite
use Rattle.std.specs.FinMap.{get-remove}
use Rattle.std.proofs.lemmas.List.Sums.{sum_by-cons}
use Rattle.dl_ir.specs.declared.modules.Module.{Module}
use Rattle.dl_ir.specs.declared.modules.Ty.{Ty}
use Rattle.dl_ir.specs.declared.modules.Ty.TheVariants as types
use Rattle.dl_ir.specs.declared.names.Name.{Name}
use Rattle.dl_ir.specs.declared.names.Value.{Value}
use Rattle.dl_ir.specs.declared.names.Value.TheVariants as values
use Rattle.dl_ir.specs.declared.objects.Obj.{Obj}
use Rattle.dl_ir.specs.Heap.{Objects, name_cmp, HasType, HasFields, IsHeapOf, IsNodeKind, IsRootOf}
use Rattle.dl_shape.specs.References.{refers_to, refs}
use Rattle.dl_shape.specs.Settling.{is_shared, IsLoose, Trims, done, drop, trim, sealed_heap, settled}
use Rattle.dl_ir.proofs.Members.{in_entries, term_le}
use Rattle.dl_ir.proofs.NameOrder.{names_total, exact_names, name_eq_itself}
use Rattle.dl_shape.proofs.Order.{order_does_not_matter}
use Rattle.dl_shape.proofs.Sealing.{sealed_at, got_sealed}
use Rattle.dl_meaning.specs.FirstStates.{HasTicketsBelow}
use Rattle.dl_meaning.proofs.Heaps.{Stays, fields_stay}

-- ---- what refers to an object
abbrev one_if : Bool → ℕ
one_if b = cond b 1 0

counted : (test : Value → Bool) (vs : List Value) (at : ℕ) (v : Value) → slice_get vs at ≡ Some v → test v ≡ true → 0 < count_by test vs
counted test [] at v is passes = cc
counted test (w ∷ vs) zero v is passes =
    let same : w ≡ v = cc in
    omega (arith, sum_by-cons (λ x. cond (test x) 1 0) w vs, ap one_if (ap test same ∙ passes))
counted test (w ∷ vs) (suc at) v is passes = omega (arith, sum_by-cons (λ x. cond (test x) 1 0) w vs, counted test vs at v is passes)

-- an object to which a field refers is not alone
referred : (h : Objects) (q : Name) (p : Obj) (at : ℕ) (n : Name) → finite.get h q ≡ Some p → slice_get p.fields at ≡ Some (values.Ref (Some n)) → 0 < refs h n
referred h q p at n there is =
    omega (arith, counted (refers_to n) p.fields at (values.Ref (Some n)) is (name_eq_itself n), term_le (λ (e : Name × Obj). count_by (refers_to n) e.1.fields) (finite.entries h) (q, p) (in_entries h q p there))

-- ---- an object is removed
was : (h : Objects) (n q : Name) (p : Obj) → finite.get (finite.remove h n) q ≡ Some p → finite.get h q ≡ Some p
was h n q p is = elim (eq_by_cmp name_cmp q n) as (λ b. finite.get (finite.remove h n) q ≡ cond b None (finite.get h q) → finite.get h q ≡ Some p) [
  | true ↦ λ gone. cc
  | false ↦ λ same. sym same ∙ is
] (get-remove names_total h n q)

-- what has another name stays
remains : (h : Objects) (n q : Name) (p : Obj) → (q ≡ n → ⊥) → finite.get h q ≡ Some p → finite.get (finite.remove h n) q ≡ Some p
remains h n q p differ is = elim (eq_by_cmp name_cmp q n) as (λ b. eq_by_cmp name_cmp q n ≡ b → finite.get (finite.remove h n) q ≡ cond b None (finite.get h q) → finite.get (finite.remove h n) q ≡ Some p) [
  | true ↦ λ t gone. absurd (differ (exact_names q n ((Equal-is (name_cmp q n)).0 t)))
  | false ↦ λ t same. same ∙ is
] refl (get-remove names_total h n q)

-- what a field holds stays there, since it is not the object that is removed
held_remains : (h : Objects) (n : Name) → IsLoose h n → (q : Name) (p : Obj) (at : ℕ) (t : Ty) (value : Value) → finite.get h q ≡ Some p → slice_get p.fields at ≡ Some value
    → HasType h t value → HasType (finite.remove h n) t value
held_remains h n loose q p at types.Int (values.Int number) there is has = tt
held_remains h n loose q p at types.Int (values.Ref target) there is has = absurd has
held_remains h n loose q p at (types.Of kind) (values.Int number) there is has = absurd has
held_remains h n loose q p at (types.Of kind) (values.Ref None) there is has = tt
held_remains h n loose q p at (types.Of kind) (values.Ref (Some target)) there is has = (
  has.0,
  record {
    object = has.1.object;
    is_there = remains h n target has.1.object (λ same.
        let some : 0 < refs h target = referred h q p at target there is in
        let none : refs h target ≡ 0 = ap (refs h) same ∙ loose.alone in
        omega (arith, some, none)) has.1.is_there;
    of_kind = has.1.of_kind;
  },
)

heap_without : (m : Module) (h : Objects) (n : Name) → IsHeapOf m h → IsLoose h n → IsHeapOf m (finite.remove h n)
heap_without m h n heap loose = record {
  roots = λ kind q is.
      let old = heap.roots kind q is in
      (old.0, remains h n q old.0 (λ same. omega (arith, ap (λ (x : Name). x.ticket) same, is.ticket, loose.hidden)) old.1, old.2, old.3);
  exposed = λ q p is ticket. heap.exposed q p (was h n q p is) ticket;
  hidden = λ q p is hidden. heap.hidden q p (was h n q p is) hidden;
  fields = λ q p declared is kind_is.
      let there = was h n q p is in
      let old = heap.fields q p declared there kind_is in
      record {
        one_each = old.one_each;
        typed = λ at field value field_is value_is. held_remains h n loose q p at field.ty value there value_is (old.typed at field value field_is value_is);
      };
}

trimmed : (m : Module) {h t : Objects} → Trims h t → IsHeapOf m h → IsHeapOf m t
trimmed m (done none) heap = heap
trimmed m (drop {heap = h} n loose rest) heap = trimmed m rest (heap_without m h n heap loose)

trimmed_below : (ticket : ℕ) {h t : Objects} → Trims h t → HasTicketsBelow ticket h → HasTicketsBelow ticket t
trimmed_below ticket (done none) below = below
trimmed_below ticket (drop {heap = h} n loose rest) below = trimmed_below ticket rest (λ q p is. below q p (was h n q p is))

-- ---- objects are sealed
-- what a value was made of
some_of : {A B : Type 0} (f : A → B) (o : Option A) (b : B) → option_map f o ≡ Some b → (a : A) × (o ≡ Some a) × (f a ≡ b)
some_of f None b e = cc
some_of f (Some a) b e = let same : f a ≡ b = cc in (a, refl, same)

unmarked : (h : Objects) (q : Name) (p : Obj) → finite.get (sealed_heap h) q ≡ Some p → (o : Obj) × (finite.get h q ≡ Some o) × (sealed_at h q o ≡ p)
unmarked h q p is = some_of (sealed_at h q) (finite.get h q) p (sym (got_sealed h q) ∙ is)

marked : (h : Objects) (q : Name) (o : Obj) → finite.get h q ≡ Some o → finite.get (sealed_heap h) q ≡ Some (sealed_at h q o)
marked h q o is = got_sealed h q ∙ ap (option_map (sealed_at h q)) is

stays_marked : (h : Objects) → Stays h (sealed_heap h)
stays_marked h = record { object = λ q kind has. record { object = sealed_at h q has.object; is_there = marked h q has.object has.is_there; of_kind = has.of_kind } }

-- a root is not sealed
root_open : (h : Objects) (q : Name) (o : Obj) → q.ticket ≡ 0 → o.sealed ≡ false → (sealed_at h q o).sealed ≡ false
root_open h q o root unsealed =
    ap (λ s. s || is_shared h (q, o)) unsealed
    ∙ ap (λ t. (nat_lt 0 t && (if o.sealed then false else true)) && nat_le 2 (refs h q)) root

heap_marked : (m : Module) (h : Objects) → IsHeapOf m h → IsHeapOf m (sealed_heap h)
heap_marked m h heap = record {
  roots = λ kind q is.
      let old = heap.roots kind q is in
      (sealed_at h q old.0, marked h q old.0 old.1, old.2, root_open h q old.0 is.ticket old.3);
  exposed = λ q p is ticket. let o = unmarked h q p is in subst (λ (x : Obj). IsRootOf m x.kind q) o.2 (heap.exposed q o.0 o.1 ticket);
  hidden = λ q p is hidden. let o = unmarked h q p is in subst (λ (x : Obj). IsNodeKind m x.kind) o.2 (heap.hidden q o.0 o.1 hidden);
  fields = λ q p declared is kind_is.
      let o = unmarked h q p is in
      let of_kind : slice_get m.kinds o.0.kind ≡ Some declared = ap (λ (x : Obj). slice_get m.kinds x.kind) o.2 ∙ kind_is in
      subst (λ (x : Obj). HasFields (sealed_heap h) declared.fields x.fields) o.2 (fields_stay (stays_marked h) declared.fields o.0.fields (heap.fields q o.0 declared o.1 of_kind));
}

-- ---- a heap is settled
trims : (h : Objects) → Trims h (trim h)
trims h = (order_does_not_matter h (trim h)).1 refl

pub heap_settled : (m : Module) (h : Objects) → IsHeapOf m h → IsHeapOf m (settled h)
heap_settled m h heap = heap_marked m (trim h) (trimmed m (trims h) heap)

pub settled_below : (ticket : ℕ) (h : Objects) → HasTicketsBelow ticket h → HasTicketsBelow ticket (settled h)
settled_below ticket h below = λ q p is. let o = unmarked (trim h) q p is in trimmed_below ticket (trims h) below q o.0 o.1
