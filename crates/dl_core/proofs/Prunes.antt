-- The serial heap, and the heap that a run has once it has given some of its objects up.
use Rattle.std.proofs.Common.{[], ◌≡◌, ◌≢◌, ℕ, ◌+◌, ◌≤◌, inl, inr, false, cond, Option, Some, None, refl, sym, ap, subst, ◌∙◌, arith}
use Rattle.std.specs.Prelude.{count_by, slice_get, slice_set}
use Rattle.std.specs.FinMap as finite
use Rattle.dl_ir.specs.declared.names.Name.{Name}
use Rattle.dl_ir.specs.declared.names.Value.{Value}
use Rattle.dl_ir.specs.declared.names.Value.TheVariants.{Int, Ref}
use Rattle.dl_ir.specs.declared.objects.Obj.{Obj}
use Rattle.dl_ir.specs.Heap.{Objects}
use Rattle.dl_ir.specs.References.{refs, refers_to}
use Rattle.dl_shape.specs.Settling.{IsLoose, Trims, done, drop, trim}
use Rattle.dl_shape.proofs.Order.{order_does_not_matter}
use Rattle.dl_ir.proofs.Keeping.{field_counted}
use Rattle.std.proofs.lemmas.List.Sums.{sum_by-cons}
use Rattle.dl_core.specs.Heaps.{put_at, total}
use Rattle.dl_shape.proofs.Names.{names}
use Rattle.dl_core.proofs.Maps.{weight, get_here, get_there, put_at_comm, total-put_at}
use Rattle.std.proofs.lemmas.Bool.{cases_Bool}
use Rattle.dl_core.proofs.Names.{same_name, same_named, no_some}

-- removals of loose objects lead from the one heap to the other, in some order
pub data Prunes : Objects → Objects → Type 0 where
  unpruned : {heap : Objects} → Prunes heap heap
  prunes : {heap left : Objects} (name : Name) → IsLoose heap name → Prunes (finite.remove heap name) left → Prunes heap left

-- one removal more
pub prunes_more : {heap left : Objects} → Prunes heap left → (name : Name) → IsLoose left name → Prunes heap (finite.remove left name)
prunes_more unpruned name loose = prunes name loose unpruned
prunes_more (prunes first is rest) name loose = prunes first is (prunes_more rest name loose)

-- until none is loose
pub prunes_trims : {heap left : Objects} → Prunes heap left → ((name : Name) → IsLoose left name → ⊥) → Trims heap left
prunes_trims unpruned none = done none
prunes_trims (prunes name loose rest) none = drop name loose (prunes_trims rest none)

-- and then the heap is trimmed
pub pruned_trim : {heap left : Objects} → Prunes heap left → ((name : Name) → IsLoose left name → ⊥) → left ≡ trim heap
pruned_trim {heap} {left} all none = (order_does_not_matter heap left).0 (prunes_trims all none)

gone_here : (heap : Objects) (name : Name) → finite.get (finite.remove heap name) name ≡ None
unfolding put_at
gone_here heap name = get_here names heap name None

gone_there : (heap : Objects) (name other : Name) → other ≢ name → finite.get (finite.remove heap name) other ≡ finite.get heap other
unfolding put_at
gone_there heap name other apart = get_there names heap name None other apart

-- what is gone stays gone
pub stays_gone : {heap left : Objects} → Prunes heap left → (name : Name) → finite.get heap name ≡ None → finite.get left name ≡ None
stays_gone unpruned name none = none
stays_gone (prunes {heap = heap} first loose rest) name none = stays_gone rest name (elim (same_name name first) [
  | inl same ↦ ap (finite.get (finite.remove heap first)) same ∙ gone_here heap first
  | inr apart ↦ gone_there heap first name apart ∙ none
])

kept_apart : (heap left : Objects) (first : Name) → Prunes (finite.remove heap first) left → (name : Name) (object : Obj) → finite.get left name ≡ Some object → name ≢ first
kept_apart heap left first rest name object there same = no_some (sym (ap (finite.get left) same ∙ stays_gone rest first (gone_here heap first)) ∙ there)

-- and what is kept was there as it is
pub was_there : {heap left : Objects} → Prunes heap left → (name : Name) (object : Obj) → finite.get left name ≡ Some object → finite.get heap name ≡ Some object
was_there unpruned name object there = there
was_there (prunes {heap = heap} {left = left} first loose rest) name object there =
    sym (gone_there heap first name (kept_apart heap left first rest name object there)) ∙ was_there rest name object there

-- the number of fields of what is there that refer to a name
abbrev pub refs_at : Name → Option Obj → ℕ
refs_at name found = weight (λ (object : Obj). count_by (refers_to name) object.fields) found

refs_insert : (heap : Objects) (at : Name) (object : Obj) (name : Name) → refs (finite.insert heap at object) name + refs_at name (finite.get heap at) ≡ refs heap name + count_by (refers_to name) object.fields
unfolding put_at total
refs_insert heap at object name = total-put_at names (λ (o : Obj). count_by (refers_to name) o.fields) heap at (Some object)

swapped : (heap : Objects) (at name : Name) (object : Obj) → at ≢ name → finite.remove (finite.insert heap at object) name ≡ finite.insert (finite.remove heap name) at object
unfolding put_at
swapped heap at name object apart = put_at_comm names heap at name (Some object) None apart

insert_there : (heap : Objects) (at name : Name) (object : Obj) → name ≢ at → finite.get (finite.insert heap at object) name ≡ finite.get heap name
unfolding put_at
insert_there heap at name object apart = get_there names heap at (Some object) name apart

-- a change of an object goes through the removals, if what is removed is another and gets no field more that refers to it
pub prunes_change : {heap left : Objects} → Prunes heap left → (at : Name) (object : Obj)
    → ((name : Name) (was : Obj) → finite.get heap name ≡ Some was → finite.get left name ≡ None → (name ≢ at) × (count_by (refers_to name) object.fields ≤ refs_at name (finite.get heap at)))
    → Prunes (finite.insert heap at object) (finite.insert left at object)
prunes_change unpruned at object others = unpruned
prunes_change (prunes {heap = heap} {left = left} first loose rest) at object others =
    let far = others first loose.object loose.there (stays_gone rest first (gone_here heap first)) in
    let turned : at ≢ first = λ e. far.0 (sym e) in
    prunes first
    (record {
      object = loose.object;
      there = insert_there heap at first object far.0 ∙ loose.there;
      hidden = loose.hidden;
      unsealed = loose.unsealed;
      alone = omega (arith, refs_insert heap at object first, loose.alone, far.1);
    })
    (subst (λ h. Prunes h (finite.insert left at object)) (sym (swapped heap at first object turned))
    (prunes_change rest at object (λ name was there gone.
    let apart : name ≢ first = λ e. no_some (sym (ap (finite.get (finite.remove heap first)) e ∙ gone_here heap first) ∙ there) in
    let other = others name was (sym (gone_there heap first name apart) ∙ there) gone in
    (other.0, omega (arith, other.1, ap (refs_at name) (gone_there heap first at turned))))))

-- what the value refers to is there
abbrev pub IsKeptIn : Objects → Value → Type 0
IsKeptIn left (Int number) = Unit {0}
IsKeptIn left (Ref None) = Unit {0}
IsKeptIn left (Ref (Some name)) = (object : Obj) × (finite.get left name ≡ Some object)

not_to : (left : Objects) (name : Name) → finite.get left name ≡ None → (value : Value) → IsKeptIn left value → refers_to name value ≡ false
not_to left name none (Int number) kept = refl
not_to left name none (Ref None) kept = refl
not_to left name none (Ref (Some target)) kept = elim (cases_Bool (refers_to name (Ref (Some target)))) [
  | inl t ↦ absurd (no_some (sym none ∙ ap (finite.get left) (same_named name target t) ∙ kept.1))
  | inr f ↦ f
]

-- a write of a kept object, of a value that refers to what is kept, goes through the removals
pub prunes_write : {heap left : Objects} → Prunes heap left → (at : Name) (object : Obj) (field : ℕ) (old value : Value) → finite.get left at ≡ Some object → slice_get object.fields field ≡ Some old → IsKeptIn left value
    → Prunes (finite.insert heap at (record object { fields = slice_set object.fields field value })) (finite.insert left at (record object { fields = slice_set object.fields field value }))
prunes_write {heap} {left} all at object field old value there held kept = prunes_change all at (record object { fields = slice_set object.fields field value }) (λ name was is gone.
    let here : refs_at name (finite.get heap at) ≡ count_by (refers_to name) object.fields = ap (refs_at name) (was_there all at object there) in
    let no : ◌≡◌ {A = ℕ} (cond (refers_to name value) 1 0) 0 = ap {B = ℕ} (λ b. cond b 1 0) (not_to left name gone value kept) in (
      λ e. no_some (sym gone ∙ ap (finite.get left) e ∙ there),
      omega (arith, field_counted name object.fields field old value held, sum_by-cons (λ x. cond (refers_to name x) 1 0) value [], no, here),
    ))

-- and so does the making of an object that refers to nothing
pub prunes_new : {heap left : Objects} → Prunes heap left → (at : Name) (object : Obj) → finite.get heap at ≡ None → ((name : Name) → count_by (refers_to name) object.fields ≡ 0)
    → Prunes (finite.insert heap at object) (finite.insert left at object)
prunes_new {heap} {left} all at object none blank = prunes_change all at object (λ name was is gone. (λ e. no_some (sym (ap (finite.get heap) e ∙ none) ∙ is), omega (arith, blank name)))
