-- What an event at one object makes of the heap, as the program has it.
use Rattle.std.proofs.Common.{◌≡◌, ℕ, ◌+◌, ◌-◌, ◌<◌, ◌≤◌, Bool, true, false, cond, Option, Some, None, refl, sym, ap, subst, ◌∙◌, arith}
use Rattle.std.specs.Option.{option_map}
use Rattle.std.specs.FinMap as finite
use Rattle.std.specs.FinMap.{len-insert, len-remove}
use Rattle.dl_ir.specs.declared.names.Name.{Name}
use Rattle.dl_ir.specs.declared.names.Value.{Value}
use Rattle.dl_ir.specs.Rows.{Rows}
use Rattle.dl_core.specs.declared.answers.Event.{Event}
use Rattle.dl_core.specs.declared.answers.Progress.{Progress}
use Rattle.dl_core.specs.declared.answers.Progress.TheVariants as progress
use Rattle.dl_core.specs.declared.dues.Due.{Due}
use Rattle.dl_core.specs.declared.objects.Object.{Object}
use Rattle.dl_core.specs.declared.shared.Seen.{Seen}
use Rattle.dl_core.specs.Core.{stands}
use Rattle.dl_core.specs.Events.{act, event_of}
use Rattle.dl_core.specs.Frames.{Frame}
use Rattle.dl_core.specs.Heaps.{Heap, put_at, field_of}
use Rattle.dl_core.specs.Plans.{Plan}
use Rattle.dl_core.specs.Shared.{seen_of, touched, touched_by, Touched}
use Rattle.dl_shape.proofs.Names.{names}
use Rattle.dl_core.proofs.Maps.{put_at_same}

-- what was seen is of an object that is there
pub record IsSeen (found : Option Object) (seen : Seen) : Type 0 where
  pub object : Object
  pub there : found ≡ Some object
  pub is : seen ≡ seen_of object

pub seen_there : (found : Option Object) (seen : Seen) → Some seen ≡ option_map seen_of found → IsSeen found seen
seen_there None seen e = absurd (cc)
seen_there (Some object) seen e = let is : seen ≡ seen_of object = cc in record { object = object; there = refl; is = is }

pub unseen_there : (found : Option Object) → None ≡ option_map seen_of found → found ≡ None
unseen_there None e = refl
unseen_there (Some object) e = absurd (cc)

module _ (plan : Plan) (caller : ℕ) (heap : Heap) (name : Name) (due : Due) (frame : Frame) where
  -- the event as it is at what is found
  at_found : (found : Option Object) → finite.get heap name ≡ found → (answer : Touched) → answer ≡ touched_by heap name frame (event_of due found) (act plan caller frame due found) → answer ≡ touched plan caller heap name due frame
  at_found found e answer is = is ∙ ap (λ (o : Option Object). touched_by heap name frame (event_of due o) (act plan caller frame due o)) (sym e)

  -- it takes place
  pub moves : (found : Option Object) → finite.get heap name ≡ found → (event : Event) → event_of due found ≡ Some event → (after : Frame) (left : Option Object) → act plan caller frame due found ≡ Some (after, left)
      → (new : Frame) (rows : Heap) → new ≡ after → rows ≡ put_at heap name left → (new, rows, progress.Moved event) ≡ touched plan caller heap name due frame
  moves found e event happens after left acts new rows is stands_there =
      at_found found e (new, rows, progress.Moved event)
      ((λ i. (is i, stands_there i, progress.Moved event)) ∙ (λ i. touched_by heap name frame (sym happens i) (sym acts i)))

  -- it does not
  pub stays : (found : Option Object) → finite.get heap name ≡ found → act plan caller frame due found ≡ None → (answer : Progress) → answer ≡ stands heap (Some name) → (frame, heap, answer) ≡ touched plan caller heap name due frame
  stays found e acts answer is = at_found found e (frame, heap, answer) ((λ i. (frame, heap, is i)) ∙ by (event_of due found) ∙ (λ i. touched_by heap name frame (event_of due found) (sym acts i)))
    where
      by : (event : Option Event) → (frame, heap, stands heap (Some name)) ≡ touched_by heap name frame event None
      by None = refl
      by (Some event) = refl

-- a change of the object that is there
pub changed_there : (heap now : Rows Object) (name : Name) (change : Object → Object) (object : Object) → finite.get heap.rows name ≡ Some object → now ≡ record heap { rows = put_at heap.rows name (option_map change (finite.get heap.rows name)) }
    → now.rows ≡ put_at heap.rows name (Some (change object))
changed_there heap now name change object there is = ap (λ (t : Rows Object). t.rows) is ∙ ap (λ (o : Option Object). put_at heap.rows name (option_map change o)) there

-- what stands there is left
pub same_there : (heap : Heap) (name : Name) (object : Object) → finite.get heap name ≡ Some object → heap ≡ put_at heap name (Some object)
same_there heap name object there = sym (put_at_same names heap name) ∙ ap (put_at heap name) there

-- what was read is the field of an object that is there
pub record IsReadFrom (found : Option Object) (field : ℕ) (value : Value) : Type 0 where
  pub object : Object
  pub there : found ≡ Some object
  pub is : value ≡ field_of object field

pub read_there : (found : Option Object) (field : ℕ) (value : Value) → Some value ≡ option_map (λ (object : Object). field_of object field) found → IsReadFrom found field value
read_there None field value e = absurd (cc)
read_there (Some object) field value e = let is : value ≡ field_of object field = cc in record { object = object; there = refl; is = is }

-- an object less is there
pub few_removed : (heap now : Rows Object) (name : Name) → now ≡ record heap { rows = finite.remove heap.rows name } → finite.len heap.rows ≤ heap.room → finite.len now.rows ≤ now.room
few_removed heap now name is few = subst (λ (t : Rows Object). finite.len t.rows ≤ t.room) (sym is) (by (finite.contains_key heap.rows name) (len-remove names.total heap.rows name))
  where
    by : (b : Bool) → finite.len (finite.remove heap.rows name) ≡ cond b (finite.len heap.rows - 1) (finite.len heap.rows) → finite.len (finite.remove heap.rows name) ≤ heap.room
    by true e = omega (arith, e, few)
    by false e = omega (arith, e, few)

-- an object more is there
pub few_put : (heap now : Rows Object) (name : Name) (object : Object) → now ≡ record heap { rows = finite.insert heap.rows name object } → finite.len heap.rows < heap.room → finite.len now.rows ≤ now.room
few_put heap now name object is few = subst (λ (t : Rows Object). finite.len t.rows ≤ t.room) (sym is) (by (finite.contains_key heap.rows name) (len-insert names.total heap.rows name object))
  where
    by : (b : Bool) → finite.len (finite.insert heap.rows name object) ≡ cond b (finite.len heap.rows) (finite.len heap.rows + 1) → finite.len (finite.insert heap.rows name object) ≤ heap.room
    by true e = omega (arith, e, few)
    by false e = omega (arith, e, few)
