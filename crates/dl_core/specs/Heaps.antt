-- The objects that all callers share.
use Rattle.std.specs.Prelude.{◌≡◌, ℕ, Bool, true, false, Option, Some, None, map, sum_by, count_by, get_or}
use Rattle.std.specs.FinMap as finite
use Rattle.std.specs.FinMap.{FinMap}
use Rattle.std.specs.declared.cmp.Ordering.{Ordering}
use Rattle.dl_ir.specs.declared.names.Name.{Name}
use Rattle.dl_ir.specs.declared.names.Value.{Value}
use Rattle.dl_ir.specs.declared.names.Value.TheVariants.{Ref}
use Rattle.dl_ir.specs.declared.objects.Obj.{Obj}
use Rattle.dl_ir.specs.Heap.{Objects, name_cmp}
use Rattle.dl_ir.specs.References.{refers_to}
use Rattle.dl_core.specs.declared.objects.Mark.{Mark}
use Rattle.dl_core.specs.declared.objects.Mark.TheVariants as marks
use Rattle.dl_core.specs.declared.objects.Object.{Object}

-- the shared heap: a finite map from names to objects
abbrev pub Heap : Type 0
Heap = FinMap name_cmp Object

-- the map with this at the key, or with nothing there
unfoldable pub put_at : {K X : Type 0} {R : K → K → Ordering} → FinMap R X → K → Option X → FinMap R X
put_at m key (Some x) = finite.insert m key x
put_at m key None = finite.remove m key

-- a weight summed over the values of a map
unfoldable pub total : {K X : Type 0} {R : K → K → Ordering} → (X → ℕ) → FinMap R X → ℕ
total weight m = sum_by (λ e. weight e.1) (finite.entries m)

-- the number of an object's fields that refer to the name
abbrev pub refs_in : Name → Object → ℕ
refs_in name object = count_by (refers_to name) object.fields

-- the number of fields over all objects, sealed ones included, that refer to the name
abbrev pub refs : Heap → Name → ℕ
refs heap name = total (refs_in name) heap

-- what a field of an object holds; null where the object has no such field
abbrev pub field_of : Object → ℕ → Value
field_of object field = get_or object.fields field (Ref None)

-- a mark says that its object is sealed
abbrev pub is_sealed : Mark → Bool
is_sealed marks.Free = false
is_sealed (marks.Held caller) = false
is_sealed (marks.Sealed ticket) = true

-- the map with each value changed
abbrev pub changed : {K X Y : Type 0} {R : K → K → Ordering} → (X → Y) → FinMap R X → FinMap R Y
changed change m = finite.from_sorted (map (λ e. (e.0, change e.1)) (finite.entries m))

-- an object, marks left aside but for its being sealed
abbrev pub plain_object : Object → Obj
plain_object object = record { kind = object.kind; sealed = is_sealed object.mark; fields = object.fields }

-- the heap as the serial meaning has it: marks left aside, but for what is sealed
abbrev pub plain : Heap → Objects
plain heap = changed plain_object heap

-- the mark with which a run finds an object: nobody holds it, and what is sealed was sealed before every operation of the run
abbrev pub first_mark : Bool → Mark
first_mark true = marks.Sealed 0
first_mark false = marks.Free

-- an object as a run finds it
abbrev pub marked_object : Obj → Object
marked_object object = record { kind = object.kind; mark = first_mark object.sealed; fields = object.fields }

-- the heap with which a run starts
abbrev pub marked : Objects → Heap
marked objects = changed marked_object objects

-- the caller holds the object of this name
pub record IsHeld (heap : Heap) (caller : ℕ) (name : Name) : Type 0 where
  pub object : Object
  pub there : finite.get heap name ≡ Some object
  pub held : object.mark ≡ marks.Held caller

-- the object of this name is sealed
pub record IsSealed (heap : Heap) (name : Name) : Type 0 where
  pub object : Object
  pub there : finite.get heap name ≡ Some object
  pub ticket : ℕ
  pub sealed : object.mark ≡ marks.Sealed ticket
