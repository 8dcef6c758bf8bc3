-- What a caller may do to the object at a name, and when: a row for each kind of event.
use Rattle.std.specs.Prelude.{◌≡◌, ◌<◌, ◌⊎◌, ℕ, Option, Some, None, slice_set}
use Rattle.std.specs.FinMap as finite
use Rattle.dl_ir.specs.declared.names.Name.{Name}
use Rattle.dl_ir.specs.declared.names.Value.{Value}
use Rattle.dl_ir.specs.declared.names.Value.TheVariants.{Int, Ref}
use Rattle.dl_ir.specs.Heap.{IsHidden}
use Rattle.dl_core.specs.declared.objects.Mark.TheVariants as marks
use Rattle.dl_core.specs.declared.objects.Object.{Object}
use Rattle.dl_core.specs.Heaps.{Heap, refs, refs_in, field_of, IsHeld, IsSealed}
use Rattle.dl_core.specs.Reach.{Links, Reaches, IsAbove}

-- a value that the caller may write: a number, null, or what is hidden and held by the caller
abbrev pub MayWrite : Heap → ℕ → Value → Type 0
MayWrite heap caller (Int number) = Unit {0}
MayWrite heap caller (Ref None) = Unit {0}
MayWrite heap caller (Ref (Some name)) = IsHeld heap caller name × IsHidden name

-- a value that a field may lose when the caller writes it: a number, null, or what the caller holds, or what is sealed
abbrev pub MayLose : Heap → ℕ → Value → Type 0
MayLose heap caller (Int number) = Unit {0}
MayLose heap caller (Ref None) = Unit {0}
MayLose heap caller (Ref (Some name)) = IsHeld heap caller name ⊎ IsSealed heap name

-- what a caller may do to what stands at a name
pub data May (heap : Heap) (tickets : ℕ → ℕ) (caller : ℕ) (name : Name) : Option Object → Option Object → Type 0 where
  -- a read
  reads : {object : Object} → object.mark ≡ marks.Held caller → May heap tickets caller name (Some object) (Some object)
  -- a look at what is sealed, to which a field of a held object refers
  sees : {object : Object} (ticket : ℕ) (from : Name) → object.mark ≡ marks.Sealed ticket → IsHidden name → IsHeld heap caller from → Links heap from name
      → May heap tickets caller name (Some object) (Some object)
  -- a write
  writes : {object : Object} (field : ℕ) (value : Value) → object.mark ≡ marks.Held caller → MayLose heap caller (field_of object field) → MayWrite heap caller value
      → May heap tickets caller name (Some object) (Some (record object { fields = slice_set object.fields field value }))
  -- the taking of a hidden object, to which a field of a held object refers
  takes : {object : Object} (from : Name) → object.mark ≡ marks.Free → IsHidden name → IsHeld heap caller from → Links heap from name
      → May heap tickets caller name (Some object) (Some (record object { mark = marks.Held caller }))
  -- the taking of a root, before the caller enters
  takes_root : {object : Object} → object.mark ≡ marks.Free → name.ticket ≡ 0 → tickets caller ≡ 0
      → May heap tickets caller name (Some object) (Some (record object { mark = marks.Held caller }))
  -- the letting go of a root, or of an object to which one field refers. No local refers to it, as locals refer to what is held
  lets_go : {object : Object} → object.mark ≡ marks.Held caller → (IsHidden name → refs heap name ≡ 1)
      → May heap tickets caller name (Some object) (Some (record object { mark = marks.Free }))
  -- the sealing of an object to which several fields refer
  seals : {object : Object} → object.mark ≡ marks.Held caller → IsHidden name → 1 < refs heap name
      → May heap tickets caller name (Some object) (Some (record object { mark = marks.Sealed (tickets caller) }))
  -- the giving up of an object to which no field refers, and which refers to nothing
  gives_up : {object : Object} → object.mark ≡ marks.Held caller → IsHidden name → refs heap name ≡ 0 → ((other : Name) → refs_in other object ≡ 0)
      → May heap tickets caller name (Some object) None
  -- the making of an object under a name of the caller's ticket
  makes : {object : Object} → name.ticket ≡ tickets caller → IsHidden name → refs heap name ≡ 0 → object.mark ≡ marks.Held caller → ((other : Name) → refs_in other object ≡ 0)
      → May heap tickets caller name None (Some object)

-- a free hidden object is referred to by one field, and no field refers to a root
pub record IsCounted (heap : Heap) : Type 0 where
  pub one : (name : Name) (object : Object) → finite.get heap name ≡ Some object → object.mark ≡ marks.Free → IsHidden name → refs heap name ≡ 1
  pub roots : (name : Name) → name.ticket ≡ 0 → refs heap name ≡ 0

-- nothing that a younger operation holds or sealed can be come to from an older one that has entered
pub record IsApart (heap : Heap) (tickets : ℕ → ℕ) : Type 0 where
  pub apart : (caller : ℕ) (name : Name) (object : Object) → 0 < tickets caller → Reaches heap caller name → finite.get heap name ≡ Some object
      → ¬ (IsAbove tickets (tickets caller) object.mark)

-- callers that have entered have tickets of their own
abbrev pub IsOwn : (ℕ → ℕ) → Type 0
IsOwn tickets = (caller other : ℕ) → 0 < tickets other → tickets caller ≡ tickets other → caller ≡ other
