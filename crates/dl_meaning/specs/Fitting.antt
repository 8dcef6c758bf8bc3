-- Which states fit the types of an operation's locals.
use Rattle.std.specs.Prelude.{◌≡◌, ◌<◌, ◌≤◌, ℕ, Some, None, List, length, slice_get}
use Rattle.std.specs.FinMap as finite
use Rattle.dl_ir.specs.declared.modules.Ty.{Ty}
use Rattle.dl_ir.specs.declared.modules.Ty.TheVariants as types
use Rattle.dl_ir.specs.declared.names.Name.{Name}
use Rattle.dl_ir.specs.declared.names.Value.{Value}
use Rattle.dl_ir.specs.declared.names.Value.TheVariants as values
use Rattle.dl_ir.specs.declared.objects.Obj.{Obj}
use Rattle.dl_ir.specs.Heap.{Objects, HasObject, IsHeapOf}
use Rattle.dl_ir.specs.Meaning.{Context, State}

-- a number, or else null or the name of an object of the heap of the kind
abbrev pub HoldsType : Objects → Ty → Value → Type 0
HoldsType h types.Int (values.Int number) = Unit {0}
HoldsType h types.Int (values.Ref target) = ⊥
HoldsType h (types.Of kind) (values.Int number) = ⊥
HoldsType h (types.Of kind) (values.Ref None) = Unit {0}
HoldsType h (types.Of kind) (values.Ref (Some name)) = HasObject h name kind

-- a state fits the types of the locals
pub record Fits (cx : Context) (types : List Ty) (s : State) : Type 0 where
  -- there is one local for each type
  pub one_each : length s.locals ≡ length types
  -- each local holds a value of its type
  pub typed : (x : ℕ) (type_of_local : Ty) (value : Value) → slice_get types x ≡ Some type_of_local → slice_get s.locals x ≡ Some value
      → HoldsType s.objects type_of_local value
  -- the heap is one of the module
  pub heap : IsHeapOf cx.source s.objects
  -- the operation has a ticket of its own, which no root's name has
  pub ticket : 0 < cx.ticket
  -- no object has a later ticket
  pub not_later : (name : Name) (object : Obj) → finite.get s.objects name ≡ Some object → name.ticket ≤ cx.ticket
  -- of the names that have this ticket, none above the number made is in the heap
  pub fresh : (name : Name) (object : Obj) → finite.get s.objects name ≡ Some object → name.ticket ≡ cx.ticket → name.index ≤ s.made
