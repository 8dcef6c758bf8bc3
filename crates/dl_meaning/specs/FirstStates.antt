-- The states in which operations begin.
use Rattle.std.specs.Prelude.{◌≡◌, ◌<◌, ℕ, ℤ, Some, List}
use Rattle.std.specs.FinMap as finite
use Rattle.dl_ir.specs.declared.modules.Module.{Module}
use Rattle.dl_ir.specs.declared.modules.OpDecl.{OpDecl}
use Rattle.dl_ir.specs.declared.modules.Ty.TheVariants as types
use Rattle.dl_ir.specs.declared.names.Name.{Name}
use Rattle.dl_ir.specs.declared.names.Value.TheVariants as values
use Rattle.dl_ir.specs.declared.objects.Obj.{Obj}
use Rattle.dl_ir.specs.CallForms.{AllFit, IsRootNumber}
use Rattle.dl_ir.specs.Heap.{Objects, IsHeapOf, root}
use Rattle.dl_ir.specs.Typed.{types_of}
use Rattle.dl_shape.specs.Operation.{context_of, begun}
use Rattle.dl_meaning.specs.Fitting.{Fits, HoldsType}

-- every object has a name of a lesser ticket
abbrev pub HasTicketsBelow : ℕ → Objects → Type 0
HasTicketsBelow ticket h = (name : Name) (object : Obj) → finite.get h name ≡ Some object → name.ticket < ticket

-- an operation of the module, given fitting arguments, begins in a state that fits, in each heap of the module whose tickets are all before
-- its own, whatever its turns
abbrev pub FirstStatesFit : Type 0
FirstStatesFit = (source : Module) (op : OpDecl) (arguments : List ℤ) (h : Objects) (ticket turns : ℕ) → AllFit source op.params arguments → IsHeapOf source h
    → 0 < ticket → HasTicketsBelow ticket h → Fits (context_of source ticket op) (types_of op) (begun op arguments h turns)

-- the root that an argument names may be given for a parameter of its kind
abbrev pub RootsAreHeld : Type 0
RootsAreHeld = (source : Module) (h : Objects) (kind : ℕ) (argument : ℤ) → IsHeapOf source h → (is : IsRootNumber source kind argument)
    → HoldsType h (types.Of kind) (values.Ref (Some (root is.number)))
