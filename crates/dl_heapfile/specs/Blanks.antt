-- Objects with null in each field, as a heap holds them before what they refer to is there, and the faults of single objects.
use Rattle.std.specs.Prelude.{◌+◌, ℕ, None, List, map}
use Rattle.dl_ir.specs.declared.modules.Module.{Module}
use Rattle.dl_ir.specs.declared.names.Name.{Name}
use Rattle.dl_ir.specs.declared.names.Value.{Value}
use Rattle.dl_ir.specs.declared.names.Value.TheVariants.{Ref}
use Rattle.dl_ir.specs.declared.objects.Obj.{Obj}
use Rattle.dl_ir.specs.Heap.{Objects}
use Rattle.dl_heapfile.specs.declared.fault.HeapFault.{HeapFault}
use Rattle.dl_heapfile.specs.declared.fault.HeapFault.TheVariants.{Dangling, Shape}
use Rattle.dl_heapfile.specs.Faults.{Every, FailsFirst, HasOneField, RefersWell}

-- null, whatever stood there
abbrev pub nothing : Value → Value
nothing value = Ref None

-- the object with null in each field
abbrev pub emptied : Obj → Obj
emptied object = record object { fields = map nothing object.fields }

-- the same under its name
abbrev pub emptied_entry : Name × Obj → Name × Obj
emptied_entry entry = (entry.0, emptied entry.1)

-- the first object that refers to what it may not, or else the first to which not exactly one field refers
pub data IsObjectFault (source : Module) (heap : Objects) (line : ℕ) (entries : List (Name × Obj)) : HeapFault → Type 0 where
  dangling : (at : ℕ) → FailsFirst (RefersWell source heap) entries at → IsObjectFault source heap line entries (Dangling (line + 1 + at))
  shape : (at : ℕ) → Every (RefersWell source heap) entries → FailsFirst (HasOneField heap) entries at → IsObjectFault source heap line entries (Shape (line + 1 + at))
