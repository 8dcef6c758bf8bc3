-- Entry by entry, what makes a heap a forest.
use Rattle.std.specs.Prelude.{◌==◌, Bool, true, false, Some, None, if◌then◌else◌}
use Rattle.std.specs.List.{list_any}
use Rattle.dl_ir.specs.declared.names.Name.{Name}
use Rattle.dl_ir.specs.declared.names.Value.{Value}
use Rattle.dl_ir.specs.declared.names.Value.TheVariants.{Int, Ref}
use Rattle.dl_ir.specs.declared.objects.Obj.{Obj}
use Rattle.dl_ir.specs.Heap.{Objects}
use Rattle.dl_shape.specs.Settling.{is_shared}

-- a value refers to a root
abbrev pub names_root : Value → Bool
names_root (Int number) = false
names_root (Ref None) = false
names_root (Ref (Some target)) = target.ticket == 0

-- no field of the object refers to a root, and it is not an unsealed hidden one to which two fields or more refer
abbrev pub stands_in_forest : Objects → Name × Obj → Bool
stands_in_forest heap entry = if list_any names_root entry.1.fields then false else (if is_shared heap entry then false else true)
