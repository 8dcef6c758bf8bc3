-- What refers to an object of a heap, and which objects settling removes or seals.
use Rattle.std.specs.Prelude.{◌&&◌, ◌==◌, ℕ, Bool, true, false, Option, Some, None, find, sum_by, count_by, nat_lt, nat_le, if◌then◌else◌}
use Rattle.std.specs.Option.{option_map}
use Rattle.std.specs.FinMap as map
use Rattle.dl_ir.specs.declared.names.Name.{Name}
use Rattle.dl_ir.specs.declared.names.Value.{Value}
use Rattle.dl_ir.specs.declared.names.Value.TheVariants.{Int, Ref}
use Rattle.dl_ir.specs.declared.objects.Obj.{Obj}
use Rattle.dl_ir.specs.Heap.{Objects}

-- Two names are the same.
abbrev pub name_eq : Name → Name → Bool
name_eq a b = (a.ticket == b.ticket) && (a.index == b.index)

-- A value refers to the object of this name.
abbrev pub refers_to : Name → Value → Bool
refers_to name (Int number) = false
refers_to name (Ref None) = false
refers_to name (Ref (Some target)) = name_eq name target

-- What a value refers to, if it does.
abbrev pub target_in : Value → Option Name
target_in (Int number) = None
target_in (Ref target) = target

-- The number of fields over all objects, sealed ones included, that refer to the object of this name.
abbrev pub refs : Objects → Name → ℕ
refs heap name = sum_by (λ (entry : Name × Obj). count_by (refers_to name) entry.1.fields) (map.entries heap)

-- The object is hidden and unsealed.
abbrev pub is_open : Name × Obj → Bool
is_open entry = nat_lt 0 entry.0.ticket && (if entry.1.sealed then false else true)

-- The object is hidden and unsealed, and no field refers to it.
abbrev pub is_loose : Objects → Name × Obj → Bool
is_loose heap entry = is_open entry && (refs heap entry.0 == 0)

-- The object is hidden and unsealed, and two fields or more refer to it.
abbrev pub is_shared : Objects → Name × Obj → Bool
is_shared heap entry = is_open entry && nat_le 2 (refs heap entry.0)

-- The name of the first object in the order of names that passes a test.
abbrev pub first_name : (Name × Obj → Bool) → Objects → Option Name
first_name test heap = option_map (λ (entry : Name × Obj). entry.0) (find test (map.entries heap))

-- The heap in which this object is sealed, if it is there.
abbrev pub with_seal_of : Objects → Name → Option Obj → Objects
with_seal_of heap name None = heap
with_seal_of heap name (Some object) = map.insert heap name (record object { sealed = true })

-- The heap in which the object of this name is sealed.
abbrev pub with_seal : Objects → Name → Objects
with_seal heap name = with_seal_of heap name (map.get heap name)
