-- Trimming and settling a heap.
use Rattle.std.specs.Prelude.{◌≡◌, ◌||◌, ℕ, false, zero, suc, Option, Some, None, map}
use Rattle.std.specs.FinMap as finite
use Rattle.dl_ir.specs.declared.names.Name.{Name}
use Rattle.dl_ir.specs.declared.objects.Obj.{Obj}
use Rattle.dl_ir.specs.Heap.{Objects, IsHidden}
use Rattle.dl_ir.specs.References.{refs}
pub use Rattle.dl_ir.specs.References.{is_open, is_loose, is_shared, first_name}

-- the object of this name is hidden and unsealed, and no field refers to it
pub record IsLoose (heap : Objects) (name : Name) : Type 0 where
  pub object : Obj
  pub there : finite.get heap name ≡ Some object
  pub hidden : IsHidden name
  pub unsealed : object.sealed ≡ false
  pub alone : refs heap name ≡ 0

-- removals of loose objects lead from the one heap to the other, in some order, until none is loose
pub data Trims : Objects → Objects → Type 0 where
  done : {heap : Objects} → ((name : Name) → IsLoose heap name → ⊥) → Trims heap heap
  drop : {heap trimmed : Objects} (name : Name) → IsLoose heap name → Trims (finite.remove heap name) trimmed → Trims heap trimmed

-- the heap without the object, where there is one, and what then follows
abbrev pub without : Option Name → Objects → (Objects → Objects) → Objects
without None heap next = heap
without (Some name) heap next = next (finite.remove heap name)

-- the heap after so many removals at most, each of the first loose object
abbrev pub trim_by : ℕ → Objects → Objects
trim_by zero heap = heap
trim_by (suc count) heap = without (first_name (is_loose heap) heap) heap (trim_by count)

-- the heap without its loose objects, those that become loose on the way included
abbrev pub trim : Objects → Objects
trim heap = trim_by (finite.len heap) heap

-- the order of removals does not matter
abbrev pub OrderDoesNotMatter : Type 0
OrderDoesNotMatter = (heap trimmed : Objects) → (Trims heap trimmed → trimmed ≡ trim heap) × (trimmed ≡ trim heap → Trims heap trimmed)

-- the entry, sealed where two fields or more of the heap refer to its hidden object
abbrev pub sealed_entry : Objects → Name × Obj → Name × Obj
sealed_entry heap entry = (entry.0, record entry.1 { sealed = entry.1.sealed || is_shared heap entry })

-- the heap with each hidden object sealed to which two fields or more refer
abbrev pub sealed_heap : Objects → Objects
sealed_heap heap = finite.from_sorted (map (sealed_entry heap) (finite.entries heap))

-- what settling makes of a heap: it is trimmed, and then what two fields or more refer to is sealed
abbrev pub settled : Objects → Objects
settled heap = sealed_heap (trim heap)

-- the least name that settling seals, if it seals one
abbrev pub breach_of : Objects → Option Name
breach_of heap = first_name (is_shared (trim heap)) (trim heap)
