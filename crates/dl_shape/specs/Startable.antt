-- From which heaps a run may start.
use Rattle.std.specs.Prelude.{◌≡◌, ◌≤◌, ℕ, false, Some, fold, max}
use Rattle.std.specs.FinMap as finite
use Rattle.dl_ir.specs.declared.names.Name.{Name}
use Rattle.dl_ir.specs.declared.objects.Obj.{Obj}
use Rattle.dl_ir.specs.declared.modules.Module.{Module}
use Rattle.dl_ir.specs.Checked.{IsChecked}
use Rattle.dl_ir.specs.Heap.{Objects, IsHidden, IsHeapOf, start_objects}
use Rattle.dl_ir.specs.References.{refs}

-- the greatest ticket of a heap's names, 0 where it has roots alone
abbrev pub greatest_ticket : Objects → ℕ
greatest_ticket heap = fold (λ greatest (entry : Name × Obj). max greatest entry.0.ticket) 0 (finite.entries heap)

-- exactly one field refers to each unsealed hidden object, as settling leaves it
abbrev pub IsSettled : Objects → Type 0
IsSettled heap = (name : Name) (object : Obj) → finite.get heap name ≡ Some object → IsHidden name → object.sealed ≡ false → refs heap name ≡ 1

-- a run may start from the heap: it is one of the module, it is settled, and the names of its hidden objects keep their limits
pub record IsStartable (source : Module) (heap : Objects) : Type 0 where
  pub of_module : IsHeapOf source heap
  pub settled : IsSettled heap
  pub low_tickets : greatest_ticket heap ≤ 4611686018427387904
  pub low_indexes : (name : Name) (object : Obj) → finite.get heap name ≡ Some object → IsHidden name → (1 ≤ name.index) × (name.index ≤ 64)

-- the start heap of a checked module is such a heap
abbrev pub StartsAreStartable : Type 0
StartsAreStartable = (source : Module) → IsChecked source → IsStartable source (start_objects source)
