use Rattle.std.specs.Prelude.{◌≡◌, ◌≤◌, false, Some}
use Rattle.std.specs.FinMap as map
use Rattle.dl_ir.specs.declared.names.Name.{Name}
use Rattle.dl_ir.specs.declared.objects.Obj.{Obj}
use Rattle.dl_ir.specs.Heap.{Objects, IsHidden}
pub use Rattle.dl_ir.specs.References.{name_eq, refers_to, refs}

-- no field refers to a root, and at most one field refers to each other unsealed object
pub record IsForest (heap : Objects) : Type 0 where
  pub roots_free : (name : Name) → name.ticket ≡ 0 → refs heap name ≡ 0
  pub at_most_one : (name : Name) (object : Obj) → map.get heap name ≡ Some object → IsHidden name → object.sealed ≡ false → refs heap name ≤ 1
