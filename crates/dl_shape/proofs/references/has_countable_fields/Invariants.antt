use Rattle.std.proofs.Common.{◌≡◌, ◌+◌, ◌-◌, ◌^◌, min, length}
use Rattle.std.specs.Prelude.{sum_by}
use Rattle.std.specs.FinMap.{entries}
use Rattle.dl_ir.specs.declared.names.Name.{Name}
use Rattle.dl_ir.specs.declared.objects.Obj.{Obj}
use Rattle.dl_shape.proofs.references.has_countable_fields.Given as goal

abbrev pub invariant-loop-object : goal.invariant-loop-object
invariant-loop-object l = min (2 ^ 64 - 1) (l.total + sum_by (λ (entry : Name × Obj). length entry.1.fields) l.object-iterator) ≡ min (2 ^ 64 - 1) (sum_by (λ (entry : Name × Obj). length entry.1.fields) (entries l.heap.objects))
