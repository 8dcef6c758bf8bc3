use Rattle.std.proofs.Common.{length, arith}
use Rattle.std.specs.Prelude.{count_by}
use Rattle.std.specs.FinMap.{entries}
use Rattle.std.proofs.lemmas.List.Sums.{sum_by-le-sum_by, count_by-le-length}
use Rattle.dl_ir.specs.declared.names.Name.{Name}
use Rattle.dl_ir.specs.declared.objects.Obj.{Obj}
use Rattle.dl_ir.specs.References.{refers_to}
use Rattle.dl_shape.proofs.references.refs.Goals as goal

pub overflow_cast-result : goal.overflow_cast-result
overflow_cast-result c =
    let term = λ (e : Name × Obj). count_by (refers_to c.args.name) e.1.fields in
    let lengths = λ (e : Name × Obj). length e.1.fields in
    let few = sum_by-le-sum_by term lengths (entries c.args.heap.now.objects) (λ e. count_by-le-length (refers_to c.args.name) e.1.fields) in
    omega (arith, c.refs.ensures.count, few, c.requires)
