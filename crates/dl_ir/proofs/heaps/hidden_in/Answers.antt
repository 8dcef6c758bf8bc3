use Rattle.std.proofs.Common.{cond, ap, ◌∙◌, arith}
use Rattle.std.specs.Prelude.{count_by, nat_lt}
use Rattle.std.specs.FinMap.{entries, len-entries}
use Rattle.std.proofs.lemmas.List.Sums.{sum_by-cons, count_by-le-length, length-filter}
use Rattle.dl_ir.specs.declared.names.Name.{Name}
use Rattle.dl_ir.specs.declared.objects.Obj.{Obj}
use Rattle.dl_ir.proofs.heaps.hidden_in.Goals as goal

pub overflow_add-hidden : goal.overflow_add-hidden
overflow_add-hidden c =
    let test = λ (e : Name × Obj). nat_lt 0 e.0.ticket in
    let es = entries c.args.census.now.objects.rows in
    let one = λ (e : Name × Obj). cond (test e) 1 0 in
    let here = ap (count_by test) c.in-Some.ensures.steps ∙ sum_by-cons one (c.in-Some.name, c.in-Some.field-0-1) c.next.new.self in
    omega (arith, here, c.one_if-hidden.ensures, c.loop-name.invariant, count_by-le-length test es, len-entries c.args.census.now.objects.rows, c.requires)

pub returns : goal.returns
returns c =
    let test = λ (e : Name × Obj). nat_lt 0 e.0.ticket in
    let none = ap (count_by test) c.in-None.ensures.steps.0 in
    omega (arith, none, c.loop-name.invariant, length-filter test (entries c.args.census.now.objects.rows))
