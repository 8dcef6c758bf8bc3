use Rattle.std.proofs.Common.{◌^◌, ap, ◌∙◌, arith}
use Rattle.std.specs.Prelude.{sum_by, count_by}
use Rattle.std.proofs.lemmas.List.Sums.{sum_by-cons}
use Rattle.dl_ir.proofs.Keeping.{in_object, refs-few}
use Rattle.dl_ir.specs.References.{refers_to}
use Rattle.dl_ir.proofs.heaps.fields_that_refer.Goals as goal

pub overflow_add-count : goal.overflow_add-count
overflow_add-count c =
    let here = ap (sum_by (in_object c.args.name)) c.in-Some.ensures.steps ∙ sum_by-cons (in_object c.args.name) (c.in-Some.field-0-0, c.in-Some.object) c.next.new.self in
    omega (arith, here, c.count_in-count.ensures ∙ ap (count_by (refers_to c.args.name)) c.fields.ensures.value, c.loop-object.invariant, refs-few c.args.census.now.objects.rows (2 ^ 48) c.args.name c.requires.fields c.requires.few)
