use Rattle.std.proofs.Common.{length, ap, ◌∙◌, arith}
use Rattle.std.specs.Prelude.{sum_by}
use Rattle.std.proofs.lemmas.Bool.Decides.{nat_tests}
use Rattle.std.proofs.lemmas.List.Sums.{sum_by-cons}
use Rattle.dl_ir.specs.declared.names.Name.{Name}
use Rattle.dl_ir.specs.declared.objects.Obj.{Obj}
use Rattle.dl_shape.proofs.references.has_countable_fields.Goals as goal

pub loop-object-preserved : goal.loop-object-preserved
loop-object-preserved c =
    let lengths = λ (e : Name × Obj). length e.1.fields in
    let here = ap (sum_by lengths) c.in-Some.ensures.steps ∙ sum_by-cons lengths (c.in-Some.field-0-0, c.in-Some.object) c.next.new.self in
    omega (arith, here, c.len.ensures.value ∙ ap length c.fields.ensures.value, c.saturating_add-total.ensures, c.loop-object.invariant)

pub returns : goal.returns
returns c =
    let lengths = λ (e : Name × Obj). length e.1.fields in
    let none = ap (sum_by lengths) c.in-None.ensures.steps.0 in
    grind (arith, nat_tests, c.loop-object.invariant, none)
