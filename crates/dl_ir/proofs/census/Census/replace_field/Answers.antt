use Rattle.std.proofs.Common.{refl, ◌∙◌}
use Rattle.std.specs.Prelude.{slice_get}
use Rattle.std.specs.FinMap as map
use Rattle.dl_ir.specs.declared.objects.Obj.{Obj}
use Rattle.dl_ir.specs.Counted.{object_of}
use Rattle.dl_ir.proofs.Mapped.{get-with_values}
use Rattle.dl_ir.proofs.CountedEdits.{objects-written, counts-written, read_through}
use Rattle.dl_ir.proofs.census.Census.replace_field.Goals as goal

pub returns-clause-before : goal.returns-clause-before
returns-clause-before c =
    let rows = c.self.inside.rows.rows in
    rw (← c.self.view_is, get-with_values object_of rows c.args.name) (
    c.replace_field.ensures.before ∙ read_through object_of (λ (object : Obj). slice_get object.fields c.args.field) (map.get rows c.args.name))

pub returns-clause-written : goal.returns-clause-written
returns-clause-written c =
    let rows = c.self.inside.rows.rows in
    rw (← c.self.view_is, c.replace_field.ensures.written, objects-written rows c.args.name c.args.field c.args.value, counts-written rows c.args.name c.args.field c.args.value) refl
