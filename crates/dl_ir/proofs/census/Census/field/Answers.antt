use Rattle.std.proofs.Common.{◌∙◌}
use Rattle.std.specs.Prelude.{slice_get}
use Rattle.std.specs.FinMap as map
use Rattle.dl_ir.specs.declared.objects.Obj.{Obj}
use Rattle.dl_ir.specs.Counted.{object_of}
use Rattle.dl_ir.proofs.Mapped.{get-with_values}
use Rattle.dl_ir.proofs.CountedEdits.{read_through}
use Rattle.dl_ir.proofs.census.Census.field.Goals as goal

pub returns : goal.returns
returns c =
    let rows = c.self.inside.rows.rows in
    rw (← c.self.view_is, get-with_values object_of rows c.args.name) (
    c.field.ensures ∙ read_through object_of (λ (object : Obj). slice_get object.fields c.args.at) (map.get rows c.args.name))
