use Rattle.std.proofs.Common.{Some, refl, ap, ◌∙◌}
use Rattle.std.specs.FinMap as finite
use Rattle.dl_ir.specs.declared.names.Value.{Value}
use Rattle.dl_core.specs.declared.answers.Event.TheVariants as events
use Rattle.dl_core.specs.declared.dues.Due.TheVariants as dues
use Rattle.dl_core.specs.Events.{has_read}
use Rattle.dl_core.specs.Heaps.{field_of}
use Rattle.dl_core.specs.Shown.{shown}
use Rattle.dl_core.proofs.TouchSteps.{moves, same_there, read_there}
use Rattle.dl_core.proofs.touches.read.Goals as goal

pub returns-in-Some-clause-touched : goal.returns-in-Some-clause-touched
returns-in-Some-clause-touched c plan caller e =
    let rows = c.args.heap.now.rows in
    let frame = shown c.args.frame.now in
    let from = read_there (finite.get rows c.args.name) c.args.field c.in-Some.value c.in-Some.ensures in
    moves plan caller rows c.args.name (dues.Reads c.args.name c.args.field) frame (Some from.object) from.there (events.Read c.args.name c.args.field) refl
    (has_read plan (field_of from.object c.args.field) frame) (Some from.object) refl (shown c.has_read.new.frame) rows
    (c.has_read.ensures.shown plan e ∙ ap (λ (v : Value). has_read plan v frame) from.is) (same_there rows c.args.name from.object from.there)
