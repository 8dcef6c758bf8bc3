use Rattle.std.proofs.Common.{Some, None, refl, ap}
use Rattle.std.specs.FinMap as finite
use Rattle.dl_ir.specs.Rows.{Rows}
use Rattle.dl_core.specs.declared.answers.Event.TheVariants as events
use Rattle.dl_core.specs.declared.dues.Due.TheVariants as dues
use Rattle.dl_core.specs.declared.objects.Object.{Object}
use Rattle.dl_core.specs.Events.{gave_up}
use Rattle.dl_core.specs.Heaps.{put_at}
use Rattle.dl_core.specs.Shown.{shown}
use Rattle.dl_core.proofs.TouchSteps.{moves, seen_there, few_removed}
use Rattle.dl_core.proofs.touches.give_up.Goals as goal

pub returns-in-Some-clause-touched : goal.returns-in-Some-clause-touched
unfolding put_at
returns-in-Some-clause-touched c plan caller e =
    let rows = c.args.heap.now.rows in
    let frame = shown c.args.frame.now in
    let from = seen_there (finite.get rows c.args.name) c.in-Some.field-0 c.in-Some.ensures in
    moves plan caller rows c.args.name (dues.GivesUp c.args.name) frame (Some from.object) from.there (events.GiveUp c.args.name) refl
    (gave_up plan c.args.name frame) None refl
    (shown c.gave_up.new.frame) c.remove.new.self.rows (c.gave_up.ensures.shown plan e) (ap (λ (t : Rows Object). t.rows) c.remove.ensures.left)

pub returns-in-Some-clause-few : goal.returns-in-Some-clause-few
returns-in-Some-clause-few c = few_removed c.args.heap.now c.remove.new.self c.args.name c.remove.ensures.left c.requires.few
