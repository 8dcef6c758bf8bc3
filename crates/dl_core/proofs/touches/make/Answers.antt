use Rattle.std.proofs.Common.{Some, None, refl, ap, ◌∙◌}
use Rattle.std.specs.FinMap as finite
use Rattle.dl_ir.specs.Rows.{Rows}
use Rattle.dl_core.specs.declared.answers.Event.TheVariants as events
use Rattle.dl_core.specs.declared.dues.Due.TheVariants as dues
use Rattle.dl_core.specs.declared.objects.Object.{Object}
use Rattle.dl_core.specs.Events.{made, made_object}
use Rattle.dl_core.specs.Heaps.{put_at}
use Rattle.dl_core.specs.Shown.{shown}
use Rattle.dl_core.proofs.TouchSteps.{moves, unseen_there, few_put}
use Rattle.dl_core.proofs.touches.make.Goals as goal

pub returns-in-None-clause-touched : goal.returns-in-None-clause-touched
unfolding put_at
returns-in-None-clause-touched c plan e =
    let rows = c.args.heap.now.rows in
    let frame = shown c.args.frame.now in
    let none = unseen_there (finite.get rows c.args.name) c.in-None.ensures in
    moves plan c.args.caller rows c.args.name (dues.Makes c.args.name c.args.kind) frame None none (events.Make c.args.name) refl
    (made plan c.args.name c.args.kind frame) (Some (made_object plan c.args.caller c.args.kind)) refl
    (shown c.made.new.frame) c.put.new.self.rows (c.made.ensures.shown plan e)
    (ap (λ (t : Rows Object). t.rows) c.put.ensures ∙ ap (finite.insert rows c.args.name) (c.new_object.ensures plan e))

pub returns-in-None-clause-few : goal.returns-in-None-clause-few
returns-in-None-clause-few c = few_put c.args.heap.now c.put.new.self c.args.name c.new_object.result c.put.ensures c.requires.may.room
