use Rattle.std.proofs.Common.{◌≡◌, Some, ap, sym, ◌∙◌}
use Rattle.std.specs.FinMap as finite
use Rattle.dl_core.specs.declared.answers.Event.TheVariants as events
use Rattle.dl_core.specs.declared.dues.Due.TheVariants as dues
use Rattle.dl_core.specs.declared.objects.Mark.{Mark}
use Rattle.dl_core.specs.declared.objects.Mark.TheVariants as marks
use Rattle.dl_core.specs.declared.shared.Seen.{Seen}
use Rattle.dl_core.specs.Events.{saw_sealed, take, taken_event}
use Rattle.dl_core.specs.Shown.{shown}
use Rattle.dl_core.proofs.TouchSteps.{moves, same_there, seen_there}
use Rattle.dl_core.proofs.touches.take.Goals as goal

pub returns-in-Sealed-clause-touched : goal.returns-in-Sealed-clause-touched
returns-in-Sealed-clause-touched c plan e =
    let rows = c.args.heap.now.rows in
    let frame = shown c.args.frame.now in
    let from = seen_there (finite.get rows c.args.name) c.in-Some.seen c.in-Some.ensures in
    let mark : from.object.mark ≡ marks.Sealed c.in-Sealed.field-0 = sym (ap (λ (s : Seen). s.mark) from.is) ∙ c.in-Sealed.is in
    moves plan c.args.caller rows c.args.name (dues.Takes c.args.name) frame (Some from.object) from.there (events.SeeSealed c.args.name)
    (ap (λ (m : Mark). Some (taken_event c.args.name m)) mark)
    (saw_sealed plan c.args.name frame) (Some from.object) (ap (take plan c.args.caller c.args.name frame from.object) mark)
    (shown c.saw_sealed.new.frame) rows (c.saw_sealed.ensures.shown plan e) (same_there rows c.args.name from.object from.there)
