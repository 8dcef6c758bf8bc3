-- What callers see and change of the objects that they share.
use Rattle.std.specs.Prelude.{ℕ, Option, Some, slice_set}
use Rattle.std.specs.FinMap as finite
use Rattle.dl_ir.specs.declared.names.Name.{Name}
use Rattle.dl_ir.specs.declared.names.Value.{Value}
use Rattle.dl_core.specs.declared.answers.Event.{Event}
use Rattle.dl_core.specs.declared.answers.Progress.{Progress}
use Rattle.dl_core.specs.declared.answers.Progress.TheVariants as progress
use Rattle.dl_core.specs.declared.dues.Due.{Due}
use Rattle.dl_core.specs.declared.objects.Object.{Object}
use Rattle.dl_core.specs.declared.shared.Seen.{Seen}
use Rattle.dl_core.specs.Core.{stands}
use Rattle.dl_core.specs.Events.{Acted, act, event_of}
use Rattle.dl_core.specs.Frames.{Frame}
use Rattle.dl_core.specs.Heaps.{Heap, put_at}
use Rattle.dl_core.specs.Plans.{Plan}

-- what a caller sees of an object before it takes it
abbrev pub seen_of : Object → Seen
seen_of object = record { kind = object.kind; mark = object.mark }

-- the object with another value in a field
abbrev pub with_field : ℕ → Value → Object → Object
with_field field value object = record object { fields = slice_set object.fields field value }

-- what an event at one object makes of the caller's frame and of the heap, and its answer; where it does not take place nothing changes
abbrev pub Touched : Type 0
Touched = Frame × Heap × Progress

abbrev pub touched_by : Heap → Name → Frame → Option Event → Option Acted → Touched
touched_by heap name frame (Some event) (Some done) = (done.0, put_at heap name done.1, progress.Moved event)
touched_by heap name frame event outcome = (frame, heap, stands heap (Some name))

abbrev pub touched : Plan → ℕ → Heap → Name → Due → Frame → Touched
touched plan caller heap name due frame = touched_by heap name frame (event_of due (finite.get heap name)) (act plan caller frame due (finite.get heap name))
