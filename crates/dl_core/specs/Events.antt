-- What each event makes of the caller's frame, and of the one object that it touches.
use Rattle.std.specs.Prelude.{◌+◌, ◌-◌, ℕ, false, true, Option, Some, None, List, [], ◌∷◌, ◌++◌, slice_get, slice_set}
use Rattle.std.specs.FinMap as finite
use Rattle.dl_ir.specs.declared.answers.End.{End}
use Rattle.dl_ir.specs.declared.answers.End.TheVariants as ends
use Rattle.dl_ir.specs.declared.calls.Call.{Call}
use Rattle.dl_ir.specs.declared.names.Name.{Name}
use Rattle.dl_ir.specs.declared.names.Value.{Value}
use Rattle.dl_ir.specs.declared.names.Value.TheVariants.{Ref}
use Rattle.dl_ir.specs.Heap.{root}
use Rattle.dl_ir.specs.Meaning.{object_of}
use Rattle.dl_ir.specs.References.{target_in}
use Rattle.dl_core.specs.declared.answers.Event.{Event}
use Rattle.dl_core.specs.declared.answers.Event.TheVariants as events
use Rattle.dl_core.specs.declared.objects.Mark.{Mark}
use Rattle.dl_core.specs.declared.objects.Mark.TheVariants as marks
use Rattle.dl_core.specs.declared.objects.Object.{Object}
use Rattle.dl_core.specs.declared.stages.Stage.TheVariants as stages
use Rattle.dl_core.specs.declared.stages.Finished.{Finished}
use Rattle.dl_core.specs.Heaps.{field_of}
use Rattle.dl_core.specs.Plans.{Plan, source_of, locals_of, fuel_of}
use Rattle.dl_core.specs.Frames.{Frame, at_rest, waiting, behind, loosened, raised, lowered, with_booked, without_booked, advanced, with_hand, ended, target_in_hand}
use Rattle.dl_core.specs.declared.dues.Due.{Due}
use Rattle.dl_core.specs.declared.dues.Due.TheVariants.{TakesRoot, Reads, Writes, Takes, LetsGo, GivesUp, Seals, Makes}
use Rattle.dl_core.specs.LocalSteps.{ready}

-- a call is in hand
abbrev pub begun : Call → Frame → Frame
begun call frame = waiting call 0 0 finite.empty (frame.index + 1) frame.finished

-- so many places are reserved
abbrev pub reserved : ℕ → Frame → Frame
reserved need frame = record frame { spares = need }

-- the call was refused
abbrev pub refused : Frame → Frame
refused frame = at_rest frame.index frame.finished

-- the next root was taken; no field refers to a root
abbrev pub took_root : ℕ → ℕ → Frame → Frame
took_root number kind frame = with_booked (root number) kind 0 (record frame { taken = frame.taken + 1 })

-- the operation has this ticket, and begins
abbrev pub entered : Plan → ℕ → Frame → Frame
entered plan ticket frame = ready plan (record frame { stage = stages.Running; ticket = ticket; locals = locals_of plan frame.call; turns = fuel_of plan frame.call })

-- the code goes on, unless a loose object is worked off
abbrev pub moved_on : List Name → Frame → Frame
moved_on [] frame = advanced frame
moved_on (name ∷ names) frame = frame

-- a field was found to hold this value
abbrev pub has_read : Plan → Value → Frame → Frame
has_read plan value frame = ready plan (with_hand (Some value) (moved_on frame.loose frame))

-- the code goes on, or the next field of the object that is being given up comes
abbrev pub moved_past : List Name → ℕ → Frame → Frame
moved_past [] field frame = advanced frame
moved_past (name ∷ names) field frame = record frame { cursor = field + 1; seen = false }

-- a field got this value. Where it holds references, the hand has the old one
abbrev pub wrote : Plan → ℕ → Value → Frame → Frame
wrote plan field value frame =
    ready plan (loosened (target_in_hand frame) (moved_past frame.loose field (record frame { hand = None; book = raised (target_in value) (lowered (target_in_hand frame) frame.book) })))

-- a hidden object of this kind was taken. It was free, so one field refers to it
abbrev pub took : Plan → Name → ℕ → Frame → Frame
took plan name kind frame = ready plan (with_booked name kind 1 (moved_on frame.loose frame))

-- an object was found to be sealed: the operation ends, or the field of the object that is being given up may be written
abbrev pub seen_by : List Name → Name → Frame → Frame
seen_by [] name frame = ended (ends.Sealed name) frame
seen_by (first ∷ names) name frame = record frame { seen = true }

abbrev pub saw_sealed : Plan → Name → Frame → Frame
saw_sealed plan name frame = ready plan (seen_by frame.loose name frame)

-- the first loose object was let go
abbrev pub let_go : Plan → Name → Frame → Frame
let_go plan name frame = ready plan (without_booked name (record frame { loose = behind frame.loose }))

-- the first loose object was given up, and its place is spare
abbrev pub gave_up : Plan → Name → Frame → Frame
gave_up plan name frame = ready plan (without_booked name (record frame { loose = behind frame.loose; cursor = 0; spares = frame.spares + 1 }))

-- the earlier name, if there is one
abbrev pub or_first : Option Name → Name → Option Name
or_first None name = Some name
or_first (Some earlier) name = Some earlier

-- an object was sealed
abbrev pub sealed : Plan → Name → Frame → Frame
sealed plan name frame = ready plan (without_booked name (record frame { breach = or_first frame.breach name }))

-- an object of this kind was made on a spare place, and nothing but the hand refers to it
abbrev pub made : Plan → Name → ℕ → Frame → Frame
made plan name kind frame =
    ready plan (with_booked name kind 0 (with_hand (Some (Ref (Some name))) (advanced (record frame { made = frame.made + 1; spares = frame.spares - 1 }))))

-- what a caller keeps of an operation that ended so
abbrev pub finish_of : End → Frame → Finished
finish_of end frame = record { index = frame.index; ticket = frame.ticket; answer = record { end = end; breach = frame.breach; emitted = frame.emitted }; returned = frame.spares }

-- the operation is finished, and the caller has no call in hand
abbrev pub finished : End → Frame → Frame
finished end frame = at_rest frame.index (frame.finished ++ finish_of end frame ∷ [])

-- the object that an event touches
abbrev pub aim : Due → Option Name
aim (TakesRoot number) = Some (root number)
aim (Reads name field) = Some name
aim (Writes name field value) = Some name
aim (Takes name) = Some name
aim (LetsGo name) = Some name
aim (GivesUp name) = Some name
aim (Seals name) = Some name
aim (Makes name kind) = Some name
aim due = None

-- the frame and what then stands at the name that the event touches
abbrev pub Acted : Type 0
Acted = Frame × Option Object

abbrev pub with_mark : Mark → Object → Object
with_mark mark object = record object { mark = mark }

-- a root is taken; the caller waits while another holds it
abbrev pub take_root : ℕ → ℕ → Frame → Object → Mark → Option Acted
take_root caller number frame object marks.Free = Some (took_root number object.kind frame, Some (with_mark (marks.Held caller) object))
take_root caller number frame object (marks.Held other) = None
take_root caller number frame object (marks.Sealed ticket) = None

-- a hidden object is taken, or seen to be sealed; the caller waits while another holds it
abbrev pub take : Plan → ℕ → Name → Frame → Object → Mark → Option Acted
take plan caller name frame object marks.Free = Some (took plan name object.kind frame, Some (with_mark (marks.Held caller) object))
take plan caller name frame object (marks.Held other) = None
take plan caller name frame object (marks.Sealed ticket) = Some (saw_sealed plan name frame, Some object)

-- an object of a kind as it begins, held by its maker
abbrev pub made_object : Plan → ℕ → ℕ → Object
made_object plan caller kind = record { kind = kind; mark = marks.Held caller; fields = (object_of kind (slice_get (source_of plan).kinds kind)).fields }

-- what an event makes of the caller's frame and of the object that is there; nothing where the caller waits
abbrev pub act_on : Plan → ℕ → Frame → Due → Object → Option Acted
act_on plan caller frame (TakesRoot number) object = take_root caller number frame object object.mark
act_on plan caller frame (Reads name field) object = Some (has_read plan (field_of object field) frame, Some object)
act_on plan caller frame (Writes name field value) object = Some (wrote plan field value frame, Some (record object { fields = slice_set object.fields field value }))
act_on plan caller frame (Takes name) object = take plan caller name frame object object.mark
act_on plan caller frame (LetsGo name) object = Some (let_go plan name frame, Some (with_mark marks.Free object))
act_on plan caller frame (GivesUp name) object = Some (gave_up plan name frame, None)
act_on plan caller frame (Seals name) object = Some (sealed plan name frame, Some (with_mark (marks.Sealed frame.ticket) object))
act_on plan caller frame due object = None

-- an object is made where none is
abbrev pub act_at_none : Plan → ℕ → Frame → Due → Option Acted
act_at_none plan caller frame (Makes name kind) = Some (made plan name kind frame, Some (made_object plan caller kind))
act_at_none plan caller frame due = None

-- what an event makes of the caller's frame and of what stands at the name that it touches
abbrev pub act : Plan → ℕ → Frame → Due → Option Object → Option Acted
act plan caller frame due None = act_at_none plan caller frame due
act plan caller frame due (Some object) = act_on plan caller frame due object

-- what took place, where the next event touches an object that is marked so
abbrev pub taken_event : Name → Mark → Event
taken_event name (marks.Sealed ticket) = events.SeeSealed name
taken_event name mark = events.Take name

abbrev pub mark_of : Option Object → Mark
mark_of None = marks.Free
mark_of (Some object) = object.mark

abbrev pub event_of : Due → Option Object → Option Event
event_of (TakesRoot number) found = Some (events.TakeRoot number)
event_of (Reads name field) found = Some (events.Read name field)
event_of (Writes name field value) found = Some (events.Write name field)
event_of (Takes name) found = Some (taken_event name (mark_of found))
event_of (LetsGo name) found = Some (events.LetGo name)
event_of (GivesUp name) found = Some (events.GiveUp name)
event_of (Seals name) found = Some (events.Seal name)
event_of (Makes name kind) found = Some (events.Make name)
event_of due found = None
