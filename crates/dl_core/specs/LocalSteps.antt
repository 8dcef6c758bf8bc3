-- What a caller does next: a local step, which changes its own frame alone, or an event.
use Rattle.std.specs.Prelude.{◌≡◌, ◌+◌, ◌-◌, ◌==◌, ◌&&◌, ◌||◌, ◌++◌, length, ℕ, ℤ, pos, Bool, true, false, Option, Some, None, Ok, Err, List, [], ◌∷◌, slice_get, nat_le, nat_lt, if◌then◌else◌}
use Rattle.std.specs.FinMap as finite
use Rattle.dl_ir.specs.declared.answers.End.{End}
use Rattle.dl_ir.specs.declared.answers.End.TheVariants as ends
use Rattle.dl_ir.specs.declared.names.Name.{Name}
use Rattle.dl_ir.specs.declared.names.Value.{Value}
use Rattle.dl_ir.specs.declared.names.Value.TheVariants.{Int, Ref}
use Rattle.dl_ir.specs.Evaluation.{Number, Truth, number_of, value_of, holds_of}
use Rattle.dl_ir.specs.Meaning.{fault_end}
use Rattle.dl_ir.specs.References.{target_in}
use Rattle.dl_instr.specs.declared.steps.Step.{Step}
use Rattle.dl_instr.specs.declared.steps.Step.TheVariants.{Read, Want, Set, Drop, Make, Eval, Write, Emit, Test, Jump, Give}
use Rattle.dl_instr.specs.declared.steps.Origin.TheVariants as origins
use Rattle.dl_instr.specs.declared.steps.Content.{Content}
use Rattle.dl_instr.specs.declared.steps.Content.TheVariants as contents
use Rattle.dl_core.specs.declared.stages.Stage.{Stage}
use Rattle.dl_core.specs.declared.stages.Stage.TheVariants as stages
use Rattle.dl_core.specs.declared.stages.Booked.{Booked}
use Rattle.dl_core.specs.declared.dues.Due.{Due}
use Rattle.dl_core.specs.declared.dues.Due.TheVariants.{Nothing, Reserves, TakesRoot, Enters, Reads, Writes, Takes, LetsGo, GivesUp, Seals, Makes, Finishes}
use Rattle.dl_core.specs.Plans.{Plan, allocs_of, steps_of, roots_of, reference_from}
use Rattle.dl_core.specs.Frames.{Frame, has_booked, target_at, target_in_hand, value_in_hand, assigned, advanced, gone_to, with_hand, ended}
use Rattle.dl_core.specs.GoingOn.{go_on}
pub use Rattle.dl_core.specs.Left.{drops_before_turn, GoesBackToTurns, distance_by, distance, code_left, refers, stage_left, hand_left, steps_left}

-- what comes next: a local step with the frame that it leaves, or an event
pub data Next : Type 0 where
  Goes : (frame : Frame) → Next
  Stops : (due : Due) → Next

-- goes on with a number, or ends with its fault
abbrev pub on_number : Number → Frame → (ℤ → Frame) → Next
on_number (Ok n) frame next = Goes (next n)
on_number (Err fault) frame next = Goes (ended (fault_end fault) frame)

-- stops at the object that a reference names, or ends at null
abbrev pub on_object : Option Name → Frame → (Name → Due) → Next
on_object None frame due = Goes (ended ends.Null frame)
on_object (Some name) frame due = Stops (due name)

-- goes on behind a test where it is true, at the place where it is false, and ends with its fault
abbrev pub on_truth : Truth → ℕ → Frame → Next
on_truth (Ok holds) place frame = Goes (if holds then advanced frame else gone_to place frame)
on_truth (Err fault) place frame = Goes (ended (fault_end fault) frame)

-- what is null or held by the caller need not be taken
abbrev pub on_wanted : Option Name → Frame → Next
on_wanted None frame = Goes (advanced frame)
on_wanted (Some name) frame = if has_booked frame name then Goes (advanced frame) else Stops (Takes name)

-- a loop's test takes a turn, and ends the operation where none is left
abbrev pub on_test : Bool → Frame → (Frame → Next) → Next
on_test false frame next = next frame
on_test true frame next = if frame.turns == 0 then Goes (ended ends.Fuel frame) else next (record frame { turns = frame.turns - 1 })

-- what is written into a field
abbrev pub content_of : Content → Frame → Value
content_of contents.Number frame = value_in_hand frame.hand
content_of (contents.Local local) frame = Ref (target_at frame local)
content_of contents.Null frame = Ref None

-- the name of the object that the operation makes next
abbrev pub next_name : Frame → Name
next_name frame = record { ticket = frame.ticket; index = frame.made + 1 }

-- the number in the hand is given out, behind those given out before
abbrev pub given_out : Frame → Frame
given_out frame = advanced (with_hand None (record frame { emitted = frame.emitted ++ number_of frame.hand ∷ [] }))

-- a number is given out, or the operation ends where it has given out 16
abbrev pub on_emit : Frame → Next
on_emit frame = if nat_le 16 (length frame.emitted) then Goes (ended ends.Emits frame) else Goes (given_out frame)

-- what comes next at a step of the code. There is always one: no path leads past the last
abbrev pub next_step : Plan → Frame → Option Step → Next
next_step plan frame None = Goes (ended (ends.Ok (pos 0)) frame)
next_step plan frame (Some (Read local field)) = on_object (target_at frame local) frame (λ name. Reads name field)
next_step plan frame (Some Want) = on_wanted (target_in_hand frame) frame
next_step plan frame (Some (Set local origins.Hand)) = Goes (assigned local (value_in_hand frame.hand) (advanced (with_hand None frame)))
next_step plan frame (Some (Set local (origins.Local other))) = Goes (assigned local (Ref (target_at frame other)) (advanced frame))
next_step plan frame (Some (Drop local)) = Goes (assigned local (Ref None) (advanced frame))
next_step plan frame (Some (Make kind)) = if nat_le (allocs_of plan frame.call) frame.made then Goes (ended ends.Quota frame) else Stops (Makes (next_name frame) kind)
next_step plan frame (Some (Eval value)) = on_number (value_of value frame.locals) frame (λ n. advanced (with_hand (Some (Int n)) frame))
next_step plan frame (Some (Write local field content)) = on_object (target_at frame local) frame (λ name. Writes name field (content_of content frame))
next_step plan frame (Some Emit) = on_emit frame
next_step plan frame (Some (Test c is_turn place)) = on_test is_turn frame (λ taken. on_truth (holds_of c frame.locals) place taken)
next_step plan frame (Some (Jump place)) = Goes (gone_to place frame)
next_step plan frame (Some (Give value)) = on_number (value_of value frame.locals) frame (λ n. ended (ends.Ok n) frame)

-- an object that is being given up: its field is read; what it refers to is taken, unless it is held or seen to be sealed; then the
-- field is written null
abbrev pub next_target : Frame → Name → ℕ → Option Name → Next
next_target frame name field None = Goes (record frame { hand = None; cursor = field + 1 })
next_target frame name field (Some target) = if has_booked frame target || frame.seen then Stops (Writes name field (Ref None)) else Stops (Takes target)

abbrev pub next_value : Frame → Name → ℕ → Option Value → Next
next_value frame name field None = Stops (Reads name field)
next_value frame name field (Some value) = next_target frame name field (target_in value)

-- its fields that hold references come one by one, and at last it is given up
abbrev pub next_field : Frame → Name → Option ℕ → Next
next_field frame name None = Stops (GivesUp name)
next_field frame name (Some field) = next_value frame name field frame.hand

-- the first loose object is given up where it is hidden and no field refers to it, and else let go
abbrev pub next_loose : Plan → Frame → Name → Option Booked → Next
next_loose plan frame name None = Stops (LetsGo name)
next_loose plan frame name (Some booked) =
    if nat_lt 0 name.ticket && (booked.fields == 0) then next_field frame name (reference_from plan booked.kind frame.cursor) else Stops (LetsGo name)

-- what is still held when all locals are null is sealed, in rising order of names
abbrev pub next_held : End → List (Name × Booked) → Due
next_held end [] = Finishes end
next_held end (entry ∷ rest) = Seals entry.0

-- the number of the first of these locals that refers to an object, if one does; the first of them has this number
abbrev pub or_next : Option Name → ℕ → Option ℕ → Option ℕ
or_next None at later = later
or_next (Some name) at later = Some at

abbrev pub first_referring : ℕ → List Value → Option ℕ
first_referring at [] = None
first_referring at (value ∷ rest) = or_next (target_in value) at (first_referring (at + 1) rest)

-- when an operation has ended its locals become null one by one, in the order of declaration
abbrev pub next_local : Frame → End → Option ℕ → Next
next_local frame end None = Stops (next_held end (finite.entries frame.book))
next_local frame end (Some local) = Goes (assigned local (Ref None) frame)

-- what a call takes before it enters: its places, and then its roots in rising order
abbrev pub next_root : Option ℕ → Due
next_root None = Enters
next_root (Some number) = TakesRoot number

abbrev pub next_called : Plan → Frame → Due
next_called plan frame = if nat_lt frame.spares (allocs_of plan frame.call) then Reserves (allocs_of plan frame.call) else next_root (slice_get (roots_of plan frame.call) frame.taken)

abbrev pub next_stage : Plan → Frame → Stage → Next
next_stage plan frame stages.Idle = Stops Nothing
next_stage plan frame stages.Called = Stops (next_called plan frame)
next_stage plan frame stages.Running = next_step plan frame (slice_get (steps_of plan frame.call) frame.place)
next_stage plan frame (stages.Ended end) = next_local frame end (first_referring 0 frame.locals)

-- loose objects come before the code
abbrev pub next_after : Plan → Frame → List Name → Next
next_after plan frame [] = next_stage plan frame frame.stage
next_after plan frame (name ∷ names) = next_loose plan frame name (finite.get frame.book name)

-- what a caller does next
abbrev pub next : Plan → Frame → Next
next plan frame = next_after plan frame frame.loose

abbrev pub step_in : Next → Option Frame
step_in (Goes frame) = Some frame
step_in (Stops due) = None

abbrev pub due_in : Next → Due
due_in (Goes frame) = Nothing
due_in (Stops due) = due

-- the frame after a local step, if one comes next
abbrev pub local_step : Plan → Frame → Option Frame
local_step plan frame = step_in (next plan frame)

-- the event that comes next, at a frame at which no local step comes first
abbrev pub due : Plan → Frame → Due
due plan frame = due_in (next plan frame)

-- the frame to which local steps lead, at which an event comes next. Any number of steps that suffices gives the same frame; that this
-- one does is a law, `IsReady` of every frame of a state to which a run comes
abbrev pub ready : Plan → Frame → Frame
ready plan frame = go_on (local_step plan) (steps_left plan frame) frame

-- no local step comes next
abbrev pub IsReady : Plan → Frame → Type 0
IsReady plan frame = local_step plan frame ≡ None
