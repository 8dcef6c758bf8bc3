-- How far a run is from its end.
use Rattle.std.specs.Prelude.{◌≡◌, ◌≢◌, ◌+◌, ◌-◌, ◌<◌, ◌≤◌, ℕ, Some, length, nat_lt, sum_by, if◌then◌else◌}
use Rattle.dl_ir.specs.declared.calls.Call.{Call}
use Rattle.dl_core.specs.declared.answers.Progress.{Progress}
use Rattle.dl_core.specs.declared.stages.Stage.{Stage}
use Rattle.dl_core.specs.declared.stages.Stage.TheVariants as stages
use Rattle.dl_core.specs.Plans.{Plan, IsPlan, size_of, allocs_of, roots_of}
use Rattle.dl_core.specs.Frames.{Frame, IsEntered}
use Rattle.dl_core.specs.Core.{Core, Shared, frame_of, rules_of, step, with_call}
use Rattle.dl_core.specs.Reached.{Calls, IsReached, MayBegin, calls_of, with_begun}
use Rattle.dl_core.specs.Reach.{ticket_in}
use Rattle.dl_core.specs.Sound.{callers_of}
use Rattle.dl_core.specs.Machines.{AreAllIdle}
use Rattle.dl_order.specs.Serial.{Rests}
use Rattle.dl_order.specs.Lengths.{steps_in_turn}

-- the number of steps by which the running operations, alone and one after another, come to their end
abbrev pub steps_to_end : {plan : Plan} {world end : Shared} → Rests plan world end → ℕ
steps_to_end {plan = plan} rests = steps_in_turn (rules_of plan) rests.runs

-- there is one such end, and one such number
abbrev pub RestsAreOne : Type 0
RestsAreOne = (plan : Plan) (core : Core) (calls : Calls) (end other : Shared) → IsPlan plan → IsReached plan core calls → (rests : Rests plan core.world end) (more : Rests plan core.world other)
    → (end ≡ other) × (steps_to_end rests ≡ steps_to_end more)

-- each step of a caller that has entered, whichever it is, leaves the end as it is and takes exactly one off the number
abbrev pub OneStepLess : Type 0
OneStepLess = (plan : Plan) (core after : Core) (calls : Calls) (caller : ℕ) (answer : Progress) (end : Shared) → IsPlan plan → IsReached plan core calls → IsEntered (frame_of core.world caller)
    → step plan core caller ≡ Some (after, answer) → (rests : Rests plan core.world end) → (left : Rests plan after.world end) × (steps_to_end rests ≡ steps_to_end left + 1)

-- of the callers that have entered the first one does not wait
abbrev pub OldestMoves : Type 0
OldestMoves = (plan : Plan) (core : Core) (calls : Calls) (caller : ℕ) → IsPlan plan → IsReached plan core calls → IsEntered (frame_of core.world caller)
    → ((other : ℕ) → IsEntered (frame_of core.world other) → ticket_in core.world caller ≤ ticket_in core.world other)
    → (after : Core) × (answer : Progress) × (step plan core caller ≡ Some (after, answer))

-- where some caller has a call in hand, some caller does not wait
abbrev pub SomeoneMoves : Type 0
SomeoneMoves = (plan : Plan) (core : Core) (calls : Calls) (caller : ℕ) → IsPlan plan → IsReached plan core calls → (frame_of core.world caller).stage ≢ stages.Idle
    → (mover : ℕ) × (after : Core) × (answer : Progress) × (step plan core mover ≡ Some (after, answer))

-- how many calls may still be begun
abbrev pub calls_left : Plan → Calls → ℕ
calls_left plan calls = sum_by (λ caller. size_of plan caller - length (calls_of calls caller)) (callers_of plan)

-- how many steps a caller with a call in hand has at most before it has entered: for its places, its roots, and the entry
abbrev pub left_before : Plan → Frame → Stage → ℕ
left_before plan frame stages.Called = 1 + (if nat_lt frame.spares (allocs_of plan frame.call) then 1 else 0) + (length (roots_of plan frame.call) - frame.taken)
left_before plan frame stage = 0

abbrev pub steps_before_entry : Plan → Shared → ℕ
steps_before_entry plan world = sum_by (λ (frame : Frame). left_before plan frame frame.stage) world.frames

-- a begin takes one off the calls that may be begun
abbrev pub BeginsFall : Type 0
BeginsFall = (plan : Plan) (core : Core) (calls : Calls) (caller : ℕ) (call : Call) → IsPlan plan → IsReached plan core calls → MayBegin plan core calls caller call
    → calls_left plan calls ≡ calls_left plan (with_begun calls caller call) + 1

-- a step of a caller that has not entered lowers the number of steps before entries, and a step of one that has leaves it as it is
abbrev pub StepsFall : Type 0
StepsFall = (plan : Plan) (core after : Core) (calls : Calls) (caller : ℕ) (answer : Progress) → IsPlan plan → IsReached plan core calls → step plan core caller ≡ Some (after, answer)
    → ((frame_of core.world caller).ticket ≡ 0 → steps_before_entry plan after.world < steps_before_entry plan core.world)
    × (IsEntered (frame_of core.world caller) → steps_before_entry plan after.world ≡ steps_before_entry plan core.world)

-- every run on from a state ends: so do those on from each state to which a step or a begin leads
pub data IsEnding (plan : Plan) : Core → Calls → Type 0 where
  ends : {core : Core} {calls : Calls} → ((caller : ℕ) (after : Core) (answer : Progress) → step plan core caller ≡ Some (after, answer) → IsEnding plan after calls)
      → ((caller : ℕ) (call : Call) → MayBegin plan core calls caller call → IsEnding plan (with_call core caller call) (with_begun calls caller call)) → IsEnding plan core calls

abbrev pub EachRunEnds : Type 0
EachRunEnds = (plan : Plan) (core : Core) (calls : Calls) → IsPlan plan → IsReached plan core calls → IsEnding plan core calls

-- and every run can be brought to its end: from each state steps lead on to one in which no caller has a call in hand
abbrev pub EachRunCanEnd : Type 0
EachRunCanEnd = (plan : Plan) (core : Core) (calls : Calls) → IsPlan plan → IsReached plan core calls → (end : Core) × IsReached plan end calls × AreAllIdle end
