-- What is proved of the machine.
use Rattle.std.specs.Prelude.{◌≡◌, ◌≢◌, ◌↔◌, ◌+◌, ◌<◌, ◌⊎◌, ℕ, Option, Some, List, [], ◌∷◌, ◌++◌, length}
use Rattle.std.specs.FinMap as finite
use Rattle.dl_ir.specs.declared.answers.End.{End}
use Rattle.dl_ir.specs.declared.calls.Call.{Call}
use Rattle.dl_ir.specs.declared.modules.OpDecl.{OpDecl}
use Rattle.dl_ir.specs.declared.names.Name.{Name}
use Rattle.dl_ir.specs.CallForms.{IsCallOf}
use Rattle.dl_ir.specs.Heap.{IsHeapOf, IsHidden, hidden_count}
use Rattle.dl_shape.specs.Operation.{operated, body_outcome}
use Rattle.dl_core.specs.declared.answers.Progress.{Progress}
use Rattle.dl_core.specs.declared.objects.Mark.TheVariants as marks
use Rattle.dl_core.specs.declared.objects.Object.{Object}
use Rattle.dl_core.specs.declared.stages.Finished.{Finished}
use Rattle.dl_core.specs.declared.stages.Stage.TheVariants as stages
use Rattle.dl_core.specs.Heaps.{refs, plain, IsHeld}
use Rattle.dl_core.specs.Plans.{Plan, IsPlan, source_of, op_of, allocs_of, roots_of}
use Rattle.dl_core.specs.Frames.{Book, Frame, at_rest, waiting}
use Rattle.dl_core.specs.LocalSteps.{due}
use Rattle.dl_core.specs.Events.{entered, act, aim}
use Rattle.dl_core.specs.Steps.{step_by, Alone}
use Rattle.dl_core.specs.Core.{Core, Shared, fresh, frame_of, rules_of, step, with_call}
use Rattle.dl_core.specs.Reached.{Calls, IsReached, MayBegin, no_calls, with_begun}
use Rattle.dl_core.specs.Reach.{Dominates, ticket_in}
use Rattle.dl_core.specs.Changes.{May}
use Rattle.dl_core.specs.Lawful.{IsLawful, IsTakenRoot}
use Rattle.dl_core.specs.Sound.{IsSound, HasBook}

-- a state is lawful and sound
pub record IsKept (plan : Plan) (core : Core) (calls : Calls) : Type 0 where
  pub lawful : IsLawful plan core calls
  pub sound : IsSound plan core calls

-- every state to which a run comes is lawful and sound
abbrev pub LawfulAlways : Type 0
LawfulAlways = (plan : Plan) (core : Core) (calls : Calls) → IsPlan plan → IsReached plan core calls → IsKept plan core calls

-- the state in which a run starts is
abbrev pub StartsKept : Type 0
StartsKept = (plan : Plan) → IsPlan plan → IsKept plan (fresh plan) (no_calls plan)

-- every step of a caller keeps this
abbrev pub StepsKeep : Type 0
StepsKeep = (plan : Plan) (core after : Core) (calls : Calls) (caller : ℕ) (answer : Progress) → IsPlan plan → IsKept plan core calls
    → step plan core caller ≡ Some (after, answer) → IsKept plan after calls

-- every begin of a call keeps this
abbrev pub BeginsKeep : Type 0
BeginsKeep = (plan : Plan) (core : Core) (calls : Calls) (caller : ℕ) (call : Call) → IsPlan plan → IsKept plan core calls → MayBegin plan core calls caller call
    → IsKept plan (with_call core caller call) (with_begun calls caller call)

-- every event keeps to what its caller holds
abbrev pub EventsDominate : Type 0
EventsDominate = (plan : Plan) (core after : Core) (calls : Calls) (caller : ℕ) (answer : Progress) → IsPlan plan → IsKept plan core calls
    → step plan core caller ≡ Some (after, answer) → Dominates core.world caller (frame_of core.world caller) (due plan (frame_of core.world caller))

-- every event that touches an object does there what a caller may do
abbrev pub EventsMay : Type 0
EventsMay = (plan : Plan) (core : Core) (calls : Calls) (caller : ℕ) (name : Name) (frame : Frame) (found : Option Object) → IsPlan plan → IsKept plan core calls
    → aim (due plan (frame_of core.world caller)) ≡ Some name
    → act plan caller (frame_of core.world caller) (due plan (frame_of core.world caller)) (finite.get core.world.heap name) ≡ Some (frame, found)
    → May core.world.heap (ticket_in core.world) caller name (finite.get core.world.heap name) found

-- steps of one caller lead from a world to another
pub data Leads (plan : Plan) (caller : ℕ) : Shared → Shared → Type 0 where
  nowhere : {world : Shared} → Leads plan caller world world
  on : {world mid end : Shared} → step_by (rules_of plan) world caller ≡ Some mid → Leads plan caller mid end → Leads plan caller world end

-- a caller has just entered with a ticket above those of all names, and holds its roots; every hidden object is free with one field
-- that refers to it, or sealed, so that no other operation is in its way
pub record HasJustEntered (plan : Plan) (world : Shared) (caller ticket : ℕ) (call : Call) : Type 0 where
  pub alone : (other : ℕ) → other ≢ caller → (frame_of world other).ticket ≡ 0
  pub index : ℕ
  pub finished : List Finished
  pub book : Book
  pub fits : IsCallOf (source_of plan) call
  pub before : Frame
  pub before_is : before ≡ waiting call (length (roots_of plan call)) (allocs_of plan call) book index finished
  pub frame : frame_of world caller ≡ entered plan ticket before
  pub booked : HasBook world.heap caller before
  pub roots : (name : Name) → IsHeld world.heap caller name ↔ IsTakenRoot plan before name
  pub of_module : IsHeapOf (source_of plan) (plain world.heap)
  pub above : (name : Name) (object : Object) → finite.get world.heap name ≡ Some object → name.ticket < ticket
  pub hidden : (name : Name) (object : Object) → finite.get world.heap name ≡ Some object → IsHidden name
      → ((object.mark ≡ marks.Free) × (refs world.heap name ≡ 1)) ⊎ ((by : ℕ) × (object.mark ≡ marks.Sealed by))

-- what a lone run leaves is what the call gives by the serial meaning: the heap, the answer, the turns that were left when the body
-- ended, and the places that come back
pub record IsOutcome (plan : Plan) (world end : Shared) (caller ticket : ℕ) (call : Call) : Type 0 where
  pub heap : plain end.heap ≡ (operated (source_of plan) (plain world.heap) ticket call).objects
  pub kept : Finished
  pub frame : frame_of end caller ≡ at_rest (frame_of world caller).index ((frame_of world caller).finished ++ kept ∷ [])
  pub kept_ticket : kept.ticket ≡ ticket
  pub kept_index : kept.index ≡ (frame_of world caller).index
  pub answer : kept.answer ≡ (operated (source_of plan) (plain world.heap) ticket call).answer
  pub returned : kept.returned + hidden_count (plain end.heap) ≡ allocs_of plan call + hidden_count (plain world.heap)
  pub mid : Shared
  pub leads : Leads plan caller world mid
  pub ended : (how : End) × ((frame_of mid caller).stage ≡ stages.Ended how)
  pub turns : (op : OpDecl) → op_of plan call ≡ Some op → (frame_of mid caller).turns ≡ (body_outcome (source_of plan) (plain world.heap) ticket call.args op).state.turns

-- the lone run of an operation that has just entered ends, without a wait, in what the call gives
pub record RunsAlone (plan : Plan) (world : Shared) (caller ticket : ℕ) (call : Call) : Type 0 where
  pub end : Shared
  pub runs : Alone (rules_of plan) caller world end
  pub is : IsOutcome plan world end caller ticket call

abbrev pub LoneRunsEnd : Type 0
LoneRunsEnd = (plan : Plan) (core : Core) (calls : Calls) (caller ticket : ℕ) (call : Call) → IsPlan plan → IsKept plan core calls → HasJustEntered plan core.world caller ticket call
    → RunsAlone plan core.world caller ticket call

-- and wherever the lone run ends, it ends in that
abbrev pub LoneRunsAreSerial : Type 0
LoneRunsAreSerial = (plan : Plan) (core : Core) (calls : Calls) (end : Shared) (caller ticket : ℕ) (call : Call) → IsPlan plan → IsKept plan core calls → HasJustEntered plan core.world caller ticket call
    → Alone (rules_of plan) caller core.world end → IsOutcome plan core.world end caller ticket call
