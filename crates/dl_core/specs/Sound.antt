-- Further facts of each state to which a run comes. With them the seven facts of a lawful state are kept by every step.
use Rattle.std.specs.Prelude.{◌≡◌, ◌≢◌, ◌+◌, ◌-◌, ◌<◌, ◌≤◌, ◌⊎◌, ◌↔◌, ◌-ℤ◌, ◌≤ℤ◌, ◌==◌, ℕ, zero, suc, ℤ, pos, true, false, Option, Some, None, List, [], ◌∷◌, ◌++◌, All, AllPairs, Contains, count_by, length, map, nat_lt, slice_get, if◌then◌else◌}
use Rattle.std.specs.List.{flat_map}
use Rattle.std.specs.List.Sorted.{IsStrictlyIncreasing}
use Rattle.std.specs.FinMap as finite
use Rattle.dl_ir.specs.declared.answers.End.{End}
use Rattle.dl_ir.specs.declared.answers.Entry.{Entry}
use Rattle.dl_ir.specs.declared.answers.Refusal.{Refusal}
use Rattle.dl_ir.specs.declared.modules.OpDecl.{OpDecl}
use Rattle.dl_ir.specs.declared.modules.Ty.{Ty}
use Rattle.dl_ir.specs.declared.moves.Move.{Move}
use Rattle.dl_ir.specs.declared.names.Name.{Name}
use Rattle.dl_ir.specs.declared.names.Value.{Value}
use Rattle.dl_ir.specs.declared.names.Value.TheVariants.{Int, Ref}
use Rattle.dl_ir.specs.CallForms.{IsCallOf}
use Rattle.dl_ir.specs.Cover.{runs_of, refusals_of as refusals_of_call}
use Rattle.dl_ir.specs.Heap.{IsHeapOf, IsHidden}
use Rattle.dl_ir.specs.References.{target_in}
use Rattle.dl_ir.specs.Typed.{types_of}
use Rattle.dl_meaning.specs.Fitting.{HoldsType}
use Rattle.dl_shape.specs.Pool.{moves_of, versions_of, free_at, IsDue, AreBelow}
use Rattle.dl_shape.specs.Replay.{greatest_ticket}
use Rattle.dl_instr.specs.declared.steps.Step.{Step}
use Rattle.dl_instr.specs.declared.steps.Step.TheVariants.{Read, Want, Set, Write, Emit}
use Rattle.dl_instr.specs.declared.steps.Origin.TheVariants as origins
use Rattle.dl_instr.specs.declared.steps.Content.TheVariants as contents
use Rattle.dl_instr.specs.Drops.{is_use}
use Rattle.dl_core.specs.declared.objects.Mark.TheVariants as marks
use Rattle.dl_core.specs.declared.objects.Object.{Object}
use Rattle.dl_core.specs.declared.stages.Booked.{Booked}
use Rattle.dl_core.specs.declared.stages.Finished.{Finished}
use Rattle.dl_core.specs.declared.stages.Stage.{Stage}
use Rattle.dl_core.specs.declared.stages.Stage.TheVariants as stages
use Rattle.dl_core.specs.Heaps.{Heap, refs, field_of, plain, IsHeld, IsSealed}
use Rattle.dl_core.specs.Plans.{Plan, IsCaller, source_of, op_of, steps_of, allocs_of, roots_of, reference_from}
use Rattle.dl_core.specs.Frames.{Frame, IsEntered, at_rest, waiting, locals_to, target_at}
use Rattle.dl_core.specs.LocalSteps.{IsReady}
use Rattle.dl_core.specs.Core.{Core, Shared, frame_of, account_of, entries_of, refusals_of}
use Rattle.dl_core.specs.Reached.{Calls, calls_of}
use Rattle.dl_core.specs.Reach.{ticket_in}
use Rattle.dl_core.specs.Changes.{IsOwn}

-- the book has exactly the objects that the caller holds, with their kinds and the numbers of fields that refer to them
pub record IsBooked (heap : Heap) (caller : ℕ) (name : Name) (booked : Booked) : Type 0 where
  pub object : Object
  pub there : finite.get heap name ≡ Some object
  pub held : object.mark ≡ marks.Held caller
  pub kind : booked.kind ≡ object.kind
  pub fields : booked.fields ≡ refs heap name

pub record HasBook (heap : Heap) (caller : ℕ) (frame : Frame) : Type 0 where
  pub booked : (name : Name) (booked : Booked) → finite.get frame.book name ≡ Some booked → IsBooked heap caller name booked
  pub all : (name : Name) → IsHeld heap caller name → (booked : Booked) × (finite.get frame.book name ≡ Some booked)

-- a loose object is held, no local refers to it, and at most one field does
pub record IsLoose (heap : Heap) (caller : ℕ) (frame : Frame) (name : Name) : Type 0 where
  pub held : IsHeld heap caller name
  pub no_local : locals_to frame name ≡ 0
  pub few_fields : refs heap name ≤ 1

pub record HasLoose (heap : Heap) (caller : ℕ) (frame : Frame) : Type 0 where
  pub each : All (IsLoose heap caller frame) frame.loose
  pub once : AllPairs (λ (a b : Name). a ≢ b) frame.loose

-- each local holds a value of its type
pub record HasLocals (plan : Plan) (heap : Heap) (frame : Frame) (op : OpDecl) : Type 0 where
  pub one_each : length frame.locals ≡ length (types_of op)
  pub typed : (local : ℕ) (ty : Ty) (value : Value) → slice_get (types_of op) local ≡ Some ty → slice_get frame.locals local ≡ Some value → HoldsType (plain heap) ty value

-- what a field of the object that a local refers to holds is in the hand
pub record IsFieldInHand (heap : Heap) (caller : ℕ) (frame : Frame) (local field : ℕ) : Type 0 where
  pub name : Name
  pub is_local : target_at frame local ≡ Some name
  pub object : Object
  pub there : finite.get heap name ≡ Some object
  pub held : object.mark ≡ marks.Held caller
  pub in_hand : frame.hand ≡ Some (field_of object field)

-- the step before was the read of a field, and what the field holds is in the hand
pub record IsAfterRead (plan : Plan) (heap : Heap) (caller : ℕ) (frame : Frame) : Type 0 where
  pub at : ℕ
  pub place : frame.place ≡ at + 1
  pub local : ℕ
  pub field : ℕ
  pub step : slice_get (steps_of plan frame.call) at ≡ Some (Read local field)
  pub read : IsFieldInHand heap caller frame local field

-- the hand refers to what the caller holds, if to anything
abbrev pub HoldsHand : Heap → ℕ → Frame → Type 0
HoldsHand heap caller frame = (name : Name) → frame.hand ≡ Some (Ref (Some name)) → IsHeld heap caller name

-- the hand has a value of a local's type, and holds what it refers to
pub record HasValueFor (plan : Plan) (heap : Heap) (caller : ℕ) (frame : Frame) (op : OpDecl) (local : ℕ) : Type 0 where
  pub value : Value
  pub in_hand : frame.hand ≡ Some value
  pub ty : Ty
  pub declared : slice_get (types_of op) local ≡ Some ty
  pub typed : HoldsType (plain heap) ty value
  pub held : HoldsHand heap caller frame

-- what the hand holds before a step of the code
abbrev pub HandBefore : Plan → Heap → ℕ → Frame → OpDecl → Option Step → Type 0
HandBefore plan heap caller frame op (Some Want) = IsAfterRead plan heap caller frame
HandBefore plan heap caller frame op (Some (Set local origins.Hand)) = HasValueFor plan heap caller frame op local
HandBefore plan heap caller frame op (Some (Write local field contents.Number)) = (n : ℤ) × (frame.hand ≡ Some (Int n))
HandBefore plan heap caller frame op (Some (Write local field content)) = IsFieldInHand heap caller frame local field × HoldsHand heap caller frame
HandBefore plan heap caller frame op (Some Emit) = (n : ℤ) × (frame.hand ≡ Some (Int n))
HandBefore plan heap caller frame op step = frame.hand ≡ None

-- what the hand holds of the object that is being given up
pub record IsClearing (plan : Plan) (heap : Heap) (frame : Frame) (object : Object) : Type 0 where
  pub before : (field : ℕ) → field < frame.cursor → target_in (field_of object field) ≡ None
  pub in_hand : (value : Value) → frame.hand ≡ Some value → (field : ℕ) × (reference_from plan object.kind frame.cursor ≡ Some field) × (value ≡ field_of object field)
  pub seen : frame.seen ≡ true → (name : Name) × (frame.hand ≡ Some (Ref (Some name))) × IsSealed heap name

-- nothing is being given up
pub record IsNotClearing (frame : Frame) : Type 0 where
  pub cursor : frame.cursor ≡ 0
  pub seen : frame.seen ≡ false

-- an object is being given up where it is the first loose one, hidden, and no field refers to it
pub data HasCleared (plan : Plan) (heap : Heap) (frame : Frame) (name : Name) : Type 0 where
  clears : (object : Object) → finite.get heap name ≡ Some object → IsHidden name → refs heap name ≡ 0 → IsClearing plan heap frame object → HasCleared plan heap frame name
  lets_go : (name.ticket ≡ 0) ⊎ (refs heap name ≡ 1) → IsNotClearing frame → frame.hand ≡ None → HasCleared plan heap frame name

-- what the hand holds while the code runs
abbrev pub HandWhile : Plan → Heap → ℕ → Frame → OpDecl → Stage → Type 0
HandWhile plan heap caller frame op stages.Running = HandBefore plan heap caller frame op (slice_get (steps_of plan frame.call) frame.place)
HandWhile plan heap caller frame op stage = frame.hand ≡ None

-- while loose objects are worked off, the code stands at a step that uses nothing of the hand
abbrev pub StandsOpen : Plan → Frame → Stage → Type 0
StandsOpen plan frame stages.Running = (step : Step) → slice_get (steps_of plan frame.call) frame.place ≡ Some step → is_use step ≡ false
StandsOpen plan frame stage = Unit {0}

abbrev pub HandAt : Plan → Heap → ℕ → Frame → OpDecl → List Name → Type 0
HandAt plan heap caller frame op [] = IsNotClearing frame × HandWhile plan heap caller frame op frame.stage
HandAt plan heap caller frame op (name ∷ names) = HasCleared plan heap frame name × StandsOpen plan frame frame.stage

-- the caller has entered: it runs or has ended, and has made no more than it may
pub record IsWorking (plan : Plan) (heap : Heap) (caller : ℕ) (frame : Frame) (op : OpDecl) : Type 0 where
  pub stage : (frame.stage ≡ stages.Running) ⊎ ((end : End) × (frame.stage ≡ stages.Ended end))
  pub locals : HasLocals plan heap frame op
  pub loose : HasLoose heap caller frame
  pub hand : HandAt plan heap caller frame op frame.loose
  pub few_made : frame.made ≤ op.allocs
  -- a name of its ticket is that of an object that it made
  pub own_names : (name : Name) (object : Object) → finite.get heap name ≡ Some object → name.ticket ≡ frame.ticket → name.index ≤ frame.made
  -- what it sealed, it sealed when it had ended
  pub own_seals : (name : Name) (object : Object) → finite.get heap name ≡ Some object → object.mark ≡ marks.Sealed frame.ticket → frame.stage ≢ stages.Running
  pub no_breach : frame.stage ≡ stages.Running → frame.breach ≡ None

-- the caller has a call in hand and has not entered: it has its places, or neither places nor roots
pub record IsWaiting (plan : Plan) (frame : Frame) (op : OpDecl) : Type 0 where
  pub is : frame ≡ waiting frame.call frame.taken frame.spares frame.book frame.index frame.finished
  pub places : (frame.spares ≡ op.allocs) ⊎ ((frame.spares ≡ 0) × (frame.taken ≡ 0))
  pub roots : frame.taken ≤ length (roots_of plan frame.call)

-- the call in hand is the last one begun, and one of the module
pub record HasCall (plan : Plan) (calls : Calls) (caller : ℕ) (frame : Frame) : Type 0 where
  pub op : OpDecl
  pub declared : op_of plan frame.call ≡ Some op
  pub fits : IsCallOf (source_of plan) frame.call
  pub from_one : 0 < frame.index
  pub begun : slice_get (calls_of calls caller) (frame.index - 1) ≡ Some frame.call

-- how a caller stands: it is idle, or has a call in hand, or has entered
pub data Stands (plan : Plan) (heap : Heap) (calls : Calls) (caller : ℕ) (frame : Frame) : Type 0 where
  idles : frame ≡ at_rest frame.index frame.finished → Stands plan heap calls caller frame
  waits : (call : HasCall plan calls caller frame) → IsWaiting plan frame call.op → Stands plan heap calls caller frame
  works : (call : HasCall plan calls caller frame) → IsEntered frame → IsWorking plan heap caller frame call.op → Stands plan heap calls caller frame

-- 1 where the call in hand has this index
abbrev pub in_hand_at : Frame → ℕ → Stage → ℕ
in_hand_at frame index stages.Idle = 0
in_hand_at frame index stage = if frame.index == index then 1 else 0

-- what a caller has begun, finished and been refused fits together
pub record HasHistory (plan : Plan) (core : Core) (calls : Calls) (caller : ℕ) : Type 0 where
  pub begun : (frame_of core.world caller).index ≡ length (calls_of calls caller)
  -- each call begun is finished, refused or in hand, once
  pub each_once : (index : ℕ) → 0 < index → index ≤ (frame_of core.world caller).index
      → runs_of caller index (entries_of core caller) + refusals_of_call caller index (refusals_of core caller) + in_hand_at (frame_of core.world caller) index (frame_of core.world caller).stage ≡ 1
  pub in_range : All (λ (kept : Finished). (0 < kept.index) × (kept.index ≤ (frame_of core.world caller).index)) (frame_of core.world caller).finished
  pub rises : AllPairs (λ (earlier later : Finished). earlier.index < later.index) (frame_of core.world caller).finished
  pub refused : All (λ (refusal : Refusal). refusal.index ≤ (frame_of core.world caller).index) (refusals_of core caller)
  pub versions : length (account_of core caller).versions ≡ length (frame_of core.world caller).finished
  -- before it enters the call in hand has a reservation exactly where it has places, and then exactly where it may make objects
  pub reserved : (frame_of core.world caller).ticket ≡ 0 → (0 < (account_of core caller).reserved_at) ↔ (0 < (frame_of core.world caller).spares)
  pub entered : IsEntered (frame_of core.world caller) → (0 < (account_of core caller).reserved_at) ↔ (0 < allocs_of plan (frame_of core.world caller).call)

-- along a caller's operations the versions rise: those of moves, and those of refusals between them
pub record KeepsOrder (plan : Plan) (core : Core) (calls : Calls) (caller : ℕ) : Type 0 where
  pub within : All (λ (entry : Entry). IsStrictlyIncreasing (versions_of (source_of plan) calls entry)) (entries_of core caller)
  pub along : (a b : Entry) → Contains (entries_of core caller) a → Contains (entries_of core caller) b → a.index < b.index
      → AreBelow (versions_of (source_of plan) calls a) (versions_of (source_of plan) calls b)
  pub not_before : (entry : Entry) (refusal : Refusal) → Contains (entries_of core caller) entry → Contains (refusals_of core caller) refusal
      → entry.index < refusal.index → All (λ version. version ≤ refusal.version) (versions_of (source_of plan) calls entry)
  pub before : (entry : Entry) (refusal : Refusal) → Contains (entries_of core caller) entry → Contains (refusals_of core caller) refusal
      → refusal.index < entry.index → All (λ version. refusal.version < version) (versions_of (source_of plan) calls entry)
  pub in_hand : 0 < (account_of core caller).reserved_at
      → All (λ (entry : Entry). All (λ version. version < (account_of core caller).reserved_at) (versions_of (source_of plan) calls entry)) (entries_of core caller)
      × All (λ (refusal : Refusal). refusal.version < (account_of core caller).reserved_at) (refusals_of core caller)

-- what holds of each caller
pub record IsSoundFor (plan : Plan) (core : Core) (calls : Calls) (caller : ℕ) : Type 0 where
  pub book : HasBook core.world.heap caller (frame_of core.world caller)
  pub stands : Stands plan core.world.heap calls caller (frame_of core.world caller)
  pub ready : IsReady plan (frame_of core.world caller)
  -- the roots that it holds are among the arguments
  pub roots : (name : Name) → IsHeld core.world.heap caller name → name.ticket ≡ 0 → Contains (roots_of plan (frame_of core.world caller).call) name.index
  pub history : HasHistory plan core calls caller
  pub order : KeepsOrder plan core calls caller

-- the callers of a plan
abbrev pub numbers_from : ℕ → ℕ → List ℕ
numbers_from first zero = []
numbers_from first (suc more) = first ∷ numbers_from (first + 1) more

abbrev pub callers_of : Plan → List ℕ
callers_of plan = numbers_from 1 (length plan.sizes)

-- the reservation of the call in a caller's hand, as a move
abbrev pub move_in_hand : Plan → Core → ℕ → List Move
move_in_hand plan core caller =
    if nat_lt 0 (account_of core caller).reserved_at
    then record { version = (account_of core caller).reserved_at; change = pos 0 -ℤ pos (allocs_of plan (frame_of core.world caller).call); ticket = (frame_of core.world caller).ticket } ∷ []
    else []

-- the moves made so far
abbrev pub moves_in : Plan → Core → Calls → List Move
moves_in plan core calls = flat_map (λ caller. moves_of (source_of plan) calls (entries_of core caller) ++ move_in_hand plan core caller) (callers_of plan)

-- the pool's log fits its version and the number of free places
pub record HasLog (plan : Plan) (core : Core) (calls : Calls) : Type 0 where
  pub count : length (moves_in plan core calls) ≡ core.pool.version
  pub in_range : All (λ (move : Move). (1 ≤ move.version) × (move.version ≤ core.pool.version)) (moves_in plan core calls)
  pub each_once : (version : ℕ) → 1 ≤ version → version ≤ core.pool.version → count_by (λ (move : Move). move.version == version) (moves_in plan core calls) ≡ 1
  pub free : pos core.pool.free ≡ free_at plan.places plan.heap (moves_in plan core calls) core.pool.version
  pub never_negative : (version : ℕ) → version ≤ core.pool.version → pos 0 ≤ℤ free_at plan.places plan.heap (moves_in plan core calls) version
  pub due : (caller : ℕ) → All (IsDue (source_of plan) calls plan.places plan.heap (moves_in plan core calls)) (refusals_of core caller)

-- the ticket of an operation that has entered
abbrev pub ticket_in_hand : Frame → List ℕ
ticket_in_hand frame = if nat_lt 0 frame.ticket then frame.ticket ∷ [] else []

-- the tickets of all operations that have entered, running or finished
abbrev pub tickets_of : Shared → List ℕ
tickets_of world = flat_map (λ (frame : Frame). map (λ (kept : Finished). kept.ticket) frame.finished ++ ticket_in_hand frame) world.frames

-- tickets: from the start heap's greatest on to the clock each is that of one operation
pub record HasTickets (plan : Plan) (core : Core) : Type 0 where
  pub range : All (λ ticket. (greatest_ticket plan.heap < ticket) × (ticket ≤ core.clock)) (tickets_of core.world)
  pub each_once : (ticket : ℕ) → greatest_ticket plan.heap < ticket → ticket ≤ core.clock → count_by (λ other. other == ticket) (tickets_of core.world) ≡ 1
  pub own : IsOwn (ticket_in core.world)
  pub names : (name : Name) (object : Object) → finite.get core.world.heap name ≡ Some object → name.ticket ≤ core.clock
  pub seals : (name : Name) (object : Object) (ticket : ℕ) → finite.get core.world.heap name ≡ Some object → object.mark ≡ marks.Sealed ticket → (ticket ≤ core.clock) × IsHidden name

-- a state is sound
pub record IsSound (plan : Plan) (core : Core) (calls : Calls) : Type 0 where
  -- no reference dangles, and each object has fields of its kind
  pub heap : IsHeapOf (source_of plan) (plain core.world.heap)
  -- who holds an object is a caller
  pub holders : (caller : ℕ) (name : Name) → IsHeld core.world.heap caller name → IsCaller plan caller
  pub frames : length core.world.frames ≡ length plan.sizes + 1
  pub accounts : length core.pool.accounts ≡ length plan.sizes + 1
  pub lists : length calls ≡ length plan.sizes
  pub nobody : (caller : ℕ) → (IsCaller plan caller → ⊥) → (frame_of core.world caller).stage ≡ stages.Idle
  pub each : (caller : ℕ) → IsSoundFor plan core calls caller
  pub tickets : HasTickets plan core
  pub log : HasLog plan core calls
