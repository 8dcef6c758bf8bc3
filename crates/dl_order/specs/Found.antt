-- What is found in each state to which a run comes: what is named is there, who has what another takes, names given once, and how far
-- numbers go.
use Rattle.std.specs.Prelude.{◌≡◌, ◌≢◌, ◌+◌, ◌<◌, ◌≤◌, ℕ, true, Some, None, Contains}
use Rattle.std.specs.FinMap as finite
use Rattle.dl_ir.specs.declared.calls.Call.{Call}
use Rattle.dl_ir.specs.declared.names.Name.{Name}
use Rattle.dl_ir.specs.declared.names.Value.TheVariants.{Ref}
use Rattle.dl_ir.specs.Heap.{IsHidden}
use Rattle.dl_ir.specs.References.{target_in}
use Rattle.dl_core.specs.declared.answers.Lock.{Lock}
use Rattle.dl_core.specs.declared.answers.Progress.{Progress}
use Rattle.dl_core.specs.declared.answers.Progress.TheVariants as progress
use Rattle.dl_core.specs.declared.dues.Due.TheVariants.{Reserves, GivesUp, Makes}
use Rattle.dl_core.specs.declared.objects.Object.{Object}
use Rattle.dl_core.specs.declared.stages.Stage.TheVariants as stages
use Rattle.dl_core.specs.Heaps.{Heap, field_of, IsHeld}
use Rattle.dl_core.specs.Plans.{Plan, IsPlan, IsCaller}
use Rattle.dl_core.specs.Frames.{Frame, IsEntered, has_booked, target_at, target_in_hand}
use Rattle.dl_core.specs.LocalSteps.{IsReady, due}
use Rattle.dl_core.specs.Events.{aim, made_object}
use Rattle.dl_core.specs.Core.{Core, frame_of, lock_of, step, stepped, with_call}
use Rattle.dl_core.specs.Reached.{Calls, IsReached}
use Rattle.dl_core.specs.Reach.{WaitsFor, target_of_take, ticket_in}
use Rattle.dl_shape.specs.Replay.{greatest_ticket}

-- an object of this name is there
pub record IsThere (heap : Heap) (name : Name) : Type 0 where
  pub object : Object
  pub there : finite.get heap name ≡ Some object

-- a caller's frame names an object
pub data IsNamedBy (frame : Frame) (name : Name) : Type 0 where
  in_the_book : has_booked frame name ≡ true → IsNamedBy frame name
  by_a_local : (local : ℕ) → target_at frame local ≡ Some name → IsNamedBy frame name
  by_the_hand : target_in_hand frame ≡ Some name → IsNamedBy frame name
  in_the_list : Contains frame.loose name → IsNamedBy frame name

-- what is named is there: what a caller's next event touches, unless it is made then; what a caller's frame names; and what a field
-- refers to, which is hidden
pub record HasAllThere (plan : Plan) (core : Core) : Type 0 where
  pub aimed : (caller : ℕ) (name : Name) → aim (due plan (frame_of core.world caller)) ≡ Some name → ((kind : ℕ) → due plan (frame_of core.world caller) ≢ Makes name kind) → IsThere core.world.heap name
  pub named : (caller : ℕ) (name : Name) → IsNamedBy (frame_of core.world caller) name → IsThere core.world.heap name
  pub linked : (from name : Name) (object : Object) (field : ℕ) → finite.get core.world.heap from ≡ Some object → field_of object field ≡ Ref (Some name) → IsThere core.world.heap name × IsHidden name

abbrev pub AllIsThere : Type 0
AllIsThere = (plan : Plan) (core : Core) (calls : Calls) → IsPlan plan → IsReached plan core calls → HasAllThere plan core

-- who holds an object is a caller, and nobody takes what it holds already
pub record HasHolders (plan : Plan) (core : Core) : Type 0 where
  pub callers : (caller : ℕ) (name : Name) → IsHeld core.world.heap caller name → IsCaller plan caller
  pub others : (caller : ℕ) (name : Name) → target_of_take (due plan (frame_of core.world caller)) ≡ Some name → ¬ (IsHeld core.world.heap caller name)

abbrev pub HoldersAreCallers : Type 0
HoldersAreCallers = (plan : Plan) (core : Core) (calls : Calls) → IsPlan plan → IsReached plan core calls → HasHolders plan core

-- a name was given: its ticket was drawn, and an operation that runs under that ticket has made objects up to its index
pub record IsGiven (core : Core) (name : Name) : Type 0 where
  pub drawn : name.ticket ≤ core.clock
  pub made : (caller : ℕ) → IsEntered (frame_of core.world caller) → ticket_in core.world caller ≡ name.ticket → name.index ≤ (frame_of core.world caller).made

-- names are given once: those of all objects were given, steps and begins leave what was given so, and what a caller makes next has a
-- name that was not
pub record GivesNamesOnce (plan : Plan) (core : Core) : Type 0 where
  pub there : (name : Name) → IsThere core.world.heap name → IsGiven core name
  pub steps : (caller : ℕ) (after : Core) (answer : Progress) (name : Name) → step plan core caller ≡ Some (after, answer) → IsGiven core name → IsGiven after name
  pub begins : (caller : ℕ) (call : Call) (name : Name) → IsGiven core name → IsGiven (with_call core caller call) name
  pub makes : (caller kind : ℕ) (name : Name) → due plan (frame_of core.world caller) ≡ Makes name kind → IsHidden name × (¬ (IsGiven core name))

abbrev pub NamesAreGivenOnce : Type 0
NamesAreGivenOnce = (plan : Plan) (core : Core) (calls : Calls) → IsPlan plan → IsReached plan core calls → GivesNamesOnce plan core

-- what is given up refers to nothing, and so does what is made
pub record ComesAndGoesEmpty (plan : Plan) (core : Core) : Type 0 where
  pub gives_up : (caller : ℕ) (name : Name) (object : Object) (field : ℕ) → due plan (frame_of core.world caller) ≡ GivesUp name → finite.get core.world.heap name ≡ Some object → target_in (field_of object field) ≡ None
  pub makes : (caller kind field : ℕ) → target_in (field_of (made_object plan caller kind) field) ≡ None

abbrev pub EmptyObjectsComeAndGo : Type 0
EmptyObjectsComeAndGo = (plan : Plan) (core : Core) (calls : Calls) → IsPlan plan → IsReached plan core calls → ComesAndGoesEmpty plan core

-- how far the clock, the pool's version and numbers of places go: each caller begins at most 65,536 operations, each of which draws
-- one ticket and makes two moves at most
pub record HasSmallNumbers (plan : Plan) (core : Core) : Type 0 where
  pub clock : core.clock ≤ greatest_ticket plan.heap + 4194304
  pub version : core.pool.version ≤ 8388608
  pub free : core.pool.free ≤ plan.places
  pub spares : (caller : ℕ) → (frame_of core.world caller).spares ≤ plan.places

abbrev pub NumbersAreSmall : Type 0
NumbersAreSmall = (plan : Plan) (core : Core) (calls : Calls) → IsPlan plan → IsReached plan core calls → HasSmallNumbers plan core

-- the caller waits for another, which holds what its next event takes, and this is the lock
pub record StandsBehind (plan : Plan) (core : Core) (caller : ℕ) (lock : Lock) (by : ℕ) : Type 0 where
  pub waits : WaitsFor plan core.world caller by
  pub lock_is : lock ≡ lock_of waits.name
  pub holder : IsCaller plan by

-- what an answer says
abbrev pub IsAnswerOf : Plan → Core → ℕ → Progress → Core → Type 0
IsAnswerOf plan core caller (progress.Waiting lock by) after = (after ≡ core) × StandsBehind plan core caller lock by
IsAnswerOf plan core caller progress.Idle after = (after ≡ core) × ((frame_of core.world caller).stage ≡ stages.Idle)
IsAnswerOf plan core caller (progress.Refused need found version) after =
    (due plan (frame_of core.world caller) ≡ Reserves need) × (found < need) × (found ≡ core.pool.free) × (version ≡ core.pool.version) × (step plan core caller ≡ Some (after, progress.Refused need found version))
IsAnswerOf plan core caller (progress.Looked place) after = ⊥
IsAnswerOf plan core caller (progress.Raced seen now) after = ⊥
IsAnswerOf plan core caller answer after = step plan core caller ≡ Some (after, answer)

-- a caller that is given a step waits only where another holds what its next event takes, and then nothing changes; it does nothing
-- only where it has no call in hand; and it is refused only where fewer places are free than it needs
abbrev pub AnswersAreRight : Type 0
AnswersAreRight = (plan : Plan) (core after : Core) (calls : Calls) (caller : ℕ) (answer : Progress) → IsPlan plan → IsReached plan core calls → stepped plan core caller ≡ (after, answer) → IsAnswerOf plan core caller answer after

-- and it waits wherever another holds that
abbrev pub TakersWait : Type 0
TakersWait = (plan : Plan) (core : Core) (calls : Calls) (caller by : ℕ) → IsPlan plan → IsReached plan core calls → (waits : WaitsFor plan core.world caller by) → stepped plan core caller ≡ (core, progress.Waiting (lock_of waits.name) by)

-- no local step comes first at the frame of any caller
abbrev pub FramesAreReady : Type 0
FramesAreReady = (plan : Plan) (core : Core) (calls : Calls) (caller : ℕ) → IsPlan plan → IsReached plan core calls → IsReady plan (frame_of core.world caller)
