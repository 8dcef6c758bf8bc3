-- The running operations finished one after another, and what it means that all is as if calls had run one after another; and who waits.
use Rattle.std.specs.Prelude.{◌≡◌, ◌≢◌, ◌↔◌, ◌+◌, ◌<◌, ℕ, Some, List, [], ◌∷◌, ◌++◌, AllPairs, Contains, length, map}
use Rattle.std.specs.List.{flat_map}
use Rattle.dl_ir.specs.declared.answers.Entry.{Entry}
use Rattle.dl_ir.specs.declared.names.Name.{Name}
use Rattle.dl_shape.specs.Closed.{IsForestClosed}
use Rattle.dl_shape.specs.Pool.{ReturnsFit}
use Rattle.dl_shape.specs.Replay.{greatest_ticket, replayed, IsLegal}
use Rattle.dl_shape.specs.Rising.{in_rising}
use Rattle.dl_core.specs.declared.answers.Event.TheVariants as events
use Rattle.dl_core.specs.declared.answers.Progress.{Progress}
use Rattle.dl_core.specs.declared.answers.Progress.TheVariants as progress
use Rattle.dl_core.specs.declared.stages.Finished.{Finished}
use Rattle.dl_core.specs.Heaps.{plain, IsHeld}
use Rattle.dl_core.specs.Plans.{Plan, IsPlan, source_of}
use Rattle.dl_core.specs.Frames.{Frame, IsEntered}
use Rattle.dl_core.specs.Steps.{InTurn, step_by}
use Rattle.dl_core.specs.Core.{Core, Shared, frame_of, rules_of, entry_of, step}
use Rattle.dl_core.specs.Reached.{Calls, IsReached}
use Rattle.dl_core.specs.Reach.{WaitsFor, Waits, ticket_in}
use Rattle.dl_core.specs.Sound.{numbers_from}

-- the callers that have entered, in rising tickets
pub record AreRunning (world : Shared) (callers : List ℕ) : Type 0 where
  pub all : (caller : ℕ) → IsEntered (frame_of world caller) ↔ Contains callers caller
  pub rising : AllPairs (λ (earlier later : ℕ). ticket_in world earlier < ticket_in world later) callers

-- the running operations go on alone, in rising tickets, until each is finished
pub record Rests (plan : Plan) (world end : Shared) : Type 0 where
  pub callers : List ℕ
  pub are : AreRunning world callers
  pub runs : InTurn (rules_of plan) callers world end

-- the operations that a caller has finished, versions of the pool left aside
abbrev pub finished_entries : Shared → ℕ → List Entry
finished_entries world caller = map (λ kept. entry_of caller (kept, record { reserved_at = 0; returned_at = 0 })) (frame_of world caller).finished

-- the finished operations of all callers, in rising tickets. The last number here is nobody's, and has finished nothing; with the
-- versions of the pool this is `history_in`, once no operation runs
abbrev pub history_of : Shared → List Entry
history_of world = in_rising (λ (entry : Entry). entry.ticket) (flat_map (finished_entries world) (numbers_from 1 (length world.frames)))

-- the operation that ran is the last of those that the caller has finished
pub record IsFinishedBy (before after : Frame) : Type 0 where
  pub kept : Finished
  pub last : after.finished ≡ before.finished ++ kept ∷ []
  pub ticket : kept.ticket ≡ before.ticket
  pub index : kept.index ≡ before.index

-- a state is serial: its running operations come to an end, each is finished then, and what they leave is the replay of all that
-- entered, in rising tickets, with the answers and the returned numbers that it gives
pub record IsSerial (plan : Plan) (core : Core) (calls : Calls) : Type 0 where
  pub end : Shared
  pub rests : Rests plan core.world end
  pub entered : (caller : ℕ) → IsEntered (frame_of core.world caller) → IsFinishedBy (frame_of core.world caller) (frame_of end caller)
  pub others : (caller : ℕ) → ticket_in core.world caller ≡ 0 → frame_of end caller ≡ frame_of core.world caller
  pub all : core.clock ≡ greatest_ticket plan.heap + length (history_of end)
  pub heap : plain end.heap ≡ replayed (source_of plan) calls plan.heap (history_of end)
  pub legal : IsLegal (source_of plan) calls plan.heap (history_of end)
  pub returns : ReturnsFit (source_of plan) calls plan.heap (history_of end)

-- every state to which a run comes is serial
abbrev pub SerialAlways : Type 0
SerialAlways = (plan : Plan) (core : Core) (calls : Calls) → IsPlan plan → IsReached plan core calls → IsSerial plan core calls

-- no callers wait for one another in a circle
abbrev pub NoCycle : Type 0
NoCycle = (plan : Plan) (core : Core) (calls : Calls) (caller : ℕ) → IsPlan plan → IsReached plan core calls → ¬ (Waits plan core.world caller caller)

-- who has entered waits only for who entered before
abbrev pub WaitsForOlder : Type 0
WaitsForOlder = (plan : Plan) (core : Core) (calls : Calls) (caller other : ℕ) → IsPlan plan → IsReached plan core calls → IsEntered (frame_of core.world caller)
    → WaitsFor plan core.world caller other → IsEntered (frame_of core.world other) × (ticket_in core.world other < ticket_in core.world caller)

-- who has not entered waits only for a root, and one above all that it holds
abbrev pub WaitsForHigherRoots : Type 0
WaitsForHigherRoots = (plan : Plan) (core : Core) (calls : Calls) (caller other : ℕ) → IsPlan plan → IsReached plan core calls → ticket_in core.world caller ≡ 0
    → (waits : WaitsFor plan core.world caller other) → (waits.name.ticket ≡ 0) × ((held : Name) → IsHeld core.world.heap caller held → (held.ticket ≡ 0) × (held.index < waits.name.index))

-- where every serial run ends each operation in a forest, nothing is sealed or seen to be sealed
abbrev pub NoSeal : Type 0
NoSeal = (plan : Plan) (core after : Core) (calls : Calls) (caller : ℕ) (name : Name) → IsPlan plan → IsForestClosed (source_of plan) plan.heap → IsReached plan core calls
    → (step plan core caller ≢ Some (after, progress.Moved (events.Seal name))) × (step plan core caller ≢ Some (after, progress.Moved (events.SeeSealed name)))

-- the steps of a caller that has entered are those of its lone run
abbrev pub LoneStepsAreSteps : Type 0
LoneStepsAreSteps = (plan : Plan) (core : Core) (calls : Calls) (caller : ℕ) (world : Shared) → IsPlan plan → IsReached plan core calls → IsEntered (frame_of core.world caller)
    → (step_by (rules_of plan) core.world caller ≡ Some world) ↔ ((after : Core) × (answer : Progress) × (step plan core caller ≡ Some (after, answer)) × (after.world ≡ world))
