-- The parts of the state that the program keeps, and the state that they are.
use Rattle.std.specs.Prelude.{◌≡◌, ◌≢◌, ◌+◌, ◌<◌, ◌≤◌, ◌^◌, ℕ, List, length, nat_lt, if◌then◌else◌, map, Some, slice_get, All}
use Rattle.std.specs.FinMap as finite
use Rattle.dl_ir.specs.declared.answers.Entry.{Entry}
use Rattle.dl_ir.specs.declared.calls.Call.{Call}
use Rattle.dl_ir.specs.Rows.{Rows}
use Rattle.dl_instr.specs.declared.code.Code.{Code}
use Rattle.dl_core.specs.declared.counters.Counters.{Counters}
use Rattle.dl_core.specs.declared.dues.Due.{Due}
use Rattle.dl_core.specs.declared.dues.Due.TheVariants.{Reserves, Enters, Finishes}
use Rattle.dl_core.specs.declared.frames.Frame.{Frame as Kept}
use Rattle.dl_core.specs.declared.objects.Object.{Object}
use Rattle.dl_core.specs.declared.stages.Stage.TheVariants as stages
use Rattle.dl_core.specs.Accounts.{shown_account}
use Rattle.dl_core.specs.Arguments.{HoldsCall}
use Rattle.dl_core.specs.Core.{Account, Core}
use Rattle.dl_core.specs.Frames.{Frame, at_rest}
use Rattle.dl_core.specs.Heaps.{Heap}
use Rattle.dl_core.specs.Needs.{CanTouch}
use Rattle.dl_core.specs.LocalSteps.{due, IsReady}
use Rattle.dl_core.specs.Plans.{Plan, IsPlan}
use Rattle.dl_core.specs.Reached.{Calls, IsReached}
use Rattle.dl_core.specs.Shown.{shown, CanGoOn, HasTurns}

-- the state that has these parts
abbrev pub core_by : Heap → List Frame → List Account → Counters → Core
core_by heap frames accounts counters = record {
  world = record { heap = heap; frames = frames };
  clock = counters.clock;
  pool = record { version = counters.version; free = counters.free; accounts = accounts };
}

-- the state that the program keeps
abbrev pub core_of : Rows Object → List Kept → Counters → Core
core_of heap frames counters = core_by heap.rows (map shown frames) (map shown_account frames) counters

-- the numbers after so many places were returned by one move, if there are any
abbrev pub given_back : ℕ → Counters → Counters
given_back count counters = record { clock = counters.clock; version = if nat_lt 0 count then counters.version + 1 else counters.version; free = counters.free + count }

-- another move of the pool can be counted
abbrev pub CanMove : Counters → Type 0
CanMove counters = counters.version + 1 < 2 ^ 64

-- what a reservation or its refusal needs
pub record CanAsk (kept : Kept) (counters : Counters) : Type 0 where
  pub book : kept.book.rows ≡ finite.empty
  pub room : length kept.refusals.items < kept.refusals.room
  pub move : CanMove counters

-- what an entry needs
pub record CanEnter (code : Code) (kept : Kept) (counters : Counters) : Type 0 where
  pub held : HoldsCall code (shown kept).call
  pub room : 32 ≤ kept.locals.room
  pub ticket : counters.clock + 1 < 2 ^ 64

-- what a finish needs
pub record CanFinish (kept : Kept) (counters : Counters) : Type 0 where
  pub book : kept.book.rows ≡ finite.empty
  pub room : length kept.entries.items < kept.entries.room
  pub move : CanMove counters
  pub free : counters.free + kept.spares < 2 ^ 32

-- what an event needs
abbrev pub CanStep : Code → Kept → Rows Object → Counters → Due → Type 0
CanStep code kept heap counters (Reserves need) = CanAsk kept counters
CanStep code kept heap counters Enters = CanEnter code kept counters
CanStep code kept heap counters (Finishes end) = CanFinish kept counters
CanStep code kept heap counters due = CanTouch code kept heap due

-- no local step comes next
pub record StandsReady (code : Code) (kept : Kept) : Type 0 where
  pub plan : Plan
  pub code_is : plan.code ≡ code
  pub ready : IsReady plan (shown kept)

-- what giving a caller a step needs
pub record CanAdvance (code : Code) (kept : Kept) (heap : Rows Object) (counters : Counters) : Type 0 where
  pub can : CanGoOn code kept
  pub ready : StandsReady code kept
  pub needs : CanStep code kept heap counters (due ready.plan (shown kept))

-- what the begin of a call needs
pub record CanBegin (code : Code) (kept : Kept) (call : Call) : Type 0 where
  pub idle : shown kept ≡ at_rest kept.index (shown kept).finished
  pub can : CanGoOn code kept
  pub held : HoldsCall code call
  pub index : kept.index + 1 < 2 ^ 32
  pub args : length call.args ≤ kept.args.room
  pub roots : length call.args ≤ kept.roots.room

-- there is memory for what a caller can hold, begin and keep: it has begun no more calls than there is memory for entries and
-- refusals, and each that is not in hand has one of them
pub record HasMemory (kept : Kept) (heap : Rows Object) : Type 0 where
  pub book : heap.room ≤ kept.book.room
  pub loose : heap.room ≤ kept.loose.room
  pub args : 32 ≤ kept.args.room
  pub roots : 32 ≤ kept.roots.room
  pub locals : 32 ≤ kept.locals.room
  pub entries : kept.index ≤ kept.entries.room
  pub refusals : kept.index ≤ kept.refusals.room
  pub rest : length kept.entries.items + length kept.refusals.items ≤ kept.index
  pub busy : kept.stage ≢ stages.Idle → length kept.entries.items + length kept.refusals.items < kept.index

-- the entries that are kept of a caller are its own
abbrev pub HasOwn : ℕ → Kept → Type 0
HasOwn caller kept = All (λ (entry : Entry). entry.caller ≡ caller) kept.entries.items

-- the parts are those of a state of a run, and there is memory for all that the run can hold
pub record IsInRun (code : Code) (heap : Rows Object) (frames : List Kept) (counters : Counters) : Type 0 where
  pub plan : Plan
  pub code_is : plan.code ≡ code
  pub is : IsPlan plan
  pub calls : Calls
  pub reached : IsReached plan (core_of heap frames counters) calls
  pub turns : HasTurns code
  pub room : plan.places + 1024 ≤ heap.room
  pub can : (at : ℕ) (frame : Kept) → slice_get frames at ≡ Some frame → CanGoOn code frame
  pub memory : (at : ℕ) (frame : Kept) → slice_get frames at ≡ Some frame → HasMemory frame heap
