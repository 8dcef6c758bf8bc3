-- How the machine in Rust keeps its state and its memory.
use Rattle.std.specs.Prelude.{◌≡◌, ◌+◌, ◌≤◌, ℕ, List, [], false, None, Some, slice_get, refl}
use Rattle.std.specs.FinMap as finite
use Rattle.std.specs.Coded.{Coded, code_by, coded×, coded_ℕ, coded_list}
use Rattle.dl_ir.specs.declared.answers.Entry.{Entry}
use Rattle.dl_ir.specs.declared.answers.Refusal.{Refusal}
use Rattle.dl_ir.specs.Heap.{View}
use Rattle.dl_ir.specs.Rows.{Rows}
use Rattle.dl_instr.specs.declared.code.Code.{Code}
use Rattle.dl_core.specs.declared.counters.Counters.{Counters}
use Rattle.dl_core.specs.declared.frames.Frame.{Frame as Kept}
use Rattle.dl_core.specs.declared.objects.Object.{Object}
use Rattle.dl_core.specs.declared.stages.Stage.TheVariants as stages
use Rattle.dl_core.specs.Core.{Core}
use Rattle.dl_core.specs.Machines.{Machine}
use Rattle.dl_core.specs.Parts.{core_of, HasOwn}
use Rattle.dl_core.specs.Plans.{Plan, IsPlan, size_of}
use Rattle.dl_core.specs.Reached.{Calls, IsReached}
use Rattle.dl_core.specs.Rooms.{Roomed}
use Rattle.dl_core.specs.Shown.{Memory, memory_of, CanGoOn, HasTurns}
use Rattle.dl_core.specs.Stored.{coded_core}

-- a machine is stored as its parts
abbrev pub coded_machine : Coded Code → Coded Machine
coded_machine coded_code =
    code_by (Code × (ℕ × (List ℕ × Core))) (coded× coded_code (coded× coded_ℕ (coded× (coded_list coded_ℕ) coded_core))) (λ m. (m.code, (m.places, (m.sizes, m.state)))) (λ p. record { code = p.0; places = p.1.0; sizes = p.1.1.0; state = p.1.1.1 }) (λ _. refl)

-- the machine that has these parts
abbrev pub machine_of : Code → ℕ → List ℕ → Rows Object → List Kept → Counters → Machine
machine_of code places sizes heap frames counters = record { code = code; places = places; sizes = sizes; state = core_of heap frames counters }

-- a caller that may begin so many operations has memory for them, over a heap with this room
pub record HasRooms (room size : ℕ) (memory : Memory) : Type 0 where
  pub book : room ≤ memory.book
  pub loose : room ≤ memory.loose
  pub args : 32 ≤ memory.args
  pub roots : 32 ≤ memory.roots
  pub locals : 32 ≤ memory.locals
  pub entries : size ≤ memory.entries
  pub refusals : size ≤ memory.refusals

-- what holds of a caller's frame
pub record IsHeldRight (code : Code) (room size caller : ℕ) (kept : Kept) : Type 0 where
  pub can : CanGoOn code kept
  pub rooms : HasRooms room size (memory_of kept)
  pub own : HasOwn caller kept

-- the parts are those of a state of a run over so many places by callers with these sizes, and there is memory for all that the run
-- can hold
pub record IsOfRun (code : Code) (places : ℕ) (sizes : List ℕ) (heap : Rows Object) (frames : List Kept) (counters : Counters) : Type 0 where
  pub plan : Plan
  pub code_is : plan.code ≡ code
  pub places_are : plan.places ≡ places
  pub sizes_are : plan.sizes ≡ sizes
  pub is : IsPlan plan
  pub calls : Calls
  pub reached : IsReached plan (core_of heap frames counters) calls
  pub turns : HasTurns code
  pub room : places + 1024 ≤ heap.room
  pub each : (caller : ℕ) (frame : Kept) → slice_get frames caller ≡ Some frame → IsHeldRight code heap.room (size_of plan caller) caller frame

-- there is memory for what the run leaves: a heap, and a list for each caller
pub record HasRoomToClose (heap : Rows Object) (callers : ℕ) (left : View) (entries : Roomed (List Entry)) (refusals : Roomed (List Refusal)) : Type 0 where
  pub empty : left.objects ≡ finite.empty
  pub room : heap.room ≤ left.room
  pub no_entries : entries.items ≡ []
  pub entries_room : callers ≤ entries.room
  pub no_refusals : refusals.items ≡ []
  pub refusals_room : callers ≤ refusals.room

-- what the program keeps of a caller that has begun nothing and may begin so many operations, over a heap with this room
abbrev pub kept_idle : ℕ → ℕ → Kept
kept_idle room size = record {
  stage = stages.Idle;
  op = 0;
  args = record { items = []; room = 32 };
  roots = record { items = []; room = 32 };
  index = 0;
  taken = 0;
  ticket = 0;
  place = 0;
  locals = record { items = []; room = 32 };
  hand = None;
  turns = 0;
  made = 0;
  emitted = [];
  spares = 0;
  book = record { rows = finite.empty; room = room };
  loose = record { items = []; room = room };
  cursor = 0;
  seen = false;
  breach = None;
  reserved_at = 0;
  entries = record { items = []; room = size };
  refusals = record { items = []; room = size };
}
