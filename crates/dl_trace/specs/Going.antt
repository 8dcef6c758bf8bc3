-- How a scheduled run goes on in the program.
use Rattle.std.specs.Prelude.{◌≡◌, ◌<◌, ℕ, false, OnOk, length, take}
use Rattle.std.specs.FinMap as finite
use Rattle.dl_io.specs.Taken.{Taken}
use Rattle.dl_text.specs.Writing.{Buffered, Puts}
use Rattle.dl_core.specs.Machines.{Machine, IsRunning, with_state}
use Rattle.dl_core.specs.Plans.{Plan}
use Rattle.dl_core.specs.Reached.{Calls, calls_of}
use Rattle.dl_trace.specs.declared.tally.Tally.{Tally}
use Rattle.dl_trace.specs.Laws.{AreFilesOf}
use Rattle.dl_trace.specs.Runs.{Run, rounds, all_done}

-- a run over the files has come to the machine's state, and each caller has begun the first calls of its file
pub record IsUnderWay (machine : Machine) (files : Calls) : Type 0 where
  pub plan : Plan
  pub calls : Calls
  pub running : IsRunning plan machine calls
  pub are : AreFilesOf plan files
  pub first : (caller : ℕ) → calls_of calls caller ≡ take (length (calls_of calls caller)) (calls_of files caller)

-- where nothing failed more can be put
abbrev pub Works : Tally → Buffered → Type 0
Works tally out = OnOk tally.shown (out.failed ≡ false)

-- what the tally tells of a run is what has come of it, and the run's trace was put, up to a fault of the sink
pub record IsTold (run : Run) (tally : Tally) (start : Taken) (first : Buffered) (sink : Taken) (out : Buffered) : Type 0 where
  pub gives : tally.gives ≡ run.gives
  pub waits : tally.waits ≡ run.waits
  pub puts : Puts start first run.text tally.shown sink out

-- a plan with the machine's code and callers
pub record IsLike (plan : Plan) (machine : Machine) : Type 0 where
  pub code : plan.code ≡ machine.code
  pub sizes : plan.sizes ≡ machine.sizes

-- the machine goes on as the run does by this function, and this is told of it
pub record GoesOn (files : Calls) (go : Plan → Run → Run) (machine after : Machine) (tally tally_after : Tally) (sink sink_after : Taken) (out out_after : Buffered) : Type 0 where
  pub way : IsUnderWay after files
  pub works : Works tally_after out_after
  pub same : after ≡ with_state machine after.state
  pub state : (plan : Plan) (run : Run) → IsLike plan machine → run.core ≡ machine.state → (go plan run).core ≡ after.state
  pub told : (plan : Plan) (run : Run) (start : Taken) (first : Buffered) → IsLike plan machine → run.core ≡ machine.state → IsTold run tally start first sink out → IsTold (go plan run) tally_after start first sink_after out_after

-- a plan with the machine's code and callers, and no heap
abbrev pub bare : Machine → Plan
bare machine = record { code = machine.code; heap = finite.empty; places = machine.places; sizes = machine.sizes }

-- rounds were made while not all were done
pub record MadeRounds (files : Calls) (machine after : Machine) (tally tally_after : Tally) (sink sink_after : Taken) (out out_after : Buffered) : Type 0 where
  pub count : ℕ
  pub goes : GoesOn files (λ plan run. rounds plan files count run) machine after tally tally_after sink sink_after out out_after
  pub not_before : (plan : Plan) (run : Run) (fewer : ℕ) → IsLike plan machine → run.core ≡ machine.state → fewer < count → all_done plan files (rounds plan files fewer run).core ≡ false
