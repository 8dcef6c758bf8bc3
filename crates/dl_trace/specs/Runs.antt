-- A scheduled run: callers are given steps by a schedule, and then in rounds, until all are done.
use Rattle.std.specs.Prelude.{◌≡◌, ◌+◌, ◌-◌, ◌^◌, ◌<◌, ◌++◌, ℕ, zero, suc, Bool, true, false, Option, Some, None, List, fold, min, replicate, slice_get, codes, if◌then◌else◌}
use Rattle.std.specs.List.{list_all}
use Rattle.dl_ir.specs.declared.calls.Call.{Call}
use Rattle.dl_core.specs.declared.answers.Progress.{Progress}
use Rattle.dl_core.specs.declared.answers.Progress.TheVariants as progress
use Rattle.dl_core.specs.declared.stages.Stage.{Stage}
use Rattle.dl_core.specs.declared.stages.Stage.TheVariants as stages
use Rattle.dl_core.specs.Plans.{Plan, source_of}
use Rattle.dl_core.specs.Core.{Core, Stepped, frame_of, fresh, stepped, with_call}
use Rattle.dl_core.specs.Reached.{Calls, calls_of}
use Rattle.dl_core.specs.Sound.{callers_of}
use Rattle.dl_schedule.specs.declared.give.Give.{Give}
use Rattle.dl_trace.specs.Lines.{step_line}

-- the operation of its file that a caller begins next, if one is left
abbrev pub next_call : Calls → Core → ℕ → Option Call
next_call files core caller = slice_get (calls_of files caller) (frame_of core.world caller).index

-- the state in which a caller with no call in hand has begun its next one, if one is left
abbrev pub begins_at : Core → ℕ → Stage → Option Call → Core
begins_at core caller stages.Idle (Some call) = with_call core caller call
begins_at core caller stage call = core

abbrev pub readied : Calls → Core → ℕ → Core
readied files core caller = begins_at core caller (frame_of core.world caller).stage (next_call files core caller)

-- to give a caller a step: it begins its next operation, if it has none in hand and one is left; then it advances once
abbrev pub given : Plan → Calls → Core → ℕ → Stepped
given plan files core caller = stepped plan (readied files core caller) caller

-- a caller is done: it has no call in hand, and none is left
abbrev pub is_done_at : Stage → Option Call → Bool
is_done_at stages.Idle None = true
is_done_at stage call = false

abbrev pub is_done : Calls → Core → ℕ → Bool
is_done files core caller = is_done_at (frame_of core.world caller).stage (next_call files core caller)

abbrev pub all_done : Plan → Calls → Core → Bool
all_done plan files core = list_all (is_done files core) (callers_of plan)

-- a run so far: its state, its trace, the number of steps given, and the number of those at which a caller waited
pub record Run : Type 0 where
  pub core : Core
  pub text : List ℕ
  pub gives : ℕ
  pub waits : ℕ

-- one more; a count stands still at its type's end
abbrev pub one_more : ℕ → ℕ
one_more count = min (count + 1) (2 ^ 64 - 1)

abbrev pub waits_after : Progress → ℕ → ℕ
waits_after (progress.Waiting lock by) waits = one_more waits
waits_after answer waits = waits

abbrev pub told : Plan → ℕ → Run → Stepped → Run
told plan caller run after = record {
  core = after.0;
  text = run.text ++ step_line (source_of plan) after.0.world.heap caller after.1;
  gives = one_more run.gives;
  waits = waits_after after.1 run.waits;
}

-- a caller is given a step
abbrev pub give_to : Plan → Calls → Run → ℕ → Run
give_to plan files run caller = told plan caller run (given plan files run.core caller)

-- so many times
abbrev pub give_times : Plan → Calls → Run → Give → Run
give_times plan files run give = fold (give_to plan files) run (replicate give.times give.caller)

-- the callers of a schedule are given steps, in its order
abbrev pub scheduled : Plan → Calls → List Give → Run → Run
scheduled plan files schedule run = fold (give_times plan files) run schedule

-- in a round each caller that is not done is given one step, in rising order
abbrev pub take_turn : Plan → Calls → Run → ℕ → Run
take_turn plan files run caller = if is_done files run.core caller then run else give_to plan files run caller

abbrev pub round : Plan → Calls → Run → Run
round plan files run = fold (take_turn plan files) run (callers_of plan)

-- so many rounds
abbrev pub rounds : Plan → Calls → ℕ → Run → Run
rounds plan files zero run = run
rounds plan files (suc more) run = rounds plan files more (round plan files run)

-- rounds follow until all callers are done
pub record EndsIn (plan : Plan) (files : Calls) (run end : Run) : Type 0 where
  pub count : ℕ
  pub end_is : end ≡ rounds plan files count run
  pub over : all_done plan files end.core ≡ true
  pub not_before : (fewer : ℕ) → fewer < count → all_done plan files (rounds plan files fewer run).core ≡ false

-- a run at its start
abbrev pub started : Plan → Run
started plan = record { core = fresh plan; text = codes "domlock trace 1\n"; gives = 0; waits = 0 }

-- the scheduled run of files, and its end: the schedule, and then rounds
abbrev pub ScheduleRun : Plan → Calls → List Give → Run → Type 0
ScheduleRun plan files schedule end = EndsIn plan files (scheduled plan files schedule (started plan)) end
