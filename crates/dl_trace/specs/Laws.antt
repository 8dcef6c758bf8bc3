-- What the laws of scheduled runs say.
use Rattle.std.specs.Prelude.{◌≡◌, ℕ, List, All, fold, length, map, take}
use Rattle.dl_ir.specs.CallForms.{IsCallOf}
use Rattle.dl_core.specs.Plans.{Plan, IsPlan, IsCaller, source_of}
use Rattle.dl_core.specs.Core.{Core}
use Rattle.dl_core.specs.Reached.{Calls, IsReached, calls_of}
use Rattle.dl_order.specs.Ends.{IsRunOver}
use Rattle.dl_core.specs.Machines.{AreAllIdle}
use Rattle.dl_schedule.specs.declared.give.Give.{Give}
use Rattle.dl_trace.specs.Runs.{Run, give_to, started, ScheduleRun}

-- the files are those of the plan's callers, and have calls of its module
pub record AreFilesOf (plan : Plan) (files : Calls) : Type 0 where
  pub sizes : plan.sizes ≡ map length files
  pub calls : (caller : ℕ) → All (IsCallOf (source_of plan)) (calls_of files caller)

-- a run comes to this state, with these calls begun, and each caller's are the first ones of its file
pub record IsOnTheWay (plan : Plan) (files : Calls) (core : Core) (calls : Calls) : Type 0 where
  pub reached : IsReached plan core calls
  pub first : (caller : ℕ) → calls_of calls caller ≡ take (length (calls_of calls caller)) (calls_of files caller)

-- whichever callers are given steps from the start on, each state is one to which a run comes
abbrev pub ScheduledRunsReach : Type 0
ScheduledRunsReach = (plan : Plan) (files : Calls) (given : List ℕ) → IsPlan plan → AreFilesOf plan files → All (IsCaller plan) given
    → (calls : Calls) × IsOnTheWay plan files (fold (give_to plan files) (started plan) given).core calls

-- every scheduled run comes to its end, and to no other
abbrev pub ScheduledRunsEnd : Type 0
ScheduledRunsEnd = (plan : Plan) (files : Calls) (schedule : List Give) → IsPlan plan → AreFilesOf plan files → All (λ (give : Give). IsCaller plan give.caller) schedule
    → (end : Run) × ScheduleRun plan files schedule end × ((other : Run) → ScheduleRun plan files schedule other → other ≡ end)

-- at its end no caller has a call in hand, all calls of the files are begun, and they were run
pub record IsRunOut (plan : Plan) (files : Calls) (core : Core) : Type 0 where
  pub idle : AreAllIdle core
  pub reached : IsReached plan core files
  pub run : IsRunOver plan core files

abbrev pub ScheduledRunsAreOver : Type 0
ScheduledRunsAreOver = (plan : Plan) (files : Calls) (schedule : List Give) (end : Run) → IsPlan plan → AreFilesOf plan files → All (λ (give : Give). IsCaller plan give.caller) schedule
    → ScheduleRun plan files schedule end → IsRunOut plan files end.core
