-- What a scheduled run of the program leaves.
use Rattle.std.specs.Prelude.{◌≡◌, List, All, Result, IfOk, OnOk, OnErr}
use Rattle.dl_io.specs.Taken.{Taken}
use Rattle.dl_io.specs.declared.traits.Failed.{Failed}
use Rattle.dl_text.specs.Writing.{Buffered, Passes, Breaks, broken}
use Rattle.dl_core.specs.Machines.{Machine, HasCaller, opened, plan_at, with_state}
use Rattle.dl_core.specs.Plans.{IsPlan}
use Rattle.dl_core.specs.Reached.{Calls}
use Rattle.dl_schedule.specs.declared.give.Give.{Give}
use Rattle.dl_trace.specs.declared.tally.Counts.{Counts}
use Rattle.dl_trace.specs.Laws.{AreFilesOf}
use Rattle.dl_trace.specs.Runs.{Run, ScheduleRun}

-- the machine is at the start of its run, the files are those of its callers, and the schedule names only these
pub record MayRun (machine : Machine) (files : Calls) (schedule : List Give) : Type 0 where
  pub is : IsPlan (plan_at machine)
  pub fresh : machine ≡ opened (plan_at machine)
  pub are : AreFilesOf (plan_at machine) files
  pub callers : All (λ (give : Give). HasCaller machine give.caller) schedule

-- the machine has come to the end of the scheduled run; its trace was put and the counts are its counts, or the sink failed, and a
-- prefix of the trace was put
pub record HasRun (machine after : Machine) (files : Calls) (schedule : List Give) (result : Result Counts Failed) (sink sink_after : Taken) (out out_after : Buffered) : Type 0 where
  pub end : Run
  pub run : ScheduleRun (plan_at machine) files schedule end
  pub state : after ≡ with_state machine end.core
  pub counts : IfOk result (λ counts. counts ≡ record { gives = end.gives; waits = end.waits })
  pub ok : OnOk result (Passes sink out end.text sink_after out_after)
  pub err : OnErr result ((out_after ≡ broken) × Breaks sink out end.text sink_after)

-- the machine has come to the end of the scheduled run, and the counts are its counts
pub record HasRunQuietly (machine after : Machine) (files : Calls) (schedule : List Give) (counts : Counts) : Type 0 where
  pub end : Run
  pub run : ScheduleRun (plan_at machine) files schedule end
  pub state : after ≡ with_state machine end.core
  pub counts_are : counts ≡ record { gives = end.gives; waits = end.waits }
