-- What a scheduled run has at its start and at its end.
use Rattle.std.specs.Prelude.{◌≡◌, ◌≤◌, ℕ, List, [], All, length, sum_by, vec_capacity, vec_len}
use Rattle.dl_ir.specs.declared.calls.Call.{Call}
use Rattle.dl_ir.specs.declared.modules.Module.{Module}
use Rattle.dl_ir.specs.Heap.{Objects}
use Rattle.dl_shape.specs.Replay.{replayed}
use Rattle.dl_core.specs.Heaps.{plain}
use Rattle.dl_core.specs.Machines.{Machine, opened, plan_at, with_state}
use Rattle.dl_core.specs.Plans.{IsPlan}
use Rattle.dl_history.specs.Histories.{AreByCaller, joined}
use Rattle.dl_schedule.specs.declared.give.Give.{Give}
use Rattle.dl_schedule.specs.Rules.{IsGiveOf}
use Rattle.dl_trace.specs.Runs.{Run as ScheduledRun, ScheduleRun}
use Rattle.dl_command.specs.declared.run.Run.{Run}
use Rattle.dl_command.specs.declared.step.Ready.{Ready}
use Rattle.dl_command.specs.declared.step.Room.{Room}
use Rattle.dl_command.specs.Promise.{IsScheduled, plan_of}

-- there is room for an entry and for a refusal of each call
pub record IsRoom (all : List (List Call)) (room : Room) : Type 0 where
  pub merging : room.merging ≡ sum_by length all
  pub none : room.refusals.items ≡ []
  pub empty : vec_len room.refusals ≡ 0
  pub refusals : sum_by length all ≤ vec_capacity room.refusals

-- the machine is at the start of the run of the calls from this heap, and there is room for what it leaves
pub record IsReady (source : Module) (heap : Objects) (all : List (List Call)) (places : ℕ) (ready : Ready) : Type 0 where
  pub plan : IsPlan (plan_of source heap all places)
  pub core : ready.core ≡ opened (plan_of source heap all places)
  pub starts : plan_at ready.core ≡ plan_of source heap all places
  pub room : IsRoom all ready.room

-- a scheduled run: the heap from which it starts, its schedule, its places, and its end
pub record Course : Type 0 where
  pub heap : Objects
  pub gives : List Give
  pub places : ℕ
  pub end : ScheduledRun

-- the machine has come to the end of this scheduled run of the calls
pub record HasEnded (source : Module) (all : List (List Call)) (course : Course) (core : Machine) : Type 0 where
  pub plan : IsPlan (plan_of source course.heap all course.places)
  pub callers : All (IsGiveOf (length all)) course.gives
  pub run : ScheduleRun (plan_of source course.heap all course.places) all course.gives course.end
  pub state : core ≡ with_state (opened (plan_of source course.heap all course.places)) course.end.core

-- this is what the machine leaves there
pub record IsLeft (source : Module) (all : List (List Call)) (course : Course) (left : Run) : Type 0 where
  pub scheduled : IsScheduled source course.heap course.gives all course.places course.end left.history left.refusals
  pub heap : left.closed.heap.objects ≡ plain course.end.core.world.heap
  pub leads : left.closed.heap.objects ≡ replayed source all course.heap left.history.entries
  pub refusals : (joined left.closed.refusals ≡ left.refusals) × AreByCaller left.closed.refusals
