-- What operations do where one caller alone begins them.
use Rattle.std.specs.Prelude.{◌≡◌, ℕ, length}
use Rattle.dl_ir.specs.declared.answers.Entry.{Entry}
use Rattle.dl_ir.specs.declared.calls.Call.{Call}
use Rattle.dl_shape.specs.Operation.{operated}
use Rattle.dl_core.specs.declared.answers.Progress.TheVariants as progress
use Rattle.dl_core.specs.Advances.{RunsTo}
use Rattle.dl_core.specs.Core.{Core, with_call}
use Rattle.dl_core.specs.Heaps.{plain}
use Rattle.dl_core.specs.Plans.{Plan, IsPlan, source_of}
use Rattle.dl_core.specs.Reached.{Calls, IsReached, MayBegin}

-- an operation has the answer, and leaves the heap, that its call gives from the heap as it stood when the call began
pub record IsSerialCall (plan : Plan) (core : Core) (call : Call) (entry : Entry) (after : Core) : Type 0 where
  pub answer : entry.answer ≡ (operated (source_of plan) (plain core.world.heap) entry.ticket call).answer
  pub heap : plain after.world.heap ≡ (operated (source_of plan) (plain core.world.heap) entry.ticket call).objects

-- where there is one caller, each operation that it begins and brings to its end is such
abbrev pub OneCallerIsSerial : Type 0
OneCallerIsSerial = (plan : Plan) (core after : Core) (calls : Calls) (caller : ℕ) (call : Call) (entry : Entry) → IsPlan plan → length plan.sizes ≡ 1 → IsReached plan core calls → MayBegin plan core calls caller call
    → RunsTo plan caller (progress.Done entry) (with_call core caller call) after → IsSerialCall plan core call entry after
