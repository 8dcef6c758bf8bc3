-- A small run by two callers: what laws ask of a plan and of a state is met by some.
use Rattle.std.specs.Prelude.{◌≡◌, pos, true, false, Some, [], ◌∷◌}
use Rattle.std.specs.FinMap as finite
use Rattle.dl_ir.specs.declared.calls.Call.{Call}
use Rattle.dl_ir.specs.declared.modules.Module.{Module}
use Rattle.dl_ir.specs.declared.modules.OpDecl.{OpDecl}
use Rattle.dl_ir.specs.declared.modules.Ty.TheVariants.{Int, Of}
use Rattle.dl_ir.specs.declared.names.Value.TheVariants as values
use Rattle.dl_ir.specs.Heap.{Objects, root}
use Rattle.dl_shape.specs.Closed.{IsForestClosed}
use Rattle.dl_instr.specs.Code.{code}
use Rattle.dl_core.specs.declared.answers.Lock.TheVariants as locks
use Rattle.dl_core.specs.declared.answers.Progress.{Progress}
use Rattle.dl_core.specs.declared.answers.Progress.TheVariants as progress
use Rattle.dl_core.specs.Plans.{Plan, IsPlan}
use Rattle.dl_core.specs.Core.{Core, step, stepped}
use Rattle.dl_core.specs.Reached.{Calls, IsReached, no_calls, with_begun}
use Rattle.dl_core.specs.Reach.{WaitsFor, ticket_in}
use Rattle.dl_core.specs.Laws.{HasJustEntered}
use Rattle.dl_order.specs.Ends.{IsRunOver}
use Rattle.dl_core.specs.Machines.{AreAllIdle}
use Rattle.dl_order.specs.Serial.{IsSerial}

-- an operation with a root, which does nothing
abbrev pub look_op : OpDecl
look_op = record { name = []; params = record { name = []; ty = Of 0 } ∷ []; vars = []; allocs = 0; fuel = 0; body = [] }

-- one root, with a number, and this operation
abbrev pub look_module : Module
look_module = record { version = 1; kinds = record { name = []; is_root = true; first = 0; count = 1; fields = record { name = []; ty = Int } ∷ [] } ∷ []; ops = look_op ∷ [] }

abbrev pub look : Call
look = record { op = 0; args = pos 0 ∷ [] }

abbrev pub look_heap : Objects
look_heap = finite.from_sorted ((root 0, record { kind = 0; sealed = false; fields = values.Int (pos 0) ∷ [] }) ∷ [])

-- two callers, each with one operation
abbrev pub look_plan : Plan
look_plan = record { code = code look_module; heap = look_heap; places = 1; sizes = 1 ∷ 1 ∷ [] }

abbrev pub look_calls : Calls
look_calls = with_begun (with_begun (no_calls look_plan) 1 look) 2 look

-- it is a plan, and one of whose serial runs none seals anything
pub record IsExample : Type 0 where
  pub is_plan : IsPlan look_plan
  pub closed : IsForestClosed look_module look_heap

-- a run of it comes to a state in which the first caller has just entered, and the second waits for the root that it holds. What
-- the laws say then: the state is serial, the first caller moves, and the second is told for whom it waits
pub record OneWaits : Type 0 where
  pub core : Core
  pub reached : IsReached look_plan core look_calls
  pub enters : HasJustEntered look_plan core.world 1 1 look
  pub unentered : ticket_in core.world 2 ≡ 0
  pub waits : WaitsFor look_plan core.world 2 1
  pub serial : IsSerial look_plan core look_calls
  pub moves : (after : Core) × (answer : Progress) × (step look_plan core 1 ≡ Some (after, answer))
  pub told : stepped look_plan core 2 ≡ (core, progress.Waiting (locks.Root 0) 1)

-- and it comes to an end, at which both calls were run
pub record BothRun : Type 0 where
  pub core : Core
  pub reached : IsReached look_plan core look_calls
  pub idle : AreAllIdle core
  pub run : IsRunOver look_plan core look_calls
