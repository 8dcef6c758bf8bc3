-- What contracts see of the machine in Rust, and the runs that it makes.
use Rattle.std.specs.Prelude.{◌≡◌, ◌<◌, ◌≤◌, ℕ, List, length, [], slice_get}
use Rattle.std.specs.FinMap as finite
use Rattle.std.specs.Option.{option_map_or}
use Rattle.dl_ir.specs.declared.modules.FieldDecl.{FieldDecl}
use Rattle.dl_ir.specs.declared.modules.KindDecl.{KindDecl}
use Rattle.dl_ir.specs.declared.modules.Module.{Module}
use Rattle.dl_ir.specs.declared.names.Name.{Name}
use Rattle.dl_core.specs.declared.objects.Object.{Object}
use Rattle.dl_instr.specs.declared.code.Code.{Code}
use Rattle.dl_core.specs.declared.stages.Stage.TheVariants as stages
use Rattle.dl_core.specs.Heaps.{Heap, plain}
use Rattle.dl_core.specs.Plans.{Plan, IsPlan}
use Rattle.dl_core.specs.Core.{Core, frame_of, fresh}
use Rattle.dl_core.specs.Reached.{Calls, IsReached}
use Rattle.dl_core.specs.Sound.{numbers_from}

-- a machine: what its run never changes, but for the heap from which it started, and its state
pub record Machine : Type 0 where
  pub code : Code
  pub places : ℕ
  pub sizes : List ℕ
  pub state : Core

-- the machine at the start of a run
abbrev pub opened : Plan → Machine
opened plan = record { code = plan.code; places = plan.places; sizes = plan.sizes; state = fresh plan }

-- the plan of a run that starts where the machine stands
abbrev pub plan_at : Machine → Plan
plan_at machine = record { code = machine.code; heap = plain machine.state.world.heap; places = machine.places; sizes = machine.sizes }

-- a run by the plan has come to the machine's state, with these calls begun
pub record IsRunning (plan : Plan) (machine : Machine) (calls : Calls) : Type 0 where
  pub code : plan.code ≡ machine.code
  pub places : plan.places ≡ machine.places
  pub sizes : plan.sizes ≡ machine.sizes
  pub is : IsPlan plan
  pub reached : IsReached plan machine.state calls

-- the machine in another state
abbrev pub with_state : Machine → Core → Machine
with_state machine state = record machine { state = state }

-- the machine has a caller of this number; callers are numbered from 1
pub record HasCaller (machine : Machine) (caller : ℕ) : Type 0 where
  pub from_one : 0 < caller
  pub to_last : caller ≤ length machine.sizes

-- the numbers of the callers
abbrev pub callers_in : Machine → List ℕ
callers_in machine = numbers_from 1 (length machine.sizes)

-- no caller has a call in hand
abbrev pub AreAllIdle : Core → Type 0
AreAllIdle core = (caller : ℕ) → (frame_of core.world caller).stage ≡ stages.Idle

-- the name of a field of a kind; there is none where the kind has no such field
abbrev pub field_of_kind : ℕ → KindDecl → List ℕ
field_of_kind field kind = option_map_or (λ (decl : FieldDecl). decl.name) (slice_get kind.fields field) []

-- the name of an object's field, by the object's kind; there is none where the object is not there
abbrev pub field_named : Module → Heap → Name → ℕ → List ℕ
field_named source heap name field =
    option_map_or (λ (object : Object). option_map_or (field_of_kind field) (slice_get source.kinds object.kind) []) (finite.get heap name) []
