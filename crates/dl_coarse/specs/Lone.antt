-- What the machine in Rust makes of an operation that runs alone.
use Rattle.std.specs.Prelude.{◌≡◌, ◌+◌, Some}
use Rattle.dl_core.specs.declared.answers.Event.{Event}
use Rattle.dl_core.specs.declared.answers.Progress.{Progress}
use Rattle.dl_core.specs.declared.answers.Progress.TheVariants as progress
use Rattle.dl_core.specs.Advances.{RunsTo}
use Rattle.dl_core.specs.Core.{Core, step}
use Rattle.dl_core.specs.Machines.{Machine, IsRunning}
use Rattle.dl_core.specs.Plans.{Plan}
use Rattle.dl_core.specs.Reached.{Calls}
use Rattle.dl_coarse.specs.Going.{IsOver}
use Rattle.dl_coarse.specs.declared.going.Going.{Going}

-- the machine is one of a run of this plan
abbrev pub IsRun : Plan → Machine → Type 0
IsRun plan machine = (calls : Calls) × IsRunning plan machine calls

abbrev pub state_of : Machine → Core
state_of machine = machine.state

-- what a run never changes stays, and a run that has come to the first machine comes to the other
pub record Stays (machine after : Machine) : Type 0 where
  pub code : after.code ≡ machine.code
  pub sizes : after.sizes ≡ machine.sizes
  pub running : (plan : Plan) (calls : Calls) → IsRunning plan machine calls → IsRunning plan after calls

-- the next event took place, and the operation goes on
pub record IsOnward (going next : Going) : Type 0 where
  pub caller : next.caller ≡ going.caller
  pub less : going.more.0 ≡ next.more.0 + 1
  pub stays : Stays going.core next.core
  pub steps : (plan : Plan) → plan.code ≡ going.core.code → (event : Event) × (step plan going.core.state going.caller ≡ Some (next.core.state, progress.Moved event))

-- the next event took place, and the operation is over
pub record IsLast (going : Going) (machine : Machine) (answer : Progress) : Type 0 where
  pub over : IsOver answer
  pub stays : Stays going.core machine
  pub steps : (plan : Plan) → plan.code ≡ going.core.code → step plan going.core.state going.caller ≡ Some (machine.state, answer)

-- the operation ran to its end
pub record HasRun (going : Going) (machine : Machine) (answer : Progress) : Type 0 where
  pub over : IsOver answer
  pub stays : Stays going.core machine
  pub runs : (plan : Plan) → plan.code ≡ going.core.code → RunsTo plan going.caller answer going.core.state machine.state
