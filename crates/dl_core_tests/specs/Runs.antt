-- A machine on the way through operation files.
use Rattle.std.specs.Prelude.{◌≡◌, All, List, length, map}
use Rattle.dl_ir.specs.declared.calls.Call.{Call}
use Rattle.dl_ir.specs.CallForms.{AreCallsOf}
use Rattle.dl_core.specs.Machines.{Machine, IsRunning}
use Rattle.dl_core.specs.Plans.{Plan, source_of}
use Rattle.dl_core.specs.Reached.{Calls}

-- a run has come to the machine's state, and each of these files has as many calls as its caller may begin, all of them calls of the
-- module
pub record IsUnderWay (machine : Machine) (files : List (List Call)) : Type 0 where
  pub plan : Plan
  pub calls : Calls
  pub running : IsRunning plan machine calls
  pub sizes : plan.sizes ≡ map length files
  pub of_module : All (AreCallsOf (source_of plan)) files
