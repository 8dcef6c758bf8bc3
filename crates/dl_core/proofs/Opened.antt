-- The machine at the start of a run.
use Rattle.std.proofs.Common.{◌≡◌, refl, ap}
use Rattle.dl_ir.specs.Heap.{Objects}
use Rattle.dl_core.specs.Machines.{IsRunning, opened, plan_at}
use Rattle.dl_core.specs.Plans.{Plan, IsPlan}
use Rattle.dl_core.specs.Reached.{no_calls, starts}
use Rattle.dl_core.proofs.Plain.{plain_marked}

-- a run that starts where the machine stands is one by the same plan
pub opened_plan : (plan : Plan) → plan_at (opened plan) ≡ plan
opened_plan plan = ap (λ (heap : Objects). record plan { heap = heap }) (plain_marked plan.heap)

-- it stands where the run starts
pub opened_running : (plan : Plan) → IsPlan plan → IsRunning plan (opened plan) (no_calls plan)
opened_running plan is = record { code = refl; places = refl; sizes = refl; is = is; reached = starts }
