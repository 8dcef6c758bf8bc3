use Rattle.dl_command.specs.Promise.{Finishes}
use Rattle.std.proofs.Common.{refl}
use Rattle.dl_command.proofs.top.step.Goals as goal

pub returns-in-Ok : goal.returns-in-Ok
returns-in-Ok g c = c.run_steps-status.ensures c.args.places (rw c.as_slice.ensures.value at c.in-Ok.ensures)

pub returns-in-Err : goal.returns-in-Err
returns-in-Err g c = let n = c.nothing.ensures in Finishes.no_memory n.status refl n.history n.refusals
