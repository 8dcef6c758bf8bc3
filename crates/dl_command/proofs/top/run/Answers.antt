use Rattle.std.proofs.Common.{refl}
use Rattle.dl_command.specs.Promise.{Finishes}
use Rattle.dl_command.proofs.top.run.Goals as goal

pub returns-in-Ok : goal.returns-in-Ok
returns-in-Ok g c =
    let wrote = rw (c.as_slice.ensures.value, c.in-Ok.ensures.heap) at c.write_run-status.ensures in
    Finishes.wrote _ (record { is_run = c.in-Ok.ensures.run; is_report = refl }) wrote

pub returns-in-Err : goal.returns-in-Err
returns-in-Err g c = let n = c.nothing.ensures in Finishes.no_memory n.status refl n.history n.refusals
