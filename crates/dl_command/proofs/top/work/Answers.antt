use Rattle.std.proofs.Common.{refl}
use Rattle.dl_command.specs.Work.{FinishesWork}
use Rattle.dl_command.proofs.top.work.Goals as goal

pub returns-in-Ok : goal.returns-in-Ok
returns-in-Ok g c = FinishesWork.wrote _ c.in-Ok.ensures c.write_work-status.ensures

pub returns-in-Err : goal.returns-in-Err
returns-in-Err g c = let n = c.nothing.ensures in FinishesWork.no_memory n.status refl n.history n.refusals
