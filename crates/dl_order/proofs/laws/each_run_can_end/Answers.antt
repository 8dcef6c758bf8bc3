use Rattle.dl_order.proofs.Ending.{each_run_can_end}
use Rattle.dl_order.proofs.laws.each_run_can_end.Goals as goal

pub returns : goal.returns
returns c = each_run_can_end
