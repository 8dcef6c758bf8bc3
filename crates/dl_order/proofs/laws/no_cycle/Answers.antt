use Rattle.dl_order.proofs.Waits.{no_cycle}
use Rattle.dl_order.proofs.laws.no_cycle.Goals as goal

pub returns : goal.returns
returns c = no_cycle
