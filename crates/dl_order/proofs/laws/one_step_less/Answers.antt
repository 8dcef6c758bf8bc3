use Rattle.dl_order.proofs.Measure.{one_step_less}
use Rattle.dl_order.proofs.laws.one_step_less.Goals as goal

pub returns : goal.returns
returns c = one_step_less
