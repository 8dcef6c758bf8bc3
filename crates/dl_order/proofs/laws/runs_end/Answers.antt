use Rattle.dl_order.proofs.Ends.{runs_end}
use Rattle.dl_order.proofs.laws.runs_end.Goals as goal

pub returns : goal.returns
returns c = runs_end
