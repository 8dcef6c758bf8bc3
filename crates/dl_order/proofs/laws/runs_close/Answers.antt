use Rattle.dl_order.proofs.Closes.{runs_close}
use Rattle.dl_order.proofs.laws.runs_close.Goals as goal

pub returns : goal.returns
returns c = runs_close
