use Rattle.dl_order.proofs.Answering.{takers_wait}
use Rattle.dl_order.proofs.laws.takers_wait.Goals as goal

pub returns : goal.returns
returns c = takers_wait
