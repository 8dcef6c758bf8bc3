use Rattle.dl_order.proofs.Answering.{answers_are_right}
use Rattle.dl_order.proofs.laws.answers_are_right.Goals as goal

pub returns : goal.returns
returns c = answers_are_right
