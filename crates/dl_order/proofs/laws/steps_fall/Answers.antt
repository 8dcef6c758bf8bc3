use Rattle.dl_order.proofs.Falls.{steps_fall}
use Rattle.dl_order.proofs.laws.steps_fall.Goals as goal

pub returns : goal.returns
returns c = steps_fall
