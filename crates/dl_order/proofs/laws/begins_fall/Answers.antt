use Rattle.dl_order.proofs.Falls.{begins_fall}
use Rattle.dl_order.proofs.laws.begins_fall.Goals as goal

pub returns : goal.returns
returns c = begins_fall
