use Rattle.dl_order.proofs.Measure.{rests_are_one}
use Rattle.dl_order.proofs.laws.rests_are_one.Goals as goal

pub returns : goal.returns
returns c = rests_are_one
