use Rattle.dl_order.proofs.Measure.{oldest_moves}
use Rattle.dl_order.proofs.laws.oldest_moves.Goals as goal

pub returns : goal.returns
returns c = oldest_moves
