use Rattle.dl_order.proofs.Progress.{someone_moves}
use Rattle.dl_order.proofs.laws.someone_moves.Goals as goal

pub returns : goal.returns
returns c = someone_moves
