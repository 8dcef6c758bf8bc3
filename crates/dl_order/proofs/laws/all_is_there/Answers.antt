use Rattle.dl_order.proofs.Found.{all_is_there}
use Rattle.dl_order.proofs.laws.all_is_there.Goals as goal

pub returns : goal.returns
returns c = all_is_there
