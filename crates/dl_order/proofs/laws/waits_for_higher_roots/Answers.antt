use Rattle.dl_order.proofs.Waits.{waits_for_higher_roots}
use Rattle.dl_order.proofs.laws.waits_for_higher_roots.Goals as goal

pub returns : goal.returns
returns c = waits_for_higher_roots
