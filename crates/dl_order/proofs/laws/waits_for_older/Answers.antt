use Rattle.dl_order.proofs.Waits.{waits_for_older}
use Rattle.dl_order.proofs.laws.waits_for_older.Goals as goal

pub returns : goal.returns
returns c = waits_for_older
