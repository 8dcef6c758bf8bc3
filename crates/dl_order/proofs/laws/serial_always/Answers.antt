use Rattle.dl_order.proofs.Always.{serial_always}
use Rattle.dl_order.proofs.laws.serial_always.Goals as goal

pub returns : goal.returns
returns c = serial_always
