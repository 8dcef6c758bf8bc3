use Rattle.dl_order.proofs.OneCaller.{one_caller_is_serial}
use Rattle.dl_order.proofs.laws.one_caller_is_serial.Goals as goal

pub returns : goal.returns
returns c = one_caller_is_serial
