use Rattle.dl_order.proofs.Found.{holders_are_callers}
use Rattle.dl_order.proofs.laws.holders_are_callers.Goals as goal

pub returns : goal.returns
returns c = holders_are_callers
