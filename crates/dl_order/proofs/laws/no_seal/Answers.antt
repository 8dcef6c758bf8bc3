use Rattle.dl_order.proofs.Unsealed.{no_seal}
use Rattle.dl_order.proofs.laws.no_seal.Goals as goal

pub returns : goal.returns
returns c = no_seal
