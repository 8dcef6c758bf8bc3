use Rattle.dl_order.proofs.Given.{names_are_given_once}
use Rattle.dl_order.proofs.laws.names_are_given_once.Goals as goal

pub returns : goal.returns
returns c = names_are_given_once
