use Rattle.dl_command.proofs.RunLemmas.{nothing_is}
use Rattle.dl_command.proofs.top.nothing.Goals as goal

pub returns-clause-history : goal.returns-clause-history
returns-clause-history c = nothing_is c.empty.result c.empty.ensures.entries c.empty.ensures.moves
