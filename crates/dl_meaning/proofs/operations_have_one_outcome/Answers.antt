use Rattle.dl_meaning.proofs.Left.{operations_have_one_outcome, calls_give_the_outcome}
use Rattle.dl_meaning.proofs.operations_have_one_outcome.Goals as goal

pub returns-clause-operations : goal.returns-clause-operations
returns-clause-operations c = operations_have_one_outcome

pub returns-clause-calls : goal.returns-clause-calls
returns-clause-calls c = calls_give_the_outcome
