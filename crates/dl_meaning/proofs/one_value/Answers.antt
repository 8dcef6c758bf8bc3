use Rattle.dl_meaning.proofs.Values.{one_value, one_truth}
use Rattle.dl_meaning.proofs.one_value.Goals as goal

pub returns-clause-expressions : goal.returns-clause-expressions
returns-clause-expressions c = one_value

pub returns-clause-conditions : goal.returns-clause-conditions
returns-clause-conditions c = one_truth
