use Rattle.dl_command.proofs.LoadingLemmas.{calls_cause}
use Rattle.dl_command.proofs.loading.parse_calls.Goals as goal

pub returns-in-Err-clause-cause : goal.returns-in-Err-clause-cause
returns-in-Err-clause-cause c = rw c.status_of_calls.ensures (calls_cause c.in-Err.fault c.in-Err.ensures.fault)
