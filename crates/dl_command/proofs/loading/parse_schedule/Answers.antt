use Rattle.dl_command.proofs.LoadingLemmas.{schedule_cause}
use Rattle.dl_command.proofs.loading.parse_schedule.Goals as goal

pub returns-in-Err-clause-cause : goal.returns-in-Err-clause-cause
returns-in-Err-clause-cause c = λ source. rw c.status_of_schedule.ensures (schedule_cause c.in-Err.fault c.in-Err.ensures.fault)
