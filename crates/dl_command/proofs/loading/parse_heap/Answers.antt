use Rattle.dl_command.proofs.LoadingLemmas.{heap_cause}
use Rattle.dl_command.proofs.loading.parse_heap.Goals as goal

pub returns-in-Err-clause-cause : goal.returns-in-Err-clause-cause
returns-in-Err-clause-cause c = λ file. rw c.status_of_heap.ensures (heap_cause c.in-Err.fault c.in-Err.ensures.reads)
