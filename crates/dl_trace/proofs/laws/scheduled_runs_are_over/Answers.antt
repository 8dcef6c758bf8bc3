use Rattle.dl_trace.proofs.Overs.{scheduled_runs_are_over}
use Rattle.dl_trace.proofs.laws.scheduled_runs_are_over.Goals as goal

pub returns : goal.returns
returns c = scheduled_runs_are_over
