use Rattle.dl_trace.proofs.Endings.{scheduled_runs_end}
use Rattle.dl_trace.proofs.laws.scheduled_runs_end.Goals as goal

pub returns : goal.returns
returns c = scheduled_runs_end
