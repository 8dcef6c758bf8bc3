use Rattle.dl_trace.proofs.Ways.{scheduled_runs_reach}
use Rattle.dl_trace.proofs.laws.scheduled_runs_reach.Goals as goal

pub returns : goal.returns
returns c = scheduled_runs_reach
