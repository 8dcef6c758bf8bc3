use Rattle.dl_core.proofs.LoneRunsEnd as lone
use Rattle.dl_core.proofs.laws.lone_runs_are_serial.Goals as goal

pub returns : goal.returns
returns c = lone.lone_runs_are_serial
