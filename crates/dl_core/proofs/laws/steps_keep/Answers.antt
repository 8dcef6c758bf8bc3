use Rattle.dl_core.proofs.StepsKeep as steps
use Rattle.dl_core.proofs.laws.steps_keep.Goals as goal

pub returns : goal.returns
returns c = steps.steps_keep
