use Rattle.dl_core.proofs.BeginKeeps as begins
use Rattle.dl_core.proofs.laws.begins_keep.Goals as goal

pub returns : goal.returns
returns c = begins.begins_keep
