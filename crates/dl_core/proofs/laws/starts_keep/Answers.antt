use Rattle.dl_core.proofs.FreshSound as first
use Rattle.dl_core.proofs.laws.starts_keep.Goals as goal

pub returns : goal.returns
returns c = first.fresh_kept
