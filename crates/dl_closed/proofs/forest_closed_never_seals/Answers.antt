use Rattle.dl_closed.proofs.Histories.{never_seals}
use Rattle.dl_closed.proofs.forest_closed_never_seals.Goals as goal

pub returns : goal.returns
returns c = never_seals
