use Rattle.dl_rereading.proofs.Silent.{first_version_emits_nothing}
use Rattle.dl_rereading.proofs.first_version_emits_nothing.Goals as goal

pub returns : goal.returns
returns c = first_version_emits_nothing
