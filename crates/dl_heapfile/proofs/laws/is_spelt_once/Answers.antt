use Rattle.dl_heapfile.proofs.Once.{is_spelt_once}
use Rattle.dl_heapfile.proofs.laws.is_spelt_once.Goals as goal

pub returns : goal.returns
returns c = is_spelt_once
