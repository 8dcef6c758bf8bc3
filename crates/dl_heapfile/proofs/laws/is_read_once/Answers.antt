use Rattle.dl_heapfile.proofs.Once.{is_read_once}
use Rattle.dl_heapfile.proofs.laws.is_read_once.Goals as goal

pub returns : goal.returns
returns c = is_read_once
