use Rattle.dl_heapfile.proofs.Reread.{what_is_spelt_is_read}
use Rattle.dl_heapfile.proofs.laws.what_is_spelt_is_read.Goals as goal

pub returns : goal.returns
returns c = what_is_spelt_is_read
