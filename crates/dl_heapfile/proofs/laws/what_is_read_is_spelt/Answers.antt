use Rattle.dl_heapfile.proofs.Spelled.{what_is_read_is_spelt}
use Rattle.dl_heapfile.proofs.laws.what_is_read_is_spelt.Goals as goal

pub returns : goal.returns
returns c = what_is_read_is_spelt
