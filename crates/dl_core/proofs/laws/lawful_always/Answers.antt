use Rattle.dl_core.proofs.LawfulAlways as always_so
use Rattle.dl_core.proofs.laws.lawful_always.Goals as goal

pub returns : goal.returns
returns c = always_so.lawful_always
