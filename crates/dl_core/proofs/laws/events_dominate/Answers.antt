use Rattle.dl_core.proofs.Dominates as dominates
use Rattle.dl_core.proofs.laws.events_dominate.Goals as goal

pub returns : goal.returns
returns c = λ plan core after calls caller answer is kept steps. dominates.events_dominate plan core calls caller is kept.lawful kept.sound
