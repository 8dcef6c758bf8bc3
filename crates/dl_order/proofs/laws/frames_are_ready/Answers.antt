use Rattle.dl_core.proofs.LawfulAlways.{lawful_always}
use Rattle.dl_order.proofs.laws.frames_are_ready.Goals as goal

pub returns : goal.returns
returns c = λ plan core calls caller is reached. ((lawful_always plan core calls is reached).sound.each caller).ready
