use Rattle.dl_core.proofs.Events as events
use Rattle.dl_core.proofs.laws.events_may.Goals as goal

pub returns : goal.returns
returns c = λ plan core calls caller name frame found is kept at acts. events.events_may plan core calls caller is kept.lawful kept.sound name at (frame, found) acts
