use Rattle.dl_shape.proofs.Starting.{starts_are_startable}
use Rattle.dl_shape.proofs.startable.starts_are_startable.Goals as goal

pub returns : goal.returns
returns c = starts_are_startable
