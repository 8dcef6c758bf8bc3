use Rattle.dl_order.proofs.Answering.{lone_steps_are_steps}
use Rattle.dl_order.proofs.laws.lone_steps_are_steps.Goals as goal

pub returns : goal.returns
returns c = lone_steps_are_steps
