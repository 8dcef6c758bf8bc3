use Rattle.dl_shape.proofs.Order.{order_does_not_matter}
use Rattle.dl_shape.proofs.settling.order_of_removals.Goals as goal

pub returns : goal.returns
returns c = order_does_not_matter
