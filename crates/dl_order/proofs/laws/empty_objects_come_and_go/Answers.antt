use Rattle.dl_order.proofs.Found.{empty_objects_come_and_go}
use Rattle.dl_order.proofs.laws.empty_objects_come_and_go.Goals as goal

pub returns : goal.returns
returns c = empty_objects_come_and_go
