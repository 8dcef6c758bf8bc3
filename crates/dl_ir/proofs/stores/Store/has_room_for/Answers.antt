use Rattle.dl_ir.proofs.Joining.{len-joined}
use Rattle.dl_ir.proofs.stores.Store.has_room_for.Goals as goal

pub returns : goal.returns
returns c = rw (← c.self.view_is, len-joined c.self.inside.heads.rows c.self.inside.tails.rows) c.has_room_for.ensures
