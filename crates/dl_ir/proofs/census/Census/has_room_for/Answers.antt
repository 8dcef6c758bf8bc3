use Rattle.dl_ir.specs.Counted.{object_of}
use Rattle.dl_ir.proofs.Mapped.{len-with_values}
use Rattle.dl_ir.proofs.census.Census.has_room_for.Goals as goal

pub returns : goal.returns
returns c = rw (← c.self.view_is, len-with_values object_of c.self.inside.rows.rows) c.has_room_for.ensures
