use Rattle.std.proofs.Common.{sym, ◌∙◌}
use Rattle.dl_ir.specs.Counted.{object_of}
use Rattle.dl_ir.proofs.Mapped.{entries-with_values}
use Rattle.dl_ir.proofs.census.Census.iter.Goals as goal

pub returns : goal.returns
returns c = rw (← c.self.view_is) (c.iter.ensures ∙ sym (entries-with_values object_of c.self.inside.rows.rows))
