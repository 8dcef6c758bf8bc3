use Rattle.std.proofs.Common.{sym, ◌∙◌}
use Rattle.dl_ir.specs.Counted.{refs_of}
use Rattle.dl_ir.proofs.Mapped.{get-with_values}
use Rattle.dl_ir.proofs.census.Census.count.Goals as goal

pub returns : goal.returns
returns c = rw (← c.self.view_is) (c.count.ensures ∙ sym (get-with_values refs_of c.self.inside.rows.rows c.args.name))
