use Rattle.std.proofs.Common.{ap, sym, ◌∙◌}
use Rattle.dl_ir.specs.Places.{present}
use Rattle.dl_ir.proofs.TableEdits.{entries_are}
use Rattle.dl_ir.proofs.tables.Table.iter.Goals as goal

pub returns : goal.returns
returns g c = rw (← c.self.view_is) (ap present c.deref.ensures.value ∙ sym (entries_are c.self.invariant))
