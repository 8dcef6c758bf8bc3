use Rattle.dl_ir.proofs.TableEdits.{len_is}
use Rattle.std.proofs.Common.{sym}
use Rattle.dl_ir.proofs.tables.Table.len.Goals as goal

pub returns : goal.returns
returns g c = rw (← c.self.view_is) (sym (len_is c.self.invariant))
