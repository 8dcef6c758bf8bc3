use Rattle.std.proofs.Common.{arith}
use Rattle.std.proofs.lemmas.Bool.Decides.{nat_tests}
use Rattle.dl_ir.proofs.TableEdits.{len_is}
use Rattle.dl_ir.proofs.tables.Table.has_room_for.Goals as goal

pub returns : goal.returns
returns g c = rw (← c.self.view_is, len_is c.self.invariant) (grind (arith, nat_tests, c.self.invariant.within))
