use Rattle.std.proofs.Common.{sym, arith}
use Rattle.std.proofs.lemmas.Option.{slice_get_past}
use Rattle.dl_ir.proofs.CellWrites.{take-few}
use Rattle.dl_ir.proofs.parts.Near.get.Goals as goal

pub returns-else-at-self : goal.returns-else-at-self
returns-else-at-self c = rw (← c.self.view_is) (sym (slice_get_past _ c.args.at (omega (arith, c.if-at-self.false, take-few c.self.inside.len c.self.inside.cells))))
