use Rattle.std.proofs.Common.{List, set, ap, sym, ◌∙◌, arith}
use Rattle.std.proofs.lemmas.Option.{slice_get_past}
use Rattle.dl_ir.specs.declared.names.Value.{Value}
use Rattle.dl_ir.proofs.CellWrites.{take-set-in, take-few}
use Rattle.dl_ir.proofs.parts.Near.replace.Goals as goal

pub returns-then-at-self-clause-written : goal.returns-then-at-self-clause-written
returns-then-at-self-clause-written c = rw c.cell_of.ensures (take-set-in c.self.inside.len c.self.inside.cells c.args.at c.args.value ∙ ap (λ (l : List Value). set l c.args.at c.args.value) c.self.view_is)

pub returns-else-at-self-clause-before : goal.returns-else-at-self-clause-before
returns-else-at-self-clause-before c = rw (← c.self.view_is) (sym (slice_get_past _ c.args.at (omega (arith, c.if-at-self.false, take-few c.self.inside.len c.self.inside.cells))))
