use Rattle.std.proofs.Common.{refl}
use Rattle.dl_ir.specs.Counted.{counted_by}
use Rattle.dl_ir.proofs.CountedEdits.{objects-sealed, counts-sealed}
use Rattle.dl_ir.proofs.Keeping.{filed_sealed}
use Rattle.dl_ir.proofs.census.Census.seal.Goals as goal

pub returns-clause-filed : goal.returns-clause-filed
returns-clause-filed c =
    let now = c.self.inside in
    let rows = now.rows.rows in
    rw (c.seal.ensures, c.remove.ensures, c.remove-2.ensures, objects-sealed rows c.args.name, counts-sealed rows c.args.name) (
    filed_sealed (counted_by now.rows now.loose now.shared) c.args.name (rw (← c.self.view_is) at c.requires.filed))

pub returns-clause-counts : goal.returns-clause-counts
returns-clause-counts c = rw (← c.self.view_is, c.seal.ensures, counts-sealed c.self.inside.rows.rows c.args.name) refl

pub returns-clause-objects : goal.returns-clause-objects
returns-clause-objects c = rw (← c.self.view_is, c.seal.ensures, objects-sealed c.self.inside.rows.rows c.args.name) refl
