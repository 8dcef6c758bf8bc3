use Rattle.std.proofs.Common.{sym}
use Rattle.dl_ir.proofs.Keeping.{small_counts}
use Rattle.dl_ir.proofs.heaps.Heap.refs.Goals as goal

pub returns-in-Some-clause-small : goal.returns-in-Some-clause-small
returns-in-Some-clause-small c = small_counts c.self.inside.census c.self.inside.may_dangle c.self.invariant.kept c.args.name c.in-Some.count (sym c.in-Some.ensures)
