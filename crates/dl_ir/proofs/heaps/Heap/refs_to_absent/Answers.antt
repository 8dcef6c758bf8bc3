use Rattle.std.proofs.Common.{arith}
use Rattle.dl_ir.proofs.Keeping.{small_refs}
use Rattle.dl_ir.proofs.heaps.Heap.refs_to_absent.Goals as goal

pub returns-then-self-clause-small : goal.returns-then-self-clause-small
returns-then-self-clause-small c = omega (arith, c.fields_that_refer.ensures, small_refs c.self.inside.census c.self.inside.may_dangle c.self.invariant.kept c.args.name)
