use Rattle.std.proofs.Common.{◌∙◌}
use Rattle.dl_ir.proofs.Keeping.{first_shared_is}
use Rattle.dl_ir.proofs.heaps.Heap.first_shared.Goals as goal

pub returns : goal.returns
returns c = rw (← c.self.view_is) (c.first_shared.ensures ∙ first_shared_is c.self.inside.census c.self.inside.may_dangle c.self.invariant.kept)
