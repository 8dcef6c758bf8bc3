use Rattle.dl_ir.proofs.Seals.{none_sealed}
use Rattle.dl_ir.proofs.heaps.Heap.may_have_sealed.Goals as goal

pub returns : goal.returns
returns c none name = rw (← c.self.view_is) (none_sealed c.self.inside.census.objects.rows (c.self.invariant.seals none) name)
