use Rattle.dl_ir.proofs.Keeping.{kept_sealed, true_false}
use Rattle.dl_ir.proofs.heaps.Heap.seal.Goals as goal

pub invariant_of-self : goal.invariant_of-self
invariant_of-self c = record {
  kept = kept_sealed c.self.inside.census c.self.inside.may_dangle c.self.invariant.kept c.args.name c.seal.new.self c.seal.ensures.objects c.seal.ensures.filed c.seal.ensures.counts;
  seals = λ none. absurd (true_false none);
}
