use Rattle.std.proofs.Common.{refl, sym}
use Rattle.dl_ir.proofs.Keeping.{kept_taken, kept_absent}
use Rattle.dl_ir.proofs.Seals.{seals_left}
use Rattle.dl_ir.proofs.heaps.Heap.remove.Goals as goal

pub invariant_of-self : goal.invariant_of-self
invariant_of-self c = record {
  kept = rw (c.self.invariant.kept.counted c.args.name c.in-Some.row.refs (sym c.in-Some.ensures.refs)) (
      kept_taken c.self.inside.census c.self.inside.may_dangle c.self.invariant.kept c.args.name c.lose_all.new.self c.in-Some.row.object c.take.new.self.counts.rows
      c.in-Some.ensures.taken (rw (c.lose_all.ensures.objects, c.in-Some.ensures.objects) refl) c.lose_all.ensures.filed c.in-Some.ensures.counts
      c.lose_all.ensures.counts);
  seals = λ none. rw (c.lose_all.ensures.objects, c.in-Some.ensures.objects) (seals_left c.self.inside.census.objects.rows c.args.name (c.self.invariant.seals none));
}

pub invariant_of-self-in_default : goal.invariant_of-self-in_default
invariant_of-self-in_default c = record {
  kept = kept_absent c.self.inside.census c.self.inside.may_dangle c.self.invariant.kept c.args.name c.take.new.self
      c.in_default.ensures.taken c.in_default.ensures.objects c.in_default.ensures.filed c.in_default.ensures.counts;
  seals = λ none. rw c.in_default.ensures.objects (seals_left c.self.inside.census.objects.rows c.args.name (c.self.invariant.seals none));
}
