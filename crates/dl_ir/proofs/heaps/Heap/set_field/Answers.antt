use Rattle.std.proofs.Common.{refl, subst}
use Rattle.dl_ir.specs.Census.{IsKnown}
use Rattle.dl_ir.proofs.Keeping.{filed_field, lost_few, kept_field, no_field, over}
use Rattle.dl_ir.proofs.Seals.{seals_field}
use Rattle.dl_ir.proofs.heaps.Heap.set_field.Goals as goal

pub lose-requires : goal.lose-requires
lose-requires c =
    rw c.in-Some.ensures.written (record { filed = filed_field c.self.inside.census c.self.inside.may_dangle c.self.invariant.kept c.args.name c.args.field c.in-Some.before c.args.value c.in-Some.ensures.before })

pub gain-there-requires-clause-few : goal.gain-there-requires-clause-few
gain-there-requires-clause-few c =
    lost_few c.self.inside.census c.self.inside.may_dangle c.self.invariant.kept c.args.name c.args.field c.in-Some.before c.args.value c.in-Some.ensures.before c.lose.new.self.counts.rows (rw c.in-Some.ensures.written at c.lose.ensures.counts)

pub invariant_of-self : goal.invariant_of-self
invariant_of-self c = record {
  kept = kept_field c.self.inside.census c.self.inside.may_dangle c.self.invariant.kept c.args.name c.args.field c.in-Some.before c.args.value c.in-Some.ensures.before
      c.gain-there.new.self c.lose.new.self.counts.rows c.gain-there.result
      (rw (c.gain-there.ensures.objects, c.lose.ensures.objects, c.in-Some.ensures.written) refl) c.gain-there.ensures.filed (rw c.in-Some.ensures.written at c.lose.ensures.counts) c.gain-there.ensures.counts
      (rw (c.lose.ensures.objects, c.in-Some.ensures.written) at c.gain-there.ensures.there);
  seals = λ none. rw (c.gain-there.ensures.objects, c.lose.ensures.objects, c.in-Some.ensures.written) (seals_field c.self.inside.census.objects.rows c.args.name c.args.field c.args.value (c.self.invariant.seals none));
}

pub invariant_of-self-in_default : goal.invariant_of-self-in_default
invariant_of-self-in_default c =
    rw c.in_default.ensures.written (
    subst (λ h. IsKnown (over c.self.inside.census h) c.self.inside.may_dangle c.self.inside.has_sealed) (no_field c.self.inside.census.objects.rows c.args.name c.args.field c.args.value c.in_default.ensures.before) c.self.invariant)
