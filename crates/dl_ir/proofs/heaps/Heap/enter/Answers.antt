use Rattle.std.proofs.Common.{refl}
use Rattle.dl_ir.proofs.Keeping.{either, gain_fits, kept_entered}
use Rattle.dl_ir.proofs.Seals.{seals_put}
use Rattle.dl_ir.proofs.heaps.Heap.enter.Goals as goal

pub gain_all-there-requires-clause-few : goal.gain_all-there-requires-clause-few
gain_all-there-requires-clause-few c =
    gain_fits c.self.inside.census c.self.inside.may_dangle c.self.invariant.kept

pub invariant_of-self : goal.invariant_of-self
invariant_of-self c =
    let absent = rw (← c.self.view_is) at c.requires.absent in
    record {
      kept = kept_entered c.self.inside.census c.self.inside.may_dangle c.self.invariant.kept c.args.name c.args.object absent c.gain_all-there.ensures.sixteen
          c.enter.new.self c.gain_all-there.new.self.counts.rows c.gain_all-there.result
          (rw (c.enter.ensures.objects, c.gain_all-there.ensures.objects) refl) c.enter.ensures.filed
          c.gain_all-there.ensures.counts
          (rw (c.count_in-own.ensures, c.view.ensures, c.refs_to_absent-refs.ensures.count, ← c.self.view_is) at c.enter.ensures.counts)
          c.gain_all-there.ensures.there;
      seals = λ none.
          let split = either c.self.inside.has_sealed c.args.object.sealed none in
          rw (c.enter.ensures.objects, c.gain_all-there.ensures.objects) (seals_put c.self.inside.census.objects.rows c.args.name c.args.object (c.self.invariant.seals split.0) split.1);
    }
