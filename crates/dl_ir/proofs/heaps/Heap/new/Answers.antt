use Rattle.std.proofs.Common.{arith}
use Rattle.dl_ir.proofs.Keeping.{kept_empty}
use Rattle.dl_ir.proofs.Seals.{seals_nothing}
use Rattle.dl_ir.proofs.heaps.Heap.new.Goals as goal

pub invariant_of-result : goal.invariant_of-result
invariant_of-result c =
    record {
      kept = kept_empty c.in_ok-new.field-0 c.args.room c.in_ok-new.ensures.objects c.in_ok-new.ensures.counts c.in_ok-new.ensures.filed (omega (arith, c.if-room-gt-MOST_OBJECTS.false));
      seals = λ _. rw c.in_ok-new.ensures.objects seals_nothing;
    }
