use Rattle.std.proofs.Common.{length, arith, ap, refl}
use Rattle.dl_instr.proofs.SameLists.{same_at_each}
use Rattle.dl_instr.proofs.same.+same.Goals as goal

pub same_block-returns : goal.same_block-returns
same_block-returns t c =
    let all = ap length c.as_slice-s-items.ensures in
    (λ is. same_at_each c.args.a.now c.args.b.now c.loop-i.invariant.0 (λ k h. c.loop-i.invariant.1 k (omega (arith, h, all))), λ same. refl)
