use Rattle.std.proofs.Common.{arith, refl}
use Rattle.dl_instr.proofs.SameLists.{same_at_each}
use Rattle.dl_instr.proofs.same.same_lists.Goals as goal

pub returns : goal.returns
returns g c = (λ is. same_at_each c.args.a.now c.args.b.now c.loop-i.invariant.0 (λ k h. c.loop-i.invariant.1 k (omega (arith, h))), λ same. refl)
