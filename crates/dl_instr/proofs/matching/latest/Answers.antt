use Rattle.std.proofs.Common.{arith, ◌-◌}
use Rattle.dl_instr.proofs.Refuted.{late_more}
use Rattle.dl_instr.proofs.matching.latest.Goals as goal

pub loop-d-preserved : goal.loop-d-preserved
loop-d-preserved c =
    let near = c.in-Some.ensures in
    let below = near.below in
    (late_more c.args.op.now c.args.steps.now c.loop-d.d (c.args.count - 1 - c.loop-d.d) c.loop-d.next (omega arith) c.in-Some.x c.loop-d.invariant.0 near, omega (arith, below))
