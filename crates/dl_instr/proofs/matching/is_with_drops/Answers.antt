use Rattle.std.proofs.Common.{arith}
use Rattle.dl_instr.proofs.Refuted.{as_long}
use Rattle.dl_instr.proofs.matching.is_with_drops.Goals as goal

pub returns-in-None : goal.returns-in-None
returns-in-None c w = let long = as_long c.args.op.now c.args.steps.now w in omega (arith, long, c.in-None.ensures)

pub returns-then-len-count : goal.returns-then-len-count
returns-then-len-count c w = let long = as_long c.args.op.now c.args.steps.now w in omega (arith, long, c.in-Some.ensures)
