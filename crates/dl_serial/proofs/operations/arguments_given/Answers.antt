use Rattle.std.proofs.Common.{arith}
use Rattle.std.proofs.lemmas.Grind.{common_steps}
use Rattle.dl_serial.proofs.operations.arguments_given.Goals as goal

pub loop-at-preserved : goal.loop-at-preserved
loop-at-preserved c = record {
  held = grind (arith, common_steps);
  items = grind (arith, common_steps);
}
