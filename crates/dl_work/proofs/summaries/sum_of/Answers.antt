use Rattle.std.proofs.Common.{arith}
use Rattle.std.proofs.lemmas.Int.{ints, to_z-of_z}
use Rattle.std.proofs.lemmas.List.Sums.{fold_more}
use Rattle.dl_work.proofs.summaries.sum_of.Goals as goal

pub loop-entry-preserved : goal.loop-entry-preserved
loop-entry-preserved c = record {
  sum = grind (arith, ints, to_z-of_z, fold_more);
  low = omega (arith, ints);
  high = omega (arith, ints);
}
