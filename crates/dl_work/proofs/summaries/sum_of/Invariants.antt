use Rattle.std.proofs.Common.{◌≡◌, ◌*◌, pos, neg_ℤ, ◌≤ℤ◌, take}
use Rattle.dl_work.specs.Summary.{sum_of}
use Rattle.dl_work.proofs.summaries.sum_of.Given as goal

-- the sum so far, and how large it may be
abbrev pub invariant-loop-entry : goal.invariant-loop-entry
invariant-loop-entry l = record {
  sum : l.sum ≡ sum_of (take l.entry-index l.entries);
  low : neg_ℤ (pos (9223372036854775808 * l.entry-index)) ≤ℤ l.sum;
  high : l.sum ≤ℤ pos (9223372036854775808 * l.entry-index);
}
