use Rattle.std.proofs.Common.{◌≡◌, ◌+◌, ◌≤◌, length}
use Rattle.dl_syntax.specs.Line.{words_of}
use Rattle.dl_syntax.proofs.words.count_words.Given as goal

abbrev pub invariant-loop-more : goal.invariant-loop-more
invariant-loop-more l = record {
  counts : l.count + length (words_of l.rest) ≡ length (words_of l.fn.bytes);
  within : l.count + length l.rest ≤ length l.fn.bytes;
}

abbrev pub decreases-loop-more : goal.decreases-loop-more
decreases-loop-more l = length l.rest
