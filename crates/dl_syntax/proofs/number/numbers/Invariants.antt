use Rattle.std.proofs.Common.{◌≡◌, length}
use Rattle.dl_syntax.specs.Line.{numbers_of, words_of}
use Rattle.dl_syntax.proofs.Numbers.{onto}
use Rattle.dl_syntax.proofs.number.numbers.Given as goal

abbrev pub invariant-loop-word : goal.invariant-loop-word
invariant-loop-word l = onto l.found (numbers_of (words_of l.rest)) ≡ numbers_of (words_of l.fn.bytes)

abbrev pub decreases-loop-word : goal.decreases-loop-word
decreases-loop-word l = length l.rest
