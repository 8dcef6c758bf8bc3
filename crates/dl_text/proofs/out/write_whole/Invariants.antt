use Rattle.std.proofs.Common.{length}
use Rattle.dl_text.proofs.WritingLemmas.{SoFar}
use Rattle.dl_text.proofs.out.write_whole.Given as goal

abbrev pub invariant-pieces : goal.invariant-pieces
invariant-pieces g l = SoFar (g.K.Sink.taken l.initial.sink) (g.K.Sink.taken l.sink) l.text l.rest

abbrev pub decreases-pieces : goal.decreases-pieces
decreases-pieces g l = length l.rest
