use Rattle.std.proofs.Common.{length}
use Rattle.dl_text.proofs.State.{State}
use Rattle.dl_text.proofs.scan.tokens.Given as goal

abbrev pub invariant-pieces : goal.invariant-pieces
invariant-pieces l = State l.fn.bytes l.found l.at l.line l.rest

abbrev pub decreases-pieces : goal.decreases-pieces
decreases-pieces l = length l.rest
