use Rattle.dl_live.proofs.Pieces.{BroughtBelow}
use Rattle.dl_live.proofs.brought.brought_places.Given as goal

abbrev pub invariant-loop-last : goal.invariant-loop-last
invariant-loop-last l = BroughtBelow l.steps l.local l.marks l.last
