use Rattle.std.proofs.Common.{◌≤◌}
use Rattle.dl_live.specs.Dropped.{IsFilled}
use Rattle.dl_live.proofs.brought.is_filled.Given as goal

abbrev pub invariant-loop-at : goal.invariant-loop-at
invariant-loop-at l = (f : IsFilled l.steps l.local l.first l.last) → l.at ≤ f.at
