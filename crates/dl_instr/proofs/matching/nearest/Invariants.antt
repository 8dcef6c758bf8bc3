use Rattle.std.proofs.Common.{◌<◌, ◌≤◌, ℕ}
use Rattle.dl_instr.specs.Code.{op_code}
use Rattle.dl_instr.specs.Matching.{Fits}
use Rattle.dl_instr.proofs.matching.nearest.Given as goal

abbrev pub invariant-loop-y : goal.invariant-loop-y
invariant-loop-y l = (l.y ≤ l.fn.next) × ((k : ℕ) → l.y ≤ k → k < l.fn.next → Fits (op_code l.op) l.steps l.fn.i k → ⊥)

abbrev pub decreases-loop-y : goal.decreases-loop-y
decreases-loop-y l = l.y
