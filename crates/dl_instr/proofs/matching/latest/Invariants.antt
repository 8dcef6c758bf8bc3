use Rattle.std.proofs.Common.{◌≤◌, length}
use Rattle.dl_instr.specs.Code.{op_code}
use Rattle.dl_instr.specs.Matching.{IsLate}
use Rattle.dl_instr.proofs.matching.latest.Given as goal

abbrev pub invariant-loop-d : goal.invariant-loop-d
invariant-loop-d l = IsLate (op_code l.op) l.steps l.d l.next × (l.next ≤ length l.steps)
