use Rattle.dl_instr.specs.Matching.{AllAdded}
use Rattle.dl_instr.proofs.matching.all_added.Given as goal

abbrev pub invariant-loop-at : goal.invariant-loop-at
invariant-loop-at l = AllAdded l.op l.steps l.fn.from l.at
