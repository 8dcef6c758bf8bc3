use Rattle.std.proofs.Common.{◌≡◌, ◌<◌, ℕ, Some, List, slice_get}
use Rattle.dl_ir.specs.declared.modules.OpDecl.{OpDecl}
use Rattle.dl_instr.specs.declared.steps.Step.{Step}
use Rattle.dl_instr.specs.Code.{op_code}
use Rattle.dl_instr.specs.Drops.{IsWithDrops}
use Rattle.dl_instr.proofs.matching.is_code_of.Given as goal

abbrev pub invariant-loop-i : goal.invariant-loop-i
invariant-loop-i l = (k : ℕ) (op : OpDecl) (steps : List Step) → k < l.i → slice_get l.ops k ≡ Some op → slice_get l.code.ops k ≡ Some steps → IsWithDrops op (op_code op) steps
