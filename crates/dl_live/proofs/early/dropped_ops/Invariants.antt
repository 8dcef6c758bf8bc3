use Rattle.std.proofs.Common.{◌≡◌, ℕ, Some, List, length, slice_get}
use Rattle.dl_ir.specs.declared.modules.OpDecl.{OpDecl}
use Rattle.dl_instr.specs.declared.steps.Step.{Step}
use Rattle.dl_live.specs.Dropped.{IsDropped}
use Rattle.dl_live.proofs.early.dropped_ops.Given as goal

abbrev pub invariant-loop-i : goal.invariant-loop-i
invariant-loop-i l = (length l.made ≡ l.i) × ((k : ℕ) (op : OpDecl) (steps others : List Step) → slice_get l.source.ops k ≡ Some op → slice_get l.code.ops k ≡ Some steps
    → slice_get l.made k ≡ Some others → IsDropped op steps others)
