use Rattle.std.proofs.Common.{◌≡◌, ◌<◌, ℕ, Some, slice_get}
use Rattle.dl_instr.specs.declared.steps.Step.{Step}
use Rattle.dl_instr.specs.Jumps.{jump_of}
use Rattle.dl_instr.proofs.matching.is_target.Given as goal

abbrev pub invariant-loop-step : goal.invariant-loop-step
invariant-loop-step l = (k : ℕ) (s : Step) → k < l.step-index → slice_get l.steps k ≡ Some s → jump_of s ≡ Some l.place → ⊥
