use Rattle.std.proofs.Common.{◌≡◌, ℕ, ◌+◌, ◌<◌}
use Rattle.dl_core.specs.declared.stages.Stage.TheVariants as stages
use Rattle.dl_core.specs.Core.{frame_of}
use Rattle.dl_core_tests.proofs.runs.are_idle.Given as goal

abbrev pub invariant-callers : goal.invariant-callers
invariant-callers l = (place : ℕ) → place < l.place → (frame_of l.core.state.world (place + 1)).stage ≡ stages.Idle
