-- Where the jumps of a code land.
use Rattle.std.specs.Prelude.{◌≡◌, ℕ, ◌<◌, Option, Some, None, List, length, slice_get, All}
use Rattle.dl_ir.specs.declared.modules.Module.{Module}
use Rattle.dl_instr.specs.declared.steps.Step.{Step}
use Rattle.dl_instr.specs.declared.steps.Step.TheVariants.{Test, Jump}
use Rattle.dl_instr.specs.Code.{code}

-- where a step's jump goes
abbrev pub jump_of : Step → Option ℕ
jump_of (Test c is_turn place) = Some place
jump_of (Jump place) = Some place
jump_of step = None

-- every jump of these steps lands on one of them
abbrev pub JumpsLand : List Step → Type 0
JumpsLand steps = (at place : ℕ) (step : Step) → slice_get steps at ≡ Some step → jump_of step ≡ Some place → place < length steps

-- every jump of the code of a module lands on a step of its operation
abbrev pub JumpsOfCodeLand : Type 0
JumpsOfCodeLand = (source : Module) → All JumpsLand (code source).ops
