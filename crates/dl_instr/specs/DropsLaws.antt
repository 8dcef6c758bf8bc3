-- Laws of the codes of a module.
use Rattle.std.specs.Prelude.{◌≡◌, ℕ, Some, List, slice_get}
use Rattle.dl_ir.specs.declared.modules.Module.{Module}
use Rattle.dl_instr.specs.declared.code.Code.{Code}
use Rattle.dl_instr.specs.declared.steps.Step.{Step}
use Rattle.dl_instr.specs.Code.{code}
use Rattle.dl_instr.specs.Drops.{IsCodeOf}
use Rattle.dl_instr.specs.Jumps.{JumpsLand}

-- the plain code of a module is a code of it
abbrev pub PlainIsCode : Type 0
PlainIsCode = (source : Module) → IsCodeOf source (code source)

-- in each code of a module each jump lands on a step of its operation
abbrev pub JumpsOfCodesLand : Type 0
JumpsOfCodesLand = (source : Module) (made : Code) → IsCodeOf source made → (i : ℕ) (steps : List Step) → slice_get made.ops i ≡ Some steps → JumpsLand steps
