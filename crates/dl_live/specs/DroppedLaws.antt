-- Laws of code with early drops.
use Rattle.std.specs.Prelude.{◌≡◌}
use Rattle.dl_ir.specs.declared.modules.Module.{Module}
use Rattle.dl_instr.specs.declared.code.Code.{Code}
use Rattle.dl_instr.specs.Drops.{IsCodeOf}
use Rattle.dl_live.specs.Dropped.{IsDroppedCode}

-- a code of a module with early drops is a code of the module
abbrev pub DroppedIsCode : Type 0
DroppedIsCode = (source : Module) (code made : Code) → IsCodeOf source code → IsDroppedCode source code made → IsCodeOf source made

-- there is one code with early drops at most
abbrev pub DroppedIsOne : Type 0
DroppedIsOne = (source : Module) (code made other : Code) → IsCodeOf source code → IsDroppedCode source code made → IsDroppedCode source code other → made ≡ other
