-- The step that a plain step is shown as while its expressions lie in the module.
use Rattle.std.specs.Prelude.{pos}
use Rattle.dl_ir.specs.declared.expressions.Expr.TheVariants.{Num}
use Rattle.dl_instr.specs.declared.plain.PlainStep.{PlainStep}
use Rattle.dl_instr.specs.declared.plain.PlainStep.TheVariants as plain
use Rattle.dl_instr.specs.declared.steps.Step.{Step}
use Rattle.dl_instr.specs.declared.steps.Step.TheVariants.{Read, Want, Set, Drop, Make, Eval, Write, Emit, Test, Jump, Give}

-- a plain step as a step of code
abbrev pub shown : PlainStep → Step
shown (plain.Read local field) = Read local field
shown plain.Want = Want
shown (plain.Set local from) = Set local from
shown (plain.Drop local) = Drop local
shown (plain.Make kind) = Make kind
shown (plain.Eval value) = Eval value.now
shown (plain.Write local field content) = Write local field content
shown plain.Emit = Emit
shown (plain.Test cond is_turn place) = Test cond.now is_turn place
shown (plain.Jump place) = Jump place
shown (plain.Give value) = Give value.now
shown plain.GiveZero = Give (Num (pos 0))
