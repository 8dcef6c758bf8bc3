use Rattle.std.proofs.Common.{◌≡◌, ◌++◌, ℤ, drop, map}
use Rattle.std.specs.List.{zip}
use Rattle.dl_ir.specs.declared.modules.LocalDecl.{LocalDecl}
use Rattle.dl_shape.specs.Operation.{argument_value}
use Rattle.dl_serial.specs.Arguments.{AllHeld}
use Rattle.dl_serial.proofs.operations.arguments_given.Given as goal

abbrev pub invariant-loop-at : goal.invariant-loop-at
invariant-loop-at l = record {
  held : AllHeld (drop l.at l.params) (drop l.at l.args);
  items : l.locals.items ++ map (λ (given : LocalDecl × ℤ). argument_value given.0.ty given.1) (zip (drop l.at l.params) (drop l.at l.args))
      ≡ map (λ (given : LocalDecl × ℤ). argument_value given.0.ty given.1) (zip l.params l.args);
}
