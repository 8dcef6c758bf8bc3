use Rattle.std.proofs.Common.{◌≡◌, ◌++◌, ◌+◌, ◌≤◌, ℤ, drop, map, length}
use Rattle.std.specs.List.{zip}
use Rattle.dl_ir.specs.declared.modules.LocalDecl.{LocalDecl}
use Rattle.dl_shape.specs.Operation.{argument_value}
use Rattle.dl_core.specs.Arguments.{AllHeld}
use Rattle.dl_core.proofs.calls.give_arguments.Given as goal

abbrev pub invariant-loop-at : goal.invariant-loop-at
invariant-loop-at l = record {
  held : AllHeld (drop l.at l.params) (drop l.at l.args);
  room : l.locals.room ≡ l.initial.locals.room;
  few : length l.locals.items + length (drop l.at l.params) ≤ l.locals.room;
  items : l.locals.items ++ map (λ (given : LocalDecl × ℤ). argument_value given.0.ty given.1) (zip (drop l.at l.params) (drop l.at l.args))
      ≡ l.initial.locals.items ++ map (λ (given : LocalDecl × ℤ). argument_value given.0.ty given.1) (zip l.params l.args);
}
