use Rattle.std.proofs.Common.{◌≡◌, ◌++◌, drop, map}
use Rattle.dl_ir.specs.declared.modules.LocalDecl.{LocalDecl}
use Rattle.dl_ir.specs.Heap.{blank}
use Rattle.dl_shape.specs.Operation.{first_locals}
use Rattle.dl_serial.proofs.operations.first_locals.Given as goal

abbrev pub invariant-loop-var : goal.invariant-loop-var
invariant-loop-var l = l.locals.items ++ map (λ (var : LocalDecl). blank var.ty) (drop l.var-index l.var-items) ≡ first_locals l.op l.args
