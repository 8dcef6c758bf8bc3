use Rattle.std.proofs.Common.{◌≡◌, drop, map}
use Rattle.dl_types.specs.Checks.{each}
use Rattle.dl_types.specs.Statements.{Typed, stmt_typed, block_typed}
use Rattle.dl_types.proofs.operands.Scope.+statements.Given as goal

abbrev pub invariant-block_typed-loop-s : goal.invariant-block_typed-loop-s
invariant-block_typed-loop-s l =
    each (λ before (one : Typed). one) l.typed (map (stmt_typed l.self.kinds.now l.self.params.now l.self.vars.now) (drop l.s-index l.s-items))
    ≡ block_typed l.self.kinds.now l.self.params.now l.self.vars.now l.fn.block
