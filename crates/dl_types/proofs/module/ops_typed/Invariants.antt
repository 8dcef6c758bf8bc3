use Rattle.std.proofs.Common.{◌≡◌, drop, []}
use Rattle.std.specs.List.{AllByRecursion}
use Rattle.dl_types.specs.Checks.{each}
use Rattle.dl_grammar.specs.Limits.{IsOpInLimits}
use Rattle.dl_types.specs.Typing.{op_typed}
use Rattle.dl_types.proofs.module.ops_typed.Given as goal

abbrev pub invariant-loop-op : goal.invariant-loop-op
invariant-loop-op l = record {
  in_limits : AllByRecursion IsOpInLimits (drop l.op-index l.ops);
  left : each (op_typed l.kinds) l.typed (drop l.op-index l.ops) ≡ each (op_typed l.kinds) [] l.ops;
}
