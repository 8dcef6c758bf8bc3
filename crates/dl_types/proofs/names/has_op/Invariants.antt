use Rattle.std.proofs.Common.{◌≡◌, drop}
use Rattle.dl_types.specs.Names.{has_op}
use Rattle.dl_types.proofs.names.has_op.Given as goal

abbrev pub invariant-loop-op : goal.invariant-loop-op
invariant-loop-op l = has_op (drop l.op-index l.ops) l.name ≡ has_op l.ops l.name
