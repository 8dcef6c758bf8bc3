use Rattle.std.proofs.Common.{drop}
use Rattle.std.specs.List.{flat_map}
use Rattle.dl_print.specs.Canonical.{op_lines}
use Rattle.dl_print.proofs.Steps.{PutSoFar}
use Rattle.dl_print.proofs.declarations.put_ops.Given as goal

abbrev pub invariant-ops : goal.invariant-ops
invariant-ops g l =
    PutSoFar (g.K.Sink.taken l.initial.sink) (g.K.Sink.taken l.sink) l.initial.out l.out (flat_map op_lines l.ops) (flat_map op_lines (drop l.op-index l.ops))
