use Rattle.std.proofs.Common.{drop}
use Rattle.std.specs.List.{flat_map}
use Rattle.dl_print.specs.Canonical.{kind_line}
use Rattle.dl_print.proofs.Steps.{PutSoFar}
use Rattle.dl_print.proofs.declarations.put_kinds.Given as goal

abbrev pub invariant-kinds : goal.invariant-kinds
invariant-kinds g l =
    PutSoFar (g.K.Sink.taken l.initial.sink) (g.K.Sink.taken l.sink) l.initial.out l.out (flat_map kind_line l.kinds) (flat_map kind_line (drop l.kind-index l.kinds))
