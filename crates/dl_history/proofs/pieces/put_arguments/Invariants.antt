use Rattle.std.proofs.Common.{drop}
use Rattle.std.specs.List.{flat_map}
use Rattle.dl_history.specs.Report.{argument_text}
use Rattle.dl_text.proofs.Loops.{PutSoFar}
use Rattle.dl_history.proofs.pieces.put_arguments.Given as goal

abbrev pub invariant-arguments : goal.invariant-arguments
invariant-arguments g l = PutSoFar (g.K.Sink.taken l.initial.sink) (g.K.Sink.taken l.sink) l.initial.out l.out
    (flat_map argument_text l.arguments) (flat_map argument_text (drop l.i l.arguments))
