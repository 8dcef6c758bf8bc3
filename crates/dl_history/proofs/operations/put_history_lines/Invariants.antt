use Rattle.std.proofs.Common.{drop}
use Rattle.std.specs.List.{flat_map}
use Rattle.dl_history.specs.Report.{history_line}
use Rattle.dl_text.proofs.Loops.{PutSoFar}
use Rattle.dl_history.proofs.operations.put_history_lines.Given as goal

abbrev pub invariant-entries : goal.invariant-entries
invariant-entries g l = PutSoFar (g.K.Sink.taken l.initial.sink) (g.K.Sink.taken l.sink) l.initial.out l.out
    (flat_map (history_line l.source l.files) l.entries) (flat_map (history_line l.source l.files) (drop l.i l.entries))
