use Rattle.std.proofs.Common.{◌+◌, drop}
use Rattle.dl_history.specs.Histories.{joined}
use Rattle.dl_history.specs.Report.{answer_lines}
use Rattle.dl_text.specs.Lists.{each_from}
use Rattle.dl_text.proofs.Loops.{PutSoFar}
use Rattle.dl_history.proofs.operations.put_all_answer_lines.Given as goal

abbrev pub invariant-callers : goal.invariant-callers
invariant-callers g l = PutSoFar (g.K.Sink.taken l.initial.sink) (g.K.Sink.taken l.sink) l.initial.out l.out
    (each_from (answer_lines l.history.entries (joined l.refusals)) 1 l.files)
    (each_from (answer_lines l.history.entries (joined l.refusals)) (l.i + 1) (drop l.i l.files))
