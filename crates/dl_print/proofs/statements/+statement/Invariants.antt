use Rattle.std.proofs.Common.{drop, map}
use Rattle.dl_print.specs.Canonical.{statement_lines, lines_at}
use Rattle.dl_print.specs.Levels.{depth}
use Rattle.dl_print.proofs.Steps.{PutSoFar}
use Rattle.dl_print.proofs.statements.+statement.Given as goal

abbrev pub invariant-put_statements-statements : goal.invariant-put_statements-statements
invariant-put_statements-statements g l =
    PutSoFar (g.K.Sink.taken l.initial.sink) (g.K.Sink.taken l.sink) l.initial.out l.out
    (lines_at (map statement_lines l.s-items) (depth l.level)) (lines_at (map statement_lines (drop l.s-index l.s-items)) (depth l.level))
