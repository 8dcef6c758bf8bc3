use Rattle.std.proofs.Common.{drop}
use Rattle.std.specs.List.{flat_map}
use Rattle.dl_history.specs.Report.{move_line}
use Rattle.dl_text.proofs.Loops.{PutSoFar}
use Rattle.dl_history.proofs.pool.put_moves.Given as goal

abbrev pub invariant-moves : goal.invariant-moves
invariant-moves g l = PutSoFar (g.K.Sink.taken l.initial.sink) (g.K.Sink.taken l.sink) l.initial.out l.out
    (flat_map move_line l.moves) (flat_map move_line (drop l.change-index l.moves))
