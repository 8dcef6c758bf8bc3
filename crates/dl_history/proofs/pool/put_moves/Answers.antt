use Rattle.dl_text.proofs.Loops.{put_fails, put_step, each_element}
use Rattle.dl_history.specs.Report.{move_line}
use Rattle.dl_history.proofs.pool.put_moves.Goals as goal

pub returns-in_err-put_move : goal.returns-in_err-put_move
returns-in_err-put_move g c =
    put_fails _ c.moves.invariant (each_element move_line c.args.moves.now c.moves.change-index _ c.moves-test.true) c.from_residual.ensures.0 c.in_err-put_move.ensures

pub moves-preserved : goal.moves-preserved
moves-preserved g c =
    put_step c.moves.invariant (each_element move_line c.args.moves.now c.moves.change-index _ c.moves-test.true) c.in_ok-put_move.ensures.ok
