use Rattle.dl_text.proofs.Loops.{put_fails, put_step, each_element}
use Rattle.dl_history.specs.Report.{argument_text}
use Rattle.dl_history.proofs.pieces.put_arguments.Goals as goal

pub returns-in_err-put_argument : goal.returns-in_err-put_argument
returns-in_err-put_argument g c =
    put_fails _ c.arguments.invariant (each_element argument_text c.args.arguments.now c.arguments.i _ c.arguments-test.true) c.from_residual.ensures.0 c.in_err-put_argument.ensures

pub arguments-preserved : goal.arguments-preserved
arguments-preserved g c =
    put_step c.arguments.invariant (each_element argument_text c.args.arguments.now c.arguments.i _ c.arguments-test.true) c.in_ok-put_argument.ensures.ok
