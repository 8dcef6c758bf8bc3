use Rattle.dl_text.proofs.WritingLemmas.{puts_both, puts_fails}
use Rattle.dl_history.proofs.operations.put_call.Goals as goal

pub returns-in_err-put_op : goal.returns-in_err-put_op
returns-in_err-put_op g c = puts_fails _ c.from_residual.ensures.0 c.in_err-put_op.ensures

pub returns : goal.returns
returns g c = puts_both c.in_ok-put_op.ensures.ok c.put_call_arguments.ensures
