use Rattle.dl_text.proofs.WritingLemmas.{passes_both, passes_fails, puts_both, puts_fails, puts_more}
use Rattle.dl_trace.proofs.lines.put_step_line.Goals as goal

pub returns-in_err-put_number : goal.returns-in_err-put_number
returns-in_err-put_number g c = puts_more _ c.from_residual.ensures.0 (puts_more _ c.from_residual.ensures.0 (puts_fails _ c.from_residual.ensures.0 c.in_err-put_number.ensures))

pub returns-in_err-put : goal.returns-in_err-put
returns-in_err-put g c = puts_more _ c.from_residual-in_err-put.ensures.0 (puts_more _ c.from_residual-in_err-put.ensures.0 (passes_fails c.from_residual-in_err-put.ensures.0 c.in_ok-put_number.ensures.ok c.in_err-put.ensures))

pub returns-in_err-put_progress : goal.returns-in_err-put_progress
returns-in_err-put_progress g c = puts_more _ c.from_residual-in_err-put_progress.ensures.0 (passes_fails c.from_residual-in_err-put_progress.ensures.0 (passes_both c.in_ok-put_number.ensures.ok c.in_ok-put.ensures.ok) c.in_err-put_progress.ensures)

pub returns : goal.returns
returns g c = puts_both (passes_both (passes_both c.in_ok-put_number.ensures.ok c.in_ok-put.ensures.ok) c.in_ok-put_progress.ensures.ok) c.put-2.ensures
