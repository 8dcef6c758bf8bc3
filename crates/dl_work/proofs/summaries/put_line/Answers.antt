use Rattle.dl_text.proofs.WritingLemmas.{passes_both, passes_fails, puts_both, puts_fails, puts_more}
use Rattle.dl_work.proofs.summaries.put_line.Goals as goal

pub returns-in_err-put : goal.returns-in_err-put
returns-in_err-put g c = puts_more _ c.from_residual.ensures.0 (puts_fails _ c.from_residual.ensures.0 c.in_err-put.ensures)

pub returns-in_err-put_number : goal.returns-in_err-put_number
returns-in_err-put_number g c = puts_more _ c.from_residual-in_err-put_number.ensures.0 (passes_fails c.from_residual-in_err-put_number.ensures.0 c.in_ok-put.ensures.ok c.in_err-put_number.ensures)

pub returns : goal.returns
returns g c = puts_both (passes_both c.in_ok-put.ensures.ok c.in_ok-put_number.ensures.ok) c.put-2.ensures
