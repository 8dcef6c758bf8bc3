use Rattle.dl_text.proofs.WritingLemmas.{passes_both, passes_fails, puts_both, puts_fails, puts_more}
use Rattle.dl_history.proofs.heap_lines.put_object_line.Goals as goal

pub returns-in_err-put_name : goal.returns-in_err-put_name
returns-in_err-put_name g c = puts_more _ c.from_residual.ensures.0 (puts_more _ c.from_residual.ensures.0 (puts_fails _ c.from_residual.ensures.0 c.in_err-put_name.ensures))

pub returns-in_err-put : goal.returns-in_err-put
returns-in_err-put g c = puts_more _ c.from_residual-in_err-put.ensures.0 (puts_more _ c.from_residual-in_err-put.ensures.0 (passes_fails c.from_residual-in_err-put.ensures.0 c.in_ok-put_name.ensures.ok c.in_err-put.ensures))

pub returns-in_err-put_object : goal.returns-in_err-put_object
returns-in_err-put_object g c = puts_more _ c.from_residual-in_err-put_object.ensures.0 (passes_fails c.from_residual-in_err-put_object.ensures.0 (passes_both c.in_ok-put_name.ensures.ok c.in_ok-put.ensures.ok) c.in_err-put_object.ensures)

pub returns : goal.returns
returns g c = puts_both (passes_both (passes_both c.in_ok-put_name.ensures.ok c.in_ok-put.ensures.ok) c.in_ok-put_object.ensures.ok) c.put-2.ensures
