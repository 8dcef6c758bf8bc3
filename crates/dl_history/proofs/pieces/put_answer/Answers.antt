use Rattle.dl_text.proofs.WritingLemmas.{passes_both, passes_fails, puts_both, puts_fails, puts_more}
use Rattle.dl_history.proofs.pieces.put_answer.Goals as goal

pub returns-in_err-put_end : goal.returns-in_err-put_end
returns-in_err-put_end g c = puts_more _ c.from_residual.ensures.0 (puts_fails _ c.from_residual.ensures.0 c.in_err-put_end.ensures)

pub returns-in_err-put_breach : goal.returns-in_err-put_breach
returns-in_err-put_breach g c = puts_more _ c.from_residual-in_err-put_breach.ensures.0 (passes_fails c.from_residual-in_err-put_breach.ensures.0 c.in_ok-put_end.ensures.ok c.in_err-put_breach.ensures)

pub returns : goal.returns
returns g c = puts_both (passes_both c.in_ok-put_end.ensures.ok c.in_ok-put_breach.ensures.ok) c.put_emitted.ensures
