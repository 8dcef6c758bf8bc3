use Rattle.dl_text.proofs.WritingLemmas.{passes_both, passes_fails, puts_both, puts_fails, puts_more}
use Rattle.dl_instr.proofs.conditions.put_refs.Goals as goal

pub returns-in_err-put_side : goal.returns-in_err-put_side
returns-in_err-put_side g c = puts_more _ c.from_residual.ensures.0 (puts_fails _ c.from_residual.ensures.0 c.in_err-put_side.ensures)

pub returns-in_err-put_same : goal.returns-in_err-put_same
returns-in_err-put_same g c = puts_more _ c.from_residual-in_err-put_same.ensures.0 (passes_fails c.from_residual-in_err-put_same.ensures.0 c.in_ok-put_side.ensures.ok c.in_err-put_same.ensures)

pub returns : goal.returns
returns g c = puts_both (passes_both c.in_ok-put_side.ensures.ok c.in_ok-put_same.ensures.ok) c.put_side-2.ensures
