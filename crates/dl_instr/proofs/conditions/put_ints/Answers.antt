use Rattle.dl_text.proofs.WritingLemmas.{passes_both, passes_fails, puts_both, puts_fails, puts_more}
use Rattle.dl_instr.proofs.conditions.put_ints.Goals as goal

pub returns-in_err-put_expr : goal.returns-in_err-put_expr
returns-in_err-put_expr g c = puts_more _ c.from_residual.ensures.0 (puts_fails _ c.from_residual.ensures.0 c.in_err-put_expr.ensures)

pub returns-in_err-put_rel : goal.returns-in_err-put_rel
returns-in_err-put_rel g c = puts_more _ c.from_residual-in_err-put_rel.ensures.0 (passes_fails c.from_residual-in_err-put_rel.ensures.0 c.in_ok-put_expr.ensures.ok c.in_err-put_rel.ensures)

pub returns : goal.returns
returns g c = puts_both (passes_both c.in_ok-put_expr.ensures.ok c.in_ok-put_rel.ensures.ok) c.put_expr-2.ensures
