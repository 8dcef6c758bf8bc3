use Rattle.dl_text.proofs.WritingLemmas.{passes_both, passes_fails, puts_both, puts_fails, puts_more}
use Rattle.dl_instr.proofs.listing.put_test.Goals as goal

pub returns-in_err-put_test_word : goal.returns-in_err-put_test_word
returns-in_err-put_test_word g c = puts_more _ c.from_residual.ensures.0 (puts_more _ c.from_residual.ensures.0 (puts_fails _ c.from_residual.ensures.0 c.in_err-put_test_word.ensures))

pub returns-in_err-put_cond : goal.returns-in_err-put_cond
returns-in_err-put_cond g c = puts_more _ c.from_residual-in_err-put_cond.ensures.0 (puts_more _ c.from_residual-in_err-put_cond.ensures.0 (passes_fails c.from_residual-in_err-put_cond.ensures.0 c.in_ok-put_test_word.ensures.ok c.in_err-put_cond.ensures))

pub returns-in_err-put : goal.returns-in_err-put
returns-in_err-put g c = puts_more _ c.from_residual-in_err-put.ensures.0 (passes_fails c.from_residual-in_err-put.ensures.0 (passes_both c.in_ok-put_test_word.ensures.ok c.in_ok-put_cond.ensures.ok) c.in_err-put.ensures)

pub returns : goal.returns
returns g c = puts_both (passes_both (passes_both c.in_ok-put_test_word.ensures.ok c.in_ok-put_cond.ensures.ok) c.in_ok-put.ensures.ok) c.put_number.ensures
