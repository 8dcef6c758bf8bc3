use Rattle.dl_text.proofs.WritingLemmas.{passes_both, passes_fails, puts_both, puts_fails, puts_more}
use Rattle.dl_history.proofs.reports.put_state.Goals as goal

pub returns-in_err-put_pool : goal.returns-in_err-put_pool
returns-in_err-put_pool g c = puts_more _ c.from_residual.ensures.0 (puts_fails _ c.from_residual.ensures.0 c.in_err-put_pool.ensures)

pub returns-in_err-put_heap : goal.returns-in_err-put_heap
returns-in_err-put_heap g c = puts_more _ c.from_residual-in_err-put_heap.ensures.0 (passes_fails c.from_residual-in_err-put_heap.ensures.0 c.in_ok-put_pool.ensures.ok c.in_err-put_heap.ensures)

pub returns : goal.returns
returns g c = puts_both (passes_both c.in_ok-put_pool.ensures.ok c.in_ok-put_heap.ensures.ok) c.put.ensures
