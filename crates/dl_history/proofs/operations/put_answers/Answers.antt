use Rattle.dl_text.proofs.WritingLemmas.{puts_both, puts_fails}
use Rattle.dl_history.proofs.operations.put_answers.Goals as goal

pub returns-in_err-put_head : goal.returns-in_err-put_head
returns-in_err-put_head g c = rw (← c.count_calls.ensures) (puts_fails _ c.from_residual.ensures.0 c.in_err-put_head.ensures)

pub returns : goal.returns
returns g c = rw (← c.count_calls.ensures) (puts_both c.in_ok-put_head.ensures.ok c.put_all_answer_lines.ensures)
