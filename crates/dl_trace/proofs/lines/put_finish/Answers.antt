use Rattle.dl_text.proofs.WritingLemmas.{puts_both, puts_fails}
use Rattle.dl_trace.proofs.lines.put_finish.Goals as goal

pub returns-in_err-put_word_number : goal.returns-in_err-put_word_number
returns-in_err-put_word_number g c = puts_fails _ c.from_residual.ensures.0 c.in_err-put_word_number.ensures

pub returns : goal.returns
returns g c = puts_both c.in_ok-put_word_number.ensures.ok c.put_spaced_answer.ensures
