use Rattle.dl_text.proofs.WritingLemmas.{puts_both, puts_fails}
use Rattle.dl_trace.proofs.lines.put_wait.Goals as goal

pub returns-in_err-put_word_lock : goal.returns-in_err-put_word_lock
returns-in_err-put_word_lock g c = puts_fails _ c.from_residual.ensures.0 c.in_err-put_word_lock.ensures

pub returns : goal.returns
returns g c = puts_both c.in_ok-put_word_lock.ensures.ok c.put_word_number.ensures
