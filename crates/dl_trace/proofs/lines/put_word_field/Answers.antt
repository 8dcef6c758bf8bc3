use Rattle.dl_text.proofs.WritingLemmas.{puts_both, puts_fails}
use Rattle.dl_trace.proofs.lines.put_word_field.Goals as goal

pub returns-in_err-put_word_name : goal.returns-in_err-put_word_name
returns-in_err-put_word_name g c = puts_fails _ c.from_residual.ensures.0 c.in_err-put_word_name.ensures

pub returns : goal.returns
returns g c = puts_both c.in_ok-put_word_name.ensures.ok c.put_field.ensures
