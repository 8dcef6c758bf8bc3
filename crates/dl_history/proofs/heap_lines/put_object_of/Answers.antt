use Rattle.dl_text.proofs.WritingLemmas.{passes_both, passes_fails, puts_both, puts_fails, puts_more}
use Rattle.dl_history.proofs.heap_lines.put_object_of.Goals as goal

pub returns-in_err-put_text : goal.returns-in_err-put_text
returns-in_err-put_text g c = puts_more _ c.from_residual.ensures.0 (puts_fails _ c.from_residual.ensures.0 c.in_err-put_text.ensures)

pub returns-in_err-put_seal : goal.returns-in_err-put_seal
returns-in_err-put_seal g c =
    let seal = rw (c.is_sealed.ensures) at c.in_err-put_seal.ensures in
    puts_more _ c.from_residual-in_err-put_seal.ensures.0 (passes_fails c.from_residual-in_err-put_seal.ensures.0 c.in_ok-put_text.ensures.ok seal)

pub returns : goal.returns
returns g c =
    let seal = rw (c.is_sealed.ensures) at c.in_ok-put_seal.ensures.ok in
    puts_both (passes_both c.in_ok-put_text.ensures.ok seal) c.put_object_fields.ensures
