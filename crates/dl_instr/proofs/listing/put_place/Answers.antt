use Rattle.dl_text.proofs.WritingLemmas.{passes_both, passes_fails, puts_both, puts_fails, puts_more}
use Rattle.dl_instr.proofs.listing.put_place.Goals as goal

pub returns-in_err-put_local : goal.returns-in_err-put_local
returns-in_err-put_local g c = puts_more _ c.from_residual.ensures.0 (puts_fails _ c.from_residual.ensures.0 c.in_err-put_local.ensures)

pub returns-in_err-put : goal.returns-in_err-put
returns-in_err-put g c = puts_more _ c.from_residual-in_err-put.ensures.0 (passes_fails c.from_residual-in_err-put.ensures.0 c.in_ok-put_local.ensures.ok c.in_err-put.ensures)

pub returns : goal.returns
returns g c = puts_both (passes_both c.in_ok-put_local.ensures.ok c.in_ok-put.ensures.ok) c.put_field.ensures
