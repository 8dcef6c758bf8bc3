use Rattle.dl_text.proofs.WritingLemmas.{puts_both, passes_both, passes_fails, puts_fails, puts_more}
use Rattle.dl_command.proofs.status.put_numbered.Goals as goal

pub returns-in_err-put : goal.returns-in_err-put
returns-in_err-put g c = let e = c.from_residual.ensures.0 in puts_more _ e (puts_fails _ e c.in_err-put.ensures)

pub returns-in_err-put_number : goal.returns-in_err-put_number
returns-in_err-put_number g c =
    let e = c.from_residual-in_err-put_number.ensures.0 in
    puts_more _ e (passes_fails e c.in_ok-put.ensures.ok c.in_err-put_number.ensures)

pub returns : goal.returns
returns g c = puts_both (passes_both c.in_ok-put.ensures.ok c.in_ok-put_number.ensures.ok) c.put-2.ensures
