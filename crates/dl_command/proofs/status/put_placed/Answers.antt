use Rattle.dl_text.proofs.WritingLemmas.{puts_both, passes_both, passes_fails, puts_fails, puts_more}
use Rattle.dl_command.proofs.status.put_placed.Goals as goal

pub returns-in_err-put_numbered : goal.returns-in_err-put_numbered
returns-in_err-put_numbered g c = let e = c.from_residual.ensures.0 in puts_more _ e (puts_fails _ e c.in_err-put_numbered.ensures)

pub returns-in_err-put : goal.returns-in_err-put
returns-in_err-put g c =
    let e = c.from_residual-in_err-put.ensures.0 in
    let failed = rw c.as_bytes.ensures.value at c.in_err-put.ensures in
    puts_more _ e (passes_fails e c.in_ok-put_numbered.ensures.ok failed)

pub returns : goal.returns
returns g c =
    let named = rw c.as_bytes.ensures.value at c.in_ok-put.ensures.ok in
    puts_both (passes_both c.in_ok-put_numbered.ensures.ok named) c.put-2.ensures
