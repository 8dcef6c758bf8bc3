use Rattle.dl_text.proofs.WritingLemmas.{puts_both, puts_fails}
use Rattle.dl_command.proofs.status.put_heap_fault.Goals as goal

pub returns-in_err-put : goal.returns-in_err-put
returns-in_err-put g c = puts_fails _ c.from_residual.ensures.0 c.in_err-put.ensures

pub returns : goal.returns
returns g c =
    let placed = rw c.heap_why_name.ensures at c.put_placed.ensures in
    puts_both c.in_ok-put.ensures.ok placed
