use Rattle.std.proofs.Common.{rules}
use Rattle.dl_text.proofs.WritingLemmas.{passes_both, passes_fails, puts_both, puts_fails, puts_more}
use Rattle.dl_instr.proofs.listing.print_code.Goals as goal

pub returns-in_err-put : goal.returns-in_err-put
returns-in_err-put g c =
    let e = c.from_residual.ensures.0 in
    let q = c.in_err-put.ensures in
    search (rules, puts_fails, puts_more)

pub returns-in_err-put_all_ops : goal.returns-in_err-put_all_ops
returns-in_err-put_all_ops g c = puts_more _ c.from_residual-in_err-put_all_ops.ensures.0 (passes_fails c.from_residual-in_err-put_all_ops.ensures.0 c.in_ok-put.ensures.ok c.in_err-put_all_ops.ensures)

pub returns : goal.returns
returns g c = puts_both (passes_both c.in_ok-put.ensures.ok c.in_ok-put_all_ops.ensures.ok) c.put-2.ensures
