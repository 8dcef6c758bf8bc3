use Rattle.std.proofs.Common.{rules}
use Rattle.dl_text.proofs.WritingLemmas.{passes_both, passes_fails, puts_both, puts_fails, puts_more}
use Rattle.dl_instr.proofs.listing.put_op_lines.Goals as goal

pub returns-in_err-put : goal.returns-in_err-put
returns-in_err-put g c =
    let e = c.from_residual.ensures.0 in
    let q = c.in_err-put.ensures in
    search (rules, puts_fails, puts_more)

pub returns-in_err-put_text : goal.returns-in_err-put_text
returns-in_err-put_text g c = puts_more _ c.from_residual-in_err-put_text.ensures.0 (puts_more _ c.from_residual-in_err-put_text.ensures.0 (passes_fails c.from_residual-in_err-put_text.ensures.0 c.in_ok-put.ensures.ok c.in_err-put_text.ensures))

pub returns-in_err-put-2 : goal.returns-in_err-put-2
returns-in_err-put-2 g c = puts_more _ c.from_residual-in_err-put-2.ensures.0 (passes_fails c.from_residual-in_err-put-2.ensures.0 (passes_both c.in_ok-put.ensures.ok c.in_ok-put_text.ensures.ok) c.in_err-put-2.ensures)

pub returns : goal.returns
returns g c = puts_both (passes_both (passes_both c.in_ok-put.ensures.ok c.in_ok-put_text.ensures.ok) c.in_ok-put-2.ensures.ok) c.put_lines.ensures
