use Rattle.dl_text.proofs.WritingLemmas.{passes_both, passes_fails, puts_both, puts_fails, puts_more}
use Rattle.dl_history.specs.Histories.{joined}
use Rattle.dl_work.specs.Summary.{refused_line, sum_line}
use Rattle.dl_work.proofs.summaries.put_history.Goals as goal

pub returns-in_err-put_line : goal.returns-in_err-put_line
returns-in_err-put_line g c =
    let e = c.from_residual.ensures.0 in
    puts_more (sum_line c.args.entries.now) e (puts_fails (refused_line (joined c.args.refusals.now)) e c.in_err-put_line.ensures)

pub returns-in_err-put_refused : goal.returns-in_err-put_refused
returns-in_err-put_refused g c =
    let e = c.from_residual-in_err-put_refused.ensures.0 in
    puts_more (sum_line c.args.entries.now) e (passes_fails e c.in_ok-put_line.ensures.ok c.in_err-put_refused.ensures)

pub returns : goal.returns
returns g c = puts_both (passes_both c.in_ok-put_line.ensures.ok c.in_ok-put_refused.ensures.ok) c.put_sum.ensures
