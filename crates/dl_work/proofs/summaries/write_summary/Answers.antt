use Rattle.dl_text.proofs.WritingLemmas.{passes_both, passes_fails, puts_both, puts_fails, puts_more}
use Rattle.dl_ir.specs.Heap.{hidden_count}
use Rattle.dl_history.specs.Histories.{joined}
use Rattle.dl_work.specs.Summary.{history_part, rest_part}
use Rattle.dl_work.proofs.summaries.write_summary.Goals as goal

pub returns-in_err-put_asked : goal.returns-in_err-put_asked
returns-in_err-put_asked g c =
    let e = c.from_residual.ensures.0 in
    puts_more (rest_part c.args.figures.now (hidden_count c.args.closed.now.heap.objects)) e
    (puts_fails (history_part c.args.history.now.entries (joined c.args.closed.now.refusals)) e c.in_err-put_asked.ensures)

pub returns-in_err-put_history : goal.returns-in_err-put_history
returns-in_err-put_history g c =
    let e = c.from_residual-in_err-put_history.ensures.0 in
    rw (← c.entries.ensures, ← c.as_slice.ensures)
    (puts_more (rest_part c.args.figures.now (hidden_count c.args.closed.now.heap.objects)) e
    (passes_fails e c.in_ok-put_asked.ensures.ok c.in_err-put_history.ensures))

pub returns : goal.returns
returns g c = rw (← c.entries.ensures, ← c.as_slice.ensures, ← c.hidden_len.ensures)
    (puts_both (passes_both c.in_ok-put_asked.ensures.ok c.in_ok-put_history.ensures.ok) c.put_rest.ensures)
