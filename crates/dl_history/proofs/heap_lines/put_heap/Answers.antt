use Rattle.std.specs.FinMap.{len-entries}
use Rattle.dl_text.proofs.WritingLemmas.{passes_both, passes_fails, puts_both, puts_fails, puts_more}
use Rattle.dl_history.proofs.heap_lines.put_heap.Goals as goal

pub returns-in_err-put_heap_head : goal.returns-in_err-put_heap_head
returns-in_err-put_heap_head g c =
    let head = rw (c.len.ensures, len-entries c.args.heap.now.objects, c.hidden_len.ensures) at c.in_err-put_heap_head.ensures in
    puts_more _ c.from_residual.ensures.0 (puts_fails _ c.from_residual.ensures.0 head)

pub returns-in_err-put : goal.returns-in_err-put
returns-in_err-put g c =
    let head = rw (c.len.ensures, len-entries c.args.heap.now.objects, c.hidden_len.ensures) at c.in_ok-put_heap_head.ensures.ok in
    puts_more _ c.from_residual-in_err-put.ensures.0 (passes_fails c.from_residual-in_err-put.ensures.0 head c.in_err-put.ensures)

pub returns : goal.returns
returns g c =
    let head = rw (c.len.ensures, len-entries c.args.heap.now.objects, c.hidden_len.ensures) at c.in_ok-put_heap_head.ensures.ok in
    puts_both (passes_both head c.in_ok-put.ensures.ok) c.put_object_lines.ensures
