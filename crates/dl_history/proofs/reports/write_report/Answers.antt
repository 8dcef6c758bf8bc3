use Rattle.std.proofs.Common.{◌∙◌}
use Rattle.dl_text.proofs.WritingLemmas.{puts_both, puts_fails}
use Rattle.dl_history.specs.Histories.{joined}
use Rattle.dl_history.specs.Report.{operations_part}
use Rattle.dl_history.proofs.Moved.{with_moves}
use Rattle.dl_history.proofs.reports.write_report.Goals as goal

pub returns-in_err-put_operations : goal.returns-in_err-put_operations
returns-in_err-put_operations g c = rw (← c.as_slice.ensures) (puts_fails _ c.from_residual.ensures.0 c.in_err-put_operations.ensures)

pub returns : goal.returns
returns g c =
    rw (← c.as_slice.ensures) (with_moves _ _ _ _ _ (operations_part c.args.source.now c.args.files.now c.args.history.now.entries (joined c.as_slice.result.now)) c.args.source.now _ _ c.args.closed.now.heap.objects (c.moves.ensures ∙ c.requires.moves) (puts_both c.in_ok-put_operations.ensures.ok c.put_state.ensures))
