use Rattle.dl_text.proofs.Loops.{put_fails, put_step}
use Rattle.dl_history.specs.Report.{history_line}
use Rattle.dl_history.proofs.Moved.{element_at}
use Rattle.dl_history.proofs.operations.put_history_lines.Goals as goal

pub returns-in_err-put_history_line : goal.returns-in_err-put_history_line
returns-in_err-put_history_line g c =
    put_fails _ c.entries.invariant (element_at (history_line c.args.source.now c.args.files.now) c.args.entries.now c.entries.i c.index-entries-i.result c.entries-test.true c.index-entries-i.is) c.from_residual.ensures.0 c.in_err-put_history_line.ensures

pub entries-preserved : goal.entries-preserved
entries-preserved g c =
    put_step c.entries.invariant (element_at (history_line c.args.source.now c.args.files.now) c.args.entries.now c.entries.i c.index-entries-i.result c.entries-test.true c.index-entries-i.is) c.in_ok-put_history_line.ensures.ok
