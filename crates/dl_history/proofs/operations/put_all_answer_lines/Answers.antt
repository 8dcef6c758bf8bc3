use Rattle.std.proofs.Common.{◌+◌}
use Rattle.dl_text.proofs.Loops.{put_fails, put_step, numbered_at}
use Rattle.dl_history.proofs.Walk.{covers_caller}
use Rattle.dl_history.specs.Histories.{joined}
use Rattle.dl_history.specs.Report.{answer_lines}
use Rattle.dl_history.proofs.operations.put_all_answer_lines.Goals as goal

pub put_answer_lines-requires-clause-covers : goal.put_answer_lines-requires-clause-covers
put_answer_lines-requires-clause-covers g c =
    covers_caller c.args.files.now c.args.history.now.entries (joined c.args.refusals.now) c.requires.covers c.callers.i c.index-files-i.result c.callers-test.true c.index-files-i.is

pub returns-in_err-put_answer_lines : goal.returns-in_err-put_answer_lines
returns-in_err-put_answer_lines g c =
    put_fails _ c.callers.invariant (numbered_at (answer_lines c.args.history.now.entries (joined c.args.refusals.now)) (c.callers.i + 1) c.args.files.now c.callers.i c.index-files-i.result c.callers-test.true c.index-files-i.is) c.from_residual.ensures.0 c.in_err-put_answer_lines.ensures

pub callers-preserved : goal.callers-preserved
callers-preserved g c =
    put_step c.callers.invariant (numbered_at (answer_lines c.args.history.now.entries (joined c.args.refusals.now)) (c.callers.i + 1) c.args.files.now c.callers.i c.index-files-i.result c.callers-test.true c.index-files-i.is) c.in_ok-put_answer_lines.ensures.ok
