use Rattle.dl_instr.specs.Listing.{step_line}
use Rattle.dl_text.proofs.Loops.{put_fails, put_step, numbered_at}
use Rattle.dl_instr.proofs.listing.put_lines.Goals as goal

pub returns-in_err-put_line : goal.returns-in_err-put_line
returns-in_err-put_line g c =
    put_fails _ c.lines.invariant (numbered_at (step_line c.args.source.now c.args.op.now) c.lines.number c.args.steps.now c.lines.number c.index-steps-number.result c.lines-test.true c.index-steps-number.is)
    c.from_residual.ensures.0 c.in_err-put_line.ensures

pub lines-preserved : goal.lines-preserved
lines-preserved g c =
    put_step c.lines.invariant (numbered_at (step_line c.args.source.now c.args.op.now) c.lines.number c.args.steps.now c.lines.number c.index-steps-number.result c.lines-test.true c.index-steps-number.is)
    c.in_ok-put_line.ensures.ok
