use Rattle.dl_instr.specs.Listing.{op_listing}
use Rattle.dl_text.proofs.Loops.{put_fails, put_step, numbered_at}
use Rattle.dl_instr.proofs.listing.put_ops.Goals as goal

pub returns-in_err-put_op : goal.returns-in_err-put_op
returns-in_err-put_op g c =
    put_fails _ c.ops.invariant (numbered_at (op_listing c.args.source.now) c.ops.number c.args.ops.now c.ops.number c.index-ops-number.result c.ops-test.true c.index-ops-number.is)
    c.from_residual.ensures.0 c.in_err-put_op.ensures

pub ops-preserved : goal.ops-preserved
ops-preserved g c =
    put_step c.ops.invariant (numbered_at (op_listing c.args.source.now) c.ops.number c.args.ops.now c.ops.number c.index-ops-number.result c.ops-test.true c.index-ops-number.is)
    c.in_ok-put_op.ensures.ok
