use Rattle.std.proofs.Common.{◌+◌, drop}
use Rattle.std.specs.List.{flat_map}
use Rattle.dl_print.specs.Canonical.{op_lines}
use Rattle.dl_print.proofs.Steps.{put_start, put_fails, put_step, each_at}
use Rattle.dl_print.proofs.declarations.put_ops.Goals as goal

pub ops-init : goal.ops-init
ops-init g c = put_start _ _ _ c.requires

pub returns-in_err-put_op : goal.returns-in_err-put_op
returns-in_err-put_op g c =
    put_fails (op_lines c.op-item.result) (flat_map op_lines (drop (c.ops.op-index + 1) c.args.ops.now)) c.ops.invariant
    (each_at op_lines c.args.ops.now c.ops.op-index c.op-item.result c.ops-test.true c.op-item.is) c.from_residual.ensures.0 c.in_err-put_op.ensures

pub ops-preserved : goal.ops-preserved
ops-preserved g c =
    put_step (op_lines c.op-item.result) (flat_map op_lines (drop (c.ops.op-index + 1) c.args.ops.now)) c.ops.invariant
    (each_at op_lines c.args.ops.now c.ops.op-index c.op-item.result c.ops-test.true c.op-item.is) c.in_ok-put_op.ensures.ok
