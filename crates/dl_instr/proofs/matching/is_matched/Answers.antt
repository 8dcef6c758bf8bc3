use Rattle.std.proofs.Common.{◌-◌, arith}
use Rattle.dl_instr.specs.Code.{op_code}
use Rattle.dl_instr.proofs.Matched.{matched_late}
use Rattle.dl_instr.proofs.Refuted.{refuted_none, refuted_end, refuted_gap, refuted_jump, matched_more, all_matched}
use Rattle.dl_instr.proofs.matching.is_matched.Goals as goal

pub returns-in-None : goal.returns-in-None
returns-in-None c =
    let late = matched_late c.args.op.now (op_code c.args.op.now) c.args.steps.now c.loop-d.d c.loop-d.next c.loop-d.invariant.0 in
    refuted_none c.args.op.now c.args.steps.now c.loop-d.d (c.args.count - 1 - c.loop-d.d) c.loop-d.next (omega arith) late c.in-None.ensures

pub returns-then-not-ends_right : goal.returns-then-not-ends_right
returns-then-not-ends_right c =
    let late = matched_late c.args.op.now (op_code c.args.op.now) c.args.steps.now c.loop-d.d c.loop-d.next c.loop-d.invariant.0 in
    refuted_end c.args.op.now c.args.steps.now c.loop-d.d (c.args.count - 1 - c.loop-d.d) c.loop-d.next (omega arith) c.in-Some.x late c.in-Some.ensures c.if-not-ends_right.ensures

pub returns-then-not-all_added : goal.returns-then-not-all_added
returns-then-not-all_added c =
    let late = matched_late c.args.op.now (op_code c.args.op.now) c.args.steps.now c.loop-d.d c.loop-d.next c.loop-d.invariant.0 in
    refuted_gap c.args.op.now c.args.steps.now c.loop-d.d (c.args.count - 1 - c.loop-d.d) c.loop-d.next (omega arith) c.in-Some.x late c.in-Some.ensures c.if-not-all_added.ensures

pub returns-then-not-jump_is_moved : goal.returns-then-not-jump_is_moved
returns-then-not-jump_is_moved c =
    let late = matched_late c.args.op.now (op_code c.args.op.now) c.args.steps.now c.loop-d.d c.loop-d.next c.loop-d.invariant.0 in
    refuted_jump c.args.op.now c.args.steps.now c.loop-d.d (c.args.count - 1 - c.loop-d.d) c.loop-d.next (omega arith) c.in-Some.x late c.in-Some.ensures c.if-not-jump_is_moved.ensures

pub loop-d-preserved : goal.loop-d-preserved
loop-d-preserved c =
    let near = c.in-Some.ensures in
    let below = near.below in (
      matched_more c.args.op.now c.args.steps.now c.loop-d.d (c.args.count - 1 - c.loop-d.d) c.loop-d.next (omega arith) c.in-Some.x c.loop-d.invariant.0 near c.if-not-all_added.ensures
          c.if-not-jump_is_moved.ensures c.if-not-ends_right.ensures,
      omega (arith, below),
    )

pub returns : goal.returns
returns c = all_matched c.args.op.now c.args.steps.now c.loop-d.d c.loop-d.next c.all_added-2.result (omega arith) c.loop-d.invariant.0 c.all_added-2.ensures
