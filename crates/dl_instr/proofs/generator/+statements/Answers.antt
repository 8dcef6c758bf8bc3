use Rattle.dl_instr.specs.Code.{block_code}
use Rattle.dl_instr.specs.declared.steps.Step.TheVariants.{Want}
use Rattle.dl_instr.proofs.Patches.{put_if, put_tested_at, put_skipped_at, put_both, not_so}
use Rattle.dl_instr.proofs.generator.+statements.Goals as goal

pub add_if-returns : goal.add_if-returns
add_if-returns t c =
    put_if c.put_test.result c.args.cond.now (block_code c.args.block.now) c.args.steps.now c.push.new.self c.add_block.new.steps c.put_test.new.steps c.len-test.result Want
    c.len-test.ensures c.in_ok-push.ensures.ok c.in_ok-add_block.ensures c.put_test.ensures

pub add_tested-returns : goal.add_tested-returns
add_tested-returns t c =
    put_tested_at c.put_test.result c.args.cond.now c.args.is_turn (block_code c.args.block.now) c.args.last c.args.steps.now c.push.new.self c.add_block.new.steps c.push-2.new.self c.put_test.new.steps
    c.len-test.result Want c.len-test.ensures c.in_ok-push.ensures.ok c.in_ok-add_block.ensures c.in_ok-push-2.ensures.ok c.put_test.ensures

pub add_other-returns : goal.add_other-returns
add_other-returns t c = λ front last is.
    put_skipped_at (block_code c.args.block.now) front c.args.steps.now c.add_block.new.steps c.set.new.self last c.len-jump.result c.len-place.result
    c.len-jump.ensures c.len-place.ensures is c.in_ok-add_block.ensures c.set.ensures

pub add_stmt-returns-in_ok-add_tested-in-If : goal.add_stmt-returns-in_ok-add_tested-in-If
add_stmt-returns-in_ok-add_tested-in-If t c =
    put_both c.add_other.result c.in-If.c c.in-If.yes c.in-If.no c.args.s.now c.args.steps.now c.add_tested.new.steps c.add_other.new.steps Want c.in-If.is
    (not_so c.is_empty.result c.is_empty.ensures c.if-is_empty.false) c.in_ok-add_tested-in-If.ensures c.add_other.ensures
