use Rattle.std.proofs.Common.{refl}
use Rattle.dl_text.proofs.WritingLemmas.{passes_both, passes_fails, puts_both, puts_fails, puts_more}
use Rattle.dl_instr.specs.Listing.{op_text}
use Rattle.dl_text.proofs.Loops.{puts_is}
use Rattle.dl_instr.proofs.Operands.{neg_text, bin_text}
use Rattle.dl_instr.proofs.expressions.+put_operand.Goals as goal

pub returns-in_err-put-in-Neg : goal.returns-in_err-put-in-Neg
returns-in_err-put-in-Neg g t c =
    puts_is (neg_text c.args.op.now c.args.least c.args.operand.now c.in-Neg.inner c.in-Neg.inner c.in-Neg.is refl c.requires.least)
    (puts_fails _ c.from_residual.ensures.0 c.in_err-put-in-Neg.ensures)

pub returns-in_ok-put-in-Neg : goal.returns-in_ok-put-in-Neg
returns-in_ok-put-in-Neg g t c =
    puts_is (neg_text c.args.op.now c.args.least c.args.operand.now c.in-Neg.inner c.get.result.now c.in-Neg.is c.get.ensures c.requires.least)
    (puts_both c.in_ok-put-in-Neg.ensures.ok c.put_operand.ensures)

pub returns-in_err-put_bracket-in-Bin : goal.returns-in_err-put_bracket-in-Bin
returns-in_err-put_bracket-in-Bin g t c =
    puts_is (bin_text c.args.op.now c.args.least c.level_of-level.result c.in-Bin.operator (op_text c.in-Bin.operator) c.args.operand.now c.in-Bin.left c.in-Bin.right c.in-Bin.left c.in-Bin.right c.in-Bin.is refl refl c.level_of-level.ensures.level refl)
    (puts_more _ c.from_residual-in_err-put_bracket-in-Bin.ensures.0 (puts_more _ c.from_residual-in_err-put_bracket-in-Bin.ensures.0 (puts_more _ c.from_residual-in_err-put_bracket-in-Bin.ensures.0 (puts_fails _ c.from_residual-in_err-put_bracket-in-Bin.ensures.0 c.in_err-put_bracket-in-Bin.ensures))))

pub returns-in_err-put_operand-in-Bin : goal.returns-in_err-put_operand-in-Bin
returns-in_err-put_operand-in-Bin g t c =
    puts_is (bin_text c.args.op.now c.args.least c.level_of-level.result c.in-Bin.operator (op_text c.in-Bin.operator) c.args.operand.now c.in-Bin.left c.in-Bin.right c.get-in-Bin.result.now c.in-Bin.right c.in-Bin.is c.get-in-Bin.ensures refl c.level_of-level.ensures.level refl)
    (puts_more _ c.from_residual-in_err-put_operand-in-Bin.ensures.0 (puts_more _ c.from_residual-in_err-put_operand-in-Bin.ensures.0 (puts_more _ c.from_residual-in_err-put_operand-in-Bin.ensures.0 (passes_fails c.from_residual-in_err-put_operand-in-Bin.ensures.0 c.in_ok-put_bracket-in-Bin.ensures.ok c.in_err-put_operand-in-Bin.ensures))))

pub returns-in_err-put-in-Bin : goal.returns-in_err-put-in-Bin
returns-in_err-put-in-Bin g t c =
    puts_is (bin_text c.args.op.now c.args.least c.level_of-level.result c.in-Bin.operator c.sign_of.result.now c.args.operand.now c.in-Bin.left c.in-Bin.right c.get-in-Bin.result.now c.in-Bin.right c.in-Bin.is c.get-in-Bin.ensures refl c.level_of-level.ensures.level c.sign_of.ensures)
    (puts_more _ c.from_residual-in_err-put-in-Bin.ensures.0 (puts_more _ c.from_residual-in_err-put-in-Bin.ensures.0 (passes_fails c.from_residual-in_err-put-in-Bin.ensures.0 (passes_both c.in_ok-put_bracket-in-Bin.ensures.ok c.in_ok-put_operand-in-Bin.ensures.ok) c.in_err-put-in-Bin.ensures)))

pub returns-in_err-put_operand-in-Bin-2 : goal.returns-in_err-put_operand-in-Bin-2
returns-in_err-put_operand-in-Bin-2 g t c =
    puts_is (bin_text c.args.op.now c.args.least c.level_of-level.result c.in-Bin.operator c.sign_of.result.now c.args.operand.now c.in-Bin.left c.in-Bin.right c.get-in-Bin.result.now c.get-in-Bin-2.result.now c.in-Bin.is c.get-in-Bin.ensures c.get-in-Bin-2.ensures c.level_of-level.ensures.level c.sign_of.ensures)
    (puts_more _ c.from_residual-in_err-put_operand-in-Bin-2.ensures.0 (passes_fails c.from_residual-in_err-put_operand-in-Bin-2.ensures.0 (passes_both (passes_both c.in_ok-put_bracket-in-Bin.ensures.ok c.in_ok-put_operand-in-Bin.ensures.ok) c.in_ok-put-in-Bin.ensures.ok) c.in_err-put_operand-in-Bin-2.ensures))

pub returns-in_ok-put_operand-in-Bin-2 : goal.returns-in_ok-put_operand-in-Bin-2
returns-in_ok-put_operand-in-Bin-2 g t c =
    puts_is (bin_text c.args.op.now c.args.least c.level_of-level.result c.in-Bin.operator c.sign_of.result.now c.args.operand.now c.in-Bin.left c.in-Bin.right c.get-in-Bin.result.now c.get-in-Bin-2.result.now c.in-Bin.is c.get-in-Bin.ensures c.get-in-Bin-2.ensures c.level_of-level.ensures.level c.sign_of.ensures)
    (puts_both (passes_both (passes_both (passes_both c.in_ok-put_bracket-in-Bin.ensures.ok c.in_ok-put_operand-in-Bin.ensures.ok) c.in_ok-put-in-Bin.ensures.ok) c.in_ok-put_operand-in-Bin-2.ensures.ok) c.put_bracket-in-Bin.ensures)
