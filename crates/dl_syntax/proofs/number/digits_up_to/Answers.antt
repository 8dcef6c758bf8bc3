use Rattle.std.proofs.Common.{◌≡◌, get_or, true, arith}
use Rattle.dl_text.specs.Bytes.{is_digit}
use Rattle.dl_syntax.proofs.Numbers.{too_big_here}
use Rattle.dl_syntax.proofs.number.digits_up_to.Goals as goal

pub returns-then-unit-most : goal.returns-then-unit-most
returns-then-unit-most c =
    let digit : is_digit (get_or c.args.digits.now c.loop-digit.digit-index 0) ≡ true = cc in
    too_big_here c.args.most c.loop-digit.n c.loop-digit.digit-index c.args.digits.now (omega arith) digit (omega arith) c.loop-digit.invariant.says

pub returns-then-n-most : goal.returns-then-n-most
returns-then-n-most c =
    let digit : is_digit (get_or c.args.digits.now c.loop-digit.digit-index 0) ≡ true = cc in
    too_big_here c.args.most c.loop-digit.n c.loop-digit.digit-index c.args.digits.now (omega arith) digit (omega arith) c.loop-digit.invariant.says
