use Rattle.dl_text.proofs.Numbers.{one_digit, too_big}
use Rattle.dl_text.proofs.scan.decimal.Goals as goal

-- the digits that follow only make it greater
pub returns-then-n-units : goal.returns-then-n-units
returns-then-n-units c =
    too_big c.args.digits.now c.loop-digit.digit-index c.loop-digit.n (one_digit _ _ _ c.loop-digit-test.true c.loop-digit.invariant.same c.loop-digit.invariant.pass) c.if-n-units.true
