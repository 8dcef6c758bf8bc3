use Rattle.std.proofs.Common.{arith}
use Rattle.dl_text.proofs.Numbers.{one_digit}
use Rattle.dl_heapfile.proofs.Cuts.{too_large}
use Rattle.dl_heapfile.proofs.numbers.decimal.Goals as goal

pub returns-then-units-most : goal.returns-then-units-most
returns-then-units-most c =
    let one = one_digit c.args.digits.now c.loop-digit.digit-index c.loop-digit.n c.loop-digit-test.true c.loop-digit.invariant.same c.loop-digit.invariant.pass in
    too_large c.args.most c.args.digits.now c.loop-digit.digit-index c.loop-digit.n one (omega (arith, c.if-units-most.true))

pub returns-then-n-most : goal.returns-then-n-most
returns-then-n-most c =
    let one = one_digit c.args.digits.now c.loop-digit.digit-index c.loop-digit.n c.loop-digit-test.true c.loop-digit.invariant.same c.loop-digit.invariant.pass in
    too_large c.args.most c.args.digits.now c.loop-digit.digit-index c.loop-digit.n one (omega (arith, one.low, c.if-n-most.true))
