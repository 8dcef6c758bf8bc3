use Rattle.std.proofs.Common.{arith}
use Rattle.std.proofs.lemmas.Bool.Decides.{nat_tests}
use Rattle.dl_heapfile.proofs.Heads.{none_said, other_said, this_said}
use Rattle.dl_heapfile.proofs.numbers.says.Goals as goal

pub returns-in_default : goal.returns-in_default
returns-in_default c = none_said c.args.digits.now c.args.count (omega arith) c.in_default.ensures

pub returns-then-n-count : goal.returns-then-n-count
returns-then-n-count c = other_said c.args.digits.now c.in-Some.n c.in-Some.rest.now c.args.count (omega arith) c.in-Some.ensures c.if-n-count.true

pub returns : goal.returns
returns c =
    this_said c.args.digits.now c.in-Some.n c.in-Some.rest.now c.args.count c.is_empty.result (omega arith) c.in-Some.ensures c.if-n-count.false
    (λ yes. grind (arith, nat_tests, yes, c.is_empty.ensures), λ none. grind (arith, nat_tests, none, c.is_empty.ensures))
