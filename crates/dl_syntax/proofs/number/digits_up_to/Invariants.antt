use Rattle.std.proofs.Common.{◌≡◌, ◌≤◌, drop}
use Rattle.dl_syntax.specs.Line.{at_most, digits_from, digits_of}
use Rattle.dl_syntax.proofs.number.digits_up_to.Given as goal

abbrev pub invariant-loop-digit : goal.invariant-loop-digit
invariant-loop-digit l = record {
  small : l.n ≤ l.most;
  says : at_most l.most (digits_from l.n (drop l.digit-index l.digits)) ≡ at_most l.most (digits_of l.digits);
}
