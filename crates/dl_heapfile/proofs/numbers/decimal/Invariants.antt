use Rattle.std.proofs.Common.{◌≡◌, ◌≤◌, drop}
use Rattle.std.specs.Prelude.{fold}
use Rattle.dl_text.specs.Bytes.{is_digit, next_value, value, AllAre}
use Rattle.dl_heapfile.proofs.numbers.decimal.Given as goal

-- the digits that are left make of the number so far what all of them say
abbrev pub invariant-loop-digit : goal.invariant-loop-digit
invariant-loop-digit l = record {
  same : fold next_value l.n (drop l.digit-index l.digits) ≡ value l.digits;
  fits : l.n ≤ l.most;
  pass : AllAre is_digit (drop l.digit-index l.digits);
}
