use Rattle.std.proofs.Common.{◌≡◌, drop}
use Rattle.dl_schedule.proofs.Digits.{all_digits}
use Rattle.dl_schedule.proofs.reading.is_number.Given as goal

abbrev pub invariant-loop-byte : goal.invariant-loop-byte
invariant-loop-byte l = all_digits (drop l.byte-index l.word) ≡ all_digits l.word
