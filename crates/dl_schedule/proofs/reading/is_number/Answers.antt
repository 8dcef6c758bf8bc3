use Rattle.std.proofs.Common.{◌≡◌, ◌∙◌, sym, false, get_or, arith}
use Rattle.dl_text.specs.Bytes.{is_digit}
use Rattle.dl_schedule.proofs.Digits.{none_here, word_number, is_filled_number}
use Rattle.dl_schedule.proofs.reading.is_number.Goals as goal

pub returns-then-not-is_digit : goal.returns-then-not-is_digit
returns-then-not-is_digit c =
    let none : is_digit (get_or c.args.word.now c.loop-byte.byte-index 0) ≡ false = sym c.is_digit.ensures ∙ c.if-not-is_digit.true in
    sym (word_number c.args.word.now (none_here c.loop-byte.byte-index c.args.word.now (omega arith) none c.loop-byte.invariant))

pub returns : goal.returns
returns c = is_filled_number c.loop-byte.byte-index c.args.word.now c.is_empty.result (omega arith) c.is_empty.ensures c.loop-byte.invariant
