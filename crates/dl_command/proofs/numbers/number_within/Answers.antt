use Rattle.std.proofs.Common.{◌∙◌, inl, inr, sym, arith}
use Rattle.dl_command.proofs.NumberLemmas.{outside_says_none, plus_says_none, read_says, unread_says_none}
use Rattle.dl_command.proofs.numbers.number_within.Goals as goal

pub returns-then-has_plus : goal.returns-then-has_plus
returns-then-has_plus c = sym (plus_says_none c.args.least c.args.most c.args.word.now (sym c.has_plus.ensures ∙ c.if-has_plus.true))

pub returns-in_default : goal.returns-in_default
returns-in_default c = sym (unread_says_none c.args.least c.args.most c.args.word.now (sym c.has_plus.ensures ∙ c.if-has_plus.false) c.ranges.most.fits c.in_default.ensures.value.0)

pub returns-then-number-least : goal.returns-then-number-least
returns-then-number-least c = sym (outside_says_none c.args.least c.args.most c.args.word.now c.in-Ok.number (sym c.has_plus.ensures ∙ c.if-has_plus.false) c.in-Ok.ensures.value.0.1 (λ within.
    elim c.then-number-least.either [
      | inl low ↦ omega (arith, within.0, low)
      | inr high ↦ omega (arith, within.1, high.1)
    ]))

pub returns : goal.returns
returns c = sym (read_says c.args.least c.args.most c.args.word.now c.in-Ok.number (sym c.has_plus.ensures ∙ c.if-has_plus.false)
    c.in-Ok.ensures.value.0.0 c.in-Ok.ensures.value.0.1 c.if-number-least.false c.if-most-number.false)
