-- The numbers that `work` is given.
use Rattle.std.specs.Prelude.{ℕ, ◌-◌, ◌^◌, ◌&&◌, nat_le, List, [], ◌∷◌, Option, Some, None, option_and_then, option_map, if◌then◌else◌}
use Rattle.std.specs.Str.Parse.{digits_value}
use Rattle.clap.specs.ValueTests.{is_numeral}
use Rattle.dl_command.specs.declared.numbers.Asked.{Asked}
use Rattle.dl_command.specs.Words.{Bytes}

-- the number that a word of decimal digits says, where it is in a range
abbrev pub number_within : ℕ → ℕ → Bytes → Option ℕ
number_within least most word =
    if is_numeral word && (nat_le least (digits_value 10 word) && nat_le (digits_value 10 word) most) then Some (digits_value 10 word) else None

-- a seed below 2^64, 1 to 65,536 operations, and 1 to 64 callers
abbrev pub asked_by : Bytes → Bytes → Bytes → Option Asked
asked_by first second third = option_and_then (λ seed. option_and_then (λ count. option_map (λ callers. record {
  seed = seed;
  count = count;
  callers = callers;
}) (number_within 1 64 third)) (number_within 1 65536 second)) (number_within 0 (2 ^ 64 - 1) first)

-- the numbers that the words SEED, COUNT and CALLERS say, where there are these three and each is a number in its range
abbrev pub asked_of : Bytes → List Bytes → Option Asked
asked_of first [] = None
asked_of first (second ∷ []) = None
asked_of first (second ∷ third ∷ []) = asked_by first second third
asked_of first (second ∷ third ∷ fourth ∷ rest) = None
