-- What a schedule file says as a function of its text, in the order in which the reader goes through it. `Rules` has the same as rules.
use Rattle.std.specs.Prelude.{◌≡◌, ◌≢◌, ℕ, ◌+◌, Bool, true, false, ◌&&◌, nat_le, if◌then◌else◌, List, [], ◌∷◌, find, Option, Some, None, Result, Ok, Err}
use Rattle.dl_syntax.specs.Line.{is_wrong, words_of, before_comment, digits_of}
use Rattle.dl_schedule.specs.declared.give.Give.{Give}
use Rattle.dl_schedule.specs.declared.give.ScheduleFault.{ScheduleFault}
use Rattle.dl_schedule.specs.declared.give.ScheduleFault.TheVariants.{NotAscii, BadByte, BadStep, NoCaller, TooMany, Memory}
use Rattle.dl_schedule.specs.Rules.{with_give, steps_in}

-- digits were read
abbrev pub is_number : Option ℕ → Bool
is_number None = false
is_number (Some n) = true

-- how many steps a line gives
abbrev pub times_of : Option Give → ℕ
times_of None = 0
times_of (Some give) = give.times

-- a number from 1 to a greatest one
abbrev pub from_one_to : ℕ → ℕ → Bool
from_one_to most n = nat_le 1 n && nat_le n most

-- what so many steps for a caller are behind so many steps
abbrev pub give_checked : ℕ → ℕ → ℕ → ℕ → ℕ → Result (Option Give) ScheduleFault
give_checked callers line before caller times =
    if from_one_to 1000000 times
    then (if from_one_to callers caller
    then (if nat_le (before + times) 1000000 then Ok (Some (record { caller = caller; times = times })) else Err (TooMany line))
    else Err (NoCaller line))
    else Err (BadStep line)

-- what two words say of which these are the numbers, if they are numbers
abbrev pub give_of_numbers : ℕ → ℕ → ℕ → Option ℕ → Option ℕ → Result (Option Give) ScheduleFault
give_of_numbers callers line before (Some caller) (Some times) = give_checked callers line before caller times
give_of_numbers callers line before (Some caller) None = Err (BadStep line)
give_of_numbers callers line before None times = Err (BadStep line)

-- what the words of a line say behind so many steps
abbrev pub give_of_words : ℕ → ℕ → ℕ → List (List ℕ) → Result (Option Give) ScheduleFault
give_of_words callers line before [] = Ok None
give_of_words callers line before (first ∷ []) = Err (BadStep line)
give_of_words callers line before (first ∷ second ∷ []) = give_of_numbers callers line before (digits_of first) (digits_of second)
give_of_words callers line before (first ∷ second ∷ word ∷ words) = Err (BadStep line)

-- the fault of a byte that no schedule file has
abbrev pub byte_fault : ℕ → ℕ → ScheduleFault
byte_fault line b = if nat_le 128 b then NotAscii line else BadByte line

-- what a line says whose first wrong byte is this one, if it has one
abbrev pub give_unless_wrong : ℕ → ℕ → ℕ → List ℕ → Option ℕ → Result (Option Give) ScheduleFault
give_unless_wrong callers line before text (Some b) = Err (byte_fault line b)
give_unless_wrong callers line before text None = give_of_words callers line before (words_of (before_comment text))

-- what a line says behind so many steps: a give, nothing, or its fault
abbrev pub give_of_line : ℕ → ℕ → ℕ → List ℕ → Result (Option Give) ScheduleFault
give_of_line callers line before text = give_unless_wrong callers line before text (find is_wrong text)

-- what follows a line: its fault, or what the lines behind it say
abbrev pub after_line : List Give → Result (Option Give) ScheduleFault → (List Give → Result (List Give) ScheduleFault) → Result (List Give) ScheduleFault
after_line gives (Err fault) next = Err fault
after_line gives (Ok give) next = next (with_give gives give)

-- the gives that lines say, from a line's number on and behind the gives before; the first line at fault decides
abbrev pub gives_from : ℕ → ℕ → List Give → List (List ℕ) → Result (List Give) ScheduleFault
gives_from callers line gives [] = Ok gives
gives_from callers line gives (text ∷ rest) =
    after_line gives (give_of_line callers line (steps_in gives) text) (λ next. gives_from callers (line + 1) next rest)

-- what a reader answers that may run out of memory at any point: the outcome, or that
abbrev pub Gives : Result (List Give) ScheduleFault → Result (List Give) ScheduleFault → Type 0
Gives outcome (Ok a) = outcome ≡ Ok a
Gives outcome (Err fault) = fault ≢ Memory → outcome ≡ Err fault
