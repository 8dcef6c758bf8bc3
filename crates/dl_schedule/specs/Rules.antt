-- What a schedule file says, by rules: one for each form of a line, and one for each fault of a line, in the order in which faults are tested.
use Rattle.std.specs.Prelude.{◌≡◌, ℕ, ◌+◌, ◌<◌, ◌≤◌, ◌⊎◌, List, [], ◌∷◌, ◌++◌, Option, Some, None, Result, Ok, Err, All}
use Rattle.std.specs.List.{sum_by}
use Rattle.dl_syntax.specs.Line.{lines_of, digits_of}
use Rattle.dl_syntax.specs.Rules.{IsFirstWrong, HasWords}
use Rattle.dl_schedule.specs.declared.give.Give.{Give}
use Rattle.dl_schedule.specs.declared.give.ScheduleFault.{ScheduleFault}
use Rattle.dl_schedule.specs.declared.give.ScheduleFault.TheVariants.{NotAscii, BadByte, BadStep, NoCaller, TooMany}

-- how many steps are given in all
abbrev pub steps_in : List Give → ℕ
steps_in gives = sum_by (λ give. give.times) gives

-- the words are two numbers, of which the second is from 1 to 1,000,000
pub record IsStep (words : List (List ℕ)) (caller times : ℕ) : Type 0 where
  pub first : List ℕ
  pub second : List ℕ
  pub are : words ≡ first ∷ second ∷ []
  pub caller_is : digits_of first ≡ Some caller
  pub times_is : digits_of second ≡ Some times
  pub some : 1 ≤ times
  pub few : times ≤ 1000000

-- the number is that of one of so many callers
pub record IsCaller (callers caller : ℕ) : Type 0 where
  pub low : 1 ≤ caller
  pub high : caller ≤ callers

-- What a line says behind so many steps: nothing, a give, or its fault. A fault is answered where none of those above it is.
pub data Says (callers line before : ℕ) (text : List ℕ) : Result (Option Give) ScheduleFault → Type 0 where
  nothing : HasWords text [] → Says callers line before text (Ok None)
  one_give : {words : List (List ℕ)} {caller times : ℕ} → HasWords text words → IsStep words caller times → IsCaller callers caller → before + times ≤ 1000000
      → Says callers line before text (Ok (Some (record { caller = caller; times = times })))
  not_ascii : {b : ℕ} → IsFirstWrong text b → 128 ≤ b → Says callers line before text (Err (NotAscii line))
  bad_byte : {b : ℕ} → IsFirstWrong text b → b < 128 → Says callers line before text (Err (BadByte line))
  bad_step : {word : List ℕ} {words : List (List ℕ)} → HasWords text (word ∷ words) → ((caller times : ℕ) → IsStep (word ∷ words) caller times → ⊥)
      → Says callers line before text (Err (BadStep line))
  no_caller : {words : List (List ℕ)} {caller times : ℕ} → HasWords text words → IsStep words caller times → (IsCaller callers caller → ⊥)
      → Says callers line before text (Err (NoCaller line))
  too_many : {words : List (List ℕ)} {caller times : ℕ} → HasWords text words → IsStep words caller times → IsCaller callers caller → 1000000 < before + times
      → Says callers line before text (Err (TooMany line))

-- the gives before, and behind them the one that a line says, if it says one
abbrev pub with_give : List Give → Option Give → List Give
with_give gives None = gives
with_give gives (Some give) = gives ++ give ∷ []

-- what lines say, from a line's number on and behind the gives before: the fault of the first line that has one, or the gives
abbrev pub LinesSay : ℕ → ℕ → List Give → List (List ℕ) → Result (List Give) ScheduleFault → Type 0
LinesSay callers line gives [] outcome = outcome ≡ Ok gives
LinesSay callers line gives (text ∷ rest) outcome =
    ((fault : ScheduleFault) × Says callers line (steps_in gives) text (Err fault) × (outcome ≡ Err fault))
    ⊎ ((give : Option Give) × Says callers line (steps_in gives) text (Ok give) × LinesSay callers (line + 1) (with_give gives give) rest outcome)

-- the text is a schedule file of so many callers, with these gives
abbrev pub SpellsSchedule : ℕ → List ℕ → List Give → Type 0
SpellsSchedule callers text gives = LinesSay callers 1 [] (lines_of text) (Ok gives)

-- the text is no schedule file of so many callers, and this is its first fault
abbrev pub IsScheduleFault : ℕ → List ℕ → ScheduleFault → Type 0
IsScheduleFault callers text fault = LinesSay callers 1 [] (lines_of text) (Err fault)

-- a give to one of so many callers, of 1 to 1,000,000 steps
pub record IsGiveOf (callers : ℕ) (give : Give) : Type 0 where
  pub caller : IsCaller callers give.caller
  pub some : 1 ≤ give.times
  pub few : give.times ≤ 1000000

-- the gives are to so many callers, and are of at most 1,000,000 steps in all
pub record AreGivesOf (callers : ℕ) (gives : List Give) : Type 0 where
  pub each : All (IsGiveOf callers) gives
  pub few : steps_in gives ≤ 1000000
