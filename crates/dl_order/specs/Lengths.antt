-- How many steps lone runs have.
use Rattle.std.specs.Prelude.{◌+◌, ℕ, List}
use Rattle.dl_core.specs.Steps.{World, Rules, Alone, over, then_on, InTurn, none, next}

-- the steps of a lone run
abbrev pub steps_alone : {Frame : Type 0} (rules : Rules Frame) {caller : ℕ} {world end : World Frame} → Alone rules caller world end → ℕ
steps_alone rules (over nowhere) = 0
steps_alone rules (then_on step rest) = steps_alone rules rest + 1

-- the steps of lone runs, one after another
abbrev pub steps_in_turn : {Frame : Type 0} (rules : Rules Frame) {callers : List ℕ} {world end : World Frame} → InTurn rules callers world end → ℕ
steps_in_turn rules none = 0
steps_in_turn rules (next first rest) = steps_alone rules first + steps_in_turn rules rest
