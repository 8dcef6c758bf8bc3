-- How many local steps a caller makes at most before an event comes: a number that falls with each. Nothing else rests on it.
use Rattle.std.specs.Prelude.{◌≡◌, ◌+◌, ◌-◌, ◌*◌, ◌<◌, ◌⊎◌, ℕ, suc, Bool, true, Option, Some, None, List, [], ◌∷◌, drop, length, slice_get, count_by, is_some}
use Rattle.std.specs.Option.{option_map}
use Rattle.dl_ir.specs.declared.names.Value.{Value}
use Rattle.dl_ir.specs.References.{target_in}
use Rattle.dl_instr.specs.declared.steps.Step.{Step}
use Rattle.dl_instr.specs.declared.steps.Step.TheVariants.{Drop, Test}
use Rattle.dl_instr.specs.Jumps.{jump_of}
use Rattle.dl_core.specs.declared.stages.Stage.{Stage}
use Rattle.dl_core.specs.declared.stages.Stage.TheVariants as stages
use Rattle.dl_core.specs.Plans.{Plan, steps_of}
use Rattle.dl_core.specs.Frames.{Frame}

-- the number of steps that drop locals before a loop's test, where these are the first of the steps
abbrev pub drops_before_turn : List Step → Option ℕ
drops_before_turn [] = None
drops_before_turn (Drop local ∷ rest) = option_map suc (drops_before_turn rest)
drops_before_turn (Test c true place ∷ rest) = Some 0
drops_before_turn (step ∷ rest) = None

-- no step goes back but to a loop's test, or to drops before one
abbrev pub GoesBackToTurns : List Step → Type 0
GoesBackToTurns steps = (at place : ℕ) (step : Step) → slice_get steps at ≡ Some step → jump_of step ≡ Some place → (at < place) ⊎ ((count : ℕ) × (drops_before_turn (drop place steps) ≡ Some count))

-- how far it is from a place to the next loop's test, or to the end of the code
abbrev pub distance_by : ℕ → ℕ → Option ℕ → ℕ
distance_by len place None = (len - place) + (len + 1)
distance_by len place (Some count) = count

abbrev pub distance : List Step → ℕ → ℕ
distance steps place = distance_by (length steps) place (drops_before_turn (drop place steps))

-- what is left of the code: whole rounds for the turns that are left, and the rest of this one
abbrev pub code_left : List Step → ℕ → ℕ → ℕ
code_left steps turns place = turns * (2 * length steps + 2) + distance steps place

-- a value refers to an object
abbrev pub refers : Value → Bool
refers value = is_some (target_in value)

abbrev pub stage_left : Plan → Frame → Stage → ℕ
stage_left plan frame stages.Idle = 0
stage_left plan frame stages.Called = 0
stage_left plan frame stages.Running = 1 + length frame.locals + code_left (steps_of plan frame.call) frame.turns frame.place
stage_left plan frame (stages.Ended end) = count_by refers frame.locals

abbrev pub hand_left : Option Value → ℕ
hand_left None = 0
hand_left (Some value) = 1

-- a number that falls with each local step
abbrev pub steps_left : Plan → Frame → ℕ
steps_left plan frame = 2 * stage_left plan frame frame.stage + hand_left frame.hand
