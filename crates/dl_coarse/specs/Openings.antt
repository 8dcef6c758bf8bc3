-- How a run over the table starts.
use Rattle.std.specs.Prelude.{◌≡◌, ℕ, true, false, ◌∷◌, Option, Some, None, List, [], map}
use Rattle.atomic_table.specs.Table.{Me}
use Rattle.dl_shape.specs.Replay.{greatest_ticket}
use Rattle.dl_core.specs.Core.{Core, no_account, fresh}
use Rattle.dl_core.specs.Frames.{idle}
use Rattle.dl_core.specs.Passes.{no_look}
use Rattle.dl_core.specs.Plans.{Plan}
use Rattle.dl_core.specs.Sound.{callers_of}
use Rattle.dl_coarse.specs.Sights.{Own, Sight, turn_with}

-- the machine is at the start of a run of the plan
pub record IsOpened {M : Type 0} (opening : M → Plan) (runs : Plan → M → Type 0) (state : M → Core) (plan : Plan) (machine : M) : Type 0 where
  pub plan_is : opening machine ≡ plan
  pub of_run : runs plan machine
  pub fresh_state : state machine ≡ fresh plan

-- what a caller has that has done nothing
abbrev pub fresh_own : ℕ → Own
fresh_own number = record { number = number; calls = []; frame = idle; account = no_account }

-- at the start one seat has the turn and everything of all callers, and the slot has nothing
abbrev pub first_sight : Plan → Core → Sight
first_sight plan core = record { owns = map fresh_own (callers_of plan); turn = Some (turn_with core true); front = core.clock; known = core.pool.version; look = no_look }

-- the seat has taken the slot too
pub record HasSlot {M : Type 0} (plan : Plan) (core : Core) (me : Me (Option M) Sight) : Type 0 where
  pub owns : me.0.owns ≡ map fresh_own (callers_of plan)
  pub turn : me.0.turn ≡ Some (turn_with core false)
  pub front : me.0.front ≡ core.clock
  pub known : me.0.known ≡ core.pool.version
  pub slot : me.1 ≡ (0, None) ∷ []

-- a seat has the own of these callers, who have done nothing, and no turn
pub record HasYet {M : Type 0} (plan : Plan) (callers : List ℕ) (me : Me (Option M) Sight) : Type 0 where
  pub owns : me.0.owns ≡ map fresh_own callers
  pub no_turn : me.0.turn ≡ None
  pub front : me.0.front ≡ greatest_ticket plan.heap
  pub known : me.0.known ≡ 0
  pub slot : me.1 ≡ []
