-- What a seat that has everything of all callers knows when the table is closed.
use Rattle.std.specs.Prelude.{◌≡◌, ◌+◌, ℕ, Some, List, length, map, slice_get}
use Rattle.dl_ir.specs.declared.calls.Call.{Call}
use Rattle.dl_ir.specs.declared.closed.Closed.{Closed}
use Rattle.dl_core.specs.declared.stages.Stage.TheVariants as stages
use Rattle.dl_core.specs.Heaps.{plain}
use Rattle.dl_core.specs.Plans.{Plan}
use Rattle.dl_core.specs.Core.{Core, frame_of, account_of, entries_of, refusals_of}
use Rattle.dl_core.specs.Reached.{IsReached}
use Rattle.dl_core.specs.Sound.{callers_of}
use Rattle.dl_coarse.specs.Sights.{Own, Sight}

-- the seat has every caller's own, in order
pub record HasAll (plan : Plan) (sight : Sight) : Type 0 where
  pub many : length sight.owns ≡ length plan.sizes
  pub numbered : (at : ℕ) (own : Own) → slice_get sight.owns at ≡ Some own → own.number ≡ at + 1

abbrev pub calls_in : Sight → List (List Call)
calls_in sight = map (λ (own : Own). own.calls) sight.owns

-- a run has come to the state with the calls that the seat knows of, has there what the seat has, and no operation runs
pub record ShowsAll (plan : Plan) (sight : Sight) (core : Core) : Type 0 where
  pub reached : IsReached plan core (calls_in sight)
  pub frames : (at : ℕ) (own : Own) → slice_get sight.owns at ≡ Some own → frame_of core.world own.number ≡ own.frame
  pub accounts : (at : ℕ) (own : Own) → slice_get sight.owns at ≡ Some own → account_of core own.number ≡ own.account
  pub idle : (caller : ℕ) → (frame_of core.world caller).stage ≡ stages.Idle

-- what is left is what a state has: each caller's entries and refusals, the heap and the free places
pub record IsLeft (plan : Plan) (core : Core) (closed : Closed) : Type 0 where
  pub heap : closed.heap.objects ≡ plain core.world.heap
  pub entries : closed.entries ≡ map (entries_of core) (callers_of plan)
  pub refusals : closed.refusals ≡ map (refusals_of core) (callers_of plan)
  pub free : closed.free ≡ core.pool.free
