-- Which states the machine comes to.
use Rattle.std.specs.Prelude.{◌≡◌, ◌<◌, ℕ, zero, suc, Some, List, [], ◌∷◌, ◌++◌, length, get_or, set, replicate}
use Rattle.dl_ir.specs.declared.calls.Call.{Call}
use Rattle.dl_ir.specs.CallForms.{IsCallOf}
use Rattle.dl_core.specs.declared.answers.Progress.{Progress}
use Rattle.dl_core.specs.declared.stages.Stage.TheVariants as stages
use Rattle.dl_core.specs.Plans.{Plan, IsCaller, source_of, size_of}
use Rattle.dl_core.specs.Core.{Core, frame_of, fresh, with_call, step}

-- the calls that were begun, in order: a list for each caller, from the first on
abbrev pub Calls : Type 0
Calls = List (List Call)

-- the calls that a caller has begun; nobody has number 0
abbrev pub calls_of : Calls → ℕ → List Call
calls_of calls zero = []
calls_of calls (suc place) = get_or calls place []

-- a caller has begun one call more
abbrev pub with_begun : Calls → ℕ → Call → Calls
with_begun calls zero call = calls
with_begun calls (suc place) call = set calls place (get_or calls place [] ++ call ∷ [])

-- no call is begun
abbrev pub no_calls : Plan → Calls
no_calls plan = replicate (length plan.sizes) []

-- a caller may begin a call: it has none in hand and room for one more, and the call is one of the module
pub record MayBegin (plan : Plan) (core : Core) (calls : Calls) (caller : ℕ) (call : Call) : Type 0 where
  pub is_caller : IsCaller plan caller
  pub idle : (frame_of core.world caller).stage ≡ stages.Idle
  pub room : length (calls_of calls caller) < size_of plan caller
  pub fits : IsCallOf (source_of plan) call

-- a run comes to a state, with these calls begun: it is the fresh one, or a begin or a step of a caller leads to it
pub data IsReached (plan : Plan) : Core → Calls → Type 0 where
  starts : IsReached plan (fresh plan) (no_calls plan)
  begins : {core : Core} {calls : Calls} (caller : ℕ) (call : Call) → IsReached plan core calls → MayBegin plan core calls caller call
      → IsReached plan (with_call core caller call) (with_begun calls caller call)
  steps : {core after : Core} {calls : Calls} (caller : ℕ) (answer : Progress) → IsReached plan core calls → step plan core caller ≡ Some (after, answer)
      → IsReached plan after calls
