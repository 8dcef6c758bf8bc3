-- An operation that runs from its begin to its end while no other caller has one.
use Rattle.std.specs.Prelude.{◌≡◌, ◌≢◌, ◌+◌, ◌<◌, ◌≤◌, ℕ, ℤ, max, List, [], ◌∷◌, ◌++◌, length}
use Rattle.dl_ir.specs.declared.answers.Entry.{Entry}
use Rattle.dl_ir.specs.declared.calls.Call.{Call}
use Rattle.dl_core.specs.declared.answers.Progress.{Progress}
use Rattle.dl_core.specs.declared.answers.Progress.TheVariants as progress
use Rattle.dl_core.specs.declared.stages.Stage.TheVariants as stages
use Rattle.dl_core.specs.Plans.{Plan}
use Rattle.dl_core.specs.declared.dues.Due.TheVariants.{Reserves}
use Rattle.dl_core.specs.LocalSteps.{due}
use Rattle.dl_core.specs.Events.{begun}
use Rattle.dl_core.specs.Core.{Core, frame_of, account_of, entries_of, refusals_of, with_call}
use Rattle.dl_core.specs.Reached.{Calls, IsReached, MayBegin}
use Rattle.dl_core.specs.Advances.{RunsTo}

-- the call of an operation with these arguments
abbrev pub call_of : ℕ → List ℤ → Call
call_of op args = record { op = op; args = args }

-- a run has come to the state, all callers are idle there, and this one may begin the call
pub record MayRun (plan : Plan) (core : Core) (caller : ℕ) (call : Call) : Type 0 where
  pub calls : Calls
  pub reached : IsReached plan core calls
  pub may : MayBegin plan core calls caller call
  pub rest : (other : ℕ) → (frame_of core.world other).stage ≡ stages.Idle

-- the operation is finished
pub record LeavesEntry (core : Core) (caller : ℕ) (entry : Entry) (after : Core) : Type 0 where
  pub entries : entries_of after caller ≡ entries_of core caller ++ entry ∷ []
  pub refusals : refusals_of after caller ≡ refusals_of core caller
  pub of_caller : entry.caller ≡ caller
  pub index : entry.index ≡ (frame_of core.world caller).index + 1
  pub ticket : entry.ticket ≡ core.clock + 1
  pub clock : after.clock ≡ core.clock + 1
  pub reserved : 0 < entry.reserved_at → core.pool.version < entry.reserved_at
  pub returned : 0 < entry.returned_at → core.pool.version < entry.returned_at
  pub version : after.pool.version ≡ max (max core.pool.version entry.reserved_at) entry.returned_at

-- it was refused
pub record LeavesRefusal (plan : Plan) (core : Core) (caller : ℕ) (call : Call) (need found version : ℕ) (after : Core) : Type 0 where
  pub entries : entries_of after caller ≡ entries_of core caller
  pub refusals : refusals_of after caller ≡ refusals_of core caller ++ record { caller = caller; index = (frame_of core.world caller).index + 1; need = need; found = found; version = version } ∷ []
  pub due : due plan (begun call (frame_of core.world caller)) ≡ Reserves need
  pub short : found < need
  pub at : version ≡ core.pool.version
  pub clock_stays : after.clock ≡ core.clock
  pub version_stays : after.pool.version ≡ core.pool.version

abbrev pub LeavesBy : Plan → Core → ℕ → Call → Progress → Core → Type 0
LeavesBy plan core caller call (progress.Done entry) after = LeavesEntry core caller entry after
LeavesBy plan core caller call (progress.Refused need found version) after = LeavesRefusal plan core caller call need found version after
LeavesBy plan core caller call answer after = ⊥

-- what the operation leaves of the state, with its answer
pub record Leaves (plan : Plan) (core : Core) (caller : ℕ) (call : Call) (answer : Progress) (after : Core) : Type 0 where
  pub runs : RunsTo plan caller answer (with_call core caller call) after
  pub others : (other : ℕ) → other ≢ caller → (frame_of after.world other ≡ frame_of core.world other) × (account_of after other ≡ account_of core other)
  pub rest : (frame_of after.world caller).stage ≡ stages.Idle
  pub index : (frame_of after.world caller).index ≡ (frame_of core.world caller).index + 1
  pub unreserved : (account_of after caller).reserved_at ≡ 0
  pub frames : length after.world.frames ≡ length core.world.frames
  pub clock : core.clock ≤ after.clock
  pub version : core.pool.version ≤ after.pool.version
  pub leaves_by : LeavesBy plan core caller call answer after
