-- When giving a caller a step has which answer.
use Rattle.std.specs.Prelude.{◌≡◌, ◌≢◌, ◌↔◌, ◌<◌, ℕ}
use Rattle.dl_core.specs.declared.answers.Lock.{Lock}
use Rattle.dl_core.specs.declared.answers.Progress.{Progress}
use Rattle.dl_core.specs.declared.answers.Progress.TheVariants as progress
use Rattle.dl_core.specs.declared.dues.Due.TheVariants.{Reserves}
use Rattle.dl_core.specs.declared.stages.Stage.TheVariants as stages
use Rattle.dl_core.specs.Core.{Core, frame_of, lock_of}
use Rattle.dl_core.specs.LocalSteps.{due}
use Rattle.dl_core.specs.Plans.{Plan}
use Rattle.dl_core.specs.Reach.{WaitsFor}

-- another caller holds the object that the next event takes, and this is the lock of the object
pub record IsHeldUp (plan : Plan) (core : Core) (caller : ℕ) (lock : Lock) (by : ℕ) : Type 0 where
  pub waits : WaitsFor plan core.world caller by
  pub lock_is : lock ≡ lock_of waits.name

-- the next event reserves places, and fewer are free than it needs
pub record IsShort (plan : Plan) (core : Core) (caller need found version : ℕ) : Type 0 where
  pub due : due plan (frame_of core.world caller) ≡ Reserves need
  pub found_is : found ≡ core.pool.free
  pub version_is : version ≡ core.pool.version
  pub short : found < need

-- a caller that is given a step waits exactly where another holds what its next event takes, and then nothing changes; its call is
-- refused exactly where fewer places are free than it needs; nothing is done exactly where no call is in hand; and no answer tells of
-- a place that was tried or of a pool that changed
pub record HasCauses (plan : Plan) (core : Core) (caller : ℕ) (answer : Progress) (after : Core) : Type 0 where
  pub waiting : (lock : Lock) (by : ℕ) → (answer ≡ progress.Waiting lock by) ↔ IsHeldUp plan core caller lock by
  pub stays : (lock : Lock) (by : ℕ) → answer ≡ progress.Waiting lock by → after ≡ core
  pub refused : (need found version : ℕ) → (answer ≡ progress.Refused need found version) ↔ IsShort plan core caller need found version
  pub idle : (answer ≡ progress.Idle) ↔ ((frame_of core.world caller).stage ≡ stages.Idle)
  pub rests : answer ≡ progress.Idle → after ≡ core
  pub looked : (place : ℕ) → answer ≢ progress.Looked place
  pub raced : (seen now : ℕ) → answer ≢ progress.Raced seen now
