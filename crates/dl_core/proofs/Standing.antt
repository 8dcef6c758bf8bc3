-- How callers stand: who has no call in hand has no event, and who has entered has a call in hand.
use Rattle.std.proofs.Common.{◌≡◌, ◌≢◌, inl, inr, ℕ, ap, arith}
use Rattle.dl_ir.specs.declared.answers.End.{End}
use Rattle.dl_core.specs.declared.dues.Due.TheVariants.{Nothing}
use Rattle.dl_core.specs.declared.stages.Stage.{Stage}
use Rattle.dl_core.specs.declared.stages.Stage.TheVariants as stages
use Rattle.dl_core.specs.Core.{Core, frame_of}
use Rattle.dl_core.specs.Frames.{Frame, IsEntered, at_rest}
use Rattle.dl_core.specs.Heaps.{Heap}
use Rattle.dl_core.specs.Laws.{IsKept}
use Rattle.dl_core.specs.LocalSteps.{due}
use Rattle.dl_core.specs.Plans.{Plan}
use Rattle.dl_core.specs.Reached.{Calls}
use Rattle.dl_core.specs.Sound.{Stands, idles, waits, works}

module _ (plan : Plan) (heap : Heap) (calls : Calls) (caller : ℕ) (frame : Frame) where
  -- who has entered has a call in hand
  pub entered_busy : Stands plan heap calls caller frame → IsEntered frame → frame.stage ≢ stages.Idle
  entered_busy (idles e) entered = absurd (let z : frame.ticket ≡ 0 = ap (λ (f : Frame). f.ticket) e in omega (arith, entered, z))
  entered_busy (waits call w) entered = absurd (let z : frame.ticket ≡ 0 = ap (λ (f : Frame). f.ticket) w.is in omega (arith, entered, z))
  entered_busy (works call e w) entered = elim w.stage [ inl runs ↦ not_idle frame.stage runs | inr ends ↦ end_not_idle frame.stage ends.0 ends.1 ]
    where
      not_idle : (s : Stage) → s ≡ stages.Running → s ≢ stages.Idle
      not_idle s p q = cc

      end_not_idle : (s : Stage) (end : End) → s ≡ stages.Ended end → s ≢ stages.Idle
      end_not_idle s end p q = cc

  -- who is idle is at rest
  pub idle_rests : Stands plan heap calls caller frame → frame.stage ≡ stages.Idle → frame ≡ at_rest frame.index frame.finished
  idle_rests (idles e) i = e
  idle_rests (waits call w) i = absurd (let called : frame.stage ≡ stages.Called = ap (λ (f : Frame). f.stage) w.is in clash frame.stage called i)
    where
      clash : (s : Stage) → s ≡ stages.Called → s ≡ stages.Idle → ⊥
      clash s p q = cc
  idle_rests (works call e w) i = absurd (entered_busy (works call e w) e i)

-- who is idle has no event
pub idle_due : (plan : Plan) (core : Core) (calls : Calls) (caller : ℕ) → IsKept plan core calls → (frame_of core.world caller).stage ≡ stages.Idle → due plan (frame_of core.world caller) ≡ Nothing
idle_due plan core calls caller all i = ap (due plan) (idle_rests plan core.world.heap calls caller (frame_of core.world caller) (all.sound.each caller).stands i)
