-- What giving a caller a step makes of the state, from what its next event makes of the caller's frame.
use Rattle.std.proofs.Common.{◌≡◌, ◌≢◌, ℕ, List, Option, Some, None, get_or, set, refl, sym, ap, ◌∙◌}
use Rattle.std.specs.FinMap as finite
use Rattle.std.proofs.lemmas.List.{set-get_or}
use Rattle.dl_ir.specs.declared.answers.End.{End}
use Rattle.dl_ir.specs.declared.names.Name.{Name}
use Rattle.dl_ir.specs.Heap.{root}
use Rattle.dl_core.specs.declared.answers.Event.{Event}
use Rattle.dl_core.specs.declared.counters.Counters.{Counters}
use Rattle.dl_core.specs.declared.dues.Due.{Due}
use Rattle.dl_core.specs.declared.dues.Due.TheVariants.{Nothing, Reserves, TakesRoot, Enters, Reads, Writes, Takes, LetsGo, GivesUp, Seals, Makes, Finishes}
use Rattle.dl_core.specs.Core.{Account, Core, Stepped, frame_of, with_event, touches, step_due, step, stepped, or_stands, stands}
use Rattle.dl_core.specs.Events.{Acted, act, aim, event_of}
use Rattle.dl_core.specs.Frames.{Frame, idle}
use Rattle.dl_core.specs.Heaps.{Heap}
use Rattle.dl_core.specs.LocalSteps.{due}
use Rattle.dl_core.specs.Parts.{core_by}
use Rattle.dl_core.specs.Plans.{Plan}
use Rattle.dl_core.specs.Shared.{Touched, touched, touched_by}

-- the step, or why there is none
abbrev pub done_or : Core → Option Name → Option Stepped → Stepped
done_or core at None = (core, stands core.world.heap at)
done_or core at (Some done) = done

module _ (plan : Plan) (core : Core) (caller : ℕ) where
  either : (done : Option Stepped) → or_stands plan core caller done ≡ done_or core (aim (due plan (frame_of core.world caller))) done
  either None = refl
  either (Some done) = refl

  -- the step of the event that comes next
  pub by_due : (frame : Frame) (d : Due) → frame_of core.world caller ≡ frame → due plan frame ≡ d → stepped plan core caller ≡ done_or core (aim d) (step_due plan core caller frame d)
  by_due frame d is e =
      either (step plan core caller)
      ∙ ap (λ (f : Frame). done_or core (aim (due plan f)) (step_due plan core caller f (due plan f))) is
      ∙ ap (λ (k : Due). done_or core (aim k) (step_due plan core caller frame k)) e

  same_name : {name other : Name} → Some name ≡ Some other → name ≡ other
  same_name e = cc

  no_name : {name : Name} → None ≡ Some name → ⊥
  no_name e = cc

  -- an event at an object
  pub touching : (frame : Frame) (d : Due) (name : Name) → aim d ≡ Some name → step_due plan core caller frame d ≡ touches plan core caller frame d name
  touching frame Nothing name at = absurd (no_name at)
  touching frame (Reserves need) name at = absurd (no_name at)
  touching frame (TakesRoot number) name at = ap (touches plan core caller frame (TakesRoot number)) (same_name at)
  touching frame Enters name at = absurd (no_name at)
  touching frame (Reads other field) name at = ap (touches plan core caller frame (Reads other field)) (same_name at)
  touching frame (Writes other field value) name at = ap (touches plan core caller frame (Writes other field value)) (same_name at)
  touching frame (Takes other) name at = ap (touches plan core caller frame (Takes other)) (same_name at)
  touching frame (LetsGo other) name at = ap (touches plan core caller frame (LetsGo other)) (same_name at)
  touching frame (GivesUp other) name at = ap (touches plan core caller frame (GivesUp other)) (same_name at)
  touching frame (Seals other) name at = ap (touches plan core caller frame (Seals other)) (same_name at)
  touching frame (Makes other kind) name at = ap (touches plan core caller frame (Makes other kind)) (same_name at)
  touching frame (Finishes end) name at = absurd (no_name at)

-- the state and the answer after an event at an object
abbrev pub after_touch : List Frame → List Account → Counters → ℕ → Touched → Stepped
after_touch frames accounts counters caller done = (core_by done.1 (set frames caller done.0) accounts counters, done.2)

module _ (plan : Plan) (heap : Heap) (frames : List Frame) (accounts : List Account) (counters : Counters) (caller : ℕ) (frame : Frame) (is : get_or frames caller idle ≡ frame) where
  abbrev before : Core
  before = core_by heap frames accounts counters

  same_frames : set frames caller frame ≡ frames
  same_frames = ap (set frames caller) (sym is) ∙ set-get_or frames caller idle

  touched_so : (name : Name) (event : Option Event) (outcome : Option Acted) → done_or before (Some name) (with_event before caller name event outcome) ≡ after_touch frames accounts counters caller (touched_by heap name frame event outcome)
  touched_so name None outcome = λ i. (core_by heap (sym same_frames i) accounts counters, stands heap (Some name))
  touched_so name (Some event) None = λ i. (core_by heap (sym same_frames i) accounts counters, stands heap (Some name))
  touched_so name (Some event) (Some done) = refl

  -- the step of an event at an object
  pub touch_steps : (d : Due) (name : Name) → due plan frame ≡ d → aim d ≡ Some name → stepped plan before caller ≡ after_touch frames accounts counters caller (touched plan caller heap name d frame)
  touch_steps d name e at =
      by_due plan before caller frame d is e
      ∙ (λ i. done_or before (at i) (touching plan before caller frame d name at i))
      ∙ touched_so name (event_of d (finite.get heap name)) (act plan caller frame d (finite.get heap name))

-- an event that is none of these is one at an object
pub aimed : (d : Due) → d ≢ Nothing → ((need : ℕ) → d ≢ Reserves need) → d ≢ Enters → ((end : End) → d ≢ Finishes end) → (name : Name) × (aim d ≡ Some name)
aimed Nothing nothing reserves enters finishes = absurd (nothing refl)
aimed (Reserves need) nothing reserves enters finishes = absurd (reserves need refl)
aimed (TakesRoot number) nothing reserves enters finishes = (root number, refl)
aimed Enters nothing reserves enters finishes = absurd (enters refl)
aimed (Reads name field) nothing reserves enters finishes = (name, refl)
aimed (Writes name field value) nothing reserves enters finishes = (name, refl)
aimed (Takes name) nothing reserves enters finishes = (name, refl)
aimed (LetsGo name) nothing reserves enters finishes = (name, refl)
aimed (GivesUp name) nothing reserves enters finishes = (name, refl)
aimed (Seals name) nothing reserves enters finishes = (name, refl)
aimed (Makes name kind) nothing reserves enters finishes = (name, refl)
aimed (Finishes end) nothing reserves enters finishes = absurd (finishes end refl)
