-- The lone run of a caller, step by step.
use Rattle.std.proofs.Common.{◌≡◌, ◌⊎◌, ◌<◌, [], ℕ, Option, Some, None, sym, ap, subst, ◌∙◌}
use Rattle.std.specs.FinMap as finite
use Rattle.dl_ir.specs.declared.answers.End.{End}
use Rattle.dl_ir.specs.declared.calls.Call.{Call}
use Rattle.dl_ir.specs.declared.names.Name.{Name}
use Rattle.dl_ir.specs.Heap.{IsHidden}
use Rattle.dl_core.specs.declared.objects.Mark.TheVariants.{Free, Held, Sealed}
use Rattle.dl_core.specs.declared.objects.Object.{Object}
use Rattle.dl_core.specs.declared.stages.Stage.TheVariants as stages
use Rattle.dl_core.specs.Heaps.{Heap, put_at, refs, IsHeld}
use Rattle.dl_core.specs.Plans.{Plan, steps_of}
use Rattle.dl_core.specs.Frames.{Frame}
use Rattle.dl_core.specs.declared.dues.Due.{Due}
use Rattle.dl_core.specs.declared.dues.Due.TheVariants.{Reads, Writes, Takes, LetsGo, GivesUp, Seals, Makes}
use Rattle.dl_core.specs.LocalSteps.{Goes, Stops, next, due, due_in, step_in, first_referring, ready, GoesBackToTurns}
use Rattle.dl_core.specs.Events.{act, aim}
use Rattle.dl_core.specs.Changes.{MayWrite}
use Rattle.dl_core.specs.Sound.{HasBook}
use Rattle.dl_core.proofs.LocalSteps.{same_ready, ready_stays}
use Rattle.dl_core.proofs.Kept.{ready_same}

-- what is to be taken is free or sealed
pub record IsToTake (heap : Heap) (name : Name) : Type 0 where
  pub object : Object
  pub there : finite.get heap name ≡ Some object
  pub mark : (object.mark ≡ Free) ⊎ ((ticket : ℕ) × (object.mark ≡ Sealed ticket))

-- what an event that is due finds, where its caller is the only one that has entered
abbrev pub Finds : Heap → ℕ → Due → Type 0
Finds heap caller (Reads name field) = IsHeld heap caller name
Finds heap caller (Writes name field value) = IsHeld heap caller name × MayWrite heap caller value
Finds heap caller (Takes name) = IsToTake heap name
Finds heap caller (LetsGo name) = IsHeld heap caller name
Finds heap caller (GivesUp name) = IsHeld heap caller name
Finds heap caller (Seals name) = IsHeld heap caller name
Finds heap caller (Makes name kind) = finite.get heap name ≡ None
Finds heap caller due = Unit {0}

-- what a hidden object is, where one caller is the only one that has entered: free with one field that refers to it, held by the caller, or sealed
pub data IsOne (heap : Heap) (caller : ℕ) (name : Name) (object : Object) : Type 0 where
  is_free : object.mark ≡ Free → refs heap name ≡ 1 → IsOne heap caller name object
  is_held : object.mark ≡ Held caller → IsOne heap caller name object
  is_shut : (ticket : ℕ) → object.mark ≡ Sealed ticket → IsOne heap caller name object

-- a lone run: what holds of the heap and the caller's frame at each of its steps, and what is to be shown of it, which holds of a step where it
-- holds of the next. Frames are ready
pub record Lone : Type 1 where
  pub plan : Plan
  pub caller : ℕ
  pub turns : (call : Call) → GoesBackToTurns (steps_of plan call)
  pub Inv : Heap → Frame → Type 0
  pub finds : (heap : Heap) (frame : Frame) → Inv heap frame → Finds heap caller (due plan frame)
  pub book : (heap : Heap) (frame : Frame) → Inv heap frame → HasBook heap caller frame
  pub hidden : (heap : Heap) (frame : Frame) → Inv heap frame → (name : Name) (object : Object) → finite.get heap name ≡ Some object → IsHidden name → IsOne heap caller name object
  -- when the operation has ended and no local refers, only what several fields refer to is held
  pub several : (heap : Heap) (frame : Frame) (end : End) → Inv heap frame → frame.stage ≡ stages.Ended end → frame.loose ≡ [] → first_referring 0 frame.locals ≡ None → (name : Name) → IsHeld heap caller name
      → IsHidden name × (1 < refs heap name)
  pub Done : Heap → Frame → Type 0
  pub onward : (heap : Heap) (frame after : Frame) (name : Name) (left : Option Object) → Inv heap frame → aim (due plan frame) ≡ Some name
      → act plan caller frame (due plan frame) (finite.get heap name) ≡ Some (after, left) → (Inv (put_at heap name left) after → Done (put_at heap name left) after) → Done heap frame

module _ (l : Lone) where
  -- the lone run comes to its end from here, where the frame is first made ready
  abbrev pub Ends : Heap → Frame → Type 0
  Ends heap frame = l.Inv heap (ready l.plan frame) → l.Done heap (ready l.plan frame)

  -- a local step
  pub local_on : (heap : Heap) (frame after : Frame) → next l.plan frame ≡ Goes after → Ends heap after → Ends heap frame
  local_on heap frame after is on = subst (λ f. l.Inv heap f → l.Done heap f) (sym (same_ready l.plan frame after (l.turns frame.call) (ap step_in is))) on

  -- what an event leaves
  pub record Leaves (heap : Heap) (frame : Frame) (d : Due) (name : Name) : Type 0 where
    pub after : Frame
    pub left : Option Object
    pub acts : act l.plan l.caller frame d (finite.get heap name) ≡ Some (ready l.plan after, left)
    pub on : Ends (put_at heap name left) after

  -- an event
  pub event_on : (heap : Heap) (frame : Frame) (d : Due) (name : Name) → next l.plan frame ≡ Stops d → aim d ≡ Some name → (Finds heap l.caller d → Leaves heap frame d name) → Ends heap frame
  event_on heap frame d name is at leaves =
      let stays : ready l.plan frame ≡ frame = ready_stays l.plan frame (ap step_in is) in
      let comes : due l.plan frame ≡ d = ap due_in is in
      subst (λ f. l.Inv heap f → l.Done heap f) (sym stays) (λ inv.
      let goes = leaves (subst (Finds heap l.caller) comes (l.finds heap frame inv)) in
      l.onward heap frame (ready l.plan goes.after) name goes.left inv (ap aim comes ∙ at) (ap (λ e. act l.plan l.caller frame e (finite.get heap name)) comes ∙ goes.acts) goes.on)

  -- what holds of a frame that is ready may be used
  pub by_inv : (heap : Heap) (frame : Frame) (d : Due) → next l.plan frame ≡ Stops d → (l.Inv heap frame → Ends heap frame) → Ends heap frame
  by_inv heap frame d is goes inv = goes (subst (λ f. l.Inv heap f) (ready_stays l.plan frame (ap step_in is)) inv) inv

  -- what holds may be used
  pub by_book : (heap : Heap) (frame : Frame) → (HasBook heap l.caller frame → Ends heap frame) → Ends heap frame
  by_book heap frame goes inv =
      let book : HasBook heap l.caller (ready l.plan frame) = l.book heap (ready l.plan frame) inv in
      let same = (ready_same l.plan frame).7 in
      goes (record { booked = λ n k e. book.booked n k (ap (λ b. finite.get b n) same ∙ e); all = λ n h. let found = book.all n h in (found.0, ap (λ b. finite.get b n) (sym same) ∙ found.1) }) inv
