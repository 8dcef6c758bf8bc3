-- What falls with each begin and each step.
use Rattle.std.proofs.Common.{◌≡◌, ◌≢◌, inl, inr, ℕ, zero, suc, ◌+◌, ◌-◌, ◌<◌, ◌≤◌, false, List, [], ◌∷◌, ◌++◌, length, length-append, set, get_or, Option, Some, None, refl, sym, ap, ◌∙◌, arith}
use Rattle.std.specs.Prelude.{sum_by, nat_lt, if◌then◌else◌}
use Rattle.std.specs.FinMap as finite
use Rattle.std.proofs.lemmas.Bool.Decides.{nat_tests}
use Rattle.std.proofs.lemmas.List.{get_or-set_same, get_or-set_other}
use Rattle.std.proofs.lemmas.List.Sums.{sum_by-cons, sum_by-set}
use Rattle.std.proofs.lemmas.Option.{slice_get_within}
use Rattle.dl_ir.specs.declared.calls.Call.{Call}
use Rattle.dl_core.specs.declared.objects.Mark.{Mark}
use Rattle.dl_core.specs.declared.objects.Mark.TheVariants as marks
use Rattle.dl_core.specs.declared.objects.Object.{Object}
use Rattle.dl_core.specs.declared.stages.Stage.{Stage}
use Rattle.dl_core.specs.declared.stages.Stage.TheVariants as stages
use Rattle.dl_core.specs.Plans.{Plan, IsPlan, allocs_of, roots_of, size_of, locals_of, fuel_of}
use Rattle.dl_core.specs.Frames.{Frame, IsEntered, idle}
use Rattle.dl_core.specs.declared.dues.Due.TheVariants.{Reserves, TakesRoot}
use Rattle.dl_core.specs.LocalSteps.{due}
use Rattle.dl_core.specs.Events.{Acted, act, take_root, took_root, entered, reserved, refused, finished}
use Rattle.dl_core.specs.Core.{Core, frame_of}
use Rattle.dl_core.specs.Reached.{Calls, IsReached, MayBegin, calls_of, with_begun, steps}
use Rattle.dl_core.specs.Sound.{numbers_from}
use Rattle.dl_core.proofs.Kept.{ready_same}
use Rattle.dl_core.proofs.Machine.{StepIs, reserves_now, refuses_now, enters_now, finishes_now, touches_one, step_is}
use Rattle.dl_core.proofs.Names.{same_number, same_some, no_some}
use Rattle.dl_core.proofs.LawfulAlways.{lawful_always}
use Rattle.dl_order.specs.Measure.{calls_left, left_before, steps_before_entry, BeginsFall, StepsFall}
use Rattle.dl_order.proofs.Always.{asks_when, finishes_when, touches_when, Touches, runs_on, at_root}
use Rattle.dl_order.proofs.Entering.{enters_when}
use Rattle.dl_order.proofs.Keeping.{touch_one}
use Rattle.dl_order.proofs.Progress.{stands_called}
use Rattle.dl_order.proofs.Serial.{IsCalledFor, for_places, for_a_root, for_a_ticket, not_called_past}
use Rattle.dl_order.proofs.Worlds.{stands_of, entered_busy, has_frame}

-- ---- begins

module _ (f g : ℕ → ℕ) (at : ℕ) (here : f at ≡ g at + 1) (there : (n : ℕ) → n ≢ at → f n ≡ g n) where
  sum_past : (first count : ℕ) → at < first → sum_by f (numbers_from first count) ≡ sum_by g (numbers_from first count)
  sum_past first zero lt = refl
  sum_past first (suc count) lt = omega (arith, sum_by-cons f first (numbers_from (first + 1) count), sum_by-cons g first (numbers_from (first + 1) count), there first (λ e. omega (arith, e, lt)), sum_past (first + 1) count (omega arith))

  sum_falls : (first count : ℕ) → first ≤ at → at < first + count → sum_by f (numbers_from first count) ≡ sum_by g (numbers_from first count) + 1
  sum_falls first zero low high = absurd (omega arith)
  sum_falls first (suc count) low high = elim (same_number first at) [
    | inl same ↦ omega (arith, sum_by-cons f first (numbers_from (first + 1) count), sum_by-cons g first (numbers_from (first + 1) count), sum_past (first + 1) count (omega (arith, same)), here, ap f same, ap g same)
    | inr other ↦ omega (arith, sum_by-cons f first (numbers_from (first + 1) count), sum_by-cons g first (numbers_from (first + 1) count), there first other, sum_falls (first + 1) count (below first at low other) (omega arith))
  ]
    where
      below : (a b : ℕ) → a ≤ b → a ≢ b → a + 1 ≤ b
      below a b le n = omega (arith, n)

pub begun_here : (calls : Calls) (place : ℕ) (call : Call) → place < length calls → calls_of (with_begun calls (suc place) call) (suc place) ≡ calls_of calls (suc place) ++ call ∷ []
begun_here calls place call lt = get_or-set_same calls place (get_or calls place [] ++ call ∷ []) [] lt

pub begun_there : (calls : Calls) (caller other : ℕ) (call : Call) → other ≢ caller → calls_of (with_begun calls caller call) other ≡ calls_of calls other
begun_there calls zero other call apart = refl
begun_there calls (suc place) zero call apart = refl
begun_there calls (suc place) (suc other) call apart = get_or-set_other calls place other (get_or calls place [] ++ call ∷ []) [] (λ same. apart (ap suc same))

begins_here : (plan : Plan) (core : Core) (calls : Calls) (caller : ℕ) (call : Call) → IsPlan plan → IsReached plan core calls → MayBegin plan core calls caller call
    → calls_left plan calls ≡ calls_left plan (with_begun calls caller call) + 1
begins_here plan core calls zero call is reached may = absurd (omega (arith, may.is_caller.from_one))
begins_here plan core calls (suc place) call is reached may =
    let sound = (lawful_always plan core calls is reached).sound in
    let one_more : length (calls_of (with_begun calls (suc place) call) (suc place)) ≡ length (calls_of calls (suc place)) + 1
    = ap (λ (cs : List Call). length cs) (begun_here calls place call (omega (arith, may.is_caller.to_last, sound.lists))) ∙ length-append (calls_of calls (suc place)) (call ∷ []) in
    sum_falls (λ c. size_of plan c - length (calls_of calls c)) (λ c. size_of plan c - length (calls_of (with_begun calls (suc place) call) c)) (suc place)
    (omega (arith, one_more, may.room)) (λ n apart. ap (λ (cs : List Call). size_of plan n - length cs) (sym (begun_there calls (suc place) n call apart)))
    1 (length plan.sizes) (omega arith) (omega (arith, may.is_caller.to_last))

-- ---- steps

module _ (plan : Plan) (is : IsPlan plan) where
  abbrev left : Frame → ℕ
  left frame = left_before plan frame frame.stage

  -- of one frame that changes
  one_frame : (core after : Core) (caller : ℕ) (frame : Frame) → caller < length core.world.frames → after.world.frames ≡ set core.world.frames caller frame
      → steps_before_entry plan after.world + left (frame_of core.world caller) ≡ steps_before_entry plan core.world + left frame
  one_frame core after caller frame lt e = omega (arith, ap (λ (fs : List Frame). sum_by left fs) e, sum_by-set left core.world.frames caller frame idle lt)

  new_one : (core after : Core) (caller : ℕ) (frame : Frame) → caller < length core.world.frames → after.world.frames ≡ set core.world.frames caller frame → frame_of after.world caller ≡ frame
  new_one core after caller frame lt e = ap (λ fs. get_or fs caller idle) e ∙ get_or-set_same core.world.frames caller frame idle lt

  busy_left : (frame : Frame) (stage : Stage) → stage ≢ stages.Called → left_before plan frame stage ≡ 0
  busy_left frame stages.Idle no_call = refl
  busy_left frame stages.Called no_call = absurd (no_call refl)
  busy_left frame stages.Running no_call = refl
  busy_left frame (stages.Ended end) no_call = refl

  called_left : (frame : Frame) → frame.stage ≡ stages.Called → left frame ≡ 1 + (if nat_lt frame.spares (allocs_of plan frame.call) then 1 else 0) + (length (roots_of plan frame.call) - frame.taken)
  called_left frame called = ap (left_before plan frame) called

  -- who has entered has none left before its entry
  entered_left : (core : Core) (calls : Calls) (caller : ℕ) → IsReached plan core calls → IsEntered (frame_of core.world caller) → left (frame_of core.world caller) ≡ 0
  entered_left core calls caller reached e =
      busy_left (frame_of core.world caller) (frame_of core.world caller).stage (entered_busy plan core.world.heap calls caller (frame_of core.world caller) (stands_of plan is core calls reached caller) e).1

  abbrev Falls : Core → Core → ℕ → Type 0
  Falls core after caller = ((frame_of core.world caller).ticket ≡ 0 → steps_before_entry plan after.world < steps_before_entry plan core.world)
      × (IsEntered (frame_of core.world caller) → steps_before_entry plan after.world ≡ steps_before_entry plan core.world)

  less_left : (core after : Core) (caller : ℕ) (frame : Frame) → caller < length core.world.frames → after.world.frames ≡ set core.world.frames caller frame → (frame_of core.world caller).ticket ≡ 0 → left frame < left (frame_of core.world caller) → Falls core after caller
  less_left core after caller frame lt e z less = (λ _. omega (arith, one_frame core after caller frame lt e, less), λ entered. absurd (omega (arith, z, entered)))

  none_left : (core after : Core) (caller : ℕ) (frame : Frame) → caller < length core.world.frames → after.world.frames ≡ set core.world.frames caller frame → IsEntered (frame_of core.world caller) → left (frame_of core.world caller) ≡ 0 → left frame ≡ 0 → Falls core after caller
  none_left core after caller frame lt e entered before now = (λ z. absurd (omega (arith, z, entered)), λ _. omega (arith, one_frame core after caller frame lt e, before, now))

  reserve_less : (core : Core) (calls : Calls) (caller need : ℕ) → IsReached plan core calls → (frame_of core.world caller).stage ≡ stages.Called → due plan (frame_of core.world caller) ≡ Reserves need → left (reserved need (frame_of core.world caller)) < left (frame_of core.world caller)
  reserve_less core calls caller need reached called asks = by (stands_called plan is core calls reached caller called).2
    where
      same_need : {a b : ℕ} → Reserves a ≡ Reserves b → a ≡ b
      same_need e = cc

      not_less : (a b : ℕ) → a ≡ b → nat_lt a b ≡ false
      not_less a b e = grind (arith, nat_tests, e)

      by : IsCalledFor plan (frame_of core.world caller) (due plan (frame_of core.world caller)) → left (reserved need (frame_of core.world caller)) < left (frame_of core.world caller)
      by (for_places other e all few) =
          let enough : nat_lt need (allocs_of plan (frame_of core.world caller).call) ≡ false = not_less need (allocs_of plan (frame_of core.world caller).call) (same_need (sym asks ∙ e) ∙ all) in
          omega (
            arith,
            called_left (frame_of core.world caller) called,
            called_left (reserved need (frame_of core.world caller)) called,
            ap {B = ℕ} (λ b. if b then 1 else 0) enough,
            ap {B = ℕ} (λ b. if b then 1 else 0) few,
          )
      by (for_a_root number e there) = absurd (let clash = sym asks ∙ e in cc)
      by (for_a_ticket e enough no_more) = absurd (let clash = sym asks ∙ e in cc)

  root_frame : (caller number : ℕ) (frame : Frame) (found : Option Object) (outcome : Acted) → act plan caller frame (TakesRoot number) found ≡ Some outcome → (kind : ℕ) × (outcome.0 ≡ took_root number kind frame)
  root_frame caller number frame None outcome e = absurd (no_some e)
  root_frame caller number frame (Some object) outcome e = by object.mark e
    where
      by : (mark : Mark) → take_root caller number frame object mark ≡ Some outcome → (kind : ℕ) × (outcome.0 ≡ took_root number kind frame)
      by marks.Free e = (object.kind, ap (λ (o : Acted). o.0) (sym (same_some e)))
      by (marks.Held other) e = absurd (no_some e)
      by (marks.Sealed ticket) e = absurd (no_some e)

  root_less : (core : Core) (calls : Calls) (caller number kind : ℕ) → IsReached plan core calls → (frame_of core.world caller).stage ≡ stages.Called → due plan (frame_of core.world caller) ≡ TakesRoot number → left (took_root number kind (frame_of core.world caller)) < left (frame_of core.world caller)
  root_less core calls caller number kind reached called takes = by (stands_called plan is core calls reached caller called).2
    where
      by : IsCalledFor plan (frame_of core.world caller) (due plan (frame_of core.world caller)) → left (took_root number kind (frame_of core.world caller)) < left (frame_of core.world caller)
      by (for_places other e all few) = absurd (let clash = sym takes ∙ e in cc)
      by (for_a_root other e there) =
          let within = slice_get_within (roots_of plan (frame_of core.world caller).call) (frame_of core.world caller).taken other there in
          omega (arith, called_left (frame_of core.world caller) called, called_left (took_root number kind (frame_of core.world caller)) called, within)
      by (for_a_ticket e enough no_more) = absurd (let clash = sym takes ∙ e in cc)

  falls : (core after : Core) (calls : Calls) (caller : ℕ) → IsReached plan core calls → IsReached plan after calls → StepIs plan core caller after → Falls core after caller
  falls core after calls caller reached then_reached (reserves_now need asks enough is_after) =
      let when = asks_when plan is core calls caller need reached asks in
      less_left core after caller (reserved need (frame_of core.world caller)) (not_called_past plan is core.world caller when.1) (ap (λ (c : Core). c.world.frames) is_after) when.0
      (reserve_less core calls caller need reached when.1 asks)
  falls core after calls caller reached then_reached (refuses_now need asks few is_after) =
      let when = asks_when plan is core calls caller need reached asks in
      less_left core after caller (refused (frame_of core.world caller)) (not_called_past plan is core.world caller when.1) (ap (λ (c : Core). c.world.frames) is_after) when.0
      (omega (arith, called_left (frame_of core.world caller) when.1))
  falls core after calls caller reached then_reached (enters_now enters is_after) =
      let entering = enters_when plan is core calls caller reached enters in
      let called : (frame_of core.world caller).stage ≡ stages.Called = ap (λ (f : Frame). f.stage) entering.waits in
      let lt = not_called_past plan is core.world caller called in
      let frames = ap (λ (c : Core). c.world.frames) is_after in
      let new = new_one core after caller (entered plan (core.clock + 1) (frame_of core.world caller)) lt frames in
      let ticket : (entered plan (core.clock + 1) (frame_of core.world caller)).ticket ≡ core.clock + 1
      = (ready_same plan (record (frame_of core.world caller) { stage = stages.Running; ticket = core.clock + 1; locals = locals_of plan (frame_of core.world caller).call; turns = fuel_of plan (frame_of core.world caller).call })).3 in
      let none_now = entered_left after calls caller then_reached (omega (arith, ap (λ (f : Frame). f.ticket) new, ticket)) in
      less_left core after caller (entered plan (core.clock + 1) (frame_of core.world caller)) lt frames (ap (λ (f : Frame). f.ticket) entering.waits)
      (omega (arith, called_left (frame_of core.world caller) called, none_now, ap left new))
  falls core after calls caller reached then_reached (finishes_now how over is_after) =
      let now = finishes_when plan is core calls caller how reached over in
      none_left core after caller (finished how (frame_of core.world caller)) (has_frame plan is core.world caller now) (ap (λ (c : Core). c.world.frames) is_after) now (entered_left core calls caller reached now) refl
  falls core after calls caller reached then_reached (touches_one name at outcome acts is_after) = by (touches_when plan is core calls caller name reached at)
    where
      frames : after.world.frames ≡ set core.world.frames caller outcome.0
      frames = ap (λ (c : Core). c.world.frames) is_after

      by : Touches plan is core caller → Falls core after caller
      by (runs_on e) =
          let lt = has_frame plan is core.world caller e in
          let new = new_one core after caller outcome.0 lt frames in
          let one = touch_one plan caller (frame_of core.world caller) (due plan (frame_of core.world caller)) (finite.get core.world.heap name) outcome acts in
          let none_now = entered_left after calls caller then_reached (omega (arith, ap (λ (f : Frame). f.ticket) new, one.0, e)) in
          none_left core after caller outcome.0 lt frames e (entered_left core calls caller reached e) (ap left (sym new) ∙ none_now)
      by (at_root number takes z called) =
          let took = root_frame caller number (frame_of core.world caller) (finite.get core.world.heap name) outcome (ap (λ d. act plan caller (frame_of core.world caller) d (finite.get core.world.heap name)) (sym takes) ∙ acts) in
          less_left core after caller outcome.0 (not_called_past plan is core.world caller called) frames z
          (omega (arith, ap left took.1, root_less core calls caller number took.0 reached called takes))

pub begins_fall : BeginsFall
begins_fall plan core calls caller call is reached may = begins_here plan core calls caller call is reached may

pub steps_fall : StepsFall
steps_fall plan core after calls caller answer is reached e = falls plan is core after calls caller reached (steps caller answer reached e) (step_is plan core caller after answer e)
