-- The lone run of a caller on the machine.
use Rattle.std.proofs.Common.{◌≡◌, ◌≢◌, ℕ, ◌+◌, ◌<◌, true, false, ◌&&◌, ◌||◌, List, [], ◌∷◌, ◌++◌, length, get_or, set, Option, Some, None, refl, sym, ap, subst, ◌∙◌, arith, slice_set, ℤ}
use Rattle.std.specs.Prelude.{nat_lt, ◌==◌, if◌then◌else◌}
use Rattle.std.specs.FinMap as finite
use Rattle.std.proofs.lemmas.List.{get_or-set_same, get_or-set_other, set-set}
use Rattle.std.proofs.lemmas.List.Sums.{sum_by-set}
use Rattle.dl_ir.specs.declared.answers.Answer.{Answer}
use Rattle.dl_ir.specs.declared.answers.End.{End}
use Rattle.dl_ir.specs.declared.calls.Call.{Call}
use Rattle.dl_ir.specs.declared.names.Name.{Name}
use Rattle.dl_ir.specs.declared.names.Value.{Value}
use Rattle.dl_ir.specs.declared.names.Value.TheVariants.{Ref}
use Rattle.dl_ir.specs.Heap.{Objects, hidden_count}
use Rattle.dl_ir.specs.Meaning.{State}
use Rattle.dl_ir.specs.References.{target_in}
use Rattle.dl_shape.specs.Settling.{settled, breach_of}
use Rattle.dl_core.specs.declared.answers.Event.{Event}
use Rattle.dl_core.specs.declared.answers.Progress.{Progress}
use Rattle.dl_core.specs.declared.answers.Progress.TheVariants as progress
use Rattle.dl_core.specs.declared.objects.Object.{Object}
use Rattle.dl_core.specs.declared.stages.Booked.{Booked}
use Rattle.dl_core.specs.declared.stages.Stage.TheVariants as stages
use Rattle.dl_core.specs.Heaps.{Heap, put_at, plain}
use Rattle.dl_core.specs.Plans.{Plan, IsPlan, steps_of, reference_from}
use Rattle.dl_core.specs.Frames.{Book, Frame, idle, at_rest, is_to_loosen, loosened, has_booked}
use Rattle.dl_core.specs.declared.dues.Due.{Due}
use Rattle.dl_core.specs.declared.dues.Due.TheVariants.{Nothing, Reserves, TakesRoot, Enters, Reads, Writes, Takes, LetsGo, GivesUp, Seals, Makes, Finishes}
use Rattle.dl_core.specs.LocalSteps.{Next, Goes, Stops, next, next_after, next_stage, next_local, next_loose, next_field, next_value, next_target, next_held, due, due_in, step_in, local_step, first_referring, ready, GoesBackToTurns}
use Rattle.dl_core.specs.Events.{Acted, act, aim, event_of, finished}
use Rattle.dl_core.specs.Steps.{step_by, Alone, over, then_on, at_aim, with_frame_by}
use Rattle.dl_core.specs.Core.{Core, Shared, Pool, frame_of, rules_of, aim_of, finished_by, acted, with_event, touches, step_due, step}
use Rattle.dl_core.specs.Reached.{Calls}
use Rattle.dl_core.specs.Reach.{ticket_in}
use Rattle.dl_core.specs.Sound.{HasBook}
use Rattle.dl_core.specs.Laws as laws
use Rattle.dl_core.specs.Laws.{IsKept, Leads}
use Rattle.dl_core.proofs.Names.{same_some, no_some}
use Rattle.dl_core.proofs.Diamond.{moves→step}
use Rattle.dl_core.proofs.Machine.{touch_moves}
use Rattle.dl_core.proofs.LocalSteps.{ready_keeps, ready_stays}
use Rattle.dl_core.proofs.Lone.{Lone, Finds, Ends}
use Rattle.dl_core.proofs.StepsKeep.{steps_keep}
use Rattle.dl_core.proofs.LoneFinds.{finds_due, one_is, several_refer}
use Rattle.dl_core.proofs.EndPhase.{EndAt, settles}
use Rattle.dl_core.proofs.Body.{Over}

-- ---- local steps of an operation that has ended keep its end and its turns

abbrev SameEnd : Frame → Next → Type 0
SameEnd frame (Goes after) = (after.stage ≡ frame.stage) × (after.turns ≡ frame.turns)
SameEnd frame (Stops due) = Unit {0}

module _ (plan : Plan) (frame : Frame) where
  end_loosened : (target : Option Name) (from : Frame) → from.stage ≡ frame.stage → from.turns ≡ frame.turns → SameEnd frame (Goes (loosened target from))
  end_loosened None from s t = (s, t)
  end_loosened (Some name) from s t = elim (is_to_loosen from name) as (λ b. SameEnd frame (Goes (if b then record from { loose = from.loose ++ name ∷ [] } else from))) [ true ↦ (s, t) | false ↦ (s, t) ]

  end_local : (end : End) (o : Option ℕ) → SameEnd frame (next_local frame end o)
  end_local end None = tt
  end_local end (Some x) = end_loosened _ (record frame { locals = slice_set frame.locals x (Ref None) }) refl refl

  end_target : (name : Name) (field : ℕ) (target : Option Name) → SameEnd frame (next_target frame name field target)
  end_target name field None = (refl, refl)
  end_target name field (Some target) = elim (has_booked frame target || frame.seen) as (λ b. SameEnd frame (if b then Stops (Writes name field (Ref None)) else Stops (Takes target))) [ true ↦ tt | false ↦ tt ]

  end_value : (name : Name) (field : ℕ) (hand : Option Value) → SameEnd frame (next_value frame name field hand)
  end_value name field None = tt
  end_value name field (Some value) = end_target name field (target_in value)

  end_field : (name : Name) (field : Option ℕ) → SameEnd frame (next_field frame name field)
  end_field name None = tt
  end_field name (Some field) = end_value name field frame.hand

  end_loose : (name : Name) (booked : Option Booked) → SameEnd frame (next_loose plan frame name booked)
  end_loose name None = tt
  end_loose name (Some booked) =
      elim (nat_lt 0 name.ticket && (booked.fields == 0)) as (λ b. SameEnd frame (if b then next_field frame name (reference_from plan booked.kind frame.cursor) else Stops (LetsGo name))) [
        | true ↦ end_field name (reference_from plan booked.kind frame.cursor)
        | false ↦ tt
      ]

  end_after : (end : End) → frame.stage ≡ stages.Ended end → (loose : List Name) → SameEnd frame (next_after plan frame loose)
  end_after end is [] = subst (λ s. SameEnd frame (next_stage plan frame s)) (sym is) (end_local end (first_referring 0 frame.locals))
  end_after end is (name ∷ names) = end_loose name (finite.get frame.book name)

  end_step : (end : End) (after : Frame) → frame.stage ≡ stages.Ended end → local_step plan frame ≡ Some after → (after.stage ≡ frame.stage) × (after.turns ≡ frame.turns)
  end_step end after is e = by (next plan frame) (end_after end is frame.loose) e
    where
      by : (n : Next) → SameEnd frame n → step_in n ≡ Some after → (after.stage ≡ frame.stage) × (after.turns ≡ frame.turns)
      by (Goes g) same e' = subst (λ (h : Frame). (h.stage ≡ frame.stage) × (h.turns ≡ frame.turns)) (same_some e') same
      by (Stops d) same e' = absurd (no_some e')

-- an operation that has ended so, with so many turns left
abbrev pub HasEnded : End → ℕ → Frame → Type 0
HasEnded end turns frame = (frame.stage ≡ stages.Ended end) × (frame.turns ≡ turns)

ended_ready : (plan : Plan) (end : End) (turns : ℕ) (frame : Frame) → HasEnded end turns frame → HasEnded end turns (ready plan frame)
ended_ready plan end turns frame has = ready_keeps plan (HasEnded end turns) (λ a b h e. let same = end_step plan a end b h.0 e in (same.0 ∙ h.0, same.1 ∙ h.1)) frame has

-- ---- an event that touches an object is a step

module _ (plan : Plan) (core : Core) (caller : ℕ) (frame : Frame) (name : Name) (done : Acted) where
  touching : (d : Due) (at : Name) → Some at ≡ Some name → (event : Event) → event_of d (finite.get core.world.heap name) ≡ Some event → act plan caller frame d (finite.get core.world.heap name) ≡ Some done
      → touches plan core caller frame d at ≡ Some (acted core caller name done, progress.Moved event)
  touching d at e event is acts =
      ap (touches plan core caller frame d) (same_some e)
      ∙ ap (λ v. with_event core caller name v (act plan caller frame d (finite.get core.world.heap name))) is
      ∙ ap (with_event core caller name (Some event)) acts

  pub touch_step : (d : Due) → aim d ≡ Some name → act plan caller frame d (finite.get core.world.heap name) ≡ Some done → (answer : Progress) × (step_due plan core caller frame d ≡ Some (acted core caller name done, answer))
  touch_step Nothing e acts = absurd (no_some e)
  touch_step (Reserves need) e acts = absurd (no_some e)
  touch_step (TakesRoot number) e acts = (_, touching (TakesRoot number) _ e _ refl acts)
  touch_step Enters e acts = absurd (no_some e)
  touch_step (Reads n field) e acts = (_, touching (Reads n field) n e _ refl acts)
  touch_step (Writes n field value) e acts = (_, touching (Writes n field value) n e _ refl acts)
  touch_step (Takes n) e acts = (_, touching (Takes n) n e _ refl acts)
  touch_step (LetsGo n) e acts = (_, touching (LetsGo n) n e _ refl acts)
  touch_step (GivesUp n) e acts = (_, touching (GivesUp n) n e _ refl acts)
  touch_step (Seals n) e acts = (_, touching (Seals n) n e _ refl acts)
  touch_step (Makes n kind) e acts = (_, touching (Makes n kind) n e _ refl acts)
  touch_step (Finishes end) e acts = absurd (no_some e)

-- ---- a state in which one caller alone has entered

-- the callers' frames, and the pool, are these but for the caller's own; no other has entered
module _ (plan : Plan) (caller : ℕ) (frames : List Frame) (pool : Pool) where
  abbrev pub Here : Heap → Frame → Shared
  Here heap frame = record { heap = heap; frames = set frames caller frame }

  abbrev pub Machine : ℕ → Heap → Frame → Core
  Machine clock heap frame = record { world = Here heap frame; clock = clock; pool = pool }

  -- and the state is lawful and sound
  pub record IsHere (heap : Heap) (frame : Frame) : Type 0 where
    pub clock : ℕ
    pub calls : Calls
    pub kept : IsKept plan (Machine clock heap frame) calls

  module _ (within : caller < length frames) where
    pub frame_here : (heap : Heap) (frame : Frame) → frame_of (Here heap frame) caller ≡ frame
    frame_here heap frame = get_or-set_same frames caller frame idle within

    pub again_here : (heap : Heap) (before after : Frame) → ◌≡◌ {A = Shared} (record { heap = heap; frames = set (set frames caller before) caller after }) (Here heap after)
    again_here heap before after = ap (λ fs. record { heap = heap; frames = fs }) (set-set frames caller before after)

    -- an event is a step by the rules
    pub rule_step : (heap : Heap) (frame after : Frame) (name : Name) (left : Option Object) → aim (due plan frame) ≡ Some name → act plan caller frame (due plan frame) (finite.get heap name) ≡ Some (after, left)
        → step_by (rules_of plan) (Here heap frame) caller ≡ Some (Here (put_at heap name left) after)
    rule_step heap frame after name left at acts =
        let core = Machine 0 heap frame in
        let same = frame_here heap frame in
        let moves = touch_moves plan core caller name (ap (λ (f : Frame). aim (due plan f)) same ∙ at) (after, left) (ap (λ (f : Frame). act plan caller f (due plan f) (finite.get heap name)) same ∙ acts) in
        moves→step (rules_of plan) (Here heap frame) caller _ moves ∙ ap Some (again_here (put_at heap name left) frame after)

    -- and keeps the state lawful and sound
    pub here_kept : IsPlan plan → (heap : Heap) (frame after : Frame) (name : Name) (left : Option Object) → IsHere heap frame → aim (due plan frame) ≡ Some name
        → act plan caller frame (due plan frame) (finite.get heap name) ≡ Some (after, left) → IsHere (put_at heap name left) after
    here_kept is heap frame after name left here at acts =
        let core = Machine here.clock heap frame in
        let same = frame_here heap frame in
        let steps = touch_step plan core caller frame name (after, left) (due plan frame) at acts in
        let stepped : step plan core caller ≡ Some (acted core caller name (after, left), steps.0) = ap (λ (f : Frame). step_due plan core caller f (due plan f)) same ∙ steps.1 in
        let kept = steps_keep plan core (acted core caller name (after, left)) here.calls caller steps.0 is here.kept stepped in
        record { clock = here.clock; calls = here.calls; kept = subst (λ w. IsKept plan (record { world = w; clock = here.clock; pool = pool }) here.calls) (again_here (put_at heap name left) frame after) kept }

    module _ (others : (other : ℕ) → other ≢ caller → (get_or frames other idle).ticket ≡ 0) (is : IsPlan plan) (turns : (call : Call) → GoesBackToTurns (steps_of plan call)) where
      pub alone_here : (heap : Heap) (frame : Frame) (other : ℕ) → other ≢ caller → ticket_in (Here heap frame) other ≡ 0
      alone_here heap frame other apart = ap (λ (f : Frame). f.ticket) (get_or-set_other frames caller other frame idle apart) ∙ others other apart

      -- the lone run, towards what is to be shown of it
      abbrev pub lone_of : (Done : Heap → Frame → Type 0)
          → ((heap : Heap) (frame : Frame) (next_heap : Heap) (after : Frame) → step_by (rules_of plan) (Here heap frame) caller ≡ Some (Here next_heap after) → Done next_heap after → Done heap frame) → Lone
      lone_of Done goes = record {
        plan = plan;
        caller = caller;
        turns = turns;
        Inv = IsHere;
        finds = λ heap frame here. subst (λ f. Finds heap caller (due plan f)) (frame_here heap frame)
            (finds_due plan (Machine here.clock heap frame) here.calls caller is here.kept.lawful here.kept.sound (alone_here heap frame));
        book = λ heap frame here. subst (HasBook heap caller) (frame_here heap frame) (here.kept.sound.each caller).book;
        hidden = λ heap frame here name object there hid. one_is plan (Machine here.clock heap frame) here.calls caller is here.kept.lawful here.kept.sound (alone_here heap frame) name object there hid;
        several = λ heap frame end here over_is tidy none name held.
            let same = frame_here heap frame in
            several_refer plan (Machine here.clock heap frame) here.calls caller is here.kept.lawful here.kept.sound (alone_here heap frame) end (ap (λ (f : Frame). f.stage) same ∙ over_is) (ap (λ (f : Frame). f.loose) same ∙ tidy)
            (ap (λ (f : Frame). first_referring 0 f.locals) same ∙ none) name held;
        Done = Done;
        onward = λ heap frame after name left here at acts more. goes heap frame (put_at heap name left) after (rule_step heap frame after name left at acts) (more (here_kept is heap frame after name left here at acts));
      }

      -- places: those that are spare, and the hidden objects
      pub places_here : (heap other_heap : Heap) (frame other_frame : Frame) → IsHere heap frame → IsHere other_heap other_frame → frame.spares + hidden_count (plain heap) ≡ other_frame.spares + hidden_count (plain other_heap)
      places_here heap other_heap frame other_frame here there =
          omega (arith, here.kept.lawful.totals.places, there.kept.lawful.totals.places, sum_by-set (λ (f : Frame). f.spares) frames caller frame idle within, sum_by-set (λ (f : Frame). f.spares) frames caller other_frame idle within)

      -- what the lone run leaves
      pub record IsFinal (base : Frame) (total : ℕ) (objects : Objects) (answer : Answer) (left : Shared) : Type 0 where
        pub heap : plain left.heap ≡ objects
        pub spares : ℕ
        pub frame : frame_of left caller ≡ at_rest base.index (base.finished ++ record { index = base.index; ticket = base.ticket; answer = answer; returned = spares } ∷ [])
        pub returned : spares + hidden_count (plain left.heap) ≡ total

      -- the run comes to an end
      abbrev pub Comes : (Shared → Type 0) → Heap → Frame → Type 0
      Comes Final heap frame = (left : Shared) × Alone (rules_of plan) caller (Here heap frame) left × Final left

      -- by a state in which the caller's frame is such
      abbrev pub Passes : (Frame → Type 0) → Heap → Frame → Type 0
      Passes Mid heap frame = (mid_heap : Heap) × (mid : Frame) × Leads plan caller (Here heap frame) (Here mid_heap mid) × Mid mid

      abbrev pub lone_end : (Shared → Type 0) → Lone
      lone_end Final = lone_of (Comes Final) (λ heap frame next_heap after moves done. (done.0, then_on moves done.1, done.2))

      abbrev pub lone_whole : (Shared → Type 0) → (Frame → Type 0) → Lone
      lone_whole Final Mid = lone_of (λ heap frame. Comes Final heap frame × Passes Mid heap frame)
          (λ heap frame next_heap after moves done. ((done.0.0, then_on moves done.0.1, done.0.2), (done.1.0, done.1.1, laws.on moves done.1.2, done.1.3)))

      -- the last step of the run
      finish_step : (heap : Heap) (frame : Frame) (end : End) → due plan frame ≡ Finishes end → step_by (rules_of plan) (Here heap frame) caller ≡ Some (Here heap (finished end frame))
      finish_step heap frame end is_due =
          let same = frame_here heap frame in
          let rules = rules_of plan in
          let world = Here heap frame in
          ap (λ (f : Frame). at_aim rules world caller (aim_of (due plan f))) same
          ∙ ap (λ d. at_aim rules world caller (aim_of d)) is_due
          ∙ ap (λ (f : Frame). Some (with_frame_by rules world caller (finished_by (due plan f) f))) same
          ∙ ap (λ d. Some (with_frame_by rules world caller (finished_by d frame))) is_due
          ∙ ap Some (again_here heap frame (finished end frame))

      module _ (base : Frame) (total : ℕ) (objects : Objects) (answer : Answer) (Mid : Frame → Type 0) where
        abbrev pub Final : Shared → Type 0
        Final left = IsFinal base total objects answer left

        -- where all is settled the operation is finished
        pub finish_on : (serial : Objects) (end : End) (place turns made : ℕ) (emitted : List ℤ) → settled serial ≡ objects → ◌≡◌ {A = Answer} (record { end = end; breach = breach_of serial; emitted = emitted }) answer
            → ((heap : Heap) (frame : Frame) → IsHere heap frame → frame.spares + hidden_count (plain heap) ≡ total)
            → (locals : List Value) (book : Book) (spares : ℕ) (breach : Option Name) (heap : Heap) → first_referring 0 locals ≡ None → finite.entries book ≡ [] → plain heap ≡ settled serial → breach ≡ breach_of serial
            → Ends (lone_end Final) heap (EndAt (lone_end Final) base serial end place turns made emitted locals book spares breach)
        finish_on serial end place turns made emitted objects_are answer_is total_is locals book spares breach heap none are settled_is breach_is =
            let raw = EndAt (lone_end Final) base serial end place turns made emitted locals book spares breach in
            let comes : next plan raw ≡ Stops (Finishes end) = ap (next_local raw end) none ∙ ap (λ es. Stops (next_held end es)) are in
            let stays : ready plan raw ≡ raw = ready_stays plan raw (ap step_in comes) in
            subst (λ f. IsHere heap f → Comes Final heap f) (sym stays) (λ here. (
              Here heap (finished end raw),
              then_on (finish_step heap raw end (ap due_in comes)) (over (ap (λ (f : Frame). aim_of (due plan f)) (frame_here heap (finished end raw)))),
              record {
                heap = settled_is ∙ objects_are;
                spares = spares;
                frame = frame_here heap (finished end raw)
                    ∙ ap (λ b. at_rest base.index (base.finished ++ record { index = base.index; ticket = base.ticket; answer = record { end = end; breach = b; emitted = emitted }; returned = spares } ∷ [])) breach_is
                    ∙ ap (λ a. at_rest base.index (base.finished ++ record { index = base.index; ticket = base.ticket; answer = a; returned = spares } ∷ [])) answer_is;
                returned = total_is heap raw here;
              },
            ))

        -- the end of the body, and what comes behind it
        pub over_on : (s : State) (end : End) → settled s.objects ≡ objects → ◌≡◌ {A = Answer} (record { end = end; breach = breach_of s.objects; emitted = s.emitted }) answer → ((heap : Heap) (frame : Frame) → IsHere heap frame → frame.spares + hidden_count (plain heap) ≡ total)
            → base.breach ≡ None → ((frame : Frame) → HasEnded end s.turns frame → Mid frame) → Over (lone_whole Final Mid) base end s
        over_on s end objects_are answer_is total_is no_breach mid_is place locals book spares heap pruned here =
            let raw = EndAt (lone_end Final) base s.objects end place s.turns s.made s.emitted locals book spares base.breach in
            let done = settles (lone_end Final) base s.objects end place s.turns s.made s.emitted no_breach (finish_on s.objects end place s.turns s.made s.emitted objects_are answer_is total_is) locals book spares heap pruned here in
            (done, (heap, ready plan raw, laws.nowhere, mid_is (ready plan raw) (ended_ready plan end s.turns raw (refl, refl))))
