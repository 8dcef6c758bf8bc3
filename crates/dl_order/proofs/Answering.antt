-- What a caller that is given a step is answered, and that the steps of a lone run are steps of the machine.
use Rattle.std.proofs.Common.{◌≡◌, ◌≢◌, ℕ, ◌<◌, Bool, true, false, Option, Some, None, refl, sym, ap, ap₂, subst, ◌∙◌, arith}
use Rattle.std.specs.Prelude.{◌↔◌, nat_lt, if◌then◌else◌}
use Rattle.std.specs.FinMap as finite
use Rattle.std.proofs.lemmas.Bool.Decides.{nat_tests}
use Rattle.dl_ir.specs.declared.names.Name.{Name}
use Rattle.dl_ir.specs.Heap.{root}
use Rattle.dl_core.specs.declared.answers.Event.{Event}
use Rattle.dl_core.specs.declared.answers.Progress.{Progress}
use Rattle.dl_core.specs.declared.answers.Progress.TheVariants as progress
use Rattle.dl_core.specs.declared.dues.Due.{Due}
use Rattle.dl_core.specs.declared.dues.Due.TheVariants.{Nothing, Reserves, TakesRoot, Enters, Reads, Writes, Takes, LetsGo, GivesUp, Seals, Makes, Finishes}
use Rattle.dl_core.specs.declared.objects.Mark.{Mark}
use Rattle.dl_core.specs.declared.objects.Mark.TheVariants as marks
use Rattle.dl_core.specs.declared.objects.Object.{Object}
use Rattle.dl_core.specs.declared.stages.Stage.TheVariants as stages
use Rattle.dl_core.specs.Heaps.{Heap, IsHeld}
use Rattle.dl_core.specs.Plans.{Plan, IsPlan}
use Rattle.dl_core.specs.Frames.{Frame, IsEntered}
use Rattle.dl_core.specs.LocalSteps.{due}
use Rattle.dl_core.specs.Events.{Acted, act, aim, take, take_root, event_of}
use Rattle.dl_core.specs.Steps.{step_by}
use Rattle.dl_core.specs.Core.{Core, Shared, Stepped, frame_of, rules_of, aim_of, with_event, touches, refuses, reserves, step_due, step, stands, waits_for, waits_at, or_stands, stepped, lock_of}
use Rattle.dl_core.specs.Reached.{Calls, IsReached}
use Rattle.dl_core.specs.Reach.{WaitsFor, target_of_take}
use Rattle.dl_core.specs.Sound.{Stands, idles, waits, works}
use Rattle.dl_core.proofs.Diamond.{step→moves, moves→step}
use Rattle.dl_core.proofs.LawfulAlways.{lawful_always}
use Rattle.dl_core.proofs.Machine.{StepIs, reserves_now, refuses_now, enters_now, finishes_now, touches_one, step_is, touch_moves, finish_moves}
use Rattle.dl_core.proofs.Names.{same_some, no_some}
use Rattle.dl_order.specs.Found.{IsThere, IsAnswerOf, AnswersAreRight, TakersWait}
use Rattle.dl_order.specs.Serial.{LoneStepsAreSteps}
use Rattle.dl_order.proofs.Found.{all_is_there, holders_are_callers}
use Rattle.dl_order.proofs.Given.{names_are_given_once}
use Rattle.dl_order.proofs.Progress.{stands_called}
use Rattle.dl_order.proofs.Serial.{IsCalledFor, for_places, for_a_root, for_a_ticket}
use Rattle.dl_order.proofs.Worlds.{stands_of, nowhere_unentered, moves_step}

some_none : {A : Type 0} {a : A} → Some a ≡ None → ⊥
some_none e = cc

module _ (plan : Plan) (core : Core) (calls : Calls) (caller : ℕ) (is : IsPlan plan) (reached : IsReached plan core calls) where
  abbrev heap : Heap
  heap = core.world.heap

  abbrev frame : Frame
  frame = frame_of core.world caller

  -- ---- where no step is made

  -- nothing comes next, or another holds what does
  data Stuck (d : Due) : Type 0 where
    has_nothing : d ≡ Nothing → Stuck d
    waits_behind : (name : Name) (object : Object) (other : ℕ) → aim d ≡ Some name → target_of_take d ≡ Some name → finite.get heap name ≡ Some object → object.mark ≡ marks.Held other → Stuck d

  touches_some : (d : Due) (name : Name) (event : Event) (outcome : Acted) → event_of d (finite.get heap name) ≡ Some event → act plan caller frame d (finite.get heap name) ≡ Some outcome → touches plan core caller frame d name ≡ None → ⊥
  touches_some d name event outcome p q e = some_none (sym (ap₂ (with_event core caller name) p q) ∙ e)

  there_at : (d : Due) (name : Name) → due plan frame ≡ d → aim d ≡ Some name → ((kind : ℕ) → d ≢ Makes name kind) → IsThere heap name
  there_at d name at is_aim other = (all_is_there plan core calls is reached).aimed caller name (ap aim at ∙ is_aim) (λ kind e. other kind (sym at ∙ e))

  stuck : (d : Due) → due plan frame ≡ d → step_due plan core caller frame d ≡ None → Stuck d
  stuck Nothing at e = has_nothing refl
  stuck (Reserves need) at e = absurd (some_none e)
  stuck (TakesRoot number) at e = by found.object.mark refl
    where
      found : IsThere heap (root number)
      found = there_at (TakesRoot number) (root number) at refl (λ kind f. absurd (cc))

      acts : (mark : Mark) → found.object.mark ≡ mark → act plan caller frame (TakesRoot number) (finite.get heap (root number)) ≡ take_root caller number frame found.object mark
      acts mark m = ap (act plan caller frame (TakesRoot number)) found.there ∙ ap (take_root caller number frame found.object) m

      by : (mark : Mark) → found.object.mark ≡ mark → Stuck (TakesRoot number)
      by marks.Free m = absurd (touches_some (TakesRoot number) (root number) _ _ refl (acts marks.Free m) e)
      by (marks.Held other) m = waits_behind (root number) found.object other refl refl found.there m
      by (marks.Sealed ticket) m = absurd (let hidden = ((lawful_always plan core calls is reached).sound.tickets.seals (root number) found.object ticket found.there m).1 in omega (arith, hidden))
  stuck Enters at e = absurd (some_none e)
  stuck (Reads name field) at e =
      let found = there_at (Reads name field) name at refl (λ kind f. absurd (cc)) in
      absurd (touches_some (Reads name field) name _ _ refl (ap (act plan caller frame (Reads name field)) found.there) e)
  stuck (Writes name field value) at e =
      let found = there_at (Writes name field value) name at refl (λ kind f. absurd (cc)) in
      absurd (touches_some (Writes name field value) name _ _ refl (ap (act plan caller frame (Writes name field value)) found.there) e)
  stuck (Takes name) at e = by found.object.mark refl
    where
      found : IsThere heap name
      found = there_at (Takes name) name at refl (λ kind f. absurd (cc))

      acts : (mark : Mark) → found.object.mark ≡ mark → act plan caller frame (Takes name) (finite.get heap name) ≡ take plan caller name frame found.object mark
      acts mark m = ap (act plan caller frame (Takes name)) found.there ∙ ap (take plan caller name frame found.object) m

      by : (mark : Mark) → found.object.mark ≡ mark → Stuck (Takes name)
      by marks.Free m = absurd (touches_some (Takes name) name _ _ refl (acts marks.Free m) e)
      by (marks.Held other) m = waits_behind name found.object other refl refl found.there m
      by (marks.Sealed ticket) m = absurd (touches_some (Takes name) name _ _ refl (acts (marks.Sealed ticket) m) e)
  stuck (LetsGo name) at e =
      let found = there_at (LetsGo name) name at refl (λ kind f. absurd (cc)) in
      absurd (touches_some (LetsGo name) name _ _ refl (ap (act plan caller frame (LetsGo name)) found.there) e)
  stuck (GivesUp name) at e =
      let found = there_at (GivesUp name) name at refl (λ kind f. absurd (cc)) in
      absurd (touches_some (GivesUp name) name _ _ refl (ap (act plan caller frame (GivesUp name)) found.there) e)
  stuck (Seals name) at e =
      let found = there_at (Seals name) name at refl (λ kind f. absurd (cc)) in
      absurd (touches_some (Seals name) name _ _ refl (ap (act plan caller frame (Seals name)) found.there) e)
  stuck (Makes name kind) at e = by (finite.get heap name) refl
    where
      by : (found : Option Object) → finite.get heap name ≡ found → Stuck (Makes name kind)
      by None p = absurd (touches_some (Makes name kind) name _ _ refl (ap (act plan caller frame (Makes name kind)) p) e)
      by (Some object) p =
          let once = names_are_given_once plan core calls is reached in
          absurd ((once.makes caller kind name at).1 (once.there name (record { object = object; there = p })))
  stuck (Finishes end) at e = absurd (some_none e)

  -- nothing comes next only where no call is in hand
  idle_at : due plan frame ≡ Nothing → frame.stage ≡ stages.Idle
  idle_at at = by (stands_of plan is core calls reached caller)
    where
      called : (d : Due) → d ≡ Nothing → IsCalledFor plan frame d → ⊥
      called d e (for_places need f all few) = absurd (let g : Reserves need ≡ Nothing = sym f ∙ e in cc)
      called d e (for_a_root number f there) = absurd (let g : TakesRoot number ≡ Nothing = sym f ∙ e in cc)
      called d e (for_a_ticket f enough no_more) = absurd (let g : Enters ≡ Nothing = sym f ∙ e in cc)

      by : Stands plan heap calls caller frame → frame.stage ≡ stages.Idle
      by (idles e) = ap (λ (f : Frame). f.stage) e
      by (waits call w) = absurd (called (due plan frame) at (stands_called plan is core calls reached caller (ap (λ (f : Frame). f.stage) w.is)).2)
      by (works call e w) = absurd (nowhere_unentered plan is core calls reached caller (ap aim_of at) e)

  -- the answer where none is made
  stands_so : (after : Core) (answer : Progress) → Stuck (due plan frame) → ◌≡◌ {A = Stepped} (core, stands heap (aim (due plan frame))) (after, answer) → IsAnswerOf plan core caller answer after
  stands_so after answer (has_nothing at) e =
      subst (λ a. IsAnswerOf plan core caller a after) (sym (ap (λ d. stands heap (aim d)) at) ∙ ap (λ (s : Stepped). s.1) e) (sym (ap (λ (s : Stepped). s.0) e), idle_at at)
  stands_so after answer (waits_behind name object other is_aim takes there m) e =
      let held : IsHeld heap other name = record { object = object; there = there; held = m } in
      let holders = holders_are_callers plan core calls is reached in
      subst (λ a. IsAnswerOf plan core caller a after) (sym (ap (stands heap) is_aim ∙ ap (waits_for name) there ∙ ap (waits_at name) m) ∙ ap (λ (s : Stepped). s.1) e) (
        sym (ap (λ (s : Stepped). s.0) e),
        record {
          waits = record { name = name; takes = takes; held = held; apart = λ same. holders.others caller name takes (subst (λ c. IsHeld heap c name) (sym same) held) };
          lock_is = refl;
          holder = holders.callers other name held;
        },
      )

  -- ---- where a step is made

  -- an answer that says what the step is
  moved_so : (next after : Core) (event : Event) (answer : Progress) → step plan core caller ≡ Some (after, answer) → ◌≡◌ {A = Option Stepped} (Some (next, progress.Moved event)) (Some (after, answer)) → IsAnswerOf plan core caller answer after
  moved_so next after event answer steps e =
      let same : progress.Moved event ≡ answer = ap (λ (s : Stepped). s.1) (same_some e) in
      subst (λ a. IsAnswerOf plan core caller a after) same (steps ∙ ap (λ a. Some (after, a)) (sym same))

  touched_so : (d : Due) (name : Name) (event : Option Event) (outcome : Option Acted) (after : Core) (answer : Progress) → step plan core caller ≡ Some (after, answer) → with_event core caller name event outcome ≡ Some (after, answer)
      → IsAnswerOf plan core caller answer after
  touched_so d name None outcome after answer steps e = absurd (no_some e)
  touched_so d name (Some event) None after answer steps e = absurd (no_some e)
  touched_so d name (Some event) (Some outcome) after answer steps e = moved_so _ after event answer steps e

  touches_so : (d : Due) (name : Name) (after : Core) (answer : Progress) → step plan core caller ≡ Some (after, answer) → touches plan core caller frame d name ≡ Some (after, answer) → IsAnswerOf plan core caller answer after
  touches_so d name after answer steps e = touched_so d name (event_of d (finite.get heap name)) (act plan caller frame d (finite.get heap name)) after answer steps e

  asked_so : (need : ℕ) (after : Core) (answer : Progress) → due plan frame ≡ Reserves need → (b : Bool) → nat_lt core.pool.free need ≡ b → step plan core caller ≡ Some (after, answer)
      → Some (if b then refuses core caller frame need else reserves core caller frame need) ≡ Some (after, answer) → IsAnswerOf plan core caller answer after
  asked_so need after answer at true t steps e =
      let same : progress.Refused need core.pool.free core.pool.version ≡ answer = ap (λ (s : Stepped). s.1) (same_some e) in
      subst (λ a. IsAnswerOf plan core caller a after) same (at, (let less : core.pool.free < need = grind (arith, nat_tests, t) in less), refl, refl, steps ∙ ap (λ a. Some (after, a)) (sym same))
  asked_so need after answer at false t steps e = moved_so _ after _ answer steps e

  steps_so : (d : Due) (after : Core) (answer : Progress) → due plan frame ≡ d → step plan core caller ≡ Some (after, answer) → step_due plan core caller frame d ≡ Some (after, answer) → IsAnswerOf plan core caller answer after
  steps_so Nothing after answer at steps e = absurd (no_some e)
  steps_so (Reserves need) after answer at steps e = asked_so need after answer at (nat_lt core.pool.free need) refl steps e
  steps_so (TakesRoot number) after answer at steps e = touches_so (TakesRoot number) (root number) after answer steps e
  steps_so Enters after answer at steps e = moved_so _ after _ answer steps e
  steps_so (Reads name field) after answer at steps e = touches_so (Reads name field) name after answer steps e
  steps_so (Writes name field value) after answer at steps e = touches_so (Writes name field value) name after answer steps e
  steps_so (Takes name) after answer at steps e = touches_so (Takes name) name after answer steps e
  steps_so (LetsGo name) after answer at steps e = touches_so (LetsGo name) name after answer steps e
  steps_so (GivesUp name) after answer at steps e = touches_so (GivesUp name) name after answer steps e
  steps_so (Seals name) after answer at steps e = touches_so (Seals name) name after answer steps e
  steps_so (Makes name kind) after answer at steps e = touches_so (Makes name kind) name after answer steps e
  steps_so (Finishes end) after answer at steps e =
      let same : ◌≡◌ {A = Progress} _ answer = ap (λ (s : Stepped). s.1) (same_some e) in
      subst (λ a. IsAnswerOf plan core caller a after) same (steps ∙ ap (λ a. Some (after, a)) (sym same))

  answer_right : (after : Core) (answer : Progress) → stepped plan core caller ≡ (after, answer) → IsAnswerOf plan core caller answer after
  answer_right after answer e = by (step plan core caller) refl e
    where
      by : (s : Option Stepped) → step plan core caller ≡ s → or_stands plan core caller s ≡ (after, answer) → IsAnswerOf plan core caller answer after
      by None p f = stands_so after answer (stuck (due plan frame) refl p) f
      by (Some made) p f = steps_so (due plan frame) after answer refl (p ∙ ap Some f) (p ∙ ap Some f)

  -- ---- who waits

  waits_so : (d : Due) (name : Name) (object : Object) (other : ℕ) → target_of_take d ≡ Some name → finite.get heap name ≡ Some object → object.mark ≡ marks.Held other → (step_due plan core caller frame d ≡ None) × (aim d ≡ Some name)
  waits_so (TakesRoot number) name object other takes there m =
      let at : finite.get heap (root number) ≡ Some object = ap (finite.get heap) (same_some takes) ∙ there in (
        ap (λ o. with_event core caller (root number) (event_of (TakesRoot number) o) (act plan caller frame (TakesRoot number) o)) at
            ∙ ap (λ k. with_event core caller (root number) (event_of (TakesRoot number) (Some object)) (take_root caller number frame object k)) m,
        takes,
      )
  waits_so (Takes wanted) name object other takes there m =
      let at : finite.get heap wanted ≡ Some object = ap (finite.get heap) (same_some takes) ∙ there in (
        ap (λ o. with_event core caller wanted (event_of (Takes wanted) o) (act plan caller frame (Takes wanted) o)) at
            ∙ ap (λ k. with_event core caller wanted (event_of (Takes wanted) (Some object)) (take plan caller wanted frame object k)) m,
        takes,
      )
  waits_so Nothing name object other takes there m = absurd (no_some takes)
  waits_so (Reserves need) name object other takes there m = absurd (no_some takes)
  waits_so Enters name object other takes there m = absurd (no_some takes)
  waits_so (Reads n field) name object other takes there m = absurd (no_some takes)
  waits_so (Writes n field value) name object other takes there m = absurd (no_some takes)
  waits_so (LetsGo n) name object other takes there m = absurd (no_some takes)
  waits_so (GivesUp n) name object other takes there m = absurd (no_some takes)
  waits_so (Seals n) name object other takes there m = absurd (no_some takes)
  waits_so (Makes n kind) name object other takes there m = absurd (no_some takes)
  waits_so (Finishes end) name object other takes there m = absurd (no_some takes)

  taker_waits : (other : ℕ) (behind : WaitsFor plan core.world caller other) → stepped plan core caller ≡ (core, progress.Waiting (lock_of behind.name) other)
  taker_waits other behind =
      let so = waits_so (due plan frame) behind.name behind.held.object other behind.takes behind.held.there behind.held.held in
      ap (or_stands plan core caller) so.0
      ∙ ap (λ a. (core, a)) (ap (stands heap) so.1 ∙ ap (waits_for behind.name) behind.held.there ∙ ap (waits_at behind.name) behind.held.held)

  -- ---- lone runs

  lone_step : (world : Shared) → IsEntered frame → (step_by (rules_of plan) core.world caller ≡ Some world) ↔ ((after : Core) × (answer : Progress) × (step plan core caller ≡ Some (after, answer)) × (after.world ≡ world))
  lone_step world entered = (
    λ moves. let made = moves_step plan core caller world (step→moves (rules_of plan) core.world caller world moves) in (made.after, made.answer, made.steps, made.is),
    λ made. by made.0 (step_is plan core caller made.0 made.1 made.2) made.3,
  )
    where
      by : (after : Core) → StepIs plan core caller after → after.world ≡ world → step_by (rules_of plan) core.world caller ≡ Some world
      by after (reserves_now need at enough is_after) same = absurd (nowhere_unentered plan is core calls reached caller (ap aim_of at) entered)
      by after (refuses_now need at few is_after) same = absurd (nowhere_unentered plan is core calls reached caller (ap aim_of at) entered)
      by after (enters_now at is_after) same = absurd (nowhere_unentered plan is core calls reached caller (ap aim_of at) entered)
      by after (finishes_now end at is_after) same =
          moves→step (rules_of plan) core.world caller _ (finish_moves plan core caller end at) ∙ ap (λ (c : Core). Some c.world) (sym is_after) ∙ ap Some same
      by after (touches_one name at outcome acts is_after) same =
          moves→step (rules_of plan) core.world caller _ (touch_moves plan core caller name at outcome acts) ∙ ap (λ (c : Core). Some c.world) (sym is_after) ∙ ap Some same

pub answers_are_right : AnswersAreRight
answers_are_right plan core after calls caller answer is reached e = answer_right plan core calls caller is reached after answer e

pub takers_wait : TakersWait
takers_wait plan core calls caller other is reached behind = taker_waits plan core calls caller is reached other behind

pub lone_steps_are_steps : LoneStepsAreSteps
lone_steps_are_steps plan core calls caller world is reached entered = lone_step plan core calls caller is reached world entered
