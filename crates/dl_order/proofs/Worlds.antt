-- The worlds through which running callers lead are those of states to which a run comes.
use Rattle.std.proofs.Common.{◌≡◌, ◌≢◌, ◌⊎◌, inl, inr, ℕ, ◌<◌, length, set, Some, refl, sym, ap, ap₂, subst, ◌∙◌, arith}
use Rattle.std.specs.FinMap as finite
use Rattle.std.proofs.lemmas.Bool.{cases_lt}
use Rattle.std.proofs.lemmas.List.{get_or-set_same, get_or-set_other, get_or_past}
use Rattle.dl_ir.specs.declared.answers.End.{End}
use Rattle.dl_ir.specs.declared.names.Name.{Name}
use Rattle.dl_core.specs.declared.answers.Event.{Event}
use Rattle.dl_core.specs.declared.answers.Progress.{Progress}
use Rattle.dl_core.specs.declared.answers.Progress.TheVariants as progress
use Rattle.dl_core.specs.declared.stages.Stage.{Stage}
use Rattle.dl_core.specs.declared.stages.Stage.TheVariants as stages
use Rattle.dl_core.specs.Heaps.{Heap}
use Rattle.dl_core.specs.Plans.{Plan, IsPlan}
use Rattle.dl_core.specs.Frames.{Frame, IsEntered, idle}
use Rattle.dl_core.specs.declared.dues.Due.{Due}
use Rattle.dl_core.specs.declared.dues.Due.TheVariants.{Nothing, Reserves, TakesRoot, Enters, Reads, Writes, Takes, LetsGo, GivesUp, Seals, Makes, Finishes}
use Rattle.dl_core.specs.LocalSteps.{due}
use Rattle.dl_core.specs.Events.{Acted, act, event_of}
use Rattle.dl_core.specs.Steps.{Nowhere, Inside, At, step_by}
use Rattle.dl_core.specs.Core.{Core, Shared, frame_of, rules_of, aim_of, finished_by, acted, with_event, touches, finishes, step_due, step}
use Rattle.dl_core.specs.Reached.{Calls, IsReached, steps}
use Rattle.dl_core.specs.Sound.{Stands, idles, waits, works}
use Rattle.dl_core.proofs.Diamond.{Touch, Leaves, Puts, touched, Acts, Moves, moves→step, Clear}
use Rattle.dl_core.proofs.Clearance.{touches_clear}
use Rattle.dl_core.proofs.Names.{same_number}
use Rattle.dl_core.proofs.LawfulAlways.{lawful_always}
use Rattle.dl_core.proofs.Acting.{entered_acts}
pub use Rattle.dl_core.proofs.Standing.{idle_rests}
use Rattle.dl_order.proofs.Keeping.{touch_one}
use Rattle.dl_order.proofs.Runs.{IsOrdered}

-- ---- how a caller stands

module _ (plan : Plan) (heap : Heap) (calls : Calls) (caller : ℕ) (frame : Frame) where
  -- who has entered runs or has ended
  pub entered_busy : Stands plan heap calls caller frame → IsEntered frame → (frame.stage ≢ stages.Idle) × (frame.stage ≢ stages.Called)
  entered_busy (idles e) entered = absurd (let z : frame.ticket ≡ 0 = ap (λ (f : Frame). f.ticket) e in omega (arith, entered, z))
  entered_busy (waits call w) entered = absurd (let z : frame.ticket ≡ 0 = ap (λ (f : Frame). f.ticket) w.is in omega (arith, entered, z))
  entered_busy (works call e w) entered = elim w.stage [ inl runs ↦ (not_idle frame.stage runs, not_called frame.stage runs) | inr ends ↦ (end_not_idle frame.stage ends.0 ends.1, end_not_called frame.stage ends.0 ends.1) ]
    where
      not_idle : (s : Stage) → s ≡ stages.Running → s ≢ stages.Idle
      not_idle s p q = cc

      not_called : (s : Stage) → s ≡ stages.Running → s ≢ stages.Called
      not_called s p q = cc

      end_not_idle : (s : Stage) (end : End) → s ≡ stages.Ended end → s ≢ stages.Idle
      end_not_idle s end p q = cc

      end_not_called : (s : Stage) (end : End) → s ≡ stages.Ended end → s ≢ stages.Called
      end_not_called s end p q = cc

  -- who has not entered is idle, or has a call in hand
  pub unentered : Stands plan heap calls caller frame → frame.ticket ≡ 0 → (frame.stage ≡ stages.Idle) ⊎ (frame.stage ≡ stages.Called)
  unentered (idles e) z = inl (ap (λ (f : Frame). f.stage) e)
  unentered (waits call w) z = inr (ap (λ (f : Frame). f.stage) w.is)
  unentered (works call e w) z = absurd (omega (arith, e, z))

-- ---- a step by the rules is a step of the machine

pub inside_is : (d : Due) → aim_of d ≡ Inside → (end : End) × (d ≡ Finishes end)
inside_is Nothing e = absurd (cc)
inside_is (Reserves need) e = absurd (cc)
inside_is (TakesRoot number) e = absurd (cc)
inside_is Enters e = absurd (cc)
inside_is (Reads n field) e = absurd (cc)
inside_is (Writes n field value) e = absurd (cc)
inside_is (Takes n) e = absurd (cc)
inside_is (LetsGo n) e = absurd (cc)
inside_is (GivesUp n) e = absurd (cc)
inside_is (Seals n) e = absurd (cc)
inside_is (Makes n kind) e = absurd (cc)
inside_is (Finishes end) e = (end, refl)

at_same : {a b : Name} → At a ≡ At b → a ≡ b
at_same e = cc

module _ (plan : Plan) (core : Core) (caller : ℕ) where
  -- the machine makes the step, to this world, and keeps the clock
  pub record Makes_it (world : Shared) : Type 0 where
    pub after : Core
    pub answer : Progress
    pub steps : step plan core caller ≡ Some (after, answer)
    pub is : after.world ≡ world
    pub clock : after.clock ≡ core.clock

  touch_at : (d : Due) (n name : Name) → n ≡ name → (event : Event) → event_of d (finite.get core.world.heap n) ≡ Some event → (outcome : Acted)
      → act plan caller (frame_of core.world caller) d (finite.get core.world.heap name) ≡ Some outcome
      → touches plan core caller (frame_of core.world caller) d n ≡ Some (acted core caller name outcome, progress.Moved event)
  touch_at d n name same event is outcome acts =
      ap₂ (with_event core caller n) is (ap (λ m. act plan caller (frame_of core.world caller) d (finite.get core.world.heap m)) same ∙ acts)
      ∙ ap (λ m. Some (acted core caller m outcome, progress.Moved event)) same

  -- what took place
  touch_of : (d : Due) (name : Name) → aim_of d ≡ At name → (outcome : Acted) → act plan caller (frame_of core.world caller) d (finite.get core.world.heap name) ≡ Some outcome
      → (event : Event) × (step_due plan core caller (frame_of core.world caller) d ≡ Some (acted core caller name outcome, progress.Moved event))
  touch_of Nothing name e outcome acts = absurd (cc)
  touch_of (Reserves need) name e outcome acts = absurd (cc)
  touch_of (TakesRoot number) name e outcome acts = (_, touch_at (TakesRoot number) _ name (at_same e) _ refl outcome acts)
  touch_of Enters name e outcome acts = absurd (cc)
  touch_of (Reads n field) name e outcome acts = (_, touch_at (Reads n field) n name (at_same e) _ refl outcome acts)
  touch_of (Writes n field value) name e outcome acts = (_, touch_at (Writes n field value) n name (at_same e) _ refl outcome acts)
  touch_of (Takes n) name e outcome acts = (_, touch_at (Takes n) n name (at_same e) _ refl outcome acts)
  touch_of (LetsGo n) name e outcome acts = (_, touch_at (LetsGo n) n name (at_same e) _ refl outcome acts)
  touch_of (GivesUp n) name e outcome acts = (_, touch_at (GivesUp n) n name (at_same e) _ refl outcome acts)
  touch_of (Seals n) name e outcome acts = (_, touch_at (Seals n) n name (at_same e) _ refl outcome acts)
  touch_of (Makes n kind) name e outcome acts = (_, touch_at (Makes n kind) n name (at_same e) _ refl outcome acts)
  touch_of (Finishes end) name e outcome acts = absurd (cc)

  pub moves_step : (world : Shared) → Moves (rules_of plan) core.world caller world → Makes_it world
  moves_step world m = by m.touch m.acts m.is
    where
      by : (touch : Touch) → Acts (rules_of plan) core.world caller touch m.frame → world ≡ record { heap = touched core.world.heap touch; frames = set core.world.frames caller m.frame } → Makes_it world
      by Leaves acts is =
          let end = inside_is (due plan (frame_of core.world caller)) acts.0 in
          record {
            after = (finishes core caller (frame_of core.world caller) end.0).0;
            answer = (finishes core caller (frame_of core.world caller) end.0).1;
            steps = ap (step_due plan core caller (frame_of core.world caller)) end.1;
            is = ap (λ f. record { heap = core.world.heap; frames = set core.world.frames caller f }) (sym (ap (λ d. finished_by d (frame_of core.world caller)) end.1) ∙ acts.1) ∙ sym is;
            clock = refl;
          }
      by (Puts name found) acts is =
          let got = touch_of (due plan (frame_of core.world caller)) name acts.0 (m.frame, found) acts.1 in
          record { after = acted core caller name (m.frame, found); answer = progress.Moved got.0; steps = got.1; is = sym is; clock = refl }

-- ---- worlds of reached states

-- a world, with these calls begun and this last ticket drawn, is that of a state to which a run comes
pub record IsWorldOf (plan : Plan) (calls : Calls) (clock : ℕ) (world : Shared) : Type 0 where
  pub core : Core
  pub is : core.world ≡ world
  pub clock_is : core.clock ≡ clock
  pub reached : IsReached plan core calls

-- another caller, which has entered or is idle
abbrev pub IsOther : Shared → ℕ → ℕ → Type 0
IsOther world other caller = (caller ≢ other) × (IsEntered (frame_of world other) ⊎ ((frame_of world other).stage ≡ stages.Idle))

module _ (plan : Plan) (is : IsPlan plan) where
  pub stands_of : (core : Core) (calls : Calls) → IsReached plan core calls → (caller : ℕ) → Stands plan core.world.heap calls caller (frame_of core.world caller)
  stands_of core calls reached caller = ((lawful_always plan core calls is reached).sound.each caller).stands

  -- who is idle makes no step
  pub idle_nowhere : (core : Core) (calls : Calls) → IsReached plan core calls → (caller : ℕ) → (frame_of core.world caller).stage ≡ stages.Idle → aim_of (due plan (frame_of core.world caller)) ≡ Nowhere
  idle_nowhere core calls reached caller i =
      ap (λ (f : Frame). aim_of (due plan f)) (idle_rests plan core.world.heap calls caller (frame_of core.world caller) (stands_of core calls reached caller) i)

  -- and who makes none has not entered
  pub nowhere_unentered : (core : Core) (calls : Calls) → IsReached plan core calls → (caller : ℕ) → aim_of (due plan (frame_of core.world caller)) ≡ Nowhere → IsEntered (frame_of core.world caller) → ⊥
  nowhere_unentered core calls reached caller e entered =
      let busy = entered_busy plan core.world.heap calls caller (frame_of core.world caller) (stands_of core calls reached caller) entered in
      entered_acts plan (frame_of core.world caller) ((lawful_always plan core calls is reached).sound.each caller).ready busy.0 busy.1 e

  -- who has entered has a frame
  pub has_frame : (world : Shared) (caller : ℕ) → IsEntered (frame_of world caller) → caller < length world.frames
  has_frame world caller entered = elim (cases_lt caller (length world.frames)) [
    | inl lt ↦ lt
    | inr le ↦ absurd (let z : (frame_of world caller).ticket ≡ 0 = ap (λ (f : Frame). f.ticket) (get_or_past world.frames caller idle le) in omega (arith, entered, z))
  ]

  pub same_frame : (w w' : Shared) (i j : ℕ) → Moves (rules_of plan) w i w' → i ≢ j → frame_of w' j ≡ frame_of w j
  same_frame w w' i j m n = ap (λ (v : Shared). frame_of v j) m.is ∙ get_or-set_other w.frames i j m.frame idle (λ e. n (sym e))

  pub new_frame : (w w' : Shared) (i : ℕ) (m : Moves (rules_of plan) w i w') → i < length w.frames → frame_of w' i ≡ m.frame
  new_frame w w' i m lt = ap (λ (v : Shared). frame_of v i) m.is ∙ get_or-set_same w.frames i m.frame idle lt

  -- who had entered keeps its ticket by a step, or finishes
  pub on_or_over : (w w' : Shared) (i : ℕ) (m : Moves (rules_of plan) w i w') → (m.frame.ticket ≡ (frame_of w i).ticket) ⊎ (m.frame.stage ≡ stages.Idle)
  on_or_over w w' i m = by m.touch m.acts
    where
      by : (touch : Touch) → Acts (rules_of plan) w i touch m.frame → (m.frame.ticket ≡ (frame_of w i).ticket) ⊎ (m.frame.stage ≡ stages.Idle)
      by Leaves acts =
          let end = inside_is (due plan (frame_of w i)) acts.0 in
          inr (ap (λ (f : Frame). f.stage) (sym acts.1 ∙ ap (λ d. finished_by d (frame_of w i)) end.1))
      by (Puts name found) acts = inl (touch_one plan i (frame_of w i) (due plan (frame_of w i)) (finite.get w.heap name) (m.frame, found) acts.1).0

  module _ (calls : Calls) (clock : ℕ) where
    abbrev pub Comes : Shared → Type 0
    Comes = IsWorldOf plan calls clock

    pub world_kept : (w w' : Shared) (i : ℕ) → Comes w → Moves (rules_of plan) w i w' → Comes w'
    world_kept w w' i v m =
        let made = moves_step plan v.core i w' (subst (λ u. Moves (rules_of plan) u i w') (sym v.is) m) in
        record { core = made.after; is = made.is; clock_is = made.clock ∙ v.clock_is; reached = steps i made.answer v.reached made.steps }

    entered_or_idle : (w w' : Shared) (j : ℕ) → Comes w → Moves (rules_of plan) w j w' → IsEntered (frame_of w j) → IsEntered (frame_of w' j) ⊎ ((frame_of w' j).stage ≡ stages.Idle)
    entered_or_idle w w' j v m entered =
        let new = new_frame w w' j m (has_frame w j entered) in
        elim (on_or_over w w' j m) [
          | inl same ↦ inl (subst (λ n. 0 < n) (sym (ap (λ (f : Frame). f.ticket) new ∙ same)) entered)
          | inr over ↦ inr (ap (λ (f : Frame). f.stage) new ∙ over)
        ]

    no_step : (w w' : Shared) (j : ℕ) → Comes w → Moves (rules_of plan) w j w' → (frame_of w j).stage ≡ stages.Idle → ⊥
    no_step w w' j v m i =
        let nowhere : aim_of (due plan (frame_of w j)) ≡ Nowhere = subst (λ u. (frame_of u j).stage ≡ stages.Idle → aim_of (due plan (frame_of u j)) ≡ Nowhere) v.is (idle_nowhere v.core calls v.reached j) i in
        stuck (moves→step (rules_of plan) w j w' m) nowhere
      where
        stuck : step_by (rules_of plan) w j ≡ Some w' → aim_of (due plan (frame_of w j)) ≡ Nowhere → ⊥
        stuck s e = cc

    other_kept : (w w' : Shared) (c i j : ℕ) → Comes w → Moves (rules_of plan) w c w' → IsOther w j i → IsOther w' j i
    other_kept w w' c i j v m a = (
      a.0,
      elim (same_number c j) [
        | inr apart ↦ subst (λ (f : Frame). IsEntered f ⊎ (f.stage ≡ stages.Idle)) (sym (same_frame w w' c j m apart)) a.1
        | inl same ↦ by (subst (λ k. Moves (rules_of plan) w k w') same m) a.1
      ],
    )
      where
        by : Moves (rules_of plan) w j w' → IsEntered (frame_of w j) ⊎ ((frame_of w j).stage ≡ stages.Idle) → IsEntered (frame_of w' j) ⊎ ((frame_of w' j).stage ≡ stages.Idle)
        by mj (inl entered) = entered_or_idle w w' j v mj entered
        by mj (inr i) = absurd (no_step w w' j v mj i)

    all_clear : (w wi wj : Shared) (i j : ℕ) → Comes w → IsOther w j i → (mi : Moves (rules_of plan) w i wi) (mj : Moves (rules_of plan) w j wj) → Clear (rules_of plan) w.heap mi.touch mj.touch
    all_clear w wi wj i j v a mi mj = by a.1
      where
        by_core : (u : Shared) → v.core.world ≡ u → IsEntered (frame_of u j) → (s t : Touch) (f g : Frame) → Acts (rules_of plan) u i s f → Acts (rules_of plan) u j t g → Clear (rules_of plan) u.heap s t
        by_core u e = subst (λ u. IsEntered (frame_of u j) → (s t : Touch) (f g : Frame) → Acts (rules_of plan) u i s f → Acts (rules_of plan) u j t g → Clear (rules_of plan) u.heap s t) e
            (touches_clear plan v.core calls is (lawful_always plan v.core calls is v.reached).lawful (lawful_always plan v.core calls is v.reached).sound i j a.0)

        by : IsEntered (frame_of w j) ⊎ ((frame_of w j).stage ≡ stages.Idle) → Clear (rules_of plan) w.heap mi.touch mj.touch
        by (inl entered) = by_core w v.is entered mi.touch mj.touch mi.frame mj.frame mi.acts mj.acts
        by (inr i) = absurd (no_step w wj j v mj i)

    -- steps of others change places with those of a caller that has entered
    pub ordered : IsOrdered (rules_of plan) Comes IsOther
    ordered = record { kept = world_kept; older = other_kept; apart = λ w i j a. a.0; clear = all_clear }
