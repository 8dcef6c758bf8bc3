-- Local steps come to an end: with each of them less is left.
use Rattle.std.proofs.Common.{◌≡◌, ◌⊎◌, inl, inr, ℕ, ℤ, zero, suc, ◌+◌, ◌-◌, ◌*◌, ◌<◌, ◌≤◌, Bool, true, false, cond, List, [], ◌∷◌, ◌++◌, length, drop, Option, Some, None, refl, sym, ap, subst, ◌∙◌, arith}
use Rattle.std.specs.Prelude.{is_some, slice_get, slice_set, count_by, nat_lt, nat_le, ◌==◌, ◌&&◌, ◌||◌, Ok, Err, if◌then◌else◌}
use Rattle.std.specs.Option.{option_map}
use Rattle.std.specs.FinMap as finite
use Rattle.std.proofs.lemmas.List.{at_drop_more, length-set, length-drop}
use Rattle.std.proofs.lemmas.List.Sums.{count_by-le-length, sum_by-cons}
use Rattle.std.proofs.lemmas.Option.{slice_get_within, get_or_from_slice_get}
use Rattle.std.proofs.lemmas.Bool.Decides.{nat_tests}
use Rattle.std.proofs.Math.Nat.{suc-mul}
use Rattle.dl_ir.specs.declared.answers.End.{End}
use Rattle.dl_ir.specs.declared.answers.End.TheVariants as ends
use Rattle.dl_ir.specs.declared.names.Name.{Name}
use Rattle.dl_ir.specs.declared.names.Value.{Value}
use Rattle.dl_ir.specs.declared.names.Value.TheVariants.{Int, Ref}
use Rattle.dl_ir.specs.Evaluation.{Number, Truth, value_of, holds_of}
use Rattle.dl_ir.specs.References.{target_in}
use Rattle.dl_instr.specs.declared.steps.Step.{Step}
use Rattle.dl_instr.specs.declared.steps.Step.TheVariants.{Read, Want, Set, Drop, Make, Eval, Write, Emit, Test, Jump, Give}
use Rattle.dl_instr.specs.declared.steps.Origin.TheVariants as origins
use Rattle.dl_core.specs.declared.stages.Booked.{Booked}
use Rattle.dl_core.specs.declared.stages.Stage.{Stage}
use Rattle.dl_core.specs.declared.stages.Stage.TheVariants as stages
use Rattle.dl_core.specs.Plans.{Plan, steps_of, allocs_of, reference_from}
use Rattle.dl_core.specs.Frames.{Frame, is_to_loosen, loosened, assigned, advanced, gone_to, with_hand, ended, target_at, target_in_hand, has_booked}
use Rattle.dl_core.specs.declared.dues.Due.{Due}
use Rattle.dl_core.specs.declared.dues.Due.TheVariants.{Takes, Writes, Makes, LetsGo}
use Rattle.dl_core.specs.LocalSteps.{next_name, Next, Goes, Stops, on_number, on_object, on_truth, on_wanted, next_step, next_target, next_value, next_field, next_loose, next_local, next_stage, next_after, next, local_step, step_in, first_referring, or_next, refers, drops_before_turn, GoesBackToTurns, distance, distance_by, code_left, stage_left, hand_left, steps_left, ready, IsReady, given_out}
use Rattle.dl_core.proofs.GoingOn.{stays, stops, same_stop, keeps}

-- ---- places in the code

at_place : (steps : List Step) (place : ℕ) (step : Step) → slice_get steps place ≡ Some step → drop place steps ≡ step ∷ drop (place + 1) steps
at_place steps place step is =
    at_drop_more (λ rest. rest) steps place step (slice_get_within steps place step is) ∙ ap (λ s. s ∷ drop (place + 1) steps) (get_or_from_slice_get steps place step step is)

few_drops : (steps : List Step) (count : ℕ) → drops_before_turn steps ≡ Some count → count < length steps
few_drops [] count e = absurd (cc)
few_drops (Read local field ∷ rest) count e = absurd (cc)
few_drops (Want ∷ rest) count e = absurd (cc)
few_drops (Set local from ∷ rest) count e = absurd (cc)
few_drops (Drop local ∷ rest) count e = by (λ n. few_drops rest n) (drops_before_turn rest) refl e
  where
    by : ((n : ℕ) → drops_before_turn rest ≡ Some n → n < length rest) → (o : Option ℕ) → drops_before_turn rest ≡ o → option_map suc o ≡ Some count → count < length (Drop local ∷ rest)
    by few None f g = absurd (cc)
    by few (Some n) f g = let less = few n f in let same : suc n ≡ count = cc in omega (arith, less, same)
few_drops (Make kind ∷ rest) count e = absurd (cc)
few_drops (Eval value ∷ rest) count e = absurd (cc)
few_drops (Write local field content ∷ rest) count e = absurd (cc)
few_drops (Emit ∷ rest) count e = absurd (cc)
few_drops (Test c true place ∷ rest) count e = let same : 0 ≡ count = cc in omega (arith, same)
few_drops (Test c false place ∷ rest) count e = absurd (cc)
few_drops (Jump place ∷ rest) count e = absurd (cc)
few_drops (Give value ∷ rest) count e = absurd (cc)

module _ (steps : List Step) where
  -- never far
  distance_small : (place : ℕ) → distance steps place ≤ 2 * length steps + 1
  distance_small place = by (drops_before_turn (drop place steps)) refl
    where
      by : (o : Option ℕ) → drops_before_turn (drop place steps) ≡ o → distance_by (length steps) place o ≤ 2 * length steps + 1
      by None e = omega arith
      by (Some count) e = omega (arith, few_drops (drop place steps) count e, length-drop place steps)

  -- a place after this one, or one from which only drops lead to a turn, is nearer
  nearer : (place to : ℕ) → place < length steps → drops_before_turn (drop place steps) ≡ None → (place < to) ⊎ ((count : ℕ) × (drops_before_turn (drop to steps) ≡ Some count))
      → distance steps to < distance steps place
  nearer place to within far on =
      rw (ap (distance_by (length steps) place) far) (by (drops_before_turn (drop to steps)) refl on)
    where
      by : (o : Option ℕ) → drops_before_turn (drop to steps) ≡ o → (place < to) ⊎ ((count : ℕ) × (drops_before_turn (drop to steps) ≡ Some count)) → distance_by (length steps) to o < (length steps - place) + (length steps + 1)
      by None e (inl later) = omega arith
      by None e (inr before) = absurd (let clash : None ≡ Some before.0 = sym e ∙ before.1 in cc)
      by (Some count) e on' = omega (arith, few_drops (drop to steps) count e, length-drop to steps)

  -- the place behind a drop is nearer
  past_drop : (place local : ℕ) → slice_get steps place ≡ Some (Drop local) → distance steps (place + 1) < distance steps place
  past_drop place local is =
      rw (ap (λ rest. distance_by (length steps) place (drops_before_turn rest)) (at_place steps place (Drop local) is)) (by (drops_before_turn (drop (place + 1) steps)) refl)
    where
      by : (o : Option ℕ) → drops_before_turn (drop (place + 1) steps) ≡ o → distance_by (length steps) (place + 1) o < distance_by (length steps) place (option_map suc o)
      by None e = omega (arith, slice_get_within steps place (Drop local) is)
      by (Some count) e = omega arith

  -- another place in the same turn that is nearer
  less_code : (turns place to : ℕ) → distance steps to < distance steps place → code_left steps turns to < code_left steps turns place
  less_code turns place to near = omega (arith, near)

  -- a turn is taken
  less_turn : (turns place to : ℕ) → 0 < turns → code_left steps (turns - 1) to < code_left steps turns place
  less_turn zero place to some = absurd (omega arith)
  less_turn (suc turns) place to some =
      let on : suc turns - 1 ≡ turns = omega arith in
      let round : suc turns * (2 * length steps + 2) ≡ turns * (2 * length steps + 2) + (2 * length steps + 2) = suc-mul turns (2 * length steps + 2) in
      let same : (suc turns - 1) * (2 * length steps + 2) ≡ turns * (2 * length steps + 2) = ap (λ n. n * (2 * length steps + 2)) on in
      omega (arith, distance_small to, round, same)

-- ---- frames

-- the frame has the call of another, and less is left than there
pub record IsLess (plan : Plan) (before after : Frame) : Type 0 where
  pub call : after.call ≡ before.call
  pub less : steps_left plan after < steps_left plan before

abbrev pub Falls : Plan → Frame → Next → Type 0
Falls plan frame (Goes after) = IsLess plan frame after
Falls plan frame (Stops due) = Unit {0}

-- what loosening leaves alone
pub loosened_call : (target : Option Name) (frame : Frame) → (loosened target frame).call ≡ frame.call
loosened_call None frame = refl
loosened_call (Some name) frame = elim (is_to_loosen frame name) as (λ b. (if b then record frame { loose = frame.loose ++ name ∷ [] } else frame).call ≡ frame.call) [ true ↦ refl | false ↦ refl ]

loosened_stage : (target : Option Name) (frame : Frame) → (loosened target frame).stage ≡ frame.stage
loosened_stage None frame = refl
loosened_stage (Some name) frame = elim (is_to_loosen frame name) as (λ b. (if b then record frame { loose = frame.loose ++ name ∷ [] } else frame).stage ≡ frame.stage) [ true ↦ refl | false ↦ refl ]

loosened_left : (plan : Plan) (target : Option Name) (frame : Frame) → steps_left plan (loosened target frame) ≡ steps_left plan frame
loosened_left plan None frame = refl
loosened_left plan (Some name) frame = elim (is_to_loosen frame name) as (λ b. steps_left plan (if b then record frame { loose = frame.loose ++ name ∷ [] } else frame) ≡ steps_left plan frame) [ true ↦ refl | false ↦ refl ]

-- what is left at a frame that runs, and at one that has ended
left_running : (plan : Plan) (frame : Frame) → frame.stage ≡ stages.Running
    → steps_left plan frame ≡ 2 * (1 + length frame.locals + code_left (steps_of plan frame.call) frame.turns frame.place) + hand_left frame.hand
left_running plan frame is = ap (λ stage. 2 * stage_left plan frame stage + hand_left frame.hand) is

left_ended : (plan : Plan) (frame : Frame) (end : End) → frame.stage ≡ stages.Ended end → steps_left plan frame ≡ 2 * count_by refers frame.locals + hand_left frame.hand
left_ended plan frame end is = ap (λ stage. 2 * stage_left plan frame stage + hand_left frame.hand) is

few_hand : (hand : Option Value) → hand_left hand ≤ 1
few_hand None = omega arith
few_hand (Some value) = omega arith

module _ (plan : Plan) (frame : Frame) (running : frame.stage ≡ stages.Running) where
  -- the code goes on, and less of it is left
  code_less : (after : Frame) → after.stage ≡ stages.Running → after.call ≡ frame.call → length after.locals ≡ length frame.locals
      → code_left (steps_of plan frame.call) after.turns after.place < code_left (steps_of plan frame.call) frame.turns frame.place → IsLess plan frame after
  code_less after runs same wide less = record {
    call = same;
    less =
        let there = ap (λ call. code_left (steps_of plan call) after.turns after.place) same in
        omega (arith, left_running plan frame running, left_running plan after runs, there, wide, less, few_hand after.hand);
  }

  -- the operation ends
  ends_less : (end : End) → IsLess plan frame (ended end frame)
  ends_less end = record {
    call = refl;
    less = omega (arith, left_running plan frame running, left_ended plan (ended end frame) end refl, count_by-le-length refers frame.locals);
  }

  -- a local gets a value
  assigned_less : (local : ℕ) (value : Value) (from : Frame) → from.stage ≡ stages.Running → from.call ≡ frame.call → length from.locals ≡ length frame.locals
      → code_left (steps_of plan frame.call) from.turns from.place < code_left (steps_of plan frame.call) frame.turns frame.place → IsLess plan frame (assigned local value from)
  assigned_less local value from runs same wide less =
      let set_from : Frame = record from { locals = slice_set from.locals local value } in
      let one = code_less set_from runs same (length-set from.locals local value ∙ wide) less in
      record { call = loosened_call (target_at from local) set_from ∙ one.call; less = omega (arith, loosened_left plan (target_at from local) set_from, one.less) }

  module _ (back : GoesBackToTurns (steps_of plan frame.call)) where
    -- the code goes on behind this step
    behind_less : (step : Step) → slice_get (steps_of plan frame.call) frame.place ≡ Some step → drops_before_turn (step ∷ drop (frame.place + 1) (steps_of plan frame.call)) ≡ None
        → code_left (steps_of plan frame.call) frame.turns (frame.place + 1) < code_left (steps_of plan frame.call) frame.turns frame.place
    behind_less step is far =
        less_code (steps_of plan frame.call) frame.turns frame.place (frame.place + 1)
        (nearer (steps_of plan frame.call) frame.place (frame.place + 1) (slice_get_within (steps_of plan frame.call) frame.place step is) (ap drops_before_turn (at_place (steps_of plan frame.call) frame.place step is) ∙ far) (inl (omega arith)))

    -- it goes on where the step jumps
    jump_less : (step : Step) (to : ℕ) → slice_get (steps_of plan frame.call) frame.place ≡ Some step → drops_before_turn (step ∷ drop (frame.place + 1) (steps_of plan frame.call)) ≡ None
        → (frame.place < to) ⊎ ((count : ℕ) × (drops_before_turn (drop to (steps_of plan frame.call)) ≡ Some count))
        → code_left (steps_of plan frame.call) frame.turns to < code_left (steps_of plan frame.call) frame.turns frame.place
    jump_less step to is far on =
        less_code (steps_of plan frame.call) frame.turns frame.place to
        (nearer (steps_of plan frame.call) frame.place to (slice_get_within (steps_of plan frame.call) frame.place step is) (ap drops_before_turn (at_place (steps_of plan frame.call) frame.place step is) ∙ far) on)

    object_falls : (target : Option Name) (due : Name → Due) → Falls plan frame (on_object target frame due)
    object_falls None due = ends_less _
    object_falls (Some name) due = tt

    number_falls : (number : Number) (goes : ℤ → Frame) → ((n : ℤ) → IsLess plan frame (goes n)) → Falls plan frame (on_number number frame goes)
    number_falls (Ok n) goes less = less n
    number_falls (Err fault) goes less = ends_less _

    -- a test: the frame from which it goes on has the turns that are left
    truth_falls : (truth : Truth) (to : ℕ) (from : Frame) → IsLess plan frame (advanced from) → IsLess plan frame (gone_to to from) → ((end : End) → IsLess plan frame (ended end from)) → Falls plan frame (on_truth truth to from)
    truth_falls (Ok true) to from on off over = on
    truth_falls (Ok false) to from on off over = off
    truth_falls (Err fault) to from on off over = over _

    step_falls : (step : Option Step) → slice_get (steps_of plan frame.call) frame.place ≡ step → Falls plan frame (next_step plan frame step)
    step_falls None is = ends_less _
    step_falls (Some (Read local field)) is = object_falls (target_at frame local) _
    step_falls (Some Want) is = by (target_in_hand frame)
      where
        on : IsLess plan frame (advanced frame)
        on = code_less (advanced frame) running refl refl (behind_less Want is refl)

        by : (target : Option Name) → Falls plan frame (on_wanted target frame)
        by None = on
        by (Some name) = elim (has_booked frame name) as (λ b. Falls plan frame (if b then Goes (advanced frame) else Stops (Takes name))) [ true ↦ on | false ↦ tt ]
    step_falls (Some (Set local origins.Hand)) is = assigned_less local _ (advanced (with_hand None frame)) running refl refl (behind_less (Set local origins.Hand) is refl)
    step_falls (Some (Set local (origins.Local other))) is = assigned_less local _ (advanced frame) running refl refl (behind_less (Set local (origins.Local other)) is refl)
    step_falls (Some (Drop local)) is =
        assigned_less local _ (advanced frame) running refl refl
        (less_code (steps_of plan frame.call) frame.turns frame.place (frame.place + 1) (past_drop (steps_of plan frame.call) frame.place local is))
    step_falls (Some (Make kind)) is = elim (nat_le (allocs_of plan frame.call) frame.made) as (λ b. Falls plan frame (if b then Goes (ended ends.Quota frame) else Stops (Makes (next_name frame) kind))) [ true ↦ ends_less _ | false ↦ tt ]
    step_falls (Some (Eval value)) is = number_falls (value_of value frame.locals) _ (λ n. code_less (advanced (with_hand (Some (Int n)) frame)) running refl refl (behind_less (Eval value) is refl))
    step_falls (Some (Write local field content)) is = object_falls (target_at frame local) _
    step_falls (Some Emit) is = elim (nat_le 16 (length frame.emitted)) as (λ b. Falls plan frame (if b then Goes (ended ends.Emits frame) else Goes (given_out frame))) [
      | true ↦ ends_less _
      | false ↦ code_less (given_out frame) running refl refl (behind_less Emit is refl)
    ]
    step_falls (Some (Test c false place)) is =
        truth_falls (holds_of c frame.locals) place frame
        (code_less (advanced frame) running refl refl (behind_less (Test c false place) is refl))
        (code_less (gone_to place frame) running refl refl (jump_less (Test c false place) place is refl (back frame.place place (Test c false place) is refl)))
        (λ end. ends_less end)
    step_falls (Some (Test c true place)) is = by (frame.turns == 0) refl
      where
        by : (b : Bool) → (frame.turns == 0) ≡ b → Falls plan frame (if b then Goes (ended ends.Fuel frame) else on_truth (holds_of c frame.locals) place (record frame { turns = frame.turns - 1 }))
        by true e = ends_less _
        by false e =
            let some : 0 < frame.turns = grind (arith, nat_tests, e) in
            truth_falls (holds_of c frame.locals) place (record frame { turns = frame.turns - 1 })
            (code_less _ running refl refl (less_turn (steps_of plan frame.call) frame.turns frame.place (frame.place + 1) some))
            (code_less _ running refl refl (less_turn (steps_of plan frame.call) frame.turns frame.place place some))
            (λ end. record { call = refl; less = (ends_less end).less })
    step_falls (Some (Jump place)) is = code_less (gone_to place frame) running refl refl (jump_less (Jump place) place is refl (back frame.place place (Jump place) is refl))
    step_falls (Some (Give value)) is = number_falls (value_of value frame.locals) _ (λ n. ends_less _)

-- ---- the end phase

-- where no local refers, none is found; the one that is found refers
pub found_local : (at : ℕ) (values : List Value) (local : ℕ) → first_referring at values ≡ Some local
    → (place : ℕ) × (local ≡ at + place) × ((value : Value) × (slice_get values place ≡ Some value) × (refers value ≡ true))
found_local at [] local e = absurd (cc)
found_local at (value ∷ rest) local e = by (λ l f. found_local (at + 1) rest l f) (target_in value) refl e
  where
    by : ((l : ℕ) → first_referring (at + 1) rest ≡ Some l → (place : ℕ) × (l ≡ at + 1 + place) × ((v : Value) × (slice_get rest place ≡ Some v) × (refers v ≡ true)))
        → (target : Option Name) → target_in value ≡ target → or_next target at (first_referring (at + 1) rest) ≡ Some local
        → (place : ℕ) × (local ≡ at + place) × ((v : Value) × (slice_get (value ∷ rest) place ≡ Some v) × (refers v ≡ true))
    by later None t e = let on = later local e in (suc on.0, omega (arith, on.1), on.2)
    by later (Some name) t e = let same : at ≡ local = cc in (0, omega (arith, same), (value, refl, ap is_some t))

-- to set it to null leaves one less that refers
pub fewer_refer : (values : List Value) (place : ℕ) (value : Value) → slice_get values place ≡ Some value → refers value ≡ true → count_by refers (slice_set values place (Ref None)) + 1 ≡ count_by refers values
fewer_refer [] place value is refs = absurd (cc)
fewer_refer (v ∷ rest) zero value is refs =
    let same : v ≡ value = cc in
    let one : ◌≡◌ {A = ℕ} (cond (refers v) 1 0) 1 = ap {B = ℕ} (λ b. cond b 1 0) (ap refers same ∙ refs) in
    omega (arith, sum_by-cons (λ x. cond (refers x) 1 0) v rest, sum_by-cons (λ x. cond (refers x) 1 0) (Ref None) rest, one)
fewer_refer (v ∷ rest) (suc place) value is refs =
    omega (arith, sum_by-cons (λ x. cond (refers x) 1 0) v rest, sum_by-cons (λ x. cond (refers x) 1 0) v (slice_set rest place (Ref None)), fewer_refer rest place value is refs)

module _ (plan : Plan) (frame : Frame) where
  local_falls : (end : End) → frame.stage ≡ stages.Ended end → (local : Option ℕ) → first_referring 0 frame.locals ≡ local → Falls plan frame (next_local frame end local)
  local_falls end is None e = tt
  local_falls end is (Some local) e =
      let found = found_local 0 frame.locals local e in
      let at : local ≡ found.0 = omega (arith, found.1) in
      let nulled : Frame = record frame { locals = slice_set frame.locals local (Ref None) } in
      let less : count_by refers nulled.locals + 1 ≡ count_by refers frame.locals = ap (λ n. count_by refers (slice_set frame.locals n (Ref None)) + 1) at ∙ fewer_refer frame.locals found.0 found.2.0 found.2.1 found.2.2 in
      record {
        call = loosened_call (target_at frame local) nulled;
        less = omega (arith, loosened_left plan (target_at frame local) nulled, left_ended plan nulled end is, left_ended plan frame end is, less);
      }

  stage_falls : GoesBackToTurns (steps_of plan frame.call) → (stage : Stage) → frame.stage ≡ stage → Falls plan frame (next_stage plan frame stage)
  stage_falls back stages.Idle is = tt
  stage_falls back stages.Called is = tt
  stage_falls back stages.Running is = step_falls plan frame is back (slice_get (steps_of plan frame.call) frame.place) refl
  stage_falls back (stages.Ended end) is = local_falls end is (first_referring 0 frame.locals) refl

  -- ---- giving up

  value_falls : (name : Name) (field : ℕ) (hand : Option Value) → frame.hand ≡ hand → Falls plan frame (next_value frame name field hand)
  value_falls name field None e = tt
  value_falls name field (Some value) e = by (target_in value)
    where
      by : (target : Option Name) → Falls plan frame (next_target frame name field target)
      by None = record { call = refl; less = let one : hand_left frame.hand ≡ 1 = ap hand_left e in omega (arith, one) }
      by (Some target) = elim (has_booked frame target || frame.seen) as (λ b. Falls plan frame (if b then Stops (Writes name field (Ref None)) else Stops (Takes target))) [ true ↦ tt | false ↦ tt ]

  field_falls : (name : Name) (field : Option ℕ) → Falls plan frame (next_field frame name field)
  field_falls name None = tt
  field_falls name (Some field) = value_falls name field frame.hand refl

  loose_falls : (name : Name) (booked : Option Booked) → Falls plan frame (next_loose plan frame name booked)
  loose_falls name None = tt
  loose_falls name (Some booked) =
      elim (nat_lt 0 name.ticket && (booked.fields == 0)) as (λ b. Falls plan frame (if b then next_field frame name (reference_from plan booked.kind frame.cursor) else Stops (LetsGo name))) [
        | true ↦ field_falls name (reference_from plan booked.kind frame.cursor)
        | false ↦ tt
      ]

  after_falls : GoesBackToTurns (steps_of plan frame.call) → (loose : List Name) → Falls plan frame (next_after plan frame loose)
  after_falls back [] = stage_falls back frame.stage refl
  after_falls back (name ∷ names) = loose_falls name (finite.get frame.book name)

  -- each local step leaves less
  pub step_less : GoesBackToTurns (steps_of plan frame.call) → (after : Frame) → local_step plan frame ≡ Some after → IsLess plan frame after
  step_less back after is = by (next plan frame) (after_falls back frame.loose) is
    where
      by : (n : Next) → Falls plan frame n → step_in n ≡ Some after → IsLess plan frame after
      by (Goes g) falls e = let same : g ≡ after = cc in subst (IsLess plan frame) same falls
      by (Stops due) falls e = absurd (cc)

-- ---- frames that are ready

module _ (plan : Plan) where
  -- the code of the call in hand goes back to turns alone
  abbrev pub HasTurns : Frame → Type 0
  HasTurns frame = GoesBackToTurns (steps_of plan frame.call)

  turns_kept : (a b : Frame) → HasTurns a → local_step plan a ≡ Some b → HasTurns b
  turns_kept a b back is = subst (λ call. GoesBackToTurns (steps_of plan call)) (sym (step_less plan a back b is).call) back

  turns_less : (a b : Frame) → HasTurns a → local_step plan a ≡ Some b → steps_left plan b < steps_left plan a
  turns_less a b back is = (step_less plan a back b is).less

  -- a frame that is made ready is ready
  pub is_ready : (frame : Frame) → HasTurns frame → IsReady plan (ready plan frame)
  is_ready frame back = stops (local_step plan) (steps_left plan) HasTurns turns_kept turns_less (steps_left plan frame) frame back (omega arith)

  -- a local step leads to the same ready frame
  pub same_ready : (a b : Frame) → HasTurns a → local_step plan a ≡ Some b → ready plan a ≡ ready plan b
  same_ready a b back is = same_stop (local_step plan) (steps_left plan) HasTurns turns_kept turns_less a b back is

  -- a frame that is ready stays as it is
  pub ready_stays : (frame : Frame) → IsReady plan frame → ready plan frame ≡ frame
  ready_stays frame is = stays (local_step plan) (steps_left plan frame) frame is

  -- what each local step keeps, making ready keeps
  pub ready_keeps : (Holds : Frame → Type 0) → ((a b : Frame) → Holds a → local_step plan a ≡ Some b → Holds b) → (frame : Frame) → Holds frame → Holds (ready plan frame)
  ready_keeps Holds kept frame holds = keeps (local_step plan) Holds kept (steps_left plan frame) frame holds
