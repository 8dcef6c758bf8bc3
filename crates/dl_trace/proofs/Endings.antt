-- Every scheduled run comes to its end, and to no other.
use Rattle.std.proofs.Common.{◌≡◌, ◌≢◌, ◌⊎◌, ℕ, zero, suc, ◌+◌, ◌<◌, ◌≤◌, Bool, true, false, ◌&&◌, List, [], ◌∷◌, Option, Some, None, length, refl, sym, ap, subst, ◌∙◌, inl, inr, arith}
use Rattle.std.specs.Prelude.{fold, replicate, if◌then◌else◌}
use Rattle.std.specs.List.{AllByRecursion, list_all}
use Rattle.std.proofs.lemmas.Bool.{cases_order, false≢true}
use Rattle.dl_ir.specs.declared.calls.Call.{Call}
use Rattle.dl_core.specs.declared.answers.Progress.{Progress}
use Rattle.dl_core.specs.declared.stages.Stage.{Stage}
use Rattle.dl_core.specs.declared.stages.Stage.TheVariants as stages
use Rattle.dl_core.specs.Plans.{Plan, IsPlan, IsCaller}
use Rattle.dl_core.specs.Frames.{Frame}
use Rattle.dl_core.specs.LocalSteps.{due}
use Rattle.dl_core.specs.Core.{Core, Stepped, frame_of, step, step_due, or_stands, with_call}
use Rattle.dl_core.specs.Reached.{Calls, IsReached, with_begun}
use Rattle.dl_core.specs.Sound.{IsSound, callers_of, numbers_from}
use Rattle.dl_core.proofs.LawfulAlways.{lawful_always}
use Rattle.dl_order.specs.Measure.{IsEnding, ends}
use Rattle.dl_order.proofs.Ending.{each_run_ends}
use Rattle.dl_order.proofs.Progress.{someone_moves}
use Rattle.dl_order.proofs.Worlds.{idle_rests, stands_of}
use Rattle.dl_schedule.specs.declared.give.Give.{Give}
use Rattle.dl_trace.specs.Runs.{Run, next_call, begins_at, given, is_done_at, is_done, all_done, give_to, give_times, scheduled, take_turn, round, rounds, EndsIn, started}
use Rattle.dl_trace.specs.Left.{repeated, state_turn, state_round, done_after, IsLeast, RoundsLeft, one_least}
use Rattle.dl_trace.specs.Laws.{AreFilesOf, IsOnTheWay, ScheduledRunsEnd}
use Rattle.dl_trace.proofs.Ways.{OnTheWay, way_starts, may_begin, way_begins, way_steps, gives_on, by_recursion}

-- ---- the least number
least_from : (test : ℕ → Bool) (n : ℕ) (v : Bool) → test 0 ≡ v → test n ≡ true → ((later : ℕ → Bool) → (m : ℕ) → suc m ≡ n → later m ≡ true → (k : ℕ) × IsLeast later k) → (k : ℕ) × IsLeast test k
least_from test n true here is rest = (0, (here, λ fewer less. absurd (omega (arith, less))))
least_from test zero false here is rest = absurd (false≢true (sym here ∙ is))
least_from test (suc n) false here is rest =
    let more = rest (λ m. test (suc m)) n refl is in
    (suc more.0, (more.1.0, by more.0 more.1.1))
  where
    by : (k : ℕ) → ((fewer : ℕ) → fewer < k → test (suc fewer) ≡ false) → (fewer : ℕ) → fewer < suc k → test fewer ≡ false
    by k none zero less = here
    by k none (suc fewer) less = none fewer (omega (arith, less))

pub least : (n : ℕ) (test : ℕ → Bool) → test n ≡ true → (k : ℕ) × IsLeast test k
least zero test is = least_from test zero (test 0) refl is (λ later m e i. absurd (omega (arith, e)))
least (suc n) test is = least_from test (suc n) (test 0) refl is (λ later m e i. least n later (subst (λ (j : ℕ). later j ≡ true) (omega (arith, e)) i))

-- ---- callers
module _ (plan : Plan) where
  numbered : (first count : ℕ) → 0 < first → first + count ≤ length plan.sizes + 1 → AllByRecursion (IsCaller plan) (numbers_from first count)
  numbered first zero low high = tt
  numbered first (suc count) low high = (record { from_one = low; to_last = omega (arith, high) }, numbered (first + 1) count (omega arith) (omega (arith, high)))

  pub all_callers : AllByRecursion (IsCaller plan) (callers_of plan)
  all_callers = numbered 1 (length plan.sizes) (omega arith) (omega arith)

  pub numbered_has : (P : ℕ → Type 0) (first count : ℕ) → AllByRecursion P (numbers_from first count) → (caller : ℕ) → first ≤ caller → caller < first + count → P caller
  numbered_has P first zero all caller low high = absurd (omega (arith, low, high))
  numbered_has P first (suc count) all caller low high = elim (first_or first caller low) [
    | inl same ↦ subst P same all.0
    | inr later ↦ numbered_has P (first + 1) count all.1 caller later (omega (arith, high))
  ]
    where
      first_or : (a b : ℕ) → a ≤ b → (a ≡ b) ⊎ (a + 1 ≤ b)
      first_or a b le = elim (cases_order a b) [
        | inl same ↦ inl same
        | inr (inl less) ↦ inr (omega (arith, less))
        | inr (inr more) ↦ absurd (omega (arith, more, le))
      ]

  pub of_callers : (P : ℕ → Type 0) → AllByRecursion P (callers_of plan) → (caller : ℕ) → IsCaller plan caller → P caller
  of_callers P all caller who = numbered_has P 1 (length plan.sizes) all caller (omega (arith, who.from_one)) (omega (arith, who.to_last))

-- who is among some, and is not done
one_false : {A : Type 0} (P : A → Type 0) (test : A → Bool) (xs : List A) → AllByRecursion P xs → list_all test xs ≡ false → (x : A) × P x × (test x ≡ false)
one_false P test [] all e = absurd (false≢true (sym e))
one_false {A = A} P test (x ∷ xs) all e = by (test x) refl e (λ more. one_false P test xs all.1 more)
  where
    by : (v : Bool) → test x ≡ v → (v && list_all test xs) ≡ false → (list_all test xs ≡ false → (y : A) × P y × (test y ≡ false)) → (y : A) × P y × (test y ≡ false)
    by true here more rest = rest more
    by false here more rest = (x, all.0, here)

-- ---- from each state rounds come to an end
module _ (plan : Plan) (is : IsPlan plan) (files : Calls) (are : AreFilesOf plan files) where
  -- after some rounds all are done
  abbrev Over : Core → Type 0
  Over core = (count : ℕ) × (done_after plan files core count ≡ true)

  -- and so after the rest of a round, whichever callers are left in it
  abbrev Ends : Core → Type 0
  Ends core = (left : List ℕ) → AllByRecursion (IsCaller plan) left → Over (fold (state_turn plan files) core left)

  -- who does nothing at its turn is done, or has a call in hand and waits
  abbrev Still : Core → ℕ → Type 0
  Still core caller = (is_done files core caller ≡ true) ⊎ (((frame_of core.world caller).stage ≢ stages.Idle) × (step plan core caller ≡ None))

  idle_stands : (core : Core) (calls : Calls) (caller : ℕ) → IsReached plan core calls → (frame_of core.world caller).stage ≡ stages.Idle → step plan core caller ≡ None
  idle_stands core calls caller reached i =
      ap (λ (f : Frame). step_due plan core caller f (due plan f)) (idle_rests plan core.world.heap calls caller (frame_of core.world caller) (stands_of plan is core calls reached caller) i)

  done_idle : (s : Stage) (o : Option Call) → is_done_at s o ≡ true → s ≡ stages.Idle
  done_idle stages.Idle o e = refl
  done_idle stages.Called o e = absurd (false≢true e)
  done_idle stages.Running o e = absurd (false≢true e)
  done_idle (stages.Ended end) o e = absurd (false≢true e)

  module _ (core : Core) (calls : Calls) (way : IsOnTheWay plan files core calls)
      (on_step : (caller : ℕ) (after : Core) (answer : Progress) → step plan core caller ≡ Some (after, answer) → Ends after)
      (on_begin : (caller : ℕ) (call : Call) → IsCaller plan caller → (frame_of core.world caller).stage ≡ stages.Idle → next_call files core caller ≡ Some call
      → Ends (with_call core caller call)
      × ((after : Core) (answer : Progress) → step plan (with_call core caller call) caller ≡ Some (after, answer) → Ends after)) where
    abbrev Turned : ℕ → Core → Type 0
    Turned caller after = (Still core caller × (after ≡ core)) ⊎ Ends after

    -- a step, from a state in which a call is in hand
    stepped_turn : (caller : ℕ) (o : Option Stepped) → step plan core caller ≡ o → (frame_of core.world caller).stage ≢ stages.Idle → Turned caller (or_stands plan core caller o).0
    stepped_turn caller None e busy = inl (inr (busy, e), refl)
    stepped_turn caller (Some after) e busy = inr (on_step caller after.0 after.1 e)

    begun_turn : (caller : ℕ) (call : Call) (o : Option Stepped) → IsCaller plan caller → (frame_of core.world caller).stage ≡ stages.Idle → next_call files core caller ≡ Some call
        → step plan (with_call core caller call) caller ≡ o → Ends (or_stands plan (with_call core caller call) caller o).0
    begun_turn caller call None who i next e = (on_begin caller call who i next).0
    begun_turn caller call (Some after) who i next e = (on_begin caller call who i next).1 after.0 after.1 e

    abbrev turned : ℕ → Stage → Option Call → Core
    turned caller s o = if is_done_at s o then core else (or_stands plan (begins_at core caller s o) caller (step plan (begins_at core caller s o) caller)).0

    turn_at : (caller : ℕ) (s : Stage) (o : Option Call) → IsCaller plan caller → (frame_of core.world caller).stage ≡ s → next_call files core caller ≡ o → Turned caller (turned caller s o)
    turn_at caller stages.Idle None who i next = inl (inl (ap (λ s. is_done_at s (next_call files core caller)) i ∙ ap (is_done_at stages.Idle) next), refl)
    turn_at caller stages.Idle (Some call) who i next = inr (begun_turn caller call (step plan (with_call core caller call) caller) who i next refl)
    turn_at caller stages.Called o who i next = stepped_turn caller (step plan core caller) refl (λ f. let g = i in cc)
    turn_at caller stages.Running o who i next = stepped_turn caller (step plan core caller) refl (λ f. let g = i in cc)
    turn_at caller (stages.Ended end) o who i next = stepped_turn caller (step plan core caller) refl (λ f. let g = i in cc)

    turn : (caller : ℕ) → IsCaller plan caller → Turned caller (state_turn plan files core caller)
    turn caller who = turn_at caller (frame_of core.world caller).stage (next_call files core caller) who refl refl

    -- a part of a round: nobody does anything, or an end comes
    part : (left : List ℕ) → AllByRecursion (IsCaller plan) left → (AllByRecursion (Still core) left × (fold (state_turn plan files) core left ≡ core)) ⊎ Over (fold (state_turn plan files) core left)
    part [] who = inl (tt, refl)
    part (caller ∷ left) who = by (state_turn plan files core caller) (turn caller who.0) (part left who.1)
      where
        by : (after : Core) → Turned caller after → (AllByRecursion (Still core) left × (fold (state_turn plan files) core left ≡ core)) ⊎ Over (fold (state_turn plan files) core left)
            → (AllByRecursion (Still core) (caller ∷ left) × (fold (state_turn plan files) after left ≡ core)) ⊎ Over (fold (state_turn plan files) after left)
        by after (inr end) rest = inr (end left who.1)
        by after (inl still) rest = elim rest [
          | inl more ↦ inl ((still.0, more.0), ap (λ (c : Core). fold (state_turn plan files) c left) still.1 ∙ more.1)
          | inr over ↦ inr (subst (λ (c : Core). Over (fold (state_turn plan files) c left)) (sym still.1) over)
        ]

    -- a round in which nobody does anything, though not all are done, there is none
    not_still : AllByRecursion (Still core) (callers_of plan) → all_done plan files core ≡ false → ⊥
    not_still still unfinished = moves (waits (one_false (IsCaller plan) (is_done files core) (callers_of plan) (all_callers plan) unfinished))
      where
        sound : IsSound plan core calls
        sound = (lawful_always plan core calls is way.reached).sound

        busy_of : (caller : ℕ) → is_done files core caller ≡ false → Still core caller → (frame_of core.world caller).stage ≢ stages.Idle
        busy_of caller undone (inl done) i = false≢true (sym undone ∙ done)
        busy_of caller undone (inr why) i = why.0 i

        waits : (caller : ℕ) × IsCaller plan caller × (is_done files core caller ≡ false) → (caller : ℕ) × ((frame_of core.world caller).stage ≢ stages.Idle)
        waits one = (one.0, busy_of one.0 one.2 (of_callers plan (Still core) still one.0 one.1))

        no_step : (caller : ℕ) (after : Stepped) → step plan core caller ≡ Some after → step plan core caller ≡ None → ⊥
        no_step caller after e n = let f = sym e ∙ n in cc

        still_moves : (mover : ℕ) (after : Stepped) → step plan core mover ≡ Some after → Still core mover → ⊥
        still_moves mover after e (inl done) = no_step mover after e (idle_stands core calls mover way.reached (done_idle (frame_of core.world mover).stage (next_call files core mover) done))
        still_moves mover after e (inr why) = no_step mover after e why.1

        moves : (caller : ℕ) × ((frame_of core.world caller).stage ≢ stages.Idle) → ⊥
        moves busy =
            let found = someone_moves plan core calls busy.0 is way.reached busy.1 in
            let who = λ (w : IsCaller plan found.0). still_moves found.0 (found.1, found.2) found.3 (of_callers plan (Still core) still found.0 w) in
            no_step found.0 (found.1, found.2) found.3 (idle_stands core calls found.0 way.reached (sound.nobody found.0 who))

    whole_at : (v : Bool) → all_done plan files core ≡ v → Over core
    whole_at true e = (0, e)
    whole_at false e = elim (part (callers_of plan) (all_callers plan)) [
      | inl still ↦ absurd (not_still still.0 e)
      | inr over ↦ (suc over.0, over.1)
    ]

    ends_here : Ends core
    ends_here left who = elim (part left who) [
      | inl still ↦ subst Over (sym still.1) (whole_at (all_done plan files core) refl)
      | inr over ↦ over
    ]

  -- from a state of a run, and from each to which one step more leads
  abbrev EndsSoon : Core → Type 0
  EndsSoon core = Ends core × ((caller : ℕ) (after : Core) (answer : Progress) → step plan core caller ≡ Some (after, answer) → Ends after)

  ends_soon : (core : Core) (calls : Calls) → IsEnding plan core calls → IsOnTheWay plan files core calls → EndsSoon core
  ends_soon core calls (ends after_steps after_begins) way =
      let on_step : (caller : ℕ) (after : Core) (answer : Progress) → step plan core caller ≡ Some (after, answer) → Ends after
      = λ caller after answer e. (ends_soon after calls (after_steps caller after answer e) (way_steps plan is files are core after calls caller answer way e)).0 in
      let on_begin : (caller : ℕ) (call : Call) → IsCaller plan caller → (frame_of core.world caller).stage ≡ stages.Idle → next_call files core caller ≡ Some call → EndsSoon (with_call core caller call)
      = λ caller call who i next. ends_soon (with_call core caller call) (with_begun calls caller call) (after_begins caller call (may_begin plan is files are core calls caller call way who i next)) (way_begins plan is files are core calls caller call way who i next) in
      (ends_here core calls way on_step (λ caller call who i next. let soon = on_begin caller call who i next in (soon.0, λ after answer e. soon.1 caller after answer e)), on_step)

  pub rounds_left : (core : Core) → OnTheWay plan is files are core → RoundsLeft plan files core
  rounds_left core way =
      let over = (ends_soon core way.0 (each_run_ends plan core way.0 is way.1.reached) way.1).0 [] tt in
      least over.0 (done_after plan files core) over.1

-- ---- the run, of which the state is a part
module _ (plan : Plan) (files : Calls) where
  same_turn : (run : Run) (caller : ℕ) → (take_turn plan files run caller).core ≡ state_turn plan files run.core caller
  same_turn run caller = by (is_done files run.core caller)
    where
      by : (v : Bool) → (if v then run else give_to plan files run caller).core ≡ (if v then run.core else (given plan files run.core caller).0)
      by true = refl
      by false = refl

  same_turns : (run : Run) (callers : List ℕ) → (fold (take_turn plan files) run callers).core ≡ fold (state_turn plan files) run.core callers
  same_turns run [] = refl
  same_turns run (caller ∷ callers) = same_turns (take_turn plan files run caller) callers ∙ ap (λ (c : Core). fold (state_turn plan files) c callers) (same_turn run caller)

  pub same_rounds : (count : ℕ) (run : Run) → (rounds plan files count run).core ≡ repeated (state_round plan files) count run.core
  same_rounds zero run = refl
  same_rounds (suc more) run = same_rounds more (round plan files run) ∙ ap (repeated (state_round plan files) more) (same_turns run (callers_of plan))

  pub ends_by : (run : Run) (left : RoundsLeft plan files run.core) → EndsIn plan files run (rounds plan files left.0 run)
  ends_by run left = record {
    count = left.0;
    end_is = refl;
    over = ap (all_done plan files) (same_rounds left.0 run) ∙ left.1.0;
    not_before = λ fewer less. ap (all_done plan files) (same_rounds fewer run) ∙ left.1.1 fewer less;
  }

  pub one_end : (run end other : Run) → EndsIn plan files run end → EndsIn plan files run other → other ≡ end
  one_end run end other a b =
      let tested : (x : Run) (e : EndsIn plan files run x) → IsLeast (λ n. all_done plan files (rounds plan files n run).core) e.count = λ x e. (ap (λ (r : Run). all_done plan files r.core) (sym e.end_is) ∙ e.over, e.not_before) in
      b.end_is ∙ ap (λ (n : ℕ). rounds plan files n run) (one_least (λ n. all_done plan files (rounds plan files n run).core) b.count a.count (tested other b) (tested end a)) ∙ sym a.end_is

-- ---- a schedule is a list of callers
module _ (plan : Plan) (is : IsPlan plan) (files : Calls) (are : AreFilesOf plan files) where
  many : (caller : ℕ) (times : ℕ) → IsCaller plan caller → AllByRecursion (IsCaller plan) (replicate times caller)
  many caller zero who = tt
  many caller (suc times) who = (who, many caller times who)

  pub schedule_on : (run : Run) (schedule : List Give) → AllByRecursion (λ (give : Give). IsCaller plan give.caller) schedule → OnTheWay plan is files are run.core
      → OnTheWay plan is files are (scheduled plan files schedule run).core
  schedule_on run [] who way = way
  schedule_on run (give ∷ schedule) who way =
      schedule_on (give_times plan files run give) schedule who.1 (gives_on plan is files are run (replicate give.times give.caller) (many give.caller give.times who.0) way)

pub scheduled_runs_end : ScheduledRunsEnd
scheduled_runs_end plan files schedule is are who =
    let first = scheduled plan files schedule (started plan) in
    let way = schedule_on plan is files are (started plan) schedule (by_recursion (λ (give : Give). IsCaller plan give.caller) schedule who) (_, way_starts plan is files are) in
    let left = rounds_left plan is files are first.core way in
    (rounds plan files left.0 first, ends_by plan files first left, λ other e. one_end plan files first (rounds plan files left.0 first) other (ends_by plan files first left) e)
