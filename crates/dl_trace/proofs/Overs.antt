-- At the end of a scheduled run the calls of all files were run.
use Rattle.std.proofs.Common.{◌≡◌, ◌⊎◌, ℕ, zero, suc, ◌<◌, ◌≤◌, Bool, true, false, ◌&&◌, List, [], ◌∷◌, Option, Some, None, length, get_or, refl, sym, ap, subst, ◌∙◌, inl, inr, arith}
use Rattle.std.specs.Prelude.{fold, slice_get, if◌then◌else◌}
use Rattle.std.specs.List.{AllByRecursion, list_all}
use Rattle.std.proofs.lemmas.Bool.{cases_lt, false≢true}
use Rattle.std.proofs.lemmas.List.{take_all, length-map}
use Rattle.dl_ir.specs.declared.calls.Call.{Call}
use Rattle.dl_core.specs.declared.stages.Stage.{Stage}
use Rattle.dl_core.specs.declared.stages.Stage.TheVariants as stages
use Rattle.dl_core.specs.Plans.{Plan, IsPlan, IsCaller}
use Rattle.dl_core.specs.Core.{Core, frame_of}
use Rattle.dl_core.specs.Reached.{Calls, IsReached, calls_of}
use Rattle.dl_core.specs.Sound.{callers_of}
use Rattle.dl_core.proofs.LawfulAlways.{lawful_always}
use Rattle.dl_core.specs.Machines.{AreAllIdle}
use Rattle.dl_order.proofs.Ends.{runs_end}
use Rattle.dl_trace.specs.Runs.{Run, next_call, is_done_at, is_done, all_done, take_turn, round, rounds, give_to, started, scheduled}
use Rattle.dl_trace.specs.Laws.{AreFilesOf, IsOnTheWay, IsRunOut, ScheduledRunsAreOver}
use Rattle.dl_trace.proofs.Ways.{OnTheWay, counted, given_on, by_recursion, way_starts}
use Rattle.dl_trace.proofs.Endings.{of_callers, all_callers, schedule_on}

-- lists of one length with the same elements
same_lists : (xs ys : Calls) → length xs ≡ length ys → ((k : ℕ) → k < length ys → get_or xs k [] ≡ get_or ys k []) → xs ≡ ys
same_lists [] [] long same = refl
same_lists [] (y ∷ ys) long same = absurd (omega (arith, long))
same_lists (x ∷ xs) [] long same = absurd (omega (arith, long))
same_lists (x ∷ xs) (y ∷ ys) long same =
    let first : x ≡ y = same 0 (omega arith) in
    let rest : xs ≡ ys = same_lists xs ys (omega (arith, long)) (λ k less. same (suc k) (omega (arith, less))) in
    ap (λ (z : List Call). z ∷ xs) first ∙ ap (λ (zs : Calls). y ∷ zs) rest

-- who is done has no call in hand, and none left
done_stage : (s : Stage) (o : Option Call) → is_done_at s o ≡ true → s ≡ stages.Idle
done_stage stages.Idle o e = refl
done_stage stages.Called o e = absurd (false≢true e)
done_stage stages.Running o e = absurd (false≢true e)
done_stage (stages.Ended end) o e = absurd (false≢true e)

done_call : (s : Stage) (o : Option Call) → is_done_at s o ≡ true → o ≡ None
done_call s None e = refl
done_call stages.Idle (Some call) e = absurd (false≢true e)
done_call stages.Called (Some call) e = absurd (false≢true e)
done_call stages.Running (Some call) e = absurd (false≢true e)
done_call (stages.Ended end) (Some call) e = absurd (false≢true e)

none_left : (file : List Call) (n : ℕ) → slice_get file n ≡ None → length file ≤ n
none_left file n e = elim (cases_lt n (length file)) [
  | inl less ↦ absurd (some_left file n less e)
  | inr le ↦ le
]
  where
    some_left : (cs : List Call) (k : ℕ) → k < length cs → slice_get cs k ≡ None → ⊥
    some_left [] k less n = absurd (omega (arith, less))
    some_left (c ∷ cs) zero less n = cc
    some_left (c ∷ cs) (suc k) less n = some_left cs k (omega (arith, less)) n

all_pass : {A : Type 0} (test : A → Bool) (xs : List A) → list_all test xs ≡ true → AllByRecursion (λ x. test x ≡ true) xs
all_pass test [] e = tt
all_pass test (x ∷ xs) e = let both = both_true (test x) (list_all test xs) e in (both.0, all_pass test xs both.1)
  where
    both_true : (a b : Bool) → (a && b) ≡ true → (a ≡ true) × (b ≡ true)
    both_true true b h = (refl, h)
    both_true false b h = absurd (false≢true h)

module _ (plan : Plan) (is : IsPlan plan) (files : Calls) (are : AreFilesOf plan files) where
  turn_on : (run : Run) (caller : ℕ) → IsCaller plan caller → OnTheWay plan is files are run.core → OnTheWay plan is files are (take_turn plan files run caller).core
  turn_on run caller who way = by (is_done files run.core caller)
    where
      by : (v : Bool) → OnTheWay plan is files are (if v then run else give_to plan files run caller).core
      by true = way
      by false = given_on plan is files are run.core caller who way

  turns_on : (run : Run) (callers : List ℕ) → AllByRecursion (IsCaller plan) callers → OnTheWay plan is files are run.core → OnTheWay plan is files are (fold (take_turn plan files) run callers).core
  turns_on run [] who way = way
  turns_on run (caller ∷ callers) who way = turns_on (take_turn plan files run caller) callers who.1 (turn_on run caller who.0 way)

  pub rounds_on : (count : ℕ) (run : Run) → OnTheWay plan is files are run.core → OnTheWay plan is files are (rounds plan files count run).core
  rounds_on zero run way = way
  rounds_on (suc more) run way = rounds_on more (round plan files run) (turns_on run (callers_of plan) (all_callers plan) way)

  module _ (core : Core) (over : all_done plan files core ≡ true) where
    done_one : (caller : ℕ) → IsCaller plan caller → is_done files core caller ≡ true
    done_one caller who = of_callers plan (λ c. is_done files core c ≡ true) (all_pass (is_done files core) (callers_of plan) over) caller who

    all_idle : (calls : Calls) → IsReached plan core calls → AreAllIdle core
    all_idle calls reached caller = by (cases_lt 0 caller) (cases_lt (length plan.sizes) caller)
      where
        nobody : (IsCaller plan caller → ⊥) → (frame_of core.world caller).stage ≡ stages.Idle
        nobody = (lawful_always plan core calls is reached).sound.nobody caller

        by : (0 < caller) ⊎ (caller ≤ 0) → (length plan.sizes < caller) ⊎ (caller ≤ length plan.sizes) → (frame_of core.world caller).stage ≡ stages.Idle
        by (inl low) (inr high) = done_stage (frame_of core.world caller).stage (next_call files core caller) (done_one caller (record { from_one = low; to_last = high }))
        by (inl low) (inl past) = nobody (λ who. omega (arith, who.to_last, past))
        by (inr none) high = nobody (λ who. omega (arith, who.from_one, none))

    all_begun : (calls : Calls) → IsOnTheWay plan files core calls → calls ≡ files
    all_begun calls way = same_lists calls files long (λ place less. by place (record { from_one = omega arith; to_last = omega (arith, less, sizes) }))
      where
        sizes : length plan.sizes ≡ length files
        sizes = ap (λ (ns : List ℕ). length ns) are.sizes ∙ length-map files length

        long : length calls ≡ length files
        long = (lawful_always plan core calls is way.reached).sound.lists ∙ sizes

        by : (place : ℕ) → IsCaller plan (suc place) → calls_of calls (suc place) ≡ calls_of files (suc place)
        by place who =
            let none = none_left (calls_of files (suc place)) (frame_of core.world (suc place)).index
            (done_call (frame_of core.world (suc place)).stage (next_call files core (suc place)) (done_one (suc place) who)) in
            way.first (suc place)
            ∙ take_all (length (calls_of calls (suc place))) (calls_of files (suc place)) (omega (arith, none, counted plan is files are core calls way (suc place)))

    pub run_out : OnTheWay plan is files are core → IsRunOut plan files core
    run_out way =
        let idle = all_idle way.0 way.1.reached in
        let reached : IsReached plan core files = subst (IsReached plan core) (all_begun way.0 way.1) way.1.reached in
        record { idle = idle; reached = reached; run = runs_end plan core files is reached idle }

pub scheduled_runs_are_over : ScheduledRunsAreOver
scheduled_runs_are_over plan files schedule end is are who ends =
    let first = scheduled plan files schedule (started plan) in
    let way = schedule_on plan is files are (started plan) schedule (by_recursion _ schedule who) (_, way_starts plan is files are) in
    run_out plan is files are end.core ends.over (subst (λ (r : Run). OnTheWay plan is files are r.core) (sym ends.end_is) (rounds_on plan is files are ends.count first way))
