-- Each state of a scheduled run is one to which a run comes.
use Rattle.std.proofs.Common.{◌≡◌, ◌≢◌, ◌⊎◌, ℕ, zero, suc, List, [], ◌∷◌, ◌++◌, Option, Some, None, length, length-append, get_or, take, replicate, refl, sym, ap, subst, ◌∙◌, inl, inr, arith}
use Rattle.std.specs.Prelude.{fold, slice_get, All}
use Rattle.std.specs.List.{AllByRecursion}
use Rattle.std.proofs.Math.Seq.{take-suc}
use Rattle.std.proofs.Math.ListN.{get_or-map}
use Rattle.std.proofs.lemmas.Option.{slice_get_within, get_or_from_slice_get}
use Rattle.dl_ir.specs.declared.calls.Call.{Call}
use Rattle.dl_ir.specs.CallForms.{IsCallOf}
use Rattle.dl_core.specs.declared.answers.Progress.{Progress}
use Rattle.dl_core.specs.declared.stages.Stage.{Stage}
use Rattle.dl_core.specs.declared.stages.Stage.TheVariants as stages
use Rattle.dl_core.specs.Plans.{Plan, IsPlan, IsCaller, source_of, size_of}
use Rattle.dl_core.specs.Core.{Core, Stepped, frame_of, fresh, step, or_stands, with_call}
use Rattle.dl_core.specs.Reached.{Calls, MayBegin, calls_of, no_calls, with_begun, starts, begins, steps}
use Rattle.dl_core.proofs.LawfulAlways.{lawful_always}
use Rattle.dl_core.proofs.Names.{same_number}
use Rattle.dl_order.proofs.Falls.{begun_here, begun_there}
use Rattle.dl_trace.specs.Runs.{Run, next_call, begins_at, readied, given, give_to, started}
use Rattle.dl_trace.specs.Laws.{AreFilesOf, IsOnTheWay, ScheduledRunsReach}

none_begun : (n caller : ℕ) → calls_of (replicate n []) caller ≡ []
none_begun n zero = refl
none_begun zero (suc place) = refl
none_begun (suc n) (suc zero) = refl
none_begun (suc n) (suc (suc place)) = none_begun n (suc place)

-- a file is as long as the plan says
pub sized : (plan : Plan) (files : Calls) → AreFilesOf plan files → (caller : ℕ) → size_of plan caller ≡ length (calls_of files caller)
sized plan files are zero = refl
sized plan files are (suc place) = ap (λ (sizes : List ℕ). get_or sizes place 0) are.sizes ∙ get_or-map length files place []

module _ (plan : Plan) (is : IsPlan plan) (files : Calls) (are : AreFilesOf plan files) where
  abbrev pub OnTheWay : Core → Type 0
  OnTheWay core = (calls : Calls) × IsOnTheWay plan files core calls

  pub way_starts : IsOnTheWay plan files (fresh plan) (no_calls plan)
  way_starts = record {
    reached = starts;
    first = λ caller. none_begun (length plan.sizes) caller ∙ sym (ap (λ (cs : List Call). take (length cs) (calls_of files caller)) (none_begun (length plan.sizes) caller));
  }

  -- how many calls a caller has begun
  pub counted : (core : Core) (calls : Calls) → IsOnTheWay plan files core calls → (caller : ℕ) → (frame_of core.world caller).index ≡ length (calls_of calls caller)
  counted core calls way caller = ((lawful_always plan core calls is way.reached).sound.each caller).history.begun

  -- the first calls of a file, with the next one
  one_longer : (begun file : List Call) (call : Call) → begun ≡ take (length begun) file → slice_get file (length begun) ≡ Some call
      → begun ++ call ∷ [] ≡ take (length (begun ++ call ∷ [])) file
  one_longer begun file call e next =
      let within = slice_get_within file (length begun) call next in
      let long : length (begun ++ call ∷ []) ≡ suc (length begun) = omega (arith, length-append begun (call ∷ [])) in
      let here : get_or file (length begun) call ≡ call = get_or_from_slice_get file (length begun) call call next in
      let more : take (suc (length begun)) file ≡ take (length begun) file ++ get_or file (length begun) call ∷ [] = take-suc file (length begun) call within in
      ap (λ (cs : List Call). cs ++ call ∷ []) e ∙ ap (λ (c : Call). take (length begun) file ++ c ∷ []) (sym here) ∙ sym more
      ∙ ap (λ (n : ℕ). take n file) (sym long)

  -- a caller may begin the next call of its file
  pub may_begin : (core : Core) (calls : Calls) (caller : ℕ) (call : Call) → IsOnTheWay plan files core calls → IsCaller plan caller → (frame_of core.world caller).stage ≡ stages.Idle
      → next_call files core caller ≡ Some call → MayBegin plan core calls caller call
  may_begin core calls caller call way who idle next =
      let within = slice_get_within (calls_of files caller) (frame_of core.world caller).index call next in
      record {
        is_caller = who;
        idle = idle;
        room = omega (arith, within, counted core calls way caller, sized plan files are caller);
        fits =
            (let here : get_or (calls_of files caller) (frame_of core.world caller).index call ≡ call = get_or_from_slice_get (calls_of files caller) (frame_of core.world caller).index call call next in
            subst (IsCallOf (source_of plan)) here (are.calls caller (frame_of core.world caller).index call within));
      }

  pub way_begins : (core : Core) (calls : Calls) (caller : ℕ) (call : Call) → IsOnTheWay plan files core calls → IsCaller plan caller → (frame_of core.world caller).stage ≡ stages.Idle
      → next_call files core caller ≡ Some call → IsOnTheWay plan files (with_call core caller call) (with_begun calls caller call)
  way_begins core calls zero call way who idle next = absurd (omega (arith, who.from_one))
  way_begins core calls (suc place) call way who idle next = record {
    reached = begins (suc place) call way.reached (may_begin core calls (suc place) call way who idle next);
    first = λ other. by other (same_number other (suc place));
  }
    where
      lists : length calls ≡ length plan.sizes
      lists = (lawful_always plan core calls is way.reached).sound.lists

      by : (other : ℕ) → (other ≡ suc place) ⊎ (other ≢ suc place)
          → calls_of (with_begun calls (suc place) call) other ≡ take (length (calls_of (with_begun calls (suc place) call) other)) (calls_of files other)
      by other (inl same) = subst (λ (c : ℕ). calls_of (with_begun calls (suc place) call) c ≡ take (length (calls_of (with_begun calls (suc place) call) c)) (calls_of files c)) (sym same)
          (subst (λ (cs : List Call). cs ≡ take (length cs) (calls_of files (suc place))) (sym (begun_here calls place call (omega (arith, who.to_last, lists))))
          (one_longer (calls_of calls (suc place)) (calls_of files (suc place)) call (way.first (suc place))
          (ap (slice_get (calls_of files (suc place))) (sym (counted core calls way (suc place))) ∙ next)))
      by other (inr apart) =
          subst (λ (cs : List Call). cs ≡ take (length cs) (calls_of files other)) (sym (begun_there calls (suc place) other call apart)) (way.first other)

  pub way_steps : (core after : Core) (calls : Calls) (caller : ℕ) (answer : Progress) → IsOnTheWay plan files core calls → step plan core caller ≡ Some (after, answer)
      → IsOnTheWay plan files after calls
  way_steps core after calls caller answer way e = record { reached = steps caller answer way.reached e; first = way.first }

  step_on : (core : Core) (calls : Calls) (caller : ℕ) (o : Option Stepped) → step plan core caller ≡ o → IsOnTheWay plan files core calls → IsOnTheWay plan files (or_stands plan core caller o).0 calls
  step_on core calls caller None e way = way
  step_on core calls caller (Some after) e way = way_steps core after.0 calls caller after.1 way e

  ready_on : (core : Core) (calls : Calls) (caller : ℕ) (s : Stage) (o : Option Call) → (frame_of core.world caller).stage ≡ s → next_call files core caller ≡ o
      → IsOnTheWay plan files core calls → IsCaller plan caller → OnTheWay (begins_at core caller s o)
  ready_on core calls caller stages.Idle (Some call) idle next way who = (with_begun calls caller call, way_begins core calls caller call way who idle next)
  ready_on core calls caller stages.Idle None idle next way who = (calls, way)
  ready_on core calls caller stages.Called o idle next way who = (calls, way)
  ready_on core calls caller stages.Running o idle next way who = (calls, way)
  ready_on core calls caller (stages.Ended end) o idle next way who = (calls, way)

  -- a caller is given a step
  pub readied_on : (core : Core) (caller : ℕ) → IsCaller plan caller → OnTheWay core → OnTheWay (readied files core caller)
  readied_on core caller who way = ready_on core way.0 caller (frame_of core.world caller).stage (next_call files core caller) refl refl way.1 who

  pub given_on : (core : Core) (caller : ℕ) → IsCaller plan caller → OnTheWay core → OnTheWay (given plan files core caller).0
  given_on core caller who way =
      let ready = readied_on core caller who way in
      (ready.0, step_on (readied files core caller) ready.0 caller (step plan (readied files core caller) caller) refl ready.1)

  pub gives_on : (run : Run) (callers : List ℕ) → AllByRecursion (IsCaller plan) callers → OnTheWay run.core → OnTheWay (fold (give_to plan files) run callers).core
  gives_on run [] who way = way
  gives_on run (caller ∷ callers) who way = gives_on (give_to plan files run caller) callers who.1 (given_on run.core caller who.0 way)

pub by_recursion : {A : Type 0} (P : A → Type 0) (xs : List A) → All P xs → AllByRecursion P xs
by_recursion P [] all = tt
by_recursion P (x ∷ xs) all = (all 0 x (omega arith), by_recursion P xs (λ k d within. all (suc k) d (omega (arith, within))))

pub scheduled_runs_reach : ScheduledRunsReach
scheduled_runs_reach plan files given is are who = gives_on plan is files are (started plan) given (by_recursion (IsCaller plan) given who) (no_calls plan, way_starts plan is files are)
