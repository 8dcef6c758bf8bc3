-- What the machine leaves at the end of a scheduled run is a run of its calls.
use Rattle.std.proofs.Common.{◌≡◌, ◌∙◌, ℕ, zero, suc, ◌+◌, Some, List, [], ◌∷◌, ◌++◌, length, map, Result, Ok, Err, OnErr, inl, inr, refl, sym, ap, ap₂, subst, append_assoc, arith}
use Rattle.std.specs.Prelude.{All, slice_get}
use Rattle.std.specs.List.{flat_map}
use Rattle.std.specs.List.Sorted.{IsNonDecreasingBy}
use Rattle.std.proofs.lemmas.Bool.{cases_lt}
use Rattle.std.proofs.lemmas.Option.{same_Some}
use Rattle.std.proofs.lemmas.List.{get_or_past, length-map}
use Rattle.std.proofs.lemmas.List.Elements.{All-nil}
use Rattle.dl_io.specs.Taken.{Taken}
use Rattle.dl_ir.specs.declared.answers.Entry.{Entry}
use Rattle.dl_ir.specs.declared.answers.Refusal.{Refusal}
use Rattle.dl_ir.specs.declared.calls.Call.{Call}
use Rattle.dl_ir.specs.declared.closed.Closed.{Closed}
use Rattle.dl_ir.specs.declared.modules.Module.{Module}
use Rattle.dl_ir.specs.CallForms.{AreCallsOf, IsCallOf}
use Rattle.dl_ir.specs.Cover.{Covers}
use Rattle.dl_ir.specs.Heap.{Objects, hidden_count}
use Rattle.dl_shape.specs.Pool.{HasVersionsOfMovesAlone, IsLawfulPool, in_rising_versions, moves_of}
use Rattle.dl_shape.specs.Replay.{IsLegal, replayed}
use Rattle.dl_shape.specs.Rising.{in_rising}
use Rattle.dl_history.specs.Histories.{Seen, joined}
use Rattle.dl_text.specs.Writing.{Breaks, nothing}
use Rattle.dl_core.specs.Closing.{AreOfCallers, all_of, history_left}
use Rattle.dl_core.specs.Core.{Core, entries_of, refusals_of}
use Rattle.dl_core.specs.Heaps.{plain}
use Rattle.dl_core.specs.Machines.{AreAllIdle, Machine, callers_in, opened, plan_at, with_state}
use Rattle.dl_core.specs.Plans.{Plan, IsCaller, IsPlan, source_of}
use Rattle.dl_core.specs.Reached.{calls_of}
use Rattle.dl_core.specs.Sound.{callers_of, numbers_from}
use Rattle.dl_machine.specs.Files.{RunsFiles}
use Rattle.dl_order.specs.Ends.{IsRunOver, all_refusals, history_in}
use Rattle.dl_schedule.specs.declared.give.Give.{Give}
use Rattle.dl_schedule.specs.Rules.{IsGiveOf}
use Rattle.dl_trace.specs.Laws.{AreFilesOf, IsRunOut, ScheduledRunsAreOver}
use Rattle.dl_trace.specs.Ran.{MayRun}
use Rattle.dl_trace.specs.Runs.{Run, ScheduleRun}
use Rattle.dl_command.specs.declared.step.Ready.{Ready}
use Rattle.dl_command.specs.Causes.{Cut}
use Rattle.dl_command.specs.Promise.{plan_of}
use Rattle.dl_command.specs.Scheduled.{Course, HasEnded, IsLeft, IsReady}
use Rattle.dl_command.proofs.OverLemmas.{is_run, heap_is as leads_to}

-- lists made of numbers, one after another
pieces : {Y : Type 0} (g : ℕ → List Y) (ns : List ℕ) → all_of (map g ns) ≡ flat_map g ns
pieces g [] = refl
pieces g (n ∷ ns) = ap (λ ys. g n ++ ys) (pieces g ns)

-- what is made of the number that stands at a place
numbered : {Y : Type 0} (g : ℕ → Y) (first count at : ℕ) (y : Y) → slice_get (map g (numbers_from first count)) at ≡ Some y → g (first + at) ≡ y
numbered g first zero at y there = absurd (cc)
numbered g first (suc more) zero y there = let here : first + 0 ≡ first = omega arith in ap g here ∙ same_Some (g first) y there
numbered g first (suc more) (suc at) y there = let later : first + suc at ≡ first + 1 + at = omega arith in ap g later ∙ numbered g (first + 1) more at y there

module _ (plan : Plan) (core : Core) (all : List (List Call)) (closed : Closed) (over : IsRunOver plan core all)
    (heap_is : closed.heap.objects ≡ plain core.world.heap) (entries_are : closed.entries ≡ map (entries_of core) (callers_of plan))
    (refusals_are : closed.refusals ≡ map (refusals_of core) (callers_of plan)) (free_is : closed.free ≡ core.pool.free) where
  left_history : history_left closed ≡ history_in plan core
  left_history = ap (in_rising (λ (entry : Entry). entry.ticket)) (ap all_of entries_are ∙ pieces (entries_of core) (callers_of plan))

  left_refusals : all_of closed.refusals ≡ all_refusals plan core
  left_refusals = ap all_of refusals_are ∙ pieces (refusals_of core) (callers_of plan)

  by_callers : AreOfCallers closed.refusals
  by_callers at list there =
      let own : refusals_of core (1 + at) ≡ list = numbered (refusals_of core) 1 (length plan.sizes) at list (ap (λ (lists : List (List Refusal)). slice_get lists at) (sym refusals_are) ∙ there) in
      let number : 1 + at ≡ at + 1 = omega arith in
      subst (λ (caller : ℕ). All (λ (refusal : Refusal). refusal.caller ≡ caller) list × IsNonDecreasingBy (λ (refusal : Refusal). refusal.index) list) number
      (subst (λ (refusals : List Refusal). All (λ (refusal : Refusal). refusal.caller ≡ 1 + at) refusals × IsNonDecreasingBy (λ (refusal : Refusal). refusal.index) refusals) own (over.refusals (1 + at)))

  -- what is left is what callers leave that ran their files side by side
  left_runs : RunsFiles plan all closed
  left_runs = record {
    covers = subst (λ (history : List Entry). Covers all history (all_of closed.refusals)) (sym left_history)
        (subst (Covers all (history_in plan core)) (sym left_refusals) over.covers);
    lawful = record {
      legal = subst (IsLegal (source_of plan) all plan.heap) (sym left_history) over.legal;
      pool = subst (λ (history : List Entry). IsLawfulPool plan.places (source_of plan) all plan.heap history (all_of closed.refusals)) (sym left_history)
          (subst (IsLawfulPool plan.places (source_of plan) all plan.heap (history_in plan core)) (sym left_refusals) over.pool);
      versions = subst (All (HasVersionsOfMovesAlone (source_of plan) all)) (sym left_history) over.versions;
      refusals = by_callers;
      heap = heap_is ∙ over.heap ∙ ap (replayed (source_of plan) all plan.heap) (sym left_history);
      free = ap₂ (λ (free : ℕ) (heap : Objects). free + hidden_count heap) free_is heap_is ∙ over.free;
    };
  }

module _ (source : Module) (all : List (List Call)) (calls : All (AreCallsOf source) all) where
  -- the calls are those of the plan's callers
  plan_files : (heap : Objects) (places : ℕ) → AreFilesOf (plan_of source heap all places) all
  plan_files heap places = record { sizes = refl; calls = each }
    where
      each : (caller : ℕ) → All (IsCallOf source) (calls_of all caller)
      each zero = All-nil (IsCallOf source)
      each (suc place) = elim (cases_lt place (length all)) [
        | inl inside ↦ (calls place [] inside).each
        | inr past ↦ subst (All (IsCallOf source)) (sym (get_or_past all place [] past)) (All-nil (IsCallOf source))
      ]

  -- and so are the callers of a schedule
  plan_callers : (heap : Objects) (places : ℕ) (gives : List Give) → All (IsGiveOf (length all)) gives → All (λ (give : Give). IsCaller (plan_of source heap all places) give.caller) gives
  plan_callers heap places gives callers = λ k d within.
      let who = (callers k d within).caller in
      let many = length-map all (λ (calls : List Call). length calls) in
      record { from_one = omega (arith, who.low); to_last = omega (arith, who.high, many) }

  module _ (heap : Objects) (places : ℕ) (gives : List Give) (callers : All (IsGiveOf (length all)) gives) (ready : Ready) (is : IsReady source heap all places ready) where
    -- a scheduled run may begin
    pub may_run : MayRun ready.core all gives
    may_run = record {
      is = subst IsPlan (sym is.starts) is.plan;
      fresh = is.core ∙ ap opened (sym is.starts);
      are = subst (λ (p : Plan). AreFilesOf p all) (sym is.starts) (plan_files heap places);
      callers = λ k d within.
          let who = plan_callers heap places gives callers k d within in
          let sizes = ap (λ (m : Machine). length m.sizes) is.core in
          record { from_one = who.from_one; to_last = omega (arith, who.to_last, sizes) };
    }

    -- and comes to its end
    pub has_ended : (end : Run) (after : Machine) → ScheduleRun (plan_at ready.core) all gives end → after ≡ with_state ready.core end.core
        → HasEnded source all (record { heap = heap; gives = gives; places = places; end = end }) after
    has_ended end after run state = record {
      plan = is.plan;
      callers = callers;
      run = subst (λ (p : Plan). ScheduleRun p all gives end) is.starts run;
      state = state ∙ ap (λ (machine : Machine). with_state machine end.core) is.core;
    }

  module _ (over : ScheduledRunsAreOver) (course : Course) (core : Machine) (ended : HasEnded source all course core) where
    abbrev plan : Plan
    plan = plan_of source course.heap all course.places

    run_out : IsRunOut plan all course.end.core
    run_out = over plan all course.gives course.end ended.plan (plan_files course.heap course.places) (plan_callers course.heap course.places course.gives ended.callers) ended.run

    pub resting : AreAllIdle core.state
    resting = rw ended.state run_out.idle

    module _ (closed : Closed) (heap : closed.heap.objects ≡ plain core.state.world.heap) (entries : closed.entries ≡ map (entries_of core.state) (callers_in core))
        (refusals : closed.refusals ≡ map (refusals_of core.state) (callers_in core)) (free : closed.free ≡ core.state.pool.free) where
      heap_is : closed.heap.objects ≡ plain course.end.core.world.heap
      heap_is = heap ∙ ap (λ (machine : Machine). plain machine.state.world.heap) ended.state

      entries_are : closed.entries ≡ map (entries_of course.end.core) (callers_of plan)
      entries_are = entries ∙ ap (λ (machine : Machine). map (entries_of machine.state) (callers_in machine)) ended.state

      refusals_are : closed.refusals ≡ map (refusals_of course.end.core) (callers_of plan)
      refusals_are = refusals ∙ ap (λ (machine : Machine). map (refusals_of machine.state) (callers_in machine)) ended.state

      free_is : closed.free ≡ course.end.core.pool.free
      free_is = free ∙ ap (λ (machine : Machine). machine.state.pool.free) ended.state

      pub runs_files : RunsFiles plan all closed
      runs_files = left_runs plan course.end.core all closed run_out.run heap_is entries_are refusals_are free_is

      pub is_left : (history : Seen) (refused : List Refusal) → history.entries ≡ history_left closed → history.moves ≡ in_rising_versions (moves_of source all history.entries)
          → refused ≡ joined closed.refusals → IsLeft source all course (record { history = history; refusals = refused; closed = closed })
      is_left history refused entries_of_it moves refused_of_it = record {
        scheduled = record {
          run = ended.run;
          entries = entries_of_it ∙ left_history plan course.end.core all closed run_out.run heap_is entries_are refusals_are free_is;
          refused = refused_of_it ∙ left_refusals plan course.end.core all closed run_out.run heap_is entries_are refusals_are free_is;
          is_run = is_run source course.heap all course.places closed runs_files calls history refused entries_of_it moves refused_of_it;
        };
        heap = heap_is;
        leads = leads_to source course.heap all course.places closed runs_files calls history refused entries_of_it moves refused_of_it;
        refusals = (sym refused_of_it, runs_files.lawful.refusals);
      }

-- a text that broke off broke off with more behind it
pub cut_before : (s t : Taken) (text more : List ℕ) → Breaks s nothing text t → Cut (text ++ more) s t
cut_before s t text more breaks = record {
  rose = breaks.rose;
  taken = breaks.taken;
  lost = breaks.lost ++ more;
  took = breaks.took;
  whole = sym (append_assoc breaks.taken breaks.lost more) ∙ ap (λ (front : List ℕ). front ++ more) breaks.whole;
}

-- of two things that hold at an error, the second
pub second_err : {T E : Type 0} (A B : Type 0) (r : Result T E) → OnErr r (A × B) → OnErr r B
second_err A B (Ok value) both = tt
second_err A B (Err fault) both = both.1
