-- Rounds are made until all callers are done, and what a run leaves.
use Rattle.std.proofs.Common.{◌≡◌, ℕ, zero, suc, ◌<◌, true, false, List, [], length, refl, sym, ap, subst, ◌∙◌, inl, inr, arith}
use Rattle.std.specs.Prelude.{Result, Ok, Err, OnOk, codes}
use Rattle.std.specs.List.{list_all}
use Rattle.std.specs.FinMap as finite
use Rattle.std.proofs.lemmas.Bool.{cases_lt, false≢true}
use Rattle.dl_io.specs.Taken.{Taken}
use Rattle.dl_io.specs.declared.traits.Failed.{Failed}
use Rattle.dl_text.specs.Writing.{Buffered, Puts}
use Rattle.dl_instr.specs.declared.code.Code.{Code}
use Rattle.dl_core.specs.Core.{Core}
use Rattle.dl_core.specs.Machines.{Machine, plan_at, with_state}
use Rattle.dl_core.specs.Plans.{Plan}
use Rattle.dl_core.specs.Reached.{Calls, IsReached, no_calls}
use Rattle.dl_core.specs.Sound.{numbers_from}
use Rattle.dl_schedule.specs.declared.give.Give.{Give}
use Rattle.dl_trace.specs.declared.tally.Tally.{Tally}
use Rattle.dl_trace.specs.Runs.{Run, is_done, all_done, round, rounds, scheduled, started, ScheduleRun}
use Rattle.dl_trace.specs.Left.{state_round, done_after, RoundsLeft}
use Rattle.dl_trace.specs.Going.{IsUnderWay, Works, IsTold, IsLike, GoesOn, MadeRounds, bare}
use Rattle.dl_trace.specs.Ran.{MayRun, HasRun}
use Rattle.dl_trace.proofs.Ways.{way_starts}
use Rattle.dl_trace.proofs.Endings.{rounds_left, same_rounds}
use Rattle.dl_trace.proofs.Goings.{goes_none, goes_both, goes_as, like_after, on_the_way}

-- rounds are left from each state of a run
pub left_now : (machine : Machine) (files : Calls) → IsUnderWay machine files → RoundsLeft (bare machine) files machine.state
left_now machine files way =
    let left : RoundsLeft (record { code = way.plan.code; heap = finite.empty; places = machine.places; sizes = way.plan.sizes }) files machine.state
    = rounds_left way.plan way.running.is files way.are machine.state (way.calls, on_the_way machine files way) in
    subst (λ (ns : List ℕ). RoundsLeft (record { code = machine.code; heap = finite.empty; places = machine.places; sizes = ns }) files machine.state) way.running.sizes
    (subst (λ (code : Code). RoundsLeft (record { code = code; heap = finite.empty; places = machine.places; sizes = way.plan.sizes }) files machine.state) way.running.code left)

done_like : (one other : Plan) (files : Calls) (core : Core) → one.sizes ≡ other.sizes → all_done one files core ≡ all_done other files core
done_like one other files core same = ap (λ (ns : List ℕ). list_all (is_done files core) (numbers_from 1 (length ns))) same

module _ (files : Calls) where
  -- no round was made
  pub made_none : {machine : Machine} {tally : Tally} {sink : Taken} {out : Buffered} → IsUnderWay machine files → Works tally out → MadeRounds files machine machine tally tally sink sink out out
  made_none way works = record { count = 0; goes = goes_none files way works; not_before = λ plan run fewer like e less. absurd (omega (arith, less)) }

  rounds_last : (plan : Plan) (count : ℕ) (run : Run) → round plan files (rounds plan files count run) ≡ rounds plan files (suc count) run
  rounds_last plan zero run = refl
  rounds_last plan (suc count) run = rounds_last plan count (round plan files run)

  -- one more round was made
  pub made_more : {m n o : Machine} {a b c : Tally} {s t u : Taken} {p q r : Buffered} → MadeRounds files m n a b s t p q → GoesOn files (λ plan run. round plan files run) n o b c t u q r
      → all_done (bare n) files n.state ≡ false → MadeRounds files m o a c s u p r
  made_more {m = m} {n = n} made goes unfinished = record {
    count = suc made.count;
    goes = goes_as files (λ plan run like e. rounds_last plan made.count run) (goes_both files made.goes goes);
    not_before = λ plan run fewer like e less. elim (cases_lt fewer made.count) [
      | inl before ↦ made.not_before plan run fewer like e before
      | inr le ↦ last plan run fewer like e (omega (arith, le, less))
    ];
  }
    where
      last : (plan : Plan) (run : Run) (fewer : ℕ) → IsLike plan m → run.core ≡ m.state → fewer ≡ made.count → all_done plan files (rounds plan files fewer run).core ≡ false
      last plan run fewer like e same =
          ap (λ (k : ℕ). all_done plan files (rounds plan files k run).core) same ∙ ap (all_done plan files) (made.goes.state plan run like e)
          ∙ done_like plan (bare n) files n.state (like_after files made.goes.same like).sizes ∙ unfinished

  -- a round leaves one round fewer
  pub left_falls : {n o : Machine} {b c : Tally} {t u : Taken} {q r : Buffered} (left : RoundsLeft (bare n) files n.state) (next : RoundsLeft (bare o) files o.state)
      → GoesOn files (λ plan run. round plan files run) n o b c t u q r → all_done (bare n) files n.state ≡ false → next.0 < left.0
  left_falls {n = n} {o = o} left next goes unfinished = by left.0 left.1.0
    where
      run : Run
      run = record { core = n.state; text = []; gives = 0; waits = 0 }

      state : o.state ≡ state_round (bare n) files n.state
      state = sym (goes.state (bare n) run (record { code = refl; sizes = refl }) refl) ∙ same_rounds (bare n) files 1 run

      shifted : (k : ℕ) → done_after (bare n) files n.state (suc k) ≡ done_after (bare o) files o.state k
      shifted k =
          ap (λ (s : Core). done_after (bare n) files s k) (sym state)
          ∙ ap (λ (m : Machine). done_after (bare m) files o.state k) (sym goes.same)

      by : (count : ℕ) → done_after (bare n) files n.state count ≡ true → next.0 < count
      by zero over = absurd (false≢true (sym unfinished ∙ over))
      by (suc k) over = elim (cases_lt k next.0) [
        | inl less ↦ absurd (false≢true (sym (next.1.1 k less) ∙ sym (shifted k) ∙ over))
        | inr le ↦ omega (arith, le)
      ]

  -- the same, where the files are told otherwise
  pub left_falls_as : {n o : Machine} {b c : Tally} {t u : Taken} {q r : Buffered} (other : Calls) → other ≡ files → (left : RoundsLeft (bare n) files n.state) (next : RoundsLeft (bare o) other o.state)
      → GoesOn files (λ plan run. round plan files run) n o b c t u q r → all_done (bare n) files n.state ≡ false → next.0 < left.0
  left_falls_as {o = o} other same left next goes unfinished =
      (subst (λ (fs : Calls). (more : RoundsLeft (bare o) fs o.state) → more.0 < left.0) (sym same) (λ more. left_falls left more goes unfinished)) next

  pub made_more_as : {m n o : Machine} {a b c : Tally} {s t u : Taken} {p q r : Buffered} (other : Calls) → other ≡ files → MadeRounds files m n a b s t p q
      → GoesOn other (λ plan run. round plan other run) n o b c t u q r → all_done (bare n) other n.state ≡ false → MadeRounds files m o a c s u p r
  made_more_as {n = n} {o = o} {b = b} {c = c} {t = t} {u = u} {q = q} {r = r} other same made goes unfinished =
      made_more made (subst (λ (fs : Calls). GoesOn fs (λ plan run. round plan fs run) n o b c t u q r) same goes) (ap (λ (fs : Calls). all_done (bare n) fs n.state) (sym same) ∙ unfinished)

-- a schedule said otherwise
pub schedule_as : (files : Calls) {m n : Machine} {a b : Tally} {s t : Taken} {p q : Buffered} {gives schedule : List Give} → gives ≡ schedule
    → GoesOn files (λ plan run. scheduled plan files gives run) m n a b s t p q → GoesOn files (λ plan run. scheduled plan files schedule run) m n a b s t p q
schedule_as files {m = m} {n = n} {a = a} {b = b} {s = s} {t = t} {p = p} {q = q} same goes = subst (λ (gs : List Give). GoesOn files (λ plan run. scheduled plan files gs run) m n a b s t p q) same goes

-- ---- the start
pub works_after : {E : Type 0} {s t : Taken} {p q : Buffered} {text : List ℕ} (r : Result (Unit {0}) E) → Puts s p text r t q → OnOk r (q.failed ≡ false)
works_after (Ok x) puts = puts.ok.works
works_after (Err e) puts = tt

pub way_first : (machine : Machine) (files : Calls) (schedule : List Give) → MayRun machine files schedule → IsUnderWay machine files
way_first machine files schedule may =
    let plan = plan_at machine in
    let first = way_starts plan may.is files may.are in
    record {
      plan = plan;
      calls = no_calls plan;
      running = record { code = refl; places = refl; sizes = refl; is = may.is; reached = subst (λ (core : Core). IsReached plan core (no_calls plan)) (sym (ap (λ (m : Machine). m.state) may.fresh)) first.reached };
      are = may.are;
      first = first.first;
    }

-- ---- the end
module _ (machine : Machine) (files : Calls) (schedule : List Give) (may : MayRun machine files schedule) {mid after : Machine} {tally middle told : Tally} {sink s t u : Taken} {out p q r : Buffered}
    (gives : tally.gives ≡ 0) (waits : tally.waits ≡ 0) (head : Puts sink out (codes "domlock trace 1\n") tally.shown s p)
    (goes : GoesOn files (λ plan run. scheduled plan files schedule run) machine mid tally middle s t p q) (made : MadeRounds files mid after middle told t u q r)
    (over : all_done (plan_at after) files after.state ≡ true) where
  abbrev plan : Plan
  plan = plan_at machine

  like : IsLike plan machine
  like = record { code = refl; sizes = refl }

  begins : (started plan).core ≡ machine.state
  begins = sym (ap (λ (m : Machine). m.state) may.fresh)

  abbrev first : Run
  first = scheduled plan files schedule (started plan)

  abbrev end : Run
  end = rounds plan files made.count first

  mid_like : IsLike plan mid
  mid_like = like_after files goes.same like

  mid_state : first.core ≡ mid.state
  mid_state = goes.state plan (started plan) like begins

  end_state : end.core ≡ after.state
  end_state = made.goes.state plan first mid_like mid_state

  told_end : IsTold end told sink out u r
  told_end = made.goes.told plan first sink out mid_like mid_state (goes.told plan (started plan) sink out like begins (record { gives = gives; waits = waits; puts = head }))

  runs : ScheduleRun plan files schedule end
  runs = record {
    count = made.count;
    end_is = refl;
    over = ap (all_done plan files) end_state ∙ done_like plan (plan_at after) files after.state (like_after files made.goes.same mid_like).sizes ∙ over;
    not_before = λ fewer less. made.not_before plan first fewer mid_like mid_state less;
  }

  comes : after ≡ with_state machine end.core
  comes = made.goes.same ∙ ap (λ (m : Machine). with_state m after.state) goes.same ∙ ap (with_state machine) (sym end_state)

  pub has_run : (x : Unit {0}) → told.shown ≡ Ok x → HasRun machine after files schedule (Ok (record { gives = told.gives; waits = told.waits })) sink u out r
  has_run x shown = record {
    end = end;
    run = runs;
    state = comes;
    counts = ap (λ (n : ℕ). record { gives = n; waits = told.waits }) told_end.gives ∙ ap (λ (n : ℕ). record { gives = end.gives; waits = n }) told_end.waits;
    ok = (subst (λ (r' : Result (Unit {0}) Failed). Puts sink out end.text r' u r) shown told_end.puts).ok;
    err = tt;
  }

  pub has_failed : (failed : Failed) → told.shown ≡ Err failed → HasRun machine after files schedule (Err failed) sink u out r
  has_failed failed shown = record {
    end = end;
    run = runs;
    state = comes;
    counts = tt;
    ok = tt;
    err = (subst (λ (r' : Result (Unit {0}) Failed). Puts sink out end.text r' u r) shown told_end.puts).err;
  }
