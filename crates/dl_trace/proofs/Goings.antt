-- How the parts of a scheduled run follow one another in the program.
use Rattle.std.proofs.Common.{◌≡◌, ◌≢◌, ℕ, zero, suc, ◌+◌, ◌-◌, ◌<◌, ◌≤◌, false, List, [], ◌∷◌, ◌++◌, Option, Some, length, get_or, refl, sym, ap, subst, ◌∙◌, arith}
use Rattle.std.specs.Prelude.{fold, replicate, take, Bool, true, ◌&&◌, Result, Ok, Err}
use Rattle.std.specs.List.{list_all}
use Rattle.std.proofs.lemmas.Bool.{false≢true}
use Rattle.std.proofs.lemmas.List.{length-map, get_or_default}
use Rattle.dl_io.specs.Taken.{Taken}
use Rattle.dl_text.specs.Writing.{Buffered, Puts}
use Rattle.dl_text.proofs.WritingLemmas.{puts_both, puts_more}
use Rattle.dl_ir.specs.declared.calls.Call.{Call}
use Rattle.dl_core.specs.declared.answers.Progress.{Progress}
use Rattle.dl_core.specs.declared.stages.Stage.{Stage}
use Rattle.dl_core.specs.declared.stages.Stage.TheVariants as stages
use Rattle.dl_core.specs.Core.{Core, Stepped, frame_of}
use Rattle.dl_core.specs.Machines.{Machine, IsRunning, HasCaller, with_state}
use Rattle.dl_core.specs.Plans.{Plan, IsCaller, source_of}
use Rattle.dl_core.specs.Sound.{numbers_from}
use Rattle.dl_core.specs.Reached.{Calls, MayBegin, calls_of, with_begun}
use Rattle.dl_trace.specs.declared.tally.Tally.{Tally}
use Rattle.dl_trace.specs.Lines.{step_line}
use Rattle.dl_trace.specs.Laws.{IsOnTheWay}
use Rattle.dl_trace.specs.Runs.{Run, next_call, begins_at, readied, given, one_more, waits_after, give_to}
use Rattle.dl_trace.specs.Going.{IsUnderWay, Works, IsTold, IsLike, GoesOn}
use Rattle.dl_trace.proofs.Ways.{may_begin, way_begins}

module _ (files : Calls) where
  pub like_after : {machine after : Machine} {plan : Plan} → after ≡ with_state machine after.state → IsLike plan machine → IsLike plan after
  like_after same like = record { code = like.code ∙ sym (ap (λ (m : Machine). m.code) same); sizes = like.sizes ∙ sym (ap (λ (m : Machine). m.sizes) same) }

  -- nothing was done
  pub goes_none : {machine : Machine} {tally : Tally} {sink : Taken} {out : Buffered} → IsUnderWay machine files → Works tally out
      → GoesOn files (λ plan run. run) machine machine tally tally sink sink out out
  goes_none way works = record { way = way; works = works; same = refl; state = λ plan run like e. e; told = λ plan run start first like e told. told }

  -- one part after another
  pub goes_both : {f g : Plan → Run → Run} {m n o : Machine} {a b c : Tally} {s t u : Taken} {p q r : Buffered} → GoesOn files f m n a b s t p q → GoesOn files g n o b c t u q r
      → GoesOn files (λ plan run. g plan (f plan run)) m o a c s u p r
  goes_both {f = f} {m = m} {n = n} {o = o} one two = record {
    way = two.way;
    works = two.works;
    same = two.same ∙ ap (λ (k : Machine). with_state k o.state) one.same;
    state = λ plan run like e. two.state plan (f plan run) (like_after one.same like) (one.state plan run like e);
    told = λ plan run start first like e told. two.told plan (f plan run) start first (like_after one.same like) (one.state plan run like e) (one.told plan run start first like e told);
  }

  -- the same, said otherwise
  pub goes_as : {f g : Plan → Run → Run} {m n : Machine} {a b : Tally} {s t : Taken} {p q : Buffered}
      → ((plan : Plan) (run : Run) → IsLike plan m → run.core ≡ m.state → f plan run ≡ g plan run) → GoesOn files f m n a b s t p q → GoesOn files g m n a b s t p q
  goes_as {f = f} {g = g} {n = n} {b = b} {t = t} {q = q} as_well goes = record {
    way = goes.way;
    works = goes.works;
    same = goes.same;
    state = λ plan run like e. ap (λ (r : Run). r.core) (sym (as_well plan run like e)) ∙ goes.state plan run like e;
    told = λ plan run start first like e told. subst (λ (r : Run). IsTold r b start first t q) (as_well plan run like e) (goes.told plan run start first like e told);
  }

  -- a caller was given a step
  pub goes_step : {machine after : Machine} (caller : ℕ) (progress : Progress) {tally tally_after : Tally} {sink sink_after : Taken} {out out_after : Buffered}
      → ((plan : Plan) → plan.code ≡ machine.code → given plan files machine.state caller ≡ (after.state, progress))
      → after ≡ with_state machine after.state → IsUnderWay after files
      → tally_after.gives ≡ one_more tally.gives → tally_after.waits ≡ waits_after progress tally.waits
      → ((start : Taken) (first : Buffered) (text : List ℕ) → Puts start first text tally.shown sink out
      → Puts start first (text ++ step_line after.code.source after.state.world.heap caller progress) tally_after.shown sink_after out_after)
      → Works tally_after out_after
      → GoesOn files (λ plan run. give_to plan files run caller) machine after tally tally_after sink sink_after out out_after
  goes_step {machine = machine} {after = after} caller progress {tally = tally} {tally_after = tally_after} {sink_after = sink_after} {out_after = out_after} is same way gives waits puts works = record {
    way = way;
    works = works;
    same = same;
    state = λ plan run like e. ap (λ (a : Stepped). a.0) (one plan run like e);
    told = λ plan run start first like e told.
        let here = one plan run like e in
        let src : source_of plan ≡ after.code.source = ap (λ k. k.source) (like.code ∙ sym (ap (λ (m : Machine). m.code) same)) in
        record {
          gives = gives ∙ ap one_more told.gives;
          waits = waits ∙ ap (waits_after progress) told.waits ∙ ap (λ (a : Stepped). waits_after a.1 run.waits) (sym here);
          puts = subst (λ (text : List ℕ). Puts start first text tally_after.shown sink_after out_after)
              (ap (λ source. run.text ++ step_line source after.state.world.heap caller progress) (sym src)
              ∙ ap (λ (a : Stepped). run.text ++ step_line (source_of plan) a.0.world.heap caller a.1) (sym here))
              (puts start first run.text told.puts);
        };
  }
    where
      one : (plan : Plan) (run : Run) → IsLike plan machine → run.core ≡ machine.state → given plan files run.core caller ≡ (after.state, progress)
      one plan run like e = ap (λ (c : Core). given plan files c caller) e ∙ is plan like.code

-- ---- callers, files and begins
pub is_caller : (machine : Machine) (files : Calls) (way : IsUnderWay machine files) (caller : ℕ) → HasCaller machine caller → IsCaller way.plan caller
is_caller machine files way caller has = record { from_one = has.from_one; to_last = omega (arith, has.to_last, ap (λ (ns : List ℕ). length ns) way.running.sizes) }

pub so_many : (machine : Machine) (files : Calls) → IsUnderWay machine files → length machine.sizes ≡ length files
so_many machine files way = ap (λ (ns : List ℕ). length ns) (sym way.running.sizes ∙ way.are.sizes) ∙ length-map files length

pub on_the_way : (machine : Machine) (files : Calls) (way : IsUnderWay machine files) → IsOnTheWay way.plan files machine.state way.calls
on_the_way machine files way = record { reached = way.running.reached; first = way.first }

pub file_at : (files : Calls) (caller : ℕ) (d : List Call) → 0 < caller → caller ≤ length files → get_or files (caller - 1) d ≡ calls_of files caller
file_at files zero d low high = absurd (omega (arith, low))
file_at files (suc place) d low high =
    let less_one : suc place - 1 ≡ place = omega arith in
    ap (λ (k : ℕ). get_or files k d) less_one ∙ get_or_default files place d [] (omega (arith, high))

pub ready_idle : (files : Calls) (core : Core) (caller : ℕ) (o : Option Call) → (frame_of core.world caller).stage ≡ stages.Idle → next_call files core caller ≡ o
    → readied files core caller ≡ begins_at core caller stages.Idle o
ready_idle files core caller o idle next = ap (λ s. begins_at core caller s (next_call files core caller)) idle ∙ ap (begins_at core caller stages.Idle) next

ready_at : (core : Core) (caller : ℕ) (s : Stage) (o : Option Call) → s ≢ stages.Idle → begins_at core caller s o ≡ core
ready_at core caller stages.Idle o busy = absurd (busy refl)
ready_at core caller stages.Called o busy = refl
ready_at core caller stages.Running o busy = refl
ready_at core caller (stages.Ended end) o busy = refl

pub ready_busy : (files : Calls) (core : Core) (caller : ℕ) → (frame_of core.world caller).stage ≢ stages.Idle → readied files core caller ≡ core
ready_busy files core caller busy = ready_at core caller (frame_of core.world caller).stage (next_call files core caller) busy

-- the next call may be begun
pub may_begin_next : (machine : Machine) (files : Calls) (way : IsUnderWay machine files) (caller : ℕ) (call : Call) → HasCaller machine caller → (frame_of machine.state.world caller).stage ≡ stages.Idle
    → next_call files machine.state caller ≡ Some call → MayBegin way.plan machine.state way.calls caller call
may_begin_next machine files way caller call has idle next =
    may_begin way.plan way.running.is files way.are machine.state way.calls caller call (on_the_way machine files way) (is_caller machine files way caller has) idle next

pub under_way_begun : (machine after : Machine) (files : Calls) (way : IsUnderWay machine files) (caller : ℕ) (call : Call) → HasCaller machine caller → (frame_of machine.state.world caller).stage ≡ stages.Idle
    → next_call files machine.state caller ≡ Some call → IsRunning way.plan after (with_begun way.calls caller call) → IsUnderWay after files
under_way_begun machine after files way caller call has idle next running =
    let more = way_begins way.plan way.running.is files way.are machine.state way.calls caller call (on_the_way machine files way) (is_caller machine files way caller has) idle next in
    record { plan = way.plan; calls = with_begun way.calls caller call; running = running; are = way.are; first = more.first }

pub under_way_stepped : (machine after : Machine) (files : Calls) (way : IsUnderWay machine files) → IsRunning way.plan after way.calls → IsUnderWay after files
under_way_stepped machine after files way running = record { plan = way.plan; calls = way.calls; running = running; are = way.are; first = way.first }

-- ---- one more at the end of a list
many_suc : {A B : Type 0} (f : A → B → A) (n : ℕ) (a : A) (b : B) → fold f a (replicate (suc n) b) ≡ f (fold f a (replicate n b)) b
many_suc f zero a b = refl
many_suc f (suc n) a b = many_suc f n (f a b) b

pub fold_many : {A B : Type 0} (f : A → B → A) (n : ℕ) (a : A) (b : B) → fold f a (replicate (n + 1) b) ≡ f (fold f a (replicate n b)) b
fold_many f n a b = let e : n + 1 ≡ suc n = omega arith in ap (λ (k : ℕ). fold f a (replicate k b)) e ∙ many_suc f n a b

taken_suc : {A B : Type 0} (f : A → B → A) (xs : List B) (i : ℕ) (a : A) (d : B) → i < length xs → fold f a (take (suc i) xs) ≡ f (fold f a (take i xs)) (get_or xs i d)
taken_suc f [] i a d within = absurd (omega (arith, within))
taken_suc f (x ∷ xs) zero a d within = refl
taken_suc f (x ∷ xs) (suc i) a d within = taken_suc f xs i (f a x) d (omega (arith, within))

pub fold_taken : {A B : Type 0} (f : A → B → A) (xs : List B) (i : ℕ) (a : A) (d : B) → i < length xs → fold f a (take (i + 1) xs) ≡ f (fold f a (take i xs)) (get_or xs i d)
fold_taken f xs i a d within = let e : i + 1 ≡ suc i = omega arith in ap (λ (k : ℕ). fold f a (take k xs)) e ∙ taken_suc f xs i a d within

numbers_suc : {A : Type 0} (f : A → ℕ → A) (n first : ℕ) (a : A) → fold f a (numbers_from first (suc n)) ≡ f (fold f a (numbers_from first n)) (first + n)
numbers_suc f zero first a = let e : first ≡ first + 0 = omega arith in ap (f a) e
numbers_suc f (suc n) first a =
    let e : first + 1 + n ≡ first + suc n = omega arith in
    numbers_suc f n (first + 1) (f a first) ∙ ap (f (fold f (f a first) (numbers_from (first + 1) n))) e

pub fold_numbers : {A : Type 0} (f : A → ℕ → A) (n first : ℕ) (a : A) → fold f a (numbers_from first (n + 1)) ≡ f (fold f a (numbers_from first n)) (first + n)
fold_numbers f n first a = let e : n + 1 ≡ suc n = omega arith in ap (λ (k : ℕ). fold f a (numbers_from first k)) e ∙ numbers_suc f n first a

both_are : (a b : Bool) → a ≡ true → b ≡ true → (a && b) ≡ true
both_are true b e f = f
both_are false b e f = e

both_true : (a b : Bool) → (a && b) ≡ true → (a ≡ true) × (b ≡ true)
both_true true b h = (refl, h)
both_true false b h = absurd (false≢true h)

all_suc : (p : ℕ → Bool) (n first : ℕ) → list_all p (numbers_from first n) ≡ true → p (first + n) ≡ true → list_all p (numbers_from first (suc n)) ≡ true
all_suc p zero first all here = let e : first ≡ first + 0 = omega arith in both_are (p first) true (ap p e ∙ here) refl
all_suc p (suc n) first all here =
    let both = both_true (p first) (list_all p (numbers_from (first + 1) n)) all in
    let e : first + 1 + n ≡ first + suc n = omega arith in
    both_are (p first) (list_all p (numbers_from (first + 1) (suc n))) both.0 (all_suc p n (first + 1) both.1 (ap p e ∙ here))

pub all_numbers : (p : ℕ → Bool) (n : ℕ) → list_all p (numbers_from 1 n) ≡ true → p (n + 1) ≡ true → list_all p (numbers_from 1 (n + 1)) ≡ true
all_numbers p n all here =
    let e : n + 1 ≡ suc n = omega arith in
    let f : 1 + n ≡ n + 1 = omega arith in
    ap (λ (k : ℕ). list_all p (numbers_from 1 k)) e ∙ all_suc p n 1 all (ap p f ∙ here)

not_all_from : (p : ℕ → Bool) (count first at : ℕ) → at < count → p (first + at) ≡ false → list_all p (numbers_from first count) ≡ false
not_all_from p zero first at within here = absurd (omega (arith, within))
not_all_from p (suc count) first zero within here = let e : first ≡ first + 0 = omega arith in ap (λ v. v && list_all p (numbers_from (first + 1) count)) (ap p e ∙ here)
not_all_from p (suc count) first (suc at) within here =
    let e : first + 1 + at ≡ first + suc at = omega arith in
    by (p first) (not_all_from p count (first + 1) at (omega (arith, within)) (ap p e ∙ here))
  where
    by : (v : Bool) → list_all p (numbers_from (first + 1) count) ≡ false → (v && list_all p (numbers_from (first + 1) count)) ≡ false
    by true rest = rest
    by false rest = refl

pub not_all_numbers : (p : ℕ → Bool) (count at : ℕ) → at < count → p (at + 1) ≡ false → list_all p (numbers_from 1 count) ≡ false
not_all_numbers p count at within here = let f : 1 + at ≡ at + 1 = omega arith in not_all_from p count 1 at within (ap p f ∙ here)

-- ---- what was put, with more
pub puts_on : {E : Type 0} {start s t : Taken} {first p q : Buffered} {text more : List ℕ} {r : Result (Unit {0}) E} (shown : Result (Unit {0}) E) (x : Unit {0}) → shown ≡ Ok x → Puts start first text shown s p
    → Puts s p more r t q → Puts start first (text ++ more) r t q
puts_on (Ok y) x is told next = puts_both told.ok next
puts_on (Err e) x is told next = absurd cc

pub puts_still : {E : Type 0} {start s : Taken} {first p : Buffered} {text : List ℕ} (more : List ℕ) (shown : Result (Unit {0}) E) (failed : E) → shown ≡ Err failed → Puts start first text shown s p
    → Puts start first (text ++ more) (Err failed) s p
puts_still {start = start} {s = s} {first = first} {p = p} {text = text} more (Ok y) failed is told = absurd cc
puts_still {start = start} {s = s} {first = first} {p = p} {text = text} more (Err e) failed is told = subst (λ r. Puts start first (text ++ more) r s p) is (puts_more more refl told)
