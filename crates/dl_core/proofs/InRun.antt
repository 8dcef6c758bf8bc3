-- The parts of the machine in Rust stay those of a run.
use Rattle.std.proofs.Common.{◌≡◌, ◌≢◌, ◌⊎◌, inl, inr, ℕ, zero, suc, ◌+◌, ◌<◌, ◌≤◌, List, [], ◌∷◌, length, set, Some, refl, sym, ap, subst, ◌∙◌, arith}
use Rattle.std.specs.Prelude.{slice_get, get_or}
use Rattle.std.proofs.lemmas.List.{length-map, get_or-map}
use Rattle.std.proofs.lemmas.Option.{slice_get_within, get_or_from_slice_get}
use Rattle.dl_ir.specs.Rows.{Rows}
use Rattle.dl_instr.specs.declared.code.Code.{Code}
use Rattle.dl_core.specs.declared.counters.Counters.{Counters}
use Rattle.dl_core.specs.declared.frames.Frame.{Frame as Kept}
use Rattle.dl_core.specs.declared.objects.Object.{Object}
use Rattle.dl_core.specs.declared.stages.Stage.{Stage}
use Rattle.dl_core.specs.declared.stages.Stage.TheVariants as stages
use Rattle.dl_core.specs.Accounts.{finished_in, shown_account}
use Rattle.dl_core.specs.Core.{Account, Core, frame_of, account_of, no_account}
use Rattle.dl_core.specs.Frames.{Frame, idle}
use Rattle.dl_core.specs.Laws.{IsKept}
use Rattle.dl_core.specs.Machinery.{HasRooms, IsHeldRight, IsOfRun}
use Rattle.dl_core.specs.Parts.{core_of, HasMemory, HasOwn, IsInRun}
use Rattle.dl_core.specs.Plans.{Plan, IsPlan, size_of}
use Rattle.dl_core.specs.Reached.{Calls, IsReached, calls_of}
use Rattle.dl_core.specs.Shown.{shown, memory_of, Memory, CanGoOn}
use Rattle.dl_core.proofs.LawfulAlways.{lawful_always}
use Rattle.dl_core.proofs.Names.{same_some}
use Rattle.dl_core.proofs.Outcomes.{HasOutcomes, outcomes}

-- what holds of each frame still does where another is put in a place
each_set : (P : ℕ → Kept → Type 0) (frames : List Kept) (caller : ℕ) (after : Kept) → ((at : ℕ) (f : Kept) → slice_get frames at ≡ Some f → P at f) → P caller after
    → (at : ℕ) (f : Kept) → slice_get (set frames caller after) at ≡ Some f → P at f
each_set P [] caller after each one at f e = each at f e
each_set P (x ∷ xs) zero after each one zero f e = subst (P 0) (same_some e) one
each_set P (x ∷ xs) zero after each one (suc at) f e = each (suc at) f e
each_set P (x ∷ xs) (suc caller) after each one zero f e = each zero f e
each_set P (x ∷ xs) (suc caller) after each one (suc at) f e = each_set (λ n. P (suc n)) xs caller after (λ n g. each (suc n) g) one at f e

-- the number of calls that a caller has begun is the same, whatever plan and calls the state was reached by
pub calls_same : (plan other : Plan) (core : Core) (calls others : Calls) → IsPlan plan → IsPlan other → IsReached plan core calls → IsReached other core others → (caller : ℕ) → length (calls_of others caller) ≡ length (calls_of calls caller)
calls_same plan other core calls others is also reached too caller = sym ((lawful_always other core others also too).sound.each caller).history.begun ∙ ((lawful_always plan core calls is reached).sound.each caller).history.begun

-- and where as many may be begun, as many may be begun
pub size_same : (plan other : Plan) → plan.sizes ≡ other.sizes → (caller : ℕ) → size_of plan caller ≡ size_of other caller
size_same plan other same zero = refl
size_same plan other same (suc place) = ap (λ sizes. get_or sizes place 0) same

module _ (code : Code) (places : ℕ) (sizes : List ℕ) (heap : Rows Object) (frames : List Kept) (counters : Counters) (run : IsOfRun code places sizes heap frames counters) where
  pub all : IsKept run.plan (core_of heap frames counters) run.calls
  all = lawful_always run.plan (core_of heap frames counters) run.calls run.is run.reached

  module _ (caller : ℕ) (frame : Kept) (there : slice_get frames caller ≡ Some frame) where
    within : caller < length frames
    within = slice_get_within frames caller frame there

    pub frame_is : frame_of (core_of heap frames counters).world caller ≡ shown frame
    frame_is = get_or-map shown frames caller frame idle within ∙ ap shown (get_or_from_slice_get frames caller frame frame there)

    pub account_is : account_of (core_of heap frames counters) caller ≡ shown_account frame
    account_is = get_or-map shown_account frames caller frame no_account within ∙ ap shown_account (get_or_from_slice_get frames caller frame frame there)

    few_begun : length (calls_of run.calls caller) ≤ size_of run.plan caller
    few_begun = by caller within
      where
        by : (c : ℕ) → c < length frames → length (calls_of run.calls c) ≤ size_of run.plan c
        by zero lt = omega arith
        by (suc c) lt = all.lawful.totals.sizes (suc c) (record { from_one = omega arith; to_last = omega (arith, lt, length-map frames shown, all.sound.frames) })

    told : HasOutcomes (shown frame) (shown_account frame)
    told =
        subst (λ (f : Frame). HasOutcomes f (shown_account frame)) frame_is (subst (λ (a : Account). HasOutcomes (frame_of (core_of heap frames counters).world caller) a) account_is
        (outcomes run.plan run.is (core_of heap frames counters) run.calls run.reached caller))

    few : length frame.entries.items + length frame.refusals.items ≤ frame.index
    few = elim (idle_or_not frame.stage) [
      | inl rests ↦ omega (arith, told.rests rests, length-map frame.entries.items finished_in)
      | inr busy ↦ omega (arith, told.busy busy, length-map frame.entries.items finished_in)
    ]
      where
        idle_or_not : (s : Stage) → (s ≡ stages.Idle) ⊎ (s ≢ stages.Idle)
        idle_or_not stages.Idle = inl refl
        idle_or_not stages.Called = inr (λ e. cc)
        idle_or_not stages.Running = inr (λ e. cc)
        idle_or_not (stages.Ended end) = inr (λ e. cc)

    has_memory : HasMemory frame heap
    has_memory =
        let held = run.each caller frame there in
        let index : frame.index ≡ length (calls_of run.calls caller) = sym (ap (λ (f : Frame). f.index) frame_is) ∙ (all.sound.each caller).history.begun in
        record {
          book = held.rooms.book;
          loose = held.rooms.loose;
          args = held.rooms.args;
          roots = held.rooms.roots;
          locals = held.rooms.locals;
          entries = omega (arith, index, few_begun, held.rooms.entries);
          refusals = omega (arith, index, few_begun, held.rooms.refusals);
          rest = few;
          busy = λ busy. omega (arith, told.busy busy, length-map frame.entries.items finished_in);
        }

  -- the parts have what steps rest on
  pub in_run : IsInRun code heap frames counters
  in_run = record {
    plan = run.plan;
    code_is = run.code_is;
    is = run.is;
    calls = run.calls;
    reached = run.reached;
    turns = run.turns;
    room = omega (arith, run.places_are, run.room);
    can = λ at frame there. (run.each at frame there).can;
    memory = has_memory;
  }

  pub count : length frames ≡ length sizes + 1
  count = omega (arith, length-map frames shown, all.sound.frames, ap length run.sizes_are)

  -- they stay those of a run where one frame changes
  pub still_of_run : (heap' : Rows Object) (frames' : List Kept) (counters' : Counters) (calls' : Calls) (caller : ℕ) (before after : Kept) → heap'.room ≡ heap.room → slice_get frames caller ≡ Some before
      → frames' ≡ set frames caller after → CanGoOn code after → memory_of after ≡ memory_of before → (HasOwn caller before → HasOwn caller after) → IsReached run.plan (core_of heap' frames' counters') calls'
      → IsOfRun code places sizes heap' frames' counters'
  still_of_run heap' frames' counters' calls' caller before after same there frames_are can memory own reached =
      let P = λ (room at : ℕ) (f : Kept). IsHeldRight code room (size_of run.plan at) at f in
      let held = run.each caller before there in
      let new : P heap.room caller after = record { can = can; rooms = subst (λ (m : Memory). HasRooms heap.room (size_of run.plan caller) m) (sym memory) held.rooms; own = own held.own } in
      record {
        plan = run.plan;
        code_is = run.code_is;
        places_are = run.places_are;
        sizes_are = run.sizes_are;
        is = run.is;
        calls = calls';
        reached = reached;
        turns = run.turns;
        room = omega (arith, run.room, same);
        each = subst (λ (room : ℕ). (at : ℕ) (f : Kept) → slice_get frames' at ≡ Some f → P room at f) (sym same)
            (subst (λ (fs : List Kept). (at : ℕ) (f : Kept) → slice_get fs at ≡ Some f → P heap.room at f) (sym frames_are) (each_set (P heap.room) frames caller after run.each new));
      }
