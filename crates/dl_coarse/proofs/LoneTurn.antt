-- An operation that runs while no other caller has one: that it ends, and what it leaves.
use Rattle.std.proofs.Common.{◌≡◌, ◌≢◌, ℕ, suc, ◌+◌, ◌<◌, ◌≤◌, ◌⊎◌, inl, inr, ⊎_elim, Bool, true, false, List, [], ◌∷◌, ◌++◌, length, get_or, set, length-set, Option, Some, None, refl, sym, ap, subst, ◌∙◌, arith, map}
use Rattle.std.specs.Prelude.{max, nat_lt, slice_get, if◌then◌else◌}
use Rattle.std.specs.List.{zip}
use Rattle.std.specs.FinMap as finite
use Rattle.std.proofs.Math.Nat.{max-le, max-eq_left, max-eq_right}
use Rattle.std.proofs.lemmas.Bool.Decides.{nat_tests}
use Rattle.std.proofs.lemmas.List.{get_or-set_same, get_or-set_other}
use mathlib.Core.Logic.{dite}
use native.Mathlib.Decide.{ℕ_discrete}
use Rattle.dl_ir.specs.declared.answers.End.{End}
use Rattle.dl_ir.specs.declared.answers.Entry.{Entry}
use Rattle.dl_ir.specs.declared.answers.Refusal.{Refusal}
use Rattle.dl_ir.specs.declared.calls.Call.{Call}
use Rattle.dl_ir.specs.declared.names.Name.{Name}
use Rattle.dl_core.specs.declared.answers.Progress.{Progress}
use Rattle.dl_core.specs.declared.answers.Progress.TheVariants as progress
use Rattle.dl_core.specs.declared.dues.Due.TheVariants.{Reserves, TakesRoot, Enters, Finishes}
use Rattle.dl_core.specs.declared.objects.Mark.{Mark}
use Rattle.dl_core.specs.declared.objects.Mark.TheVariants as marks
use Rattle.dl_core.specs.declared.objects.Object.{Object}
use Rattle.dl_core.specs.declared.stages.Finished.{Finished}
use Rattle.dl_core.specs.declared.stages.Stage.TheVariants as stages
use Rattle.dl_core.specs.declared.stages.Versions.{Versions}
use Rattle.dl_core.specs.Advances.{RunsTo, ends, goes_on}
use Rattle.dl_core.specs.Core.{Account, Core, Pool, Stepped, account_of, acted, enters, entry_of, finishes, frame_of, refusal_of, refuses, reserves, version_after, versions_made, no_account, step, step_due, with_call}
use Rattle.dl_core.specs.Events.{Acted, act, aim, begun, entered, finish_of, finished, refused, reserved, take_root, took_root}
use Rattle.dl_core.specs.Frames.{Frame, IsEntered, idle}
use Rattle.dl_core.specs.LocalSteps.{due, next_root}
use Rattle.dl_core.specs.Plans.{Plan, IsPlan, allocs_of, fuel_of, locals_of, roots_of}
use Rattle.dl_core.specs.Reached.{Calls, IsReached, MayBegin, begins, steps, with_begun}
use Rattle.dl_core.specs.Sound.{Stands, idles, waits, works}
use Rattle.dl_core.specs.Turns.{Leaves, MayRun}
use Rattle.dl_core.proofs.Kept.{ready_same}
use Rattle.dl_core.proofs.LawfulAlways.{lawful_always}
use Rattle.dl_core.proofs.Names.{no_some, same_some}
use Rattle.dl_order.proofs.Always.{Touches, asks_when, at_root, finishes_when, runs_on, touches_when}
use Rattle.dl_order.proofs.Ending.{each_run_ends}
use Rattle.dl_order.proofs.Entering.{enters_when}
use Rattle.dl_order.proofs.Keeping.{IsOne, touch_one}
use Rattle.dl_order.proofs.Progress.{someone_moves, stands_called}
use Rattle.dl_order.proofs.Serial.{IsCalledFor, for_a_root, for_a_ticket, for_places, waiting_due}
use Rattle.dl_order.proofs.Worlds.{entered_busy, idle_rests, stands_of}
use Rattle.dl_order.specs.Measure.{IsEnding}
use Rattle.dl_order.specs.Measure as measure
use Rattle.dl_coarse.specs.Going.{EndsAfter, IsOver}
use Rattle.dl_coarse.proofs.Stepping.{Goes, IsStep, enters_on, finishes_it, moves, refuses_it, reserves_on, step_kind, touches_on}

module _ (plan : Plan) (is : IsPlan plan) (caller : ℕ) where
  -- the caller has a frame and an account
  record HasPlace (core : Core) : Type 0 where
    pub frame : caller < length core.world.frames
    pub account : caller < length core.pool.accounts

  has_place : (core : Core) (calls : Calls) → IsReached plan core calls → caller ≤ length plan.sizes → HasPlace core
  has_place core calls reached within =
      let sound = (lawful_always plan core calls is reached).sound in
      let frames = sound.frames in
      let accounts = sound.accounts in
      record { frame = omega arith; account = omega arith }

  -- ---- what each event makes of the caller's frame

  root_frame : (number : ℕ) (frame : Frame) (found : Option Object) (outcome : Acted) → act plan caller frame (TakesRoot number) found ≡ Some outcome → (kind : ℕ) × (outcome.0 ≡ took_root number kind frame)
  root_frame number frame None outcome e = absurd (no_some e)
  root_frame number frame (Some object) outcome e = by object.mark e
    where
      by : (mark : Mark) → take_root caller number frame object mark ≡ Some outcome → (kind : ℕ) × (outcome.0 ≡ took_root number kind frame)
      by marks.Free e = (object.kind, ap (λ (o : Acted). o.0) (sym (same_some e)))
      by (marks.Held other) e = absurd (no_some e)
      by (marks.Sealed ticket) e = absurd (no_some e)

  module _ (core : Core) (calls : Calls) (reached : IsReached plan core calls) where
    abbrev frame : Frame
    frame = frame_of core.world caller

    -- an event changes the caller's frame alone, keeps its index and what it finished, and leaves it busy
    pub record Changes (after : Core) : Type 0 where
      pub frame_then : Frame
      pub frames : after.world.frames ≡ set core.world.frames caller frame_then
      pub index : frame_then.index ≡ (frame_of core.world caller).index
      pub finished : frame_then.finished ≡ (frame_of core.world caller).finished
      pub busy : (IsReached plan after calls → 0 < frame_then.ticket) ⊎ (frame_then.stage ≡ stages.Called)

    entered_frame : (ticket : ℕ) → ((entered plan ticket frame).ticket ≡ ticket) × ((entered plan ticket frame).index ≡ frame.index) × ((entered plan ticket frame).finished ≡ frame.finished)
    entered_frame ticket =
        let same = ready_same plan (record frame { stage = stages.Running; ticket = ticket; locals = locals_of plan frame.call; turns = fuel_of plan frame.call }) in
        (same.3, same.1, same.9)

    changes : (after : Core) → Goes plan core caller after → Changes after
    changes after (reserves_on need asks is_after) = record {
      frame_then = reserved need frame;
      frames = ap (λ (c : Core). c.world.frames) is_after;
      index = refl;
      finished = refl;
      busy = inr (asks_when plan is core calls caller need reached asks).1;
    }
    changes after (enters_on comes is_after) =
        let now = entered_frame (core.clock + 1) in record {
          frame_then = entered plan (core.clock + 1) frame;
          frames = ap (λ (c : Core). c.world.frames) is_after;
          index = now.1;
          finished = now.2;
          busy = inl (λ _. let ticket = now.0 in omega arith);
        }
    changes after (touches_on name at outcome acts is_after) =
        let one = touch_one plan caller frame (due plan frame) (finite.get core.world.heap name) outcome acts in record {
          frame_then = outcome.0;
          frames = ap (λ (c : Core). c.world.frames) is_after;
          index = one.2;
          finished = one.1;
          busy = by (touches_when plan is core calls caller name reached at);
        }
      where
        by : Touches plan is core caller → (IsReached plan after calls → 0 < outcome.0.ticket) ⊎ (outcome.0.stage ≡ stages.Called)
        by (runs_on e) = inl (λ _. let one = (touch_one plan caller frame (due plan frame) (finite.get core.world.heap name) outcome acts).0 in omega (arith, one, e))
        by (at_root number takes z called) =
            let took = root_frame number frame (finite.get core.world.heap name) outcome (ap (λ d. act plan caller frame d (finite.get core.world.heap name)) (sym takes) ∙ acts) in
            inr (ap (λ (f : Frame). f.stage) took.1 ∙ called)

    called_busy : stages.Called ≢ stages.Idle
    called_busy same = cc same

    -- who goes on has a call in hand
    pub still_busy : (after : Core) → IsReached plan after calls → caller < length core.world.frames → Changes after → (frame_of after.world caller).stage ≢ stages.Idle
    still_busy after then_reached within change none = ⊎_elim
        (λ e. let new = frame_now in
        (entered_busy plan after.world.heap calls caller (frame_of after.world caller) (stands_of plan is after calls then_reached caller) (let ticket = ap (λ (f : Frame). f.ticket) new in let low = e then_reached in omega arith)).0 none)
        (λ called. called_busy (sym called ∙ sym (ap (λ (f : Frame). f.stage) frame_now) ∙ none))
        change.busy
      where
        frame_now : frame_of after.world caller ≡ change.frame_then
        frame_now = ap (λ frames. get_or frames caller idle) change.frames ∙ get_or-set_same core.world.frames caller change.frame_then idle within

    pub others_stay : (after : Core) → Changes after → (other : ℕ) → other ≢ caller → frame_of after.world other ≡ frame_of core.world other
    others_stay after change other apart = ap (λ frames. get_or frames other idle) change.frames ∙ get_or-set_other core.world.frames caller other change.frame_then idle apart

  -- ---- it ends

  AreOthersIdle : Core → Type 0
  AreOthersIdle core = (other : ℕ) → other ≢ caller → (frame_of core.world other).stage ≡ stages.Idle

  idle_stands : (core : Core) (calls : Calls) (other : ℕ) → IsReached plan core calls → (frame_of core.world other).stage ≡ stages.Idle → step plan core other ≡ None
  idle_stands core calls other reached rests =
      ap (λ (f : Frame). step_due plan core other f (due plan f)) (idle_rests plan core.world.heap calls other (frame_of core.world other) (stands_of plan is core calls reached other) rests)

  pub ends_alone : (core : Core) (calls : Calls) → IsReached plan core calls → IsEnding plan core calls → caller ≤ length plan.sizes → (frame_of core.world caller).stage ≢ stages.Idle → ((other : ℕ) → other ≢ caller → (frame_of core.world other).stage ≡ stages.Idle)
      → (more : ℕ) × EndsAfter plan caller more (step plan core caller)
  ends_alone core calls reached (measure.ends next begin) within busy alone =
      let moving = someone_moves plan core calls caller is reached busy in
      let after : Core = moving.1 in
      let answer : Progress = moving.2 in
      let here : moving.0 ≡ caller = dite (ℕ_discrete moving.0 caller) (λ same. same) (λ apart. absurd (no_some (sym (idle_stands core calls moving.0 reached (alone moving.0 apart)) ∙ moving.3))) in
      let steps_so : step plan core caller ≡ Some (after, answer) = subst (λ (c : ℕ). step plan core c ≡ Some (after, answer)) here moving.3 in
      let then_reached : IsReached plan after calls = steps caller answer reached steps_so in
      on after answer steps_so then_reached (ends_alone after calls then_reached (next caller after answer steps_so) within) (step_kind plan core caller after answer steps_so)
    where
      on : (after : Core) (answer : Progress) → step plan core caller ≡ Some (after, answer) → IsReached plan after calls
          → ((frame_of after.world caller).stage ≢ stages.Idle → ((other : ℕ) → other ≢ caller → (frame_of after.world other).stage ≡ stages.Idle) → (more : ℕ) × EndsAfter plan caller more (step plan after caller))
          → IsStep plan core caller after answer → (more : ℕ) × EndsAfter plan caller more (step plan core caller)
      on after answer steps_so then_reached later (moves event same goes) =
          let change = changes core calls reached after goes in
          let left = later (still_busy core calls reached after then_reached (has_place core calls reached within).frame change)
          (λ other apart. ap (λ (f : Frame). f.stage) (others_stay core calls reached after change other apart) ∙ alone other apart) in
          (suc left.0, subst (EndsAfter plan caller (suc left.0)) (sym (steps_so ∙ ap (λ (a : Progress). Some (after, a)) same)) (tt, left.1))
      on after answer steps_so then_reached later (refuses_it need asks few same) =
          (0, subst (EndsAfter plan caller 0) (sym (steps_so ∙ ap (λ (a : Progress). Some (after, a)) (ap (λ (s : Stepped). s.1) same))) tt)
      on after answer steps_so then_reached later (finishes_it end over same) =
          (0, subst (EndsAfter plan caller 0) (sym (steps_so ∙ ap (λ (a : Progress). Some (after, a)) (ap (λ (s : Stepped). s.1) same))) tt)

-- ---- what it leaves

max_same : (a b : ℕ) → b ≤ a → max a b ≡ a
max_same a b low = max-eq_left low

max_other : (a b : ℕ) → a ≤ b → max a b ≡ b
max_other a b low = max-eq_right low

module _ (plan : Plan) (is : IsPlan plan) (caller : ℕ) (call : Call) (core : Core) (calls : Calls) (reached : IsReached plan core calls) (may : MayBegin plan core calls caller call) where
  abbrev begun_core : Core
  begun_core = with_call core caller call

  -- the operation has not entered, or has drawn the next ticket
  data HasDrawn (now : Core) : Type 0 where
    not_yet : (frame_of now.world caller).ticket ≡ 0 → now.clock ≡ core.clock → HasDrawn now
    has_drawn : (frame_of now.world caller).ticket ≡ core.clock + 1 → now.clock ≡ core.clock + 1 → HasDrawn now

  -- it has made no move, or one, its reservation
  data HasMoved (now : Core) : Type 0 where
    no_move : (account_of now caller).reserved_at ≡ 0 → now.pool.version ≡ core.pool.version → HasMoved now
    one_move : (account_of now caller).reserved_at ≡ core.pool.version + 1 → now.pool.version ≡ core.pool.version + 1 → HasMoved now

  -- what holds while it runs
  record During (now : Core) : Type 0 where
    pub others : (other : ℕ) → other ≢ caller → (frame_of now.world other ≡ frame_of core.world other) × (account_of now other ≡ account_of core other)
    pub frames : length now.world.frames ≡ length core.world.frames
    pub index : (frame_of now.world caller).index ≡ (frame_of core.world caller).index + 1
    pub finished : (frame_of now.world caller).finished ≡ (frame_of core.world caller).finished
    pub versions : (account_of now caller).versions ≡ (account_of core caller).versions
    pub refusals : (account_of now caller).refusals ≡ (account_of core caller).refusals
    pub drawn : HasDrawn now
    pub moved : HasMoved now
    -- the reservation comes first, if there is one
    pub first : (now ≡ begun_core) ⊎ ((need : ℕ) → due plan (frame_of now.world caller) ≢ Reserves need)

  place : HasPlace plan is caller core
  place = has_place plan is caller core calls reached may.is_caller.to_last

  new_frame : (frames : List Frame) (frame : Frame) → caller < length frames → get_or (set frames caller frame) caller idle ≡ frame
  new_frame frames frame within = get_or-set_same frames caller frame idle within

  other_frame : (frames : List Frame) (frame : Frame) (other : ℕ) → other ≢ caller → get_or (set frames caller frame) other idle ≡ get_or frames other idle
  other_frame frames frame other apart = get_or-set_other frames caller other frame idle apart

  new_account : (accounts : List Account) (account : Account) → caller < length accounts → get_or (set accounts caller account) caller no_account ≡ account
  new_account accounts account within = get_or-set_same accounts caller account no_account within

  other_account : (accounts : List Account) (account : Account) (other : ℕ) → other ≢ caller → get_or (set accounts caller account) other no_account ≡ get_or accounts other no_account
  other_account accounts account other apart = get_or-set_other accounts caller other account no_account apart

  -- nothing is reserved of an idle caller
  nothing_reserved : (account_of core caller).reserved_at ≡ 0
  nothing_reserved =
      let history = ((lawful_always plan core calls is reached).sound.each caller).history in
      let rest = idle_rests plan core.world.heap calls caller (frame_of core.world caller) (stands_of plan is core calls reached caller) may.idle in
      let spares = ap (λ (f : Frame). f.spares) rest in
      let iff = history.reserved (ap (λ (f : Frame). f.ticket) rest) in
      dite (ℕ_discrete (account_of core caller).reserved_at 0) (λ none. none) (λ some_at. absurd (let has = iff.0 (omega arith) in omega arith))

  begun_frame : frame_of begun_core.world caller ≡ begun call (frame_of core.world caller)
  begun_frame = new_frame core.world.frames (begun call (frame_of core.world caller)) place.frame

  starts_so : During begun_core
  starts_so = record {
    others = λ other apart. (other_frame core.world.frames (begun call (frame_of core.world caller)) other apart, refl);
    frames = length-set core.world.frames caller (begun call (frame_of core.world caller));
    index = ap (λ (f : Frame). f.index) begun_frame;
    finished = ap (λ (f : Frame). f.finished) begun_frame;
    versions = refl;
    refusals = refl;
    drawn = not_yet (ap (λ (f : Frame). f.ticket) begun_frame) refl;
    moved = no_move nothing_reserved refl;
    first = inl refl;
  }

  module _ (now : Core) (calls_now : Calls) (now_reached : IsReached plan now calls_now) (during : During now) where
    place_now : HasPlace plan is caller now
    place_now = has_place plan is caller now calls_now now_reached may.is_caller.to_last

    abbrev frame_now : Frame
    frame_now = frame_of now.world caller

    -- an entered caller does not reserve
    no_reservation : (after : Core) → IsReached plan after calls_now → 0 < (frame_of after.world caller).ticket → (need : ℕ) → due plan (frame_of after.world caller) ≢ Reserves need
    no_reservation after then_reached entered need asks = let z = (asks_when plan is after calls_now caller need then_reached asks).0 in omega arith

    -- who has its places does not ask again
    has_places : (after : Core) → IsReached plan after calls_now → (frame_of after.world caller).stage ≡ stages.Called → nat_lt (frame_of after.world caller).spares (allocs_of plan (frame_of after.world caller).call) ≡ false
        → (need : ℕ) → due plan (frame_of after.world caller) ≢ Reserves need
    has_places after then_reached called enough need asks = by (stands_called plan is after calls_now then_reached caller called).2
      where
        both : {b : Bool} → b ≡ true → b ≡ false → ⊥
        both t f = let e = sym t ∙ f in cc

        by : IsCalledFor plan (frame_of after.world caller) (due plan (frame_of after.world caller)) → ⊥
        by (for_places other e all few) = both few enough
        by (for_a_root number e there) = let clash = sym asks ∙ e in cc
        by (for_a_ticket e enough_now no_more) = let clash = sym asks ∙ e in cc

    reserves_during : (need : ℕ) (after : Core) → due plan frame_now ≡ Reserves need → IsReached plan after calls_now → after ≡ (reserves now caller frame_now need).0 → During after
    reserves_during need after asks then_reached is_after = by during.first
      where
        called : frame_now.stage ≡ stages.Called
        called = (asks_when plan is now calls_now caller need now_reached asks).1

        frame_then : frame_of after.world caller ≡ reserved need frame_now
        frame_then = ap (λ (c : Core). frame_of c.world caller) is_after ∙ new_frame now.world.frames (reserved need frame_now) place_now.frame

        account_then : account_of after caller ≡ record (account_of now caller) { reserved_at = now.pool.version + 1 }
        account_then = ap (λ (c : Core). account_of c caller) is_after ∙ new_account now.pool.accounts (record (account_of now caller) { reserved_at = now.pool.version + 1 }) place_now.account

        same_need : {a b : ℕ} → Reserves a ≡ Reserves b → a ≡ b
        same_need e = cc

        need_is : need ≡ allocs_of plan frame_now.call
        need_is = of (stands_called plan is now calls_now now_reached caller called).2
          where
            of : IsCalledFor plan frame_now (due plan frame_now) → need ≡ allocs_of plan frame_now.call
            of (for_places other e all few) = same_need (sym asks ∙ e) ∙ all
            of (for_a_root number e there) = absurd (let clash = sym asks ∙ e in cc)
            of (for_a_ticket e enough no_more) = absurd (let clash = sym asks ∙ e in cc)

        not_less : (a b : ℕ) → a ≡ b → nat_lt a b ≡ false
        not_less a b e = grind (arith, nat_tests, e)

        enough : nat_lt (frame_of after.world caller).spares (allocs_of plan (frame_of after.world caller).call) ≡ false
        enough = ap (λ (f : Frame). nat_lt f.spares (allocs_of plan f.call)) frame_then ∙ not_less need (allocs_of plan frame_now.call) need_is

        version_then : after.pool.version ≡ now.pool.version + 1
        version_then = ap (λ (c : Core). c.pool.version) is_after

        clock_then : after.clock ≡ now.clock
        clock_then = ap (λ (c : Core). c.clock) is_after

        drawn_then : HasDrawn now → HasDrawn after
        drawn_then (not_yet z clock) = not_yet (ap (λ (f : Frame). f.ticket) frame_then ∙ z) (clock_then ∙ clock)
        drawn_then (has_drawn ticket clock) = has_drawn (ap (λ (f : Frame). f.ticket) frame_then ∙ ticket) (clock_then ∙ clock)

        on : now.pool.version ≡ core.pool.version → During after
        on low = record {
          others = λ other apart.
              let old = during.others other apart in (
                ap (λ (c : Core). frame_of c.world other) is_after ∙ other_frame now.world.frames (reserved need frame_now) other apart ∙ old.0,
                ap (λ (c : Core). account_of c other) is_after ∙ other_account now.pool.accounts (record (account_of now caller) { reserved_at = now.pool.version + 1 }) other apart ∙ old.1,
              );
          frames = ap (λ (c : Core). length c.world.frames) is_after ∙ length-set now.world.frames caller (reserved need frame_now) ∙ during.frames;
          index = ap (λ (f : Frame). f.index) frame_then ∙ during.index;
          finished = ap (λ (f : Frame). f.finished) frame_then ∙ during.finished;
          versions = ap (λ (a : Account). a.versions) account_then ∙ during.versions;
          refusals = ap (λ (a : Account). a.refusals) account_then ∙ during.refusals;
          drawn = drawn_then during.drawn;
          moved = one_move (ap (λ (a : Account). a.reserved_at) account_then ∙ ap (λ n. n + 1) low) (version_then ∙ ap (λ n. n + 1) low);
          first = inr (has_places after then_reached (ap (λ (f : Frame). f.stage) frame_then ∙ called) enough);
        }

        by : (now ≡ begun_core) ⊎ ((other : ℕ) → due plan frame_now ≢ Reserves other) → During after
        by (inl start) = on (ap (λ (c : Core). c.pool.version) start)
        by (inr never) = absurd (never need asks)

    -- an event that leaves the pool as it is
    pool_stays : (after : Core) (frame : Frame) → IsReached plan after calls_now → after.world.frames ≡ set now.world.frames caller frame → after.pool ≡ now.pool → frame.index ≡ frame_now.index → frame.finished ≡ frame_now.finished
        → HasDrawn after → ((need : ℕ) → due plan (frame_of after.world caller) ≢ Reserves need) → During after
    pool_stays after frame then_reached frames pool index finished drawn never =
        let frame_then : frame_of after.world caller ≡ frame = ap (λ fs. get_or fs caller idle) frames ∙ new_frame now.world.frames frame place_now.frame in
        let accounts = ap (λ (p : Pool). p.accounts) pool in record {
          others = λ other apart.
              let old = during.others other apart in
              (ap (λ fs. get_or fs other idle) frames ∙ other_frame now.world.frames frame other apart ∙ old.0, ap (λ list. get_or list other no_account) accounts ∙ old.1);
          frames = ap length frames ∙ length-set now.world.frames caller frame ∙ during.frames;
          index = ap (λ (f : Frame). f.index) frame_then ∙ index ∙ during.index;
          finished = ap (λ (f : Frame). f.finished) frame_then ∙ finished ∙ during.finished;
          versions = ap (λ list. (get_or list caller no_account).versions) accounts ∙ during.versions;
          refusals = ap (λ list. (get_or list caller no_account).refusals) accounts ∙ during.refusals;
          drawn = drawn;
          moved = moved_then (ap (λ list. (get_or list caller no_account).reserved_at) accounts) (ap (λ (p : Pool). p.version) pool) during.moved;
          first = inr never;
        }
      where
        moved_then : (account_of after caller).reserved_at ≡ (account_of now caller).reserved_at → after.pool.version ≡ now.pool.version → HasMoved now → HasMoved after
        moved_then same version (no_move z v) = no_move (same ∙ z) (version ∙ v)
        moved_then same version (one_move z v) = one_move (same ∙ z) (version ∙ v)

    enters_during : (after : Core) → due plan frame_now ≡ Enters → IsReached plan after calls_now → after ≡ (enters plan now caller frame_now).0 → During after
    enters_during after comes then_reached is_after =
        let new = entered_frame plan is caller now calls_now now_reached (now.clock + 1) in
        let frames = ap (λ (c : Core). c.world.frames) is_after in
        let frame_then : frame_of after.world caller ≡ entered plan (now.clock + 1) frame_now = ap (λ fs. get_or fs caller idle) frames ∙ new_frame now.world.frames (entered plan (now.clock + 1) frame_now) place_now.frame in
        let ticket : (frame_of after.world caller).ticket ≡ now.clock + 1 = ap (λ (f : Frame). f.ticket) frame_then ∙ new.0 in
        let waits = (enters_when plan is now calls_now caller now_reached comes).waits in
        pool_stays after (entered plan (now.clock + 1) frame_now) then_reached frames (ap (λ (c : Core). c.pool) is_after) new.1 new.2
        (drawn_then (ap (λ (f : Frame). f.ticket) waits) ticket during.drawn) (no_reservation after then_reached (omega arith))
      where
        drawn_then : frame_now.ticket ≡ 0 → (frame_of after.world caller).ticket ≡ now.clock + 1 → HasDrawn now → HasDrawn after
        drawn_then z ticket (not_yet also clock) = has_drawn (ticket ∙ ap (λ n. n + 1) clock) (ap (λ (c : Core). c.clock) is_after ∙ ap (λ n. n + 1) clock)
        drawn_then z ticket (has_drawn t clock) = absurd (omega arith)

    -- who takes a root has its places
    enough : (number : ℕ) → due plan frame_now ≡ TakesRoot number → frame_now.ticket ≡ 0 → Stands plan now.world.heap calls_now caller frame_now → nat_lt frame_now.spares (allocs_of plan frame_now.call) ≡ false
    enough number takes z (idles e) = absurd (let nothing = sym (ap (due plan) e) ∙ takes in cc)
    enough number takes z (works has e w) = absurd (omega (arith, z, e))
    enough number takes z (waits has w) = by (nat_lt frame_now.spares (allocs_of plan frame_now.call)) refl
      where
        by : (b : Bool) → nat_lt frame_now.spares (allocs_of plan frame_now.call) ≡ b → b ≡ false
        by false f = refl
        by true t = absurd (let asks : due plan frame_now ≡ Reserves (allocs_of plan frame_now.call) = waiting_due plan frame_now w.is ∙ ap (λ b. if b then Reserves (allocs_of plan frame_now.call) else next_root (slice_get (roots_of plan frame_now.call) frame_now.taken)) t in let clash = sym takes ∙ asks in cc)

    touches_during : (after : Core) (name : Name) → aim (due plan frame_now) ≡ Some name → (outcome : Acted) → act plan caller frame_now (due plan frame_now) (finite.get now.world.heap name) ≡ Some outcome
        → IsReached plan after calls_now → after ≡ acted now caller name outcome → During after
    touches_during after name at outcome acts then_reached is_after = by (touches_when plan is now calls_now caller name now_reached at)
      where
        one : IsOne frame_now outcome.0
        one = touch_one plan caller frame_now (due plan frame_now) (finite.get now.world.heap name) outcome acts

        frames : after.world.frames ≡ set now.world.frames caller outcome.0
        frames = ap (λ (c : Core). c.world.frames) is_after

        frame_then : frame_of after.world caller ≡ outcome.0
        frame_then = ap (λ fs. get_or fs caller idle) frames ∙ new_frame now.world.frames outcome.0 place_now.frame

        ticket_then : (frame_of after.world caller).ticket ≡ frame_now.ticket
        ticket_then = ap (λ (f : Frame). f.ticket) frame_then ∙ one.0

        drawn_then : HasDrawn now → HasDrawn after
        drawn_then (not_yet z clock) = not_yet (ticket_then ∙ z) (ap (λ (c : Core). c.clock) is_after ∙ clock)
        drawn_then (has_drawn t clock) = has_drawn (ticket_then ∙ t) (ap (λ (c : Core). c.clock) is_after ∙ clock)

        on : ((need : ℕ) → due plan (frame_of after.world caller) ≢ Reserves need) → During after
        on never = pool_stays after outcome.0 then_reached frames (ap (λ (c : Core). c.pool) is_after) one.2 one.1 (drawn_then during.drawn) never

        by : Touches plan is now caller → During after
        by (runs_on e) = on (no_reservation after then_reached (let t = ticket_then in omega arith))
        by (at_root number takes z called) =
            let took = root_frame plan is caller number frame_now (finite.get now.world.heap name) outcome (ap (λ d. act plan caller frame_now d (finite.get now.world.heap name)) (sym takes) ∙ acts) in
            let frame_is : frame_of after.world caller ≡ took_root number took.0 frame_now = frame_then ∙ took.1 in
            on (has_places after then_reached (ap (λ (f : Frame). f.stage) frame_is ∙ called) (ap (λ (f : Frame). nat_lt f.spares (allocs_of plan f.call)) frame_is ∙ enough number takes z (stands_of plan is now calls_now now_reached caller)))

    goes_during : (after : Core) → IsReached plan after calls_now → Goes plan now caller after → During after
    goes_during after then_reached (reserves_on need asks is_after) = reserves_during need after asks then_reached is_after
    goes_during after then_reached (enters_on comes is_after) = enters_during after comes then_reached is_after
    goes_during after then_reached (touches_on name at outcome acts is_after) = touches_during after name at outcome acts then_reached is_after

  -- ---- at its end

  entry_last : (number : ℕ) (kept : List Finished) (versions : List Versions) (last : Finished) (made : Versions) → length versions ≡ length kept
      → map (entry_of number) (zip (kept ++ last ∷ []) (versions ++ made ∷ [])) ≡ map (entry_of number) (zip kept versions) ++ entry_of number (last, made) ∷ []
  entry_last number [] [] last made same = refl
  entry_last number [] (v ∷ versions) last made same = absurd (omega (arith, same))
  entry_last number (k ∷ kept) [] last made same = absurd (omega (arith, same))
  entry_last number (k ∷ kept) (v ∷ versions) last made same = ap (λ rest. entry_of number (k, v) ∷ rest) (entry_last number kept versions last made (omega (arith, same)))

  module _ (now : Core) (calls_now : Calls) (now_reached : IsReached plan now calls_now) (during : During now) (end : Core) (whole : (answer : Progress) → RunsTo plan caller answer now end → RunsTo plan caller answer begun_core end) where
    abbrev last_frame : Frame
    last_frame = frame_of now.world caller

    abbrev last_account : Account
    last_account = account_of now caller

    last_place : HasPlace plan is caller now
    last_place = has_place plan is caller now calls_now now_reached may.is_caller.to_last

    refused_leaves : (answer : Progress) → step plan now caller ≡ Some (end, answer) → (need : ℕ) → due plan last_frame ≡ Reserves need → now.pool.free < need → (end, answer) ≡ refuses now caller last_frame need
        → Leaves plan core caller call answer end
    refused_leaves answer steps_so need asks few same = by during.first
      where
        end_is : end ≡ (refuses now caller last_frame need).0
        end_is = ap (λ (s : Stepped). s.0) same

        frame_then : frame_of end.world caller ≡ refused last_frame
        frame_then = ap (λ (c : Core). frame_of c.world caller) end_is ∙ new_frame now.world.frames (refused last_frame) last_place.frame

        refusal : Refusal
        refusal = refusal_of caller last_frame.index need now.pool

        account_then : account_of end caller ≡ record last_account { refusals = last_account.refusals ++ refusal ∷ [] }
        account_then = ap (λ (c : Core). account_of c caller) end_is ∙ new_account now.pool.accounts (record last_account { refusals = last_account.refusals ++ refusal ∷ [] }) last_place.account

        version_then : end.pool.version ≡ now.pool.version
        version_then = ap (λ (c : Core). c.pool.version) end_is

        clock_then : end.clock ≡ now.clock
        clock_then = ap (λ (c : Core). c.clock) end_is

        on : now ≡ begun_core → Leaves plan core caller call (progress.Refused need now.pool.free now.pool.version) end
        on start =
            let version : now.pool.version ≡ core.pool.version = ap (λ (c : Core). c.pool.version) start in
            let clock : now.clock ≡ core.clock = ap (λ (c : Core). c.clock) start in
            let reserved : last_account.reserved_at ≡ 0 = ap (λ (c : Core). (account_of c caller).reserved_at) start ∙ nothing_reserved in record {
              runs = whole _ (ends (steps_so ∙ ap (λ (a : Progress). Some (end, a)) (ap (λ (s : Stepped). s.1) same)));
              others = λ other apart.
                  let old = during.others other apart in (
                    ap (λ (c : Core). frame_of c.world other) end_is ∙ other_frame now.world.frames (refused last_frame) other apart ∙ old.0,
                    ap (λ (c : Core). account_of c other) end_is ∙ other_account now.pool.accounts (record last_account { refusals = last_account.refusals ++ refusal ∷ [] }) other apart ∙ old.1,
                  );
              rest = ap (λ (f : Frame). f.stage) frame_then;
              index = ap (λ (f : Frame). f.index) frame_then ∙ during.index;
              unreserved = ap (λ (a : Account). a.reserved_at) account_then ∙ reserved;
              frames = ap (λ (c : Core). length c.world.frames) end_is ∙ length-set now.world.frames caller (refused last_frame) ∙ during.frames;
              clock = (let a = clock_then in omega arith);
              version = (let a = version_then in omega arith);
              leaves_by = record {
                entries = ap (λ (f : Frame). map (entry_of caller) (zip f.finished (account_of end caller).versions)) frame_then ∙ ap (λ (a : Account). map (entry_of caller) (zip last_frame.finished a.versions)) account_then
                    ∙ ap (λ kept. map (entry_of caller) (zip kept last_account.versions)) during.finished ∙ ap (λ versions. map (entry_of caller) (zip (frame_of core.world caller).finished versions)) during.versions;
                refusals = ap (λ (a : Account). a.refusals) account_then ∙ ap (λ list. list ++ refusal ∷ []) during.refusals
                    ∙ ap (λ index. (account_of core caller).refusals ++ refusal_of caller index need now.pool ∷ []) during.index;
                due = ap (due plan) (sym (ap (λ (c : Core). frame_of c.world caller) start ∙ begun_frame)) ∙ asks;
                short = few;
                at = version;
                clock_stays = clock_then ∙ clock;
                version_stays = version_then ∙ version;
              };
            }

        answer_is : answer ≡ progress.Refused need now.pool.free now.pool.version
        answer_is = ap (λ (s : Stepped). s.1) same

        by : (now ≡ begun_core) ⊎ ((other : ℕ) → due plan last_frame ≢ Reserves other) → Leaves plan core caller call answer end
        by (inl start) = subst (λ (a : Progress). Leaves plan core caller call a end) (sym answer_is) (on start)
        by (inr never) = absurd (never need asks)

    finished_leaves : (answer : Progress) → step plan now caller ≡ Some (end, answer) → (how : End) → due plan last_frame ≡ Finishes how → (end, answer) ≡ finishes now caller last_frame how → Leaves plan core caller call answer end
    finished_leaves answer steps_so how over same = subst (λ (a : Progress). Leaves plan core caller call a end) (sym answer_is) on
      where
        made : Versions
        made = versions_made last_frame.spares last_account now.pool

        entry : Entry
        entry = entry_of caller (finish_of how last_frame, made)

        answer_is : answer ≡ progress.Done entry
        answer_is = ap (λ (s : Stepped). s.1) same

        end_is : end ≡ (finishes now caller last_frame how).0
        end_is = ap (λ (s : Stepped). s.0) same

        new_finished : Account
        new_finished = record last_account { reserved_at = 0; versions = last_account.versions ++ made ∷ [] }

        frame_then : frame_of end.world caller ≡ finished how last_frame
        frame_then = ap (λ (c : Core). frame_of c.world caller) end_is ∙ new_frame now.world.frames (finished how last_frame) last_place.frame

        account_then : account_of end caller ≡ new_finished
        account_then = ap (λ (c : Core). account_of c caller) end_is ∙ new_account now.pool.accounts new_finished last_place.account

        entered_now : IsEntered last_frame
        entered_now = finishes_when plan is now calls_now caller how now_reached over

        drew : HasDrawn now → (last_frame.ticket ≡ core.clock + 1) × (now.clock ≡ core.clock + 1)
        drew (not_yet z clock) = absurd (let e = entered_now in omega arith)
        drew (has_drawn ticket clock) = (ticket, clock)

        same_length : length last_account.versions ≡ length last_frame.finished
        same_length = ((lawful_always plan now calls_now is now_reached).sound.each caller).history.versions

        clock_then : end.clock ≡ core.clock + 1
        clock_then = ap (λ (c : Core). c.clock) end_is ∙ (drew during.drawn).1

        version_then : end.pool.version ≡ version_after last_frame.spares now.pool
        version_then = ap (λ (c : Core). c.pool.version) end_is

        -- the version after is the greatest of those made
        counts_by : (returned version : ℕ) → (last_account.reserved_at ≡ 0) × (now.pool.version ≡ core.pool.version) ⊎ ((last_account.reserved_at ≡ core.pool.version + 1) × (now.pool.version ≡ core.pool.version + 1))
            → ((returned ≡ 0) × (version ≡ now.pool.version)) ⊎ ((returned ≡ now.pool.version + 1) × (version ≡ now.pool.version + 1))
            → (0 < last_account.reserved_at → core.pool.version < last_account.reserved_at) × (0 < returned → core.pool.version < returned) × (version ≡ max (max core.pool.version last_account.reserved_at) returned)
        counts_by returned version (inl a) (inl b) = let p = a.0 in let q = a.1 in let r = b.0 in let t = b.1 in (
          (λ some_at. omega arith),
          (λ some_at. omega arith),
          t ∙ q ∙ sym (ap (λ n. max (max core.pool.version n) returned) p ∙ ap (λ n. max (max core.pool.version 0) n) r ∙ max_same (max core.pool.version 0) 0 (omega arith) ∙ max_same core.pool.version 0 (omega arith)),
        )
        counts_by returned version (inl a) (inr b) = let p = a.0 in let q = a.1 in let r = b.0 in let t = b.1 in (
          (λ some_at. omega arith),
          (λ some_at. omega arith),
          t ∙ sym r ∙ sym (max_other (max core.pool.version last_account.reserved_at) returned (max-le (omega arith) (omega arith))),
        )
        counts_by returned version (inr a) (inl b) = let p = a.0 in let q = a.1 in let r = b.0 in let t = b.1 in (
          (λ some_at. omega arith),
          (λ some_at. omega arith),
          t ∙ q ∙ sym p ∙ sym (max_same (max core.pool.version last_account.reserved_at) returned (omega (arith, r)) ∙ max_other core.pool.version last_account.reserved_at (omega arith)),
        )
        counts_by returned version (inr a) (inr b) = let p = a.0 in let q = a.1 in let r = b.0 in let t = b.1 in (
          (λ some_at. omega arith),
          (λ some_at. omega arith),
          t ∙ sym r ∙ sym (max_other (max core.pool.version last_account.reserved_at) returned (max-le (omega arith) (omega arith))),
        )

        moved_so : HasMoved now → (last_account.reserved_at ≡ 0) × (now.pool.version ≡ core.pool.version) ⊎ ((last_account.reserved_at ≡ core.pool.version + 1) × (now.pool.version ≡ core.pool.version + 1))
        moved_so (no_move z v) = inl (z, v)
        moved_so (one_move z v) = inr (z, v)

        returned_so : (b : Bool) → ((if b then now.pool.version + 1 else 0) ≡ 0) × ((if b then now.pool.version + 1 else now.pool.version) ≡ now.pool.version)
            ⊎ ((if b then now.pool.version + 1 else 0) ≡ now.pool.version + 1) × ((if b then now.pool.version + 1 else now.pool.version) ≡ now.pool.version + 1)
        returned_so false = inl (refl, refl)
        returned_so true = inr (refl, refl)

        counted : (0 < made.reserved_at → core.pool.version < made.reserved_at) × (0 < made.returned_at → core.pool.version < made.returned_at)
            × (version_after last_frame.spares now.pool ≡ max (max core.pool.version made.reserved_at) made.returned_at)
        counted = counts_by made.returned_at (version_after last_frame.spares now.pool) (moved_so during.moved) (returned_so (nat_lt 0 last_frame.spares))

        up : core.pool.version ≤ now.pool.version
        up = by during.moved
          where
            by : HasMoved now → core.pool.version ≤ now.pool.version
            by (no_move z v) = omega arith
            by (one_move z v) = omega arith

        up_then : now.pool.version ≤ version_after last_frame.spares now.pool
        up_then = by (nat_lt 0 last_frame.spares)
          where
            by : (b : Bool) → now.pool.version ≤ (if b then now.pool.version + 1 else now.pool.version)
            by false = omega arith
            by true = omega arith

        on : Leaves plan core caller call (progress.Done entry) end
        on = record {
          runs = whole _ (ends (steps_so ∙ ap (λ (a : Progress). Some (end, a)) answer_is));
          others = λ other apart.
              let old = during.others other apart in (
                ap (λ (c : Core). frame_of c.world other) end_is ∙ other_frame now.world.frames (finished how last_frame) other apart ∙ old.0,
                ap (λ (c : Core). account_of c other) end_is ∙ other_account now.pool.accounts new_finished other apart ∙ old.1,
              );
          rest = ap (λ (f : Frame). f.stage) frame_then;
          index = ap (λ (f : Frame). f.index) frame_then ∙ during.index;
          unreserved = ap (λ (a : Account). a.reserved_at) account_then;
          frames = ap (λ (c : Core). length c.world.frames) end_is ∙ length-set now.world.frames caller (finished how last_frame) ∙ during.frames;
          clock = (let a = clock_then in omega arith);
          version = (let a = version_then in let b = up in let c = up_then in omega arith);
          leaves_by = record {
            entries = ap (λ (f : Frame). map (entry_of caller) (zip f.finished (account_of end caller).versions)) frame_then
                ∙ ap (λ (a : Account). map (entry_of caller) (zip (last_frame.finished ++ finish_of how last_frame ∷ []) a.versions)) account_then
                ∙ entry_last caller last_frame.finished last_account.versions (finish_of how last_frame) made same_length
                ∙ ap (λ kept. map (entry_of caller) (zip kept last_account.versions) ++ entry ∷ []) during.finished
                ∙ ap (λ versions. map (entry_of caller) (zip (frame_of core.world caller).finished versions) ++ entry ∷ []) during.versions;
            refusals = ap (λ (a : Account). a.refusals) account_then ∙ during.refusals;
            of_caller = refl;
            index = during.index;
            ticket = (drew during.drawn).0;
            clock = clock_then;
            reserved = counted.0;
            returned = counted.1;
            version = version_then ∙ counted.2;
          };
        }

    last_leaves : (answer : Progress) → IsOver answer → step plan now caller ≡ Some (end, answer) → IsStep plan now caller end answer → Leaves plan core caller call answer end
    last_leaves answer over steps_so (moves event same goes) = absurd (subst IsOver same over)
    last_leaves answer over steps_so (refuses_it need asks few same) = refused_leaves answer steps_so need asks few same
    last_leaves answer over steps_so (finishes_it how due_is same) = finished_leaves answer steps_so how due_is same

  -- what a run of steps leaves
  leaves_on : (answer : Progress) (now end : Core) → IsReached plan now (with_begun calls caller call) → During now → ((given : Progress) → RunsTo plan caller given now end → RunsTo plan caller given begun_core end) → IsOver answer
      → RunsTo plan caller answer now end → Leaves plan core caller call answer end
  leaves_on answer now end now_reached during whole over (ends steps_so) = last_leaves now (with_begun calls caller call) now_reached during end whole answer over steps_so (step_kind plan now caller end answer steps_so)
  leaves_on answer now end now_reached during whole over (goes_on {mid = mid} event steps_so rest) =
      leaves_on answer mid end (steps caller (progress.Moved event) now_reached steps_so) (on (step_kind plan now caller mid (progress.Moved event) steps_so)) (λ given runs. whole given (goes_on event steps_so runs)) over rest
    where
      on : IsStep plan now caller mid (progress.Moved event) → During mid
      on (moves other same goes) = goes_during now (with_begun calls caller call) now_reached during mid (steps caller (progress.Moved event) now_reached steps_so) goes
      on (refuses_it need asks few same) = absurd (let clash = ap (λ (s : Stepped). s.1) same in cc)
      on (finishes_it how due_is same) = absurd (let clash = ap (λ (s : Stepped). s.1) same in cc)

  pub leaves_begun : (answer : Progress) (end : Core) → IsOver answer → RunsTo plan caller answer begun_core end → Leaves plan core caller call answer end
  leaves_begun answer end over runs = leaves_on answer begun_core end (begins caller call reached may) starts_so (λ given more. more) over runs

-- an operation that is begun while no other runs ends
pub ends_begun : (plan : Plan) → IsPlan plan → (caller : ℕ) (call : Call) (core : Core) → MayRun plan core caller call → (more : ℕ) × EndsAfter plan caller more (step plan (with_call core caller call) caller)
ends_begun plan is caller call core run =
    let then_reached = begins caller call run.reached run.may in
    let place = has_place plan is caller core run.calls run.reached run.may.is_caller.to_last in
    let called : (frame_of (with_call core caller call).world caller).stage ≡ stages.Called = ap (λ (f : Frame). f.stage) (get_or-set_same core.world.frames caller (begun call (frame_of core.world caller)) idle place.frame) in
    ends_alone plan is caller (with_call core caller call) (with_begun run.calls caller call) then_reached (each_run_ends plan (with_call core caller call) (with_begun run.calls caller call) is then_reached) run.may.is_caller.to_last
    (λ none. called_idle (sym called ∙ none))
    (λ other apart. ap (λ (f : Frame). f.stage) (get_or-set_other core.world.frames caller other (begun call (frame_of core.world caller)) idle apart) ∙ run.rest other)
  where
    called_idle : stages.Called ≡ stages.Idle → ⊥
    called_idle same = cc same
