-- What a caller has finished has no version of the pool but those of its moves.
use Rattle.std.proofs.Common.{◌≡◌, ◌∙◌, ℕ, zero, suc, ◌+◌, ◌-◌, ◌<◌, inl, inr, List, [], ◌∷◌, ◌++◌, length, map, set, get_or, Some, refl, sym, ap, ap₂, subst, arith}
use Rattle.std.specs.Prelude.{slice_get, option_and_then}
use Rattle.std.specs.List.{zip}
use Rattle.std.specs.Option.{option_map_or}
use Rattle.std.specs.FinMap as finite
use Rattle.std.proofs.lemmas.Bool.{cases_lt}
use Rattle.std.proofs.lemmas.List.{get_or-set_same, get_or-set_other}
use Rattle.dl_ir.specs.declared.answers.Entry.{Entry}
use Rattle.dl_ir.specs.declared.answers.End.{End}
use Rattle.dl_ir.specs.declared.calls.Call.{Call}
use Rattle.dl_ir.specs.declared.modules.OpDecl.{OpDecl}
use Rattle.dl_ir.specs.Cover.{call_at}
use Rattle.dl_shape.specs.Pool.{HasVersionsOfMovesAlone, allocs_at}
use Rattle.dl_core.specs.declared.stages.Finished.{Finished}
use Rattle.dl_core.specs.declared.stages.Stage.TheVariants as stages
use Rattle.dl_core.specs.declared.stages.Versions.{Versions}
use Rattle.dl_core.specs.Plans.{Plan, IsPlan, source_of, locals_of, fuel_of, allocs_of}
use Rattle.dl_core.specs.Frames.{Frame, IsEntered, idle}
use Rattle.dl_core.specs.LocalSteps.{due}
use Rattle.dl_core.specs.Events.{begun, reserved, refused, entered, finished, finish_of}
use Rattle.dl_core.specs.Core.{Account, Core, no_account, frame_of, account_of, entry_of, entries_of, fresh, with_call, refusal_of, returned_at, versions_made}
use Rattle.dl_core.specs.Reached.{Calls, IsReached, starts, begins, steps, calls_of, with_begun}
use Rattle.dl_core.specs.Sound.{IsSound, HasCall, Stands, idles, waits, works}
use Rattle.dl_core.proofs.BeginKeeps.{call_stays}
use Rattle.dl_core.proofs.Elements.{Each, each_map, each_append}
use Rattle.dl_core.proofs.Fresh.{fresh_frame}
use Rattle.dl_core.proofs.Kept.{ready_same}
use Rattle.dl_core.proofs.LawfulAlways.{lawful_always}
use Rattle.dl_core.proofs.Machine.{StepIs, reserves_now, refuses_now, enters_now, finishes_now, touches_one, step_is}
use Rattle.dl_core.proofs.Names.{same_number}
use Rattle.dl_order.proofs.Always.{finishes_when}
use Rattle.dl_order.proofs.Keeping.{touch_one}
use Rattle.dl_order.proofs.Serial.{call_begun}
use Rattle.dl_order.proofs.Worlds.{stands_of, has_frame}

-- the entry is of a call that its caller has begun, and has no version but those of its moves
pub record IsAlone (plan : Plan) (calls : Calls) (caller : ℕ) (entry : Entry) : Type 0 where
  pub by_caller : entry.caller ≡ caller
  pub call : Call
  pub begun : call_at calls caller entry.index ≡ Some call
  pub unreserved : allocs_of plan call ≡ 0 → entry.reserved_at ≡ 0
  pub unreturned : entry.returned ≡ 0 → entry.returned_at ≡ 0

pub alone_versions : (plan : Plan) (calls : Calls) (caller : ℕ) (entry : Entry) → IsAlone plan calls caller entry → HasVersionsOfMovesAlone (source_of plan) calls entry
alone_versions plan calls caller entry alone = record { unreserved = λ nothing. alone.unreserved (sym allocs ∙ nothing); unreturned = alone.unreturned }
  where
    allocs : allocs_at (source_of plan) calls entry.caller entry.index ≡ allocs_of plan alone.call
    allocs =
        ap (λ (c : ℕ). allocs_at (source_of plan) calls c entry.index) alone.by_caller
        ∙ ap (λ o. option_map_or (λ (op : OpDecl). op.allocs) (option_and_then (λ (call : Call). slice_get (source_of plan).ops call.op) o) 0) alone.begun

-- what an element has in common with the one that it replaces stays
set_keeps : {X Y : Type 0} (f : X → Y) (xs : List X) (i c : ℕ) (x d : X) → f x ≡ f (get_or xs i d) → f (get_or (set xs i x) c d) ≡ f (get_or xs c d)
set_keeps f [] i c x d same = refl
set_keeps f (y ∷ ys) zero zero x d same = same
set_keeps f (y ∷ ys) zero (suc c) x d same = refl
set_keeps f (y ∷ ys) (suc i) zero x d same = refl
set_keeps f (y ∷ ys) (suc i) (suc c) x d same = set_keeps f ys i c x d same

entries_push : (caller : ℕ) (fs : List Finished) (vs : List Versions) (f : Finished) (v : Versions) → length vs ≡ length fs
    → map (entry_of caller) (zip (fs ++ f ∷ []) (vs ++ v ∷ [])) ≡ map (entry_of caller) (zip fs vs) ++ entry_of caller (f, v) ∷ []
entries_push caller [] [] f v same = refl
entries_push caller [] (y ∷ vs) f v same = absurd (omega (arith, same))
entries_push caller (x ∷ fs) [] f v same = absurd (omega (arith, same))
entries_push caller (x ∷ fs) (y ∷ vs) f v same = ap (λ es. entry_of caller (x, y) ∷ es) (entries_push caller fs vs f v (omega (arith, same)))

some_caller : (calls : Calls) (caller i : ℕ) (call : Call) → slice_get (calls_of calls caller) i ≡ Some call → 0 < caller
some_caller calls zero i call there = absurd (cc)
some_caller calls (suc place) i call there = omega arith

module _ (plan : Plan) (is : IsPlan plan) where
  abbrev AreAlone : Calls → Core → ℕ → Type 0
  AreAlone calls core caller = Each (IsAlone plan calls caller) (entries_of core caller)

  -- where what is finished stays, and its versions, the entries stay
  as_before : (core after : Core) (calls : Calls) → ((c : ℕ) → (frame_of after.world c).finished ≡ (frame_of core.world c).finished) → ((c : ℕ) → (account_of after c).versions ≡ (account_of core c).versions)
      → ((c : ℕ) → AreAlone calls core c) → (c : ℕ) → AreAlone calls after c
  as_before core after calls finished_same versions_same so_far c =
      subst (Each (IsAlone plan calls c)) (sym (ap₂ (λ (fs : List Finished) (vs : List Versions). map (entry_of c) (zip fs vs)) (finished_same c) (versions_same c))) (so_far c)

  frames_keep : (core after : Core) (caller : ℕ) (frame : Frame) → after.world.frames ≡ set core.world.frames caller frame → frame.finished ≡ (frame_of core.world caller).finished
      → (c : ℕ) → (frame_of after.world c).finished ≡ (frame_of core.world c).finished
  frames_keep core after caller frame is_set same c =
      ap (λ (fs : List Frame). (get_or fs c idle).finished) is_set ∙ set_keeps (λ (f : Frame). f.finished) core.world.frames caller c frame idle same

  accounts_keep : (core after : Core) (caller : ℕ) (account : Account) → after.pool.accounts ≡ set core.pool.accounts caller account → account.versions ≡ (account_of core caller).versions
      → (c : ℕ) → (account_of after c).versions ≡ (account_of core c).versions
  accounts_keep core after caller account is_set same c =
      ap (λ (accounts : List Account). (get_or accounts c no_account).versions) is_set ∙ set_keeps (λ (a : Account). a.versions) core.pool.accounts caller c account no_account same

  -- the entry of an operation that finishes
  last_alone : (core : Core) (calls : Calls) (caller : ℕ) (how : End) → IsReached plan core calls → IsEntered (frame_of core.world caller)
      → IsAlone plan calls caller (entry_of caller (finish_of how (frame_of core.world caller), versions_made (frame_of core.world caller).spares (account_of core caller) core.pool))
  last_alone core calls caller how reached now = record {
    by_caller = refl;
    call = frame.call;
    begun = call_begun calls caller frame.index frame.call (some_caller calls caller (frame.index - 1) frame.call has.begun) has.from_one has.begun;
    unreserved = λ nothing. elim (cases_lt 0 (account_of core caller).reserved_at) [
      | inl some ↦ (let allocs = (((lawful_always plan core calls is reached).sound.each caller).history.entered now).0 some in absurd (omega (arith, allocs, nothing)))
      | inr over ↦ omega (arith, over)
    ];
    unreturned = λ nothing. ap (λ (n : ℕ). returned_at n core.pool) nothing;
  }
    where
      frame : Frame
      frame = frame_of core.world caller

      has_call : Stands plan core.world.heap calls caller frame → HasCall plan calls caller frame
      has_call (idles e) = absurd (let z = ap (λ (f : Frame). f.ticket) e in omega (arith, now, z))
      has_call (waits call w) = call
      has_call (works call e w) = call

      has : HasCall plan calls caller frame
      has = has_call (stands_of plan is core calls reached caller)

  alone_step : (core after : Core) (calls : Calls) (caller : ℕ) → IsReached plan core calls → ((c : ℕ) → AreAlone calls core c) → StepIs plan core caller after → (c : ℕ) → AreAlone calls after c
  alone_step core after calls caller reached so_far (reserves_now need asks enough is_after) d =
      as_before core after calls (frames_keep core after caller (reserved need (frame_of core.world caller)) (ap (λ (c : Core). c.world.frames) is_after) refl)
      (accounts_keep core after caller (record (account_of core caller) { reserved_at = core.pool.version + 1 }) (ap (λ (c : Core). c.pool.accounts) is_after) refl) so_far d
  alone_step core after calls caller reached so_far (refuses_now need asks few is_after) d =
      as_before core after calls (frames_keep core after caller (refused (frame_of core.world caller)) (ap (λ (c : Core). c.world.frames) is_after) refl)
      (accounts_keep core after caller (record (account_of core caller) { refusals = (account_of core caller).refusals ++ refusal_of caller (frame_of core.world caller).index need core.pool ∷ [] }) (ap (λ (c : Core). c.pool.accounts) is_after) refl) so_far d
  alone_step core after calls caller reached so_far (enters_now enters is_after) d =
      let frame = frame_of core.world caller in
      let same = ready_same plan (record frame { stage = stages.Running; ticket = core.clock + 1; locals = locals_of plan frame.call; turns = fuel_of plan frame.call }) in
      as_before core after calls (frames_keep core after caller (entered plan (core.clock + 1) frame) (ap (λ (c : Core). c.world.frames) is_after) same.9)
      (λ n. ap (λ (c : Core). (account_of c n).versions) is_after) so_far d
  alone_step core after calls caller reached so_far (touches_one name at outcome acts is_after) d =
      let frame = frame_of core.world caller in
      let one = touch_one plan caller frame (due plan frame) (finite.get core.world.heap name) outcome acts in
      as_before core after calls (frames_keep core after caller outcome.0 (ap (λ (c : Core). c.world.frames) is_after) one.1)
      (λ n. ap (λ (c : Core). (account_of c n).versions) is_after) so_far d
  alone_step core after calls caller reached so_far (finishes_now how over is_after) d = elim (same_number d caller) [
    | inl same ↦ subst (AreAlone calls after) (sym same) mine
    | inr apart ↦
        subst (Each (IsAlone plan calls d)) (sym (ap₂ (λ (f : Frame) (a : Account). map (entry_of d) (zip f.finished a.versions))
        (ap (λ (k : Core). frame_of k.world d) is_after ∙ get_or-set_other core.world.frames caller d (finished how frame) idle apart)
        (ap (λ (k : Core). account_of k d) is_after ∙ get_or-set_other core.pool.accounts caller d account no_account apart))) (so_far d)
  ]
    where
      frame : Frame
      frame = frame_of core.world caller

      made : Versions
      made = versions_made frame.spares (account_of core caller) core.pool

      account : Account
      account = record (account_of core caller) { reserved_at = 0; versions = (account_of core caller).versions ++ made ∷ [] }

      now : IsEntered frame
      now = finishes_when plan is core calls caller how reached over

      sound : IsSound plan core calls
      sound = (lawful_always plan core calls is reached).sound

      inside : caller < length core.world.frames
      inside = has_frame plan is core.world caller now

      entries_now : entries_of after caller ≡ entries_of core caller ++ entry_of caller (finish_of how frame, made) ∷ []
      entries_now =
          ap₂ (λ (f : Frame) (a : Account). map (entry_of caller) (zip f.finished a.versions))
          (ap (λ (k : Core). frame_of k.world caller) is_after ∙ get_or-set_same core.world.frames caller (finished how frame) idle inside)
          (ap (λ (k : Core). account_of k caller) is_after ∙ get_or-set_same core.pool.accounts caller account no_account (omega (arith, inside, sound.frames, sound.accounts)))
          ∙ entries_push caller frame.finished (account_of core caller).versions (finish_of how frame) made (sound.each caller).history.versions

      mine : AreAlone calls after caller
      mine = subst (Each (IsAlone plan calls caller)) (sym entries_now)
          (each_append (IsAlone plan calls caller) (entries_of core caller) (entry_of caller (finish_of how frame, made) ∷ []) (so_far caller) (last_alone core calls caller how reached now, tt))

  pub all_alone : (core : Core) (calls : Calls) → IsReached plan core calls → (c : ℕ) → AreAlone calls core c
  all_alone core calls starts c =
      subst (λ (f : Frame). Each (IsAlone plan calls c) (map (entry_of c) (zip f.finished (account_of (fresh plan) c).versions))) (sym (fresh_frame plan is c)) tt
  all_alone core calls (begins {core = before} {calls = so_far} caller call reached may) c =
      let after = with_call before caller call in
      each_map (IsAlone plan so_far c) (IsAlone plan (with_begun so_far caller call) c) (entries_of after c)
      (λ entry alone. record {
        by_caller = alone.by_caller;
        call = alone.call;
        begun = call_stays so_far caller call c entry.index alone.call alone.begun;
        unreserved = alone.unreserved;
        unreturned = alone.unreturned;
      })
      (as_before before after so_far (frames_keep before after caller (begun call (frame_of before.world caller)) refl refl) (λ d. refl) (all_alone before so_far reached) c)
  all_alone core calls (steps {core = before} caller answer reached e) c =
      alone_step before core calls caller reached (all_alone before calls reached) (step_is plan before caller core answer e) c
