-- What a caller has finished and been refused stands in order.
use Rattle.std.proofs.Common.{◌≡◌, ◌≢◌, inl, inr, ℕ, ◌+◌, ◌<◌, ◌≤◌, zero, suc, replicate, List, [], ◌∷◌, ◌++◌, length, set, get_or, refl, sym, ap, subst, ◌∙◌, arith}
use Rattle.std.specs.FinMap as finite
use Rattle.std.proofs.lemmas.List.{get_or-set_same, get_or-set_other, set-get_or}
use Rattle.dl_ir.specs.declared.answers.Refusal.{Refusal}
use Rattle.dl_core.specs.declared.stages.Finished.{Finished}
use Rattle.dl_core.specs.declared.stages.Stage.{Stage}
use Rattle.dl_core.specs.declared.stages.Stage.TheVariants as stages
use Rattle.dl_core.specs.Plans.{Plan, IsPlan, locals_of, fuel_of}
use Rattle.dl_core.specs.Frames.{Frame, IsEntered, idle}
use Rattle.dl_core.specs.LocalSteps.{due}
use Rattle.dl_core.specs.Events.{begun, reserved, refused, entered, finished, finish_of}
use Rattle.dl_core.specs.Core.{Account, Core, frame_of, account_of, no_account, fresh, with_call, refusal_of, versions_made}
use Rattle.dl_core.specs.Reached.{Calls, IsReached, starts, begins, steps}
use Rattle.dl_core.specs.Sound.{Stands, idles, waits, works}
use Rattle.dl_core.proofs.Fresh.{fresh_frame}
use Rattle.dl_core.proofs.Kept.{ready_same}
use Rattle.dl_core.proofs.Machine.{StepIs, reserves_now, refuses_now, enters_now, finishes_now, touches_one, step_is}
use Rattle.dl_core.proofs.Names.{same_number}
use Rattle.dl_core.proofs.LawfulAlways.{lawful_always}
use Rattle.dl_order.proofs.Always.{asks_when, finishes_when, touches_when, Touches, runs_on, at_root}
use Rattle.dl_order.proofs.Entering.{enters_when}
use Rattle.dl_order.proofs.Keeping.{touch_one}
use Rattle.dl_core.proofs.Elements.{Each, Up, each_map, each_append, up_push}
use Rattle.dl_order.proofs.Serial.{not_called_past}
use Rattle.dl_order.proofs.Worlds.{entered_busy, stands_of, has_frame, idle_rests}

-- a refusal is one of the caller, of a call that it has begun
abbrev pub IsRefusalOf : ℕ → ℕ → Refusal → Type 0
IsRefusalOf caller index refusal = (refusal.caller ≡ caller) × (0 < refusal.index) × (refusal.index ≤ index)

-- refusals are the caller's own; what it has finished stands in rising tickets, none above the clock and all below that in hand
pub record IsInOrder (frame : Frame) (account : Account) (clock caller : ℕ) : Type 0 where
  pub refused : Each (IsRefusalOf caller frame.index) account.refusals
  pub refused_up : Up (λ (refusal : Refusal). refusal.index) account.refusals
  pub unrefused : frame.stage ≢ stages.Idle → Each (λ (refusal : Refusal). refusal.index < frame.index) account.refusals
  pub up : Up (λ (kept : Finished). kept.ticket) frame.finished
  pub low : Each (λ (kept : Finished). kept.ticket ≤ clock) frame.finished
  pub below : IsEntered frame → Each (λ (kept : Finished). kept.ticket < frame.ticket) frame.finished
  pub own : frame.ticket ≤ clock

called_busy : (s : Stage) → s ≡ stages.Called → s ≢ stages.Idle
called_busy s p q = cc

-- the clock goes on
later : (frame : Frame) (account : Account) (clock now caller : ℕ) → clock ≤ now → IsInOrder frame account clock caller → IsInOrder frame account now caller
later frame account clock now caller le o = record {
  refused = o.refused;
  refused_up = o.refused_up;
  unrefused = o.unrefused;
  up = o.up;
  low = each_map (λ (kept : Finished). kept.ticket ≤ clock) (λ (kept : Finished). kept.ticket ≤ now) frame.finished (λ kept low. omega arith) o.low;
  below = o.below;
  own = omega (arith, o.own);
}

-- a frame with the same operations finished, and a ticket above them, if one
onward : (frame after : Frame) (account : Account) (clock now caller : ℕ) → clock ≤ now → after.finished ≡ frame.finished → frame.index ≤ after.index → (IsEntered after → Each (λ (kept : Finished). kept.ticket < after.ticket) frame.finished)
    → after.ticket ≤ now → (after.stage ≢ stages.Idle → Each (λ (refusal : Refusal). refusal.index < after.index) account.refusals) → IsInOrder frame account clock caller → IsInOrder after account now caller
onward frame after account clock now caller le same more below own unrefused o = record {
  refused_up = o.refused_up;
  unrefused = unrefused;
  refused = each_map (IsRefusalOf caller frame.index) (IsRefusalOf caller after.index) account.refusals (λ r is. (is.0, is.1, omega (arith, is.2))) o.refused;
  up = subst (Up (λ (kept : Finished). kept.ticket)) (sym same) o.up;
  low = subst (Each (λ (kept : Finished). kept.ticket ≤ now)) (sym same) (each_map (λ (kept : Finished). kept.ticket ≤ clock) (λ (kept : Finished). kept.ticket ≤ now) frame.finished (λ kept low. omega arith) o.low);
  below = λ e. subst (Each (λ (kept : Finished). kept.ticket < after.ticket)) (sym same) (below e);
  own = own;
}

-- one caller's frame and account change
record IsChange (core after : Core) (caller : ℕ) : Type 0 where
  frame : Frame
  frames_is : after.world.frames ≡ set core.world.frames caller frame
  account : Account
  accounts_is : after.pool.accounts ≡ set core.pool.accounts caller account
  clock : core.clock ≤ after.clock

module _ (plan : Plan) (is : IsPlan plan) where
  abbrev OrderedIn : Core → ℕ → Type 0
  OrderedIn core caller = IsInOrder (frame_of core.world caller) (account_of core caller) core.clock caller

  changed : (core after : Core) (calls : Calls) (caller : ℕ) → IsReached plan core calls → caller < length core.world.frames → (change : IsChange core after caller) → IsInOrder change.frame change.account after.clock caller
      → ((c : ℕ) → OrderedIn core c) → (c : ℕ) → OrderedIn after c
  changed core after calls caller reached lt change order so_far c = elim (same_number c caller) [
    | inl same ↦
        let sound = (lawful_always plan core calls is reached).sound in
        let lt_accounts : caller < length core.pool.accounts = omega (arith, lt, sound.frames, sound.accounts) in
        let frame : frame_of after.world caller ≡ change.frame = ap (λ fs. get_or fs caller idle) change.frames_is ∙ get_or-set_same core.world.frames caller change.frame idle lt in
        let account : account_of after caller ≡ change.account = ap (λ xs. get_or xs caller no_account) change.accounts_is ∙ get_or-set_same core.pool.accounts caller change.account no_account lt_accounts in
        subst (λ n. OrderedIn after n) (sym same) (subst (λ f. IsInOrder f (account_of after caller) after.clock caller) (sym frame) (subst (λ a. IsInOrder change.frame a after.clock caller) (sym account) order))
    | inr apart ↦
        let frame : frame_of after.world c ≡ frame_of core.world c = ap (λ fs. get_or fs c idle) change.frames_is ∙ get_or-set_other core.world.frames caller c change.frame idle apart in
        let account : account_of after c ≡ account_of core c = ap (λ xs. get_or xs c no_account) change.accounts_is ∙ get_or-set_other core.pool.accounts caller c change.account no_account apart in
        subst (λ f. IsInOrder f (account_of after c) after.clock c) (sym frame) (subst (λ a. IsInOrder (frame_of core.world c) a after.clock c) (sym account)
        (later (frame_of core.world c) (account_of core c) core.clock after.clock c change.clock (so_far c)))
  ]

  fresh_account : (n c : ℕ) → get_or (replicate n no_account) c no_account ≡ no_account
  fresh_account zero c = refl
  fresh_account (suc n) zero = refl
  fresh_account (suc n) (suc c) = fresh_account n c

  none_below : (frame : Frame) → frame.ticket ≡ 0 → (list : List Finished) → IsEntered frame → Each (λ (kept : Finished). kept.ticket < frame.ticket) list
  none_below frame z list e = absurd (omega (arith, z, e))

  order_step : (core after : Core) (calls : Calls) (caller : ℕ) → IsReached plan core calls → ((c : ℕ) → OrderedIn core c) → StepIs plan core caller after → (c : ℕ) → OrderedIn after c
  order_step core after calls caller reached so_far (reserves_now need asks enough is_after) =
      let when = asks_when plan is core calls caller need reached asks in
      let frame = frame_of core.world caller in
      let o = onward frame (reserved need frame) (account_of core caller) core.clock core.clock caller (omega arith) refl (omega arith) (none_below (reserved need frame) when.0 frame.finished) (omega (arith, when.0)) (so_far caller).unrefused (so_far caller) in
      changed core after calls caller reached (not_called_past plan is core.world caller when.1) (record {
        frame = reserved need frame;
        frames_is = ap (λ (c : Core). c.world.frames) is_after;
        account = record (account_of core caller) { reserved_at = core.pool.version + 1 };
        accounts_is = ap (λ (c : Core). c.pool.accounts) is_after;
        clock = omega (arith, ap (λ (c : Core). c.clock) is_after);
      })
      (subst (λ n. IsInOrder (reserved need frame) (record (account_of core caller) { reserved_at = core.pool.version + 1 }) n caller) (sym (ap (λ (c : Core). c.clock) is_after))
      (record { refused = o.refused; refused_up = o.refused_up; unrefused = o.unrefused; up = o.up; low = o.low; below = o.below; own = o.own })) so_far
  order_step core after calls caller reached so_far (refuses_now need asks few is_after) =
      let when = asks_when plan is core calls caller need reached asks in
      let frame = frame_of core.world caller in
      let o = onward frame (refused frame) (account_of core caller) core.clock core.clock caller (omega arith) refl (omega arith) (none_below (refused frame) refl frame.finished) (omega arith) (λ busy. absurd (busy refl)) (so_far caller) in
      let refusal = refusal_of caller frame.index need core.pool in
      let account = record (account_of core caller) { refusals = (account_of core caller).refusals ++ refusal ∷ [] } in
      changed core after calls caller reached (not_called_past plan is core.world caller when.1) (record {
        frame = refused frame;
        frames_is = ap (λ (c : Core). c.world.frames) is_after;
        account = account;
        accounts_is = ap (λ (c : Core). c.pool.accounts) is_after;
        clock = omega (arith, ap (λ (c : Core). c.clock) is_after);
      })
      (subst (λ n. IsInOrder (refused frame) account n caller) (sym (ap (λ (c : Core). c.clock) is_after))
      (record { refused = each_append (IsRefusalOf caller frame.index) (account_of core caller).refusals (refusal ∷ []) o.refused ((refl, from_one core calls caller reached when.1, omega arith), tt); refused_up = up_push (λ (r : Refusal). r.index) refusal (account_of core caller).refusals o.refused_up ((so_far caller).unrefused (called_busy frame.stage when.1)); unrefused = λ busy. absurd (busy refl); up = o.up; low = o.low; below = o.below; own = o.own })) so_far
    where
      from_one : (core : Core) (calls : Calls) (caller : ℕ) → IsReached plan core calls → (frame_of core.world caller).stage ≡ stages.Called → 0 < (frame_of core.world caller).index
      from_one core calls caller reached called = by (stands_of plan is core calls reached caller)
        where
          by : Stands plan core.world.heap calls caller (frame_of core.world caller) → 0 < (frame_of core.world caller).index
          by (idles e) = absurd (let i = ap (λ (f : Frame). f.stage) e in clash (frame_of core.world caller).stage called i)
            where
              clash : (s : Stage) → s ≡ stages.Called → s ≡ stages.Idle → ⊥
              clash s p q = cc
          by (waits call w) = call.from_one
          by (works call e w) = call.from_one
  order_step core after calls caller reached so_far (enters_now enters is_after) =
      let entering = enters_when plan is core calls caller reached enters in
      let frame = frame_of core.world caller in
      let same = ready_same plan (record frame { stage = stages.Running; ticket = core.clock + 1; locals = locals_of plan frame.call; turns = fuel_of plan frame.call }) in
      let ticket : (entered plan (core.clock + 1) frame).ticket ≡ core.clock + 1 = same.3 in
      let o = onward frame (entered plan (core.clock + 1) frame) (account_of core caller) core.clock (core.clock + 1) caller (omega arith) same.9 (omega (arith, same.1))
      (λ e. each_map (λ (kept : Finished). kept.ticket ≤ core.clock) (λ (kept : Finished). kept.ticket < (entered plan (core.clock + 1) frame).ticket) frame.finished (λ kept low. omega (arith, low, ticket)) (so_far caller).low)
      (omega (arith, ticket)) (λ busy. subst (λ n. Each (λ (refusal : Refusal). refusal.index < n) (account_of core caller).refusals) (sym same.1) ((so_far caller).unrefused (called_busy frame.stage (ap (λ (f : Frame). f.stage) entering.waits)))) (so_far caller) in
      changed core after calls caller reached (not_called_past plan is core.world caller (ap (λ (f : Frame). f.stage) entering.waits)) (record {
        frame = entered plan (core.clock + 1) frame;
        frames_is = ap (λ (c : Core). c.world.frames) is_after;
        account = account_of core caller;
        accounts_is = ap (λ (c : Core). c.pool.accounts) is_after ∙ sym (set-get_or core.pool.accounts caller no_account);
        clock = omega (arith, ap (λ (c : Core). c.clock) is_after);
      })
      (subst (λ n. IsInOrder (entered plan (core.clock + 1) frame) (account_of core caller) n caller) (sym (ap (λ (c : Core). c.clock) is_after)) o) so_far
  order_step core after calls caller reached so_far (finishes_now how over is_after) =
      let now = finishes_when plan is core calls caller how reached over in
      let frame = frame_of core.world caller in
      let o = so_far caller in
      let account = record (account_of core caller) { reserved_at = 0; versions = (account_of core caller).versions ++ versions_made frame.spares (account_of core caller) core.pool ∷ [] } in
      changed core after calls caller reached (has_frame plan is core.world caller now) (record {
        frame = finished how frame;
        frames_is = ap (λ (c : Core). c.world.frames) is_after;
        account = account;
        accounts_is = ap (λ (c : Core). c.pool.accounts) is_after;
        clock = omega (arith, ap (λ (c : Core). c.clock) is_after);
      })
      (subst (λ n. IsInOrder (finished how frame) account n caller) (sym (ap (λ (c : Core). c.clock) is_after))
      (record {
        refused = o.refused;
        refused_up = o.refused_up;
        unrefused = λ busy. absurd (busy refl);
        up = up_push (λ (kept : Finished). kept.ticket) (finish_of how frame) frame.finished o.up (o.below now);
        low = each_append (λ (kept : Finished). kept.ticket ≤ core.clock) frame.finished (finish_of how frame ∷ []) o.low (o.own, tt);
        below = none_below (finished how frame) refl (frame.finished ++ finish_of how frame ∷ []);
        own = omega arith;
      })) so_far
  order_step core after calls caller reached so_far (touches_one name at outcome acts is_after) =
      let frame = frame_of core.world caller in
      let one = touch_one plan caller frame (due plan frame) (finite.get core.world.heap name) outcome acts in
      let o = onward frame outcome.0 (account_of core caller) core.clock core.clock caller (omega arith) one.1 (omega (arith, one.2))
      (λ e. subst (λ n. Each (λ (kept : Finished). kept.ticket < n) frame.finished) (sym one.0) ((so_far caller).below (subst (λ n. 0 < n) one.0 e)))
      (omega (arith, one.0, (so_far caller).own)) (λ busy. subst (λ n. Each (λ (refusal : Refusal). refusal.index < n) (account_of core caller).refusals) (sym one.2) ((so_far caller).unrefused (was_busy (touches_when plan is core calls caller name reached at)))) (so_far caller) in
      changed core after calls caller reached (inside (touches_when plan is core calls caller name reached at)) (record {
        frame = outcome.0;
        frames_is = ap (λ (c : Core). c.world.frames) is_after;
        account = account_of core caller;
        accounts_is = ap (λ (c : Core). c.pool.accounts) is_after ∙ sym (set-get_or core.pool.accounts caller no_account);
        clock = omega (arith, ap (λ (c : Core). c.clock) is_after);
      })
      (subst (λ n. IsInOrder outcome.0 (account_of core caller) n caller) (sym (ap (λ (c : Core). c.clock) is_after)) o) so_far
    where
      inside : Touches plan is core caller → caller < length core.world.frames
      inside (runs_on e) = has_frame plan is core.world caller e
      inside (at_root number takes z called) = not_called_past plan is core.world caller called

      was_busy : Touches plan is core caller → (frame_of core.world caller).stage ≢ stages.Idle
      was_busy (runs_on e) = (entered_busy plan core.world.heap calls caller (frame_of core.world caller) (stands_of plan is core calls reached caller) e).0
      was_busy (at_root number takes z called) = called_busy (frame_of core.world caller).stage called

  pub all_in_order : (core : Core) (calls : Calls) → IsReached plan core calls → (c : ℕ) → OrderedIn core c
  all_in_order core calls starts c =
      subst (λ f. IsInOrder f (account_of (fresh plan) c) (fresh plan).clock c) (sym (fresh_frame plan is c)) (subst (λ a. IsInOrder idle a (fresh plan).clock c) (sym (fresh_account (length plan.sizes + 1) c))
      (record { refused = tt; refused_up = tt; unrefused = λ busy. tt; up = tt; low = tt; below = λ e. tt; own = omega arith }))
  all_in_order core calls (begins {core = before} {calls = so_far} caller call reached may) c =
      let frame = frame_of before.world caller in
      let rests = idle_rests plan before.world.heap so_far caller frame (stands_of plan is before so_far reached caller) may.idle in
      let earlier = all_in_order before so_far reached in
      let o = onward frame (begun call frame) (account_of before caller) before.clock before.clock caller (omega arith) refl (omega arith) (none_below (begun call frame) refl frame.finished) (omega arith)
      (λ busy. each_map (IsRefusalOf caller frame.index) (λ (refusal : Refusal). refusal.index < frame.index + 1) (account_of before caller).refusals (λ r is_one. omega (arith, is_one.2)) (earlier caller).refused) (earlier caller) in
      changed before (with_call before caller call) so_far caller reached (omega (arith, may.is_caller.to_last, (lawful_always plan before so_far is reached).sound.frames)) (record {
        frame = begun call frame;
        frames_is = refl;
        account = account_of before caller;
        accounts_is = sym (set-get_or before.pool.accounts caller no_account);
        clock = omega arith;
      }) o earlier c
  all_in_order core calls (steps {core = before} caller answer reached e) c = order_step before core calls caller reached (all_in_order before calls reached) (step_is plan before caller core answer e) c
