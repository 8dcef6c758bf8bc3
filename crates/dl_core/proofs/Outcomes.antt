-- Each call that a caller has begun is finished, refused or in hand.
use Rattle.std.proofs.Common.{◌≡◌, ◌≢◌, inl, inr, ℕ, ◌+◌, ◌++◌, [], ◌∷◌, length, set, get_or, refl, sym, ap, subst, ◌∙◌, arith, length-append}
use Rattle.std.proofs.lemmas.List.{get_or-set_same, get_or-set_other, set-get_or}
use Rattle.dl_core.specs.declared.dues.Due.{Due}
use Rattle.dl_core.specs.declared.dues.Due.TheVariants.{Nothing, Reserves, Enters, Finishes}
use Rattle.dl_core.specs.declared.stages.Stage.TheVariants as stages
use Rattle.dl_ir.specs.declared.calls.Call.{Call}
use Rattle.dl_core.specs.Core.{Account, Core, frame_of, account_of, no_account, refusal_of, versions_made, with_call}
use Rattle.dl_core.specs.Events.{begun, reserved, refused, entered, finished, finish_of}
use Rattle.dl_core.specs.Frames.{Frame, idle}
use Rattle.dl_core.specs.Laws.{IsKept}
use Rattle.dl_core.specs.LocalSteps.{due}
use Rattle.dl_core.specs.Plans.{Plan, IsPlan, locals_of, fuel_of}
use Rattle.dl_core.specs.Reached.{Calls, IsReached, MayBegin, starts, begins, steps}
use Rattle.dl_lemmas.proofs.Places.{same_everywhere}
use Rattle.dl_core.proofs.Fresh.{fresh_frame}
use Rattle.dl_core.proofs.Kept.{ready_same}
use Rattle.dl_core.proofs.LawfulAlways.{lawful_always}
use Rattle.dl_core.proofs.Machine.{StepIs, reserves_now, refuses_now, enters_now, finishes_now, touches_one, step_is}
use Rattle.dl_core.proofs.Names.{same_number}
use Rattle.dl_core.proofs.Standing.{entered_busy, idle_due}
use Rattle.dl_core.proofs.TouchesKeep.{busy_caller, touch_own}

-- what has come of a caller's calls
pub record HasOutcomes (frame : Frame) (account : Account) : Type 0 where
  pub rests : frame.stage ≡ stages.Idle → length frame.finished + length account.refusals ≡ frame.index
  pub busy : frame.stage ≢ stages.Idle → length frame.finished + length account.refusals + 1 ≡ frame.index

no_reserves : {need : ℕ} → Nothing ≡ Reserves need → ⊥
no_reserves e = cc

no_enters : Nothing ≡ Enters → ⊥
no_enters e = cc

no_finishes : (d : Due) (end : _) → d ≡ Nothing → d ≡ Finishes end → ⊥
no_finishes d end e f = cc

called_busy : stages.Called ≡ stages.Idle → ⊥
called_busy e = cc

module _ (plan : Plan) (is : IsPlan plan) where
  abbrev Told : Core → ℕ → Type 0
  Told core caller = HasOutcomes (frame_of core.world caller) (account_of core caller)

  -- one caller's frame and account change
  changed : (core after : Core) (calls : Calls) (caller : ℕ) (frame : Frame) (account : Account) → IsKept plan core calls → (frame_of core.world caller).stage ≢ stages.Idle → after.world.frames ≡ set core.world.frames caller frame
      → after.pool.accounts ≡ set core.pool.accounts caller account → HasOutcomes frame account → ((c : ℕ) → Told core c) → (c : ℕ) → Told after c
  changed core after calls caller frame account all busy frames_are accounts_are told so_far c =
      let who = busy_caller plan core calls all.sound caller busy in
      elim (same_number c caller) [
        | inl same ↦
            let frame_is : frame_of after.world caller ≡ frame = ap (λ fs. get_or fs caller idle) frames_are ∙ get_or-set_same core.world.frames caller frame idle (omega (arith, who.to_last, all.sound.frames)) in
            let account_is : account_of after caller ≡ account = ap (λ xs. get_or xs caller no_account) accounts_are ∙ get_or-set_same core.pool.accounts caller account no_account (omega (arith, who.to_last, all.sound.accounts)) in
            subst (λ n. Told after n) (sym same) (subst (λ f. HasOutcomes f (account_of after caller)) (sym frame_is) (subst (λ a. HasOutcomes frame a) (sym account_is) told))
        | inr apart ↦
            let frame_is : frame_of after.world c ≡ frame_of core.world c = ap (λ fs. get_or fs c idle) frames_are ∙ get_or-set_other core.world.frames caller c frame idle apart in
            let account_is : account_of after c ≡ account_of core c = ap (λ xs. get_or xs c no_account) accounts_are ∙ get_or-set_other core.pool.accounts caller c account no_account apart in
            subst (λ f. HasOutcomes f (account_of after c)) (sym frame_is) (subst (λ a. HasOutcomes (frame_of core.world c) a) (sym account_is) (so_far c))
      ]

  told_step : (core after : Core) (calls : Calls) (caller : ℕ) → IsKept plan core calls → IsKept plan after calls → ((c : ℕ) → Told core c) → StepIs plan core caller after → (c : ℕ) → Told after c
  told_step core after calls caller all then so_far (reserves_now need asks enough is_after) =
      let frame = frame_of core.world caller in
      let account = record (account_of core caller) { reserved_at = core.pool.version + 1 } in
      changed core after calls caller (reserved need frame) account all (λ i. no_reserves (sym (idle_due plan core calls caller all i) ∙ asks)) (ap (λ (c : Core). c.world.frames) is_after) (ap (λ (c : Core). c.pool.accounts) is_after)
      (record { rests = (so_far caller).rests; busy = (so_far caller).busy }) so_far
  told_step core after calls caller all then so_far (refuses_now need asks few is_after) =
      let frame = frame_of core.world caller in
      let refusal = refusal_of caller frame.index need core.pool in
      let account = record (account_of core caller) { refusals = (account_of core caller).refusals ++ refusal ∷ [] } in
      let busy : frame.stage ≢ stages.Idle = λ i. no_reserves (sym (idle_due plan core calls caller all i) ∙ asks) in
      changed core after calls caller (refused frame) account all busy (ap (λ (c : Core). c.world.frames) is_after) (ap (λ (c : Core). c.pool.accounts) is_after)
      (record { rests = λ e. omega (arith, (so_far caller).busy busy, length-append (account_of core caller).refusals (refusal ∷ [])); busy = λ b. absurd (b refl) }) so_far
  told_step core after calls caller all then so_far (enters_now enters is_after) =
      let frame = frame_of core.world caller in
      let busy : frame.stage ≢ stages.Idle = λ i. no_enters (sym (idle_due plan core calls caller all i) ∙ enters) in
      let same = ready_same plan (record frame { stage = stages.Running; ticket = core.clock + 1; locals = locals_of plan frame.call; turns = fuel_of plan frame.call }) in
      let next = entered plan (core.clock + 1) frame in
      let who = busy_caller plan core calls all.sound caller busy in
      let next_is : frame_of after.world caller ≡ next = ap (λ (c : Core). get_or c.world.frames caller idle) is_after ∙ get_or-set_same core.world.frames caller next idle (omega (arith, who.to_last, all.sound.frames)) in
      let ticket : (frame_of after.world caller).ticket ≡ core.clock + 1 = ap (λ (f : Frame). f.ticket) next_is ∙ same.3 in
      let still : next.stage ≢ stages.Idle = λ i. entered_busy plan after.world.heap calls caller (frame_of after.world caller) (then.sound.each caller).stands (omega (arith, ticket)) (ap (λ (f : Frame). f.stage) next_is ∙ i) in
      changed core after calls caller next (account_of core caller) all busy (ap (λ (c : Core). c.world.frames) is_after) (ap (λ (c : Core). c.pool.accounts) is_after ∙ sym (set-get_or core.pool.accounts caller no_account))
      (record { rests = λ i. absurd (still i); busy = λ b. omega (arith, (so_far caller).busy busy, ap length same.9, same.1) }) so_far
  told_step core after calls caller all then so_far (finishes_now end finishes is_after) =
      let frame = frame_of core.world caller in
      let account = record (account_of core caller) { reserved_at = 0; versions = (account_of core caller).versions ++ versions_made frame.spares (account_of core caller) core.pool ∷ [] } in
      let busy : frame.stage ≢ stages.Idle = λ i. no_finishes (due plan frame) end (idle_due plan core calls caller all i) finishes in
      changed core after calls caller (finished end frame) account all busy (ap (λ (c : Core). c.world.frames) is_after) (ap (λ (c : Core). c.pool.accounts) is_after)
      (record { rests = λ e. omega (arith, (so_far caller).busy busy, length-append frame.finished (finish_of end frame ∷ [])); busy = λ b. absurd (b refl) }) so_far
  told_step core after calls caller all then so_far (touches_one name at outcome acts is_after) =
      let own = touch_own plan core calls caller is all.lawful all.sound name at outcome acts in
      changed core after calls caller outcome.0 (account_of core caller) all own.was_busy (ap (λ (c : Core). c.world.frames) is_after) (ap (λ (c : Core). c.pool.accounts) is_after ∙ sym (set-get_or core.pool.accounts caller no_account))
      (record { rests = λ i. absurd (own.busy i); busy = λ b. omega (arith, (so_far caller).busy own.was_busy, ap length own.public.finished, own.public.index) }) so_far

  told_begun : (core : Core) (calls : Calls) (caller : ℕ) (call : Call) → IsKept plan core calls → MayBegin plan core calls caller call → ((c : ℕ) → Told core c) → (c : ℕ) → Told (with_call core caller call) c
  told_begun core calls caller call all may so_far c =
      let next = begun call (frame_of core.world caller) in
      let after = with_call core caller call in
      elim (same_number c caller) [
        | inl same ↦
            let frame_is : frame_of after.world caller ≡ next = get_or-set_same core.world.frames caller next idle (omega (arith, may.is_caller.to_last, all.sound.frames)) in
            subst (λ n. Told after n) (sym same) (subst (λ f. HasOutcomes f (account_of core caller)) (sym frame_is)
            (record { rests = λ i. absurd (called_busy i); busy = λ b. omega (arith, (so_far caller).rests may.idle) }))
        | inr apart ↦ subst (λ f. HasOutcomes f (account_of core c)) (sym (get_or-set_other core.world.frames caller c next idle apart)) (so_far c)
      ]

  -- of each call that a caller has begun something has come
  pub outcomes : (core : Core) (calls : Calls) → IsReached plan core calls → (caller : ℕ) → HasOutcomes (frame_of core.world caller) (account_of core caller)
  outcomes core calls starts caller =
      subst (λ f. HasOutcomes f (account_of core caller)) (sym (fresh_frame plan is caller)) (subst (λ a. HasOutcomes idle a) (sym (same_everywhere (length plan.sizes + 1) caller no_account)) (record { rests = λ e. refl; busy = λ b. absurd (b refl) }))
  outcomes core calls (begins {core = before} {calls = done} who call reached may) caller = told_begun before done who call (lawful_always plan before done is reached) may (outcomes before done reached) caller
  outcomes core calls (steps {core = before} who answer reached step) caller =
      told_step before core calls who (lawful_always plan before calls is reached) (lawful_always plan core calls is (steps who answer reached step)) (outcomes before calls reached) (step_is plan before who core answer step) caller
