-- What the machine in Rust does while one operation runs.
use Rattle.std.proofs.Common.{◌≡◌, ℕ, zero, suc, ◌+◌, ◌⊎◌, inl, inr, Option, Some, None, refl, sym, ap, subst, ◌∙◌, add-one}
use Rattle.dl_ir.specs.declared.calls.Call.{Call}
use Rattle.dl_instr.specs.declared.code.Code.{Code}
use Rattle.dl_core.specs.declared.answers.Event.{Event}
use Rattle.dl_core.specs.declared.answers.Progress.{Progress}
use Rattle.dl_core.specs.declared.answers.Progress.TheVariants as progress
use Rattle.dl_core.specs.Core.{Core, Stepped, or_stands, step, stepped, with_call}
use Rattle.dl_core.specs.Machines.{Machine, IsRunning, with_state}
use Rattle.dl_core.specs.Plans.{Plan}
use Rattle.dl_core.specs.Reached.{Calls}
use Rattle.dl_core.specs.Shown.{with_code}
use Rattle.dl_coarse.specs.Going.{EndsAfter, GoesOn, IsOver, one_end}
use Rattle.dl_core.specs.Advances.{RunsTo, ends, goes_on}
use Rattle.dl_core.specs.Turns.{Leaves, MayRun}
use Rattle.dl_coarse.specs.Lone.{IsRun, IsOnward, IsLast, HasRun, Stays}
use Rattle.dl_coarse.specs.declared.going.Went.TheVariants as went
use Rattle.dl_coarse.proofs.LoneTurn.{ends_begun, leaves_begun}
use Rattle.dl_coarse.specs.declared.going.Going.{Going}

-- a step reads nothing of the plan but its code
pub same_step : (plan : Plan) (code : Code) (core : Core) (caller : ℕ) → plan.code ≡ code → step plan core caller ≡ step (with_code code) core caller
same_step plan code core caller same = step_by plan core caller ∙ ap (λ (c : Code). step (with_code c) core caller) same
  where
    step_by : (plan : Plan) (core : Core) (caller : ℕ) → step plan core caller ≡ step (with_code plan.code) core caller
    step_by plan core caller = refl

pub same_ends : (plan : Plan) (code : Code) (caller more : ℕ) (done : Option Stepped) → plan.code ≡ code → EndsAfter plan caller more done → EndsAfter (with_code code) caller more done
same_ends plan code caller more None same is = is
same_ends plan code caller zero (Some done) same is = is
same_ends plan code caller (suc more) (Some done) same is =
    (is.0, same_ends plan code caller more (step (with_code code) done.0 caller) same (subst (EndsAfter plan caller more) (same_step plan code done.0 caller same) is.1))

-- what the answer says of the events that are left
abbrev Follows : Plan → ℕ → ℕ → Core → Progress → Type 0
Follows plan caller more after answer = (GoesOn answer × ((left : ℕ) × (more ≡ left + 1) × EndsAfter plan caller left (step plan after caller))) ⊎ IsOver answer

follows : (plan : Plan) (caller more : ℕ) (done : Stepped) → EndsAfter plan caller more (Some done) → Follows plan caller more done.0 done.1
follows plan caller zero done is = inr is
follows plan caller (suc more) done is = inl (is.0, (more, sym (add-one more), is.1))

answered : (plan : Plan) (core after : Core) (caller more : ℕ) (answer : Progress) (s : Option Stepped) → step plan core caller ≡ s → EndsAfter plan caller more s → or_stands plan core caller s ≡ (after, answer)
    → (step plan core caller ≡ Some (after, answer)) × Follows plan caller more after answer
answered plan core after caller more answer None e is same = absurd is
answered plan core after caller more answer (Some done) e is same =
    (e ∙ ap (λ (d : Stepped). Some d) same, subst (λ (d : Stepped). Follows plan caller more d.0 d.1) same (follows plan caller more done is))

over_not : (answer : Progress) → GoesOn answer → IsOver answer → ⊥
over_not (progress.Moved event) goes over = over
over_not (progress.Waiting lock by) goes over = over
over_not (progress.Refused need found version) goes over = goes
over_not (progress.Done entry) goes over = goes
over_not progress.Idle goes over = over
over_not (progress.Looked place) goes over = over
over_not (progress.Raced seen now) goes over = over

module _ (going : Going) (after : Machine) (answer : Progress) (same : after ≡ with_state going.core after.state) (stepped_so : (plan : Plan) → plan.code ≡ going.core.code → stepped plan going.core.state going.caller ≡ (after.state, answer)) where
  code_is : after.code ≡ going.core.code
  code_is = ap (λ (m : Machine). m.code) same

  told : (step (with_code going.core.code) going.core.state going.caller ≡ Some (after.state, answer)) × Follows (with_code going.core.code) going.caller going.more.0 after.state answer
  told = answered (with_code going.core.code) going.core.state after.state going.caller going.more.0 answer (step (with_code going.core.code) going.core.state going.caller) refl going.more.1 (stepped_so (with_code going.core.code) refl)

  pub steps_so : (plan : Plan) → plan.code ≡ going.core.code → step plan going.core.state going.caller ≡ Some (after.state, answer)
  steps_so plan code = same_step plan going.core.code going.core.state going.caller code ∙ told.0

  -- where it goes on, as many events are left
  pub left : GoesOn answer → (more : ℕ) × (going.more.0 ≡ more + 1) × EndsAfter (with_code after.code) going.caller more (step (with_code after.code) after.state going.caller)
  left goes = by told.1
    where
      by : Follows (with_code going.core.code) going.caller going.more.0 after.state answer
          → (more : ℕ) × (going.more.0 ≡ more + 1) × EndsAfter (with_code after.code) going.caller more (step (with_code after.code) after.state going.caller)
      by (inl on) = (on.1.0, on.1.1, subst (λ (code : Code). EndsAfter (with_code code) going.caller on.1.0 (step (with_code code) after.state going.caller)) (sym code_is) on.1.2)
      by (inr over) = absurd (over_not answer goes over)

  pub is_over : (GoesOn answer → ⊥) → IsOver answer
  is_over never = by told.1
    where
      by : Follows (with_code going.core.code) going.caller going.more.0 after.state answer → IsOver answer
      by (inl on) = absurd (never on.0)
      by (inr over) = over

  pub stays : ((plan : Plan) (calls : Calls) → IsRunning plan going.core calls → IsRunning plan after calls) → Stays going.core after
  stays running = record { code = code_is; sizes = ap (λ (m : Machine). m.sizes) same; running = running }

-- the next event took place, and the operation goes on
pub is_onward : (going next : Going) (event : Event) → next.core ≡ with_state going.core next.core.state
    → ((plan : Plan) → plan.code ≡ going.core.code → stepped plan going.core.state going.caller ≡ (next.core.state, progress.Moved event))
    → ((plan : Plan) (calls : Calls) → IsRunning plan going.core calls → IsRunning plan next.core calls) → next.caller ≡ going.caller → IsOnward going next
is_onward going next event same stepped_so running caller =
    let fewer = left going next.core (progress.Moved event) same stepped_so tt in record {
      caller = caller;
      less = fewer.1
          ∙ ap (λ n. n + 1)
          (one_end (with_code next.core.code) next.caller fewer.0 next.more.0 (step (with_code next.core.code) next.core.state next.caller)
          (subst (λ (c : ℕ). EndsAfter (with_code next.core.code) c fewer.0 (step (with_code next.core.code) next.core.state c)) (sym caller) fewer.2) next.more.1);
      stays = stays going next.core (progress.Moved event) same stepped_so running;
      steps = λ plan code. (event, steps_so going next.core (progress.Moved event) same stepped_so plan code);
    }

pub is_last : (going : Going) (after : Machine) (answer : Progress) → after ≡ with_state going.core after.state → ((plan : Plan) → plan.code ≡ going.core.code → stepped plan going.core.state going.caller ≡ (after.state, answer))
    → ((plan : Plan) (calls : Calls) → IsRunning plan going.core calls → IsRunning plan after calls) → ((event : Event) → answer ≡ progress.Moved event → ⊥) → IsLast going after answer
is_last going after answer same stepped_so running never = record {
  over = is_over going after answer same stepped_so (λ goes. not_moved answer goes never);
  stays = stays going after answer same stepped_so running;
  steps = steps_so going after answer same stepped_so;
}
  where
    not_moved : (answer : Progress) → GoesOn answer → ((event : Event) → answer ≡ progress.Moved event → ⊥) → ⊥
    not_moved (progress.Moved event) goes never = never event refl
    not_moved (progress.Waiting lock by) goes never = goes
    not_moved (progress.Refused need found version) goes never = goes
    not_moved (progress.Done entry) goes never = goes
    not_moved progress.Idle goes never = goes
    not_moved (progress.Looked place) goes never = goes
    not_moved (progress.Raced seen now) goes never = goes

pub on_same : {a b : Going} → went.On a ≡ went.On b → a ≡ b
on_same same = cc same

stays_on : (first mid last : Machine) → Stays first mid → Stays mid last → Stays first last
stays_on first mid last a b = record { code = b.code ∙ a.code; sizes = b.sizes ∙ a.sizes; running = λ plan calls is. b.running plan calls (a.running plan calls is) }

-- what the loop over the events keeps
abbrev pub LeadsBack : Going → Core → Type 0
LeadsBack first now = (plan : Plan) → plan.code ≡ first.core.code → (answer : Progress) (end : Core) → RunsTo plan first.caller answer now end → RunsTo plan first.caller answer first.core.state end

module _ (first going : Going) (caller : going.caller ≡ first.caller) (kept : Stays first.core going.core) (back : LeadsBack first going.core.state) where
  pub stays_onward : (next : Going) → IsOnward going next → Stays first.core next.core
  stays_onward next on = stays_on first.core going.core next.core kept on.stays

  pub leads_onward : (next : Going) → IsOnward going next → LeadsBack first next.core.state
  leads_onward next on plan code answer end runs =
      let stepped_so = on.steps plan (code ∙ sym kept.code) in
      back plan code answer end (goes_on stepped_so.0 (subst (λ (c : ℕ). step plan going.core.state c ≡ Some (next.core.state, progress.Moved stepped_so.0)) caller stepped_so.1) runs)

  pub has_run : (machine : Machine) (answer : Progress) → IsLast going machine answer → HasRun first machine answer
  has_run machine answer last = record {
    over = last.over;
    stays = stays_on first.core going.core machine kept last.stays;
    runs = λ plan code. back plan code answer machine.state (ends (subst (λ (c : ℕ). step plan going.core.state c ≡ Some (machine.state, answer)) caller (last.steps plan (code ∙ sym kept.code))));
  }

-- an operation that is begun ends
pub begins_ending : (plan : Plan) (caller : ℕ) (call : Call) (machine begun : Machine) → IsRun plan machine → MayRun plan machine.state caller call → begun ≡ with_state machine (with_call machine.state caller call)
    → (more : ℕ) × EndsAfter (with_code begun.code) caller more (step (with_code begun.code) begun.state caller)
begins_ending plan caller call machine begun run may same =
    let ending = ends_begun plan run.1.is caller call machine.state may in
    let code : plan.code ≡ begun.code = run.1.code ∙ ap (λ (m : Machine). m.code) (sym same) in
    let state : with_call machine.state caller call ≡ begun.state = ap (λ (m : Machine). m.state) (sym same) in (
      ending.0,
      subst (λ (core : Core). EndsAfter (with_code begun.code) caller ending.0 (step (with_code begun.code) core caller)) state
          (subst (EndsAfter (with_code begun.code) caller ending.0) (same_step plan begun.code (with_call machine.state caller call) caller code)
          (same_ends plan begun.code caller ending.0 (step plan (with_call machine.state caller call) caller) code ending.1)),
    )

-- what is left of a whole operation
pub leaves_whole : (plan : Plan) (caller : ℕ) (call : Call) (machine : Machine) (going : Going) (after : Machine) (answer : Progress) → IsRun plan machine → MayRun plan machine.state caller call
    → going.core ≡ with_state machine (with_call machine.state caller call) → going.caller ≡ caller → HasRun going after answer → Leaves plan machine.state caller call answer after.state
leaves_whole plan caller call machine going after answer run may same caller_is has =
    let code : plan.code ≡ going.core.code = run.1.code ∙ ap (λ (m : Machine). m.code) (sym same) in
    leaves_begun plan run.1.is caller call machine.state may.calls may.reached may.may answer after.state has.over
    (subst (λ (core : Core). RunsTo plan caller answer core after.state) (ap (λ (m : Machine). m.state) same) (subst (λ (c : ℕ). RunsTo plan c answer going.core.state after.state) caller_is (has.runs plan code)))
