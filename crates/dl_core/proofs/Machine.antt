-- The machine's steps are steps by its rules, but for reserving and entering, which change the caller's frame alone.
use Rattle.std.proofs.Common.{◌≡◌, ◌<◌, ◌≤◌, arith, ℕ, Bool, true, false, Option, Some, None, refl, sym, ap, ◌∙◌}
use Rattle.std.specs.Prelude.{nat_lt, if◌then◌else◌}
use Rattle.std.proofs.lemmas.Bool.Decides.{nat_tests}
use Rattle.std.specs.FinMap as finite
use Rattle.dl_ir.specs.declared.answers.End.{End}
use Rattle.dl_ir.specs.declared.names.Name.{Name}
use Rattle.dl_core.specs.declared.answers.Event.{Event}
use Rattle.dl_core.specs.declared.answers.Progress.{Progress}
use Rattle.dl_core.specs.Plans.{Plan}
use Rattle.dl_core.specs.declared.dues.Due.{Due}
use Rattle.dl_core.specs.declared.dues.Due.TheVariants.{Nothing, Reserves, TakesRoot, Enters, Reads, Writes, Takes, LetsGo, GivesUp, Seals, Makes, Finishes}
use Rattle.dl_core.specs.LocalSteps.{due}
use Rattle.dl_core.specs.Events.{Acted, act, aim, event_of, finished}
use Rattle.dl_core.specs.Steps.{At}
use Rattle.dl_core.specs.Core.{Core, Stepped, frame_of, rules_of, aim_of, finished_by, acted, with_event, touches, reserves, refuses, enters, finishes, step_due, step}
use Rattle.dl_core.proofs.Diamond.{Leaves, Puts, Moves}
use Rattle.dl_core.proofs.Names.{same_some}

module _ (plan : Plan) (core : Core) (caller : ℕ) where
  -- what a step is
  pub data StepIs (after : Core) : Type 0 where
    -- a reservation, or a refusal where too few places are free, changes the caller's frame and the pool
    reserves_now : (need : ℕ) → due plan (frame_of core.world caller) ≡ Reserves need → need ≤ core.pool.free → after ≡ (reserves core caller (frame_of core.world caller) need).0 → StepIs after
    refuses_now : (need : ℕ) → due plan (frame_of core.world caller) ≡ Reserves need → core.pool.free < need → after ≡ (refuses core caller (frame_of core.world caller) need).0 → StepIs after
    -- an entry changes the caller's frame and the clock
    enters_now : due plan (frame_of core.world caller) ≡ Enters → after ≡ (enters plan core caller (frame_of core.world caller)).0 → StepIs after
    -- a finish changes the caller's frame and the pool
    finishes_now : (end : End) → due plan (frame_of core.world caller) ≡ Finishes end → after ≡ (finishes core caller (frame_of core.world caller) end).0 → StepIs after
    -- every other event changes the caller's frame and one object
    touches_one : (name : Name) → aim (due plan (frame_of core.world caller)) ≡ Some name → (outcome : Acted)
        → act plan caller (frame_of core.world caller) (due plan (frame_of core.world caller)) (finite.get core.world.heap name) ≡ Some outcome → after ≡ acted core caller name outcome → StepIs after

  none_step : {s : Stepped} → None ≡ Some s → ⊥
  none_step e = cc

  touched_one : (name : Name) (event : Option Event) (out : Option Acted) (after : Core) (answer : Progress) → with_event core caller name event out ≡ Some (after, answer)
      → (outcome : Acted) × (out ≡ Some outcome) × (after ≡ acted core caller name outcome)
  touched_one name None out after answer e = absurd (none_step e)
  touched_one name (Some event) None after answer e = absurd (none_step e)
  touched_one name (Some event) (Some outcome) after answer e = (outcome, refl, ap (λ (s : Stepped). s.0) (sym (same_some e)))

  touching : (d : Due) → due plan (frame_of core.world caller) ≡ d → (name : Name) → aim d ≡ Some name → (after : Core) (answer : Progress)
      → touches plan core caller (frame_of core.world caller) d name ≡ Some (after, answer) → StepIs after
  touching d is name at after answer e =
      let got = touched_one name (event_of d (finite.get core.world.heap name)) (act plan caller (frame_of core.world caller) d (finite.get core.world.heap name)) after answer e in
      touches_one name (ap aim is ∙ at) got.0 (ap (λ due_is. act plan caller (frame_of core.world caller) due_is (finite.get core.world.heap name)) is ∙ got.1) got.2

  asked : (need : ℕ) → due plan (frame_of core.world caller) ≡ Reserves need → (after : Core) (answer : Progress) → (b : Bool) → nat_lt core.pool.free need ≡ b
      → Some (if b then refuses core caller (frame_of core.world caller) need else reserves core caller (frame_of core.world caller) need) ≡ Some (after, answer) → StepIs after
  asked need is after answer true t e = refuses_now need is (grind (arith, nat_tests, t)) (ap (λ (s : Stepped). s.0) (sym (same_some e)))
  asked need is after answer false t e = reserves_now need is (grind (arith, nat_tests, t)) (ap (λ (s : Stepped). s.0) (sym (same_some e)))

  by_due : (d : Due) → due plan (frame_of core.world caller) ≡ d → (after : Core) (answer : Progress) → step_due plan core caller (frame_of core.world caller) d ≡ Some (after, answer) → StepIs after
  by_due Nothing is after answer e = absurd (none_step e)
  by_due (Reserves need) is after answer e = asked need is after answer (nat_lt core.pool.free need) refl e
  by_due (TakesRoot number) is after answer e = touching (TakesRoot number) is _ refl after answer e
  by_due Enters is after answer e = enters_now is (ap (λ (s : Stepped). s.0) (sym (same_some e)))
  by_due (Reads name field) is after answer e = touching (Reads name field) is name refl after answer e
  by_due (Writes name field value) is after answer e = touching (Writes name field value) is name refl after answer e
  by_due (Takes name) is after answer e = touching (Takes name) is name refl after answer e
  by_due (LetsGo name) is after answer e = touching (LetsGo name) is name refl after answer e
  by_due (GivesUp name) is after answer e = touching (GivesUp name) is name refl after answer e
  by_due (Seals name) is after answer e = touching (Seals name) is name refl after answer e
  by_due (Makes name kind) is after answer e = touching (Makes name kind) is name refl after answer e
  by_due (Finishes end) is after answer e = finishes_now end is (ap (λ (s : Stepped). s.0) (sym (same_some e)))

  -- each step is one of these
  pub step_is : (after : Core) (answer : Progress) → step plan core caller ≡ Some (after, answer) → StepIs after
  step_is after answer e = by_due (due plan (frame_of core.world caller)) refl after answer e

  aim_is : (d : Due) (name : Name) → aim d ≡ Some name → aim_of d ≡ At name
  aim_is Nothing name e = absurd (cc)
  aim_is (Reserves need) name e = absurd (cc)
  aim_is (TakesRoot number) name e = cc
  aim_is Enters name e = absurd (cc)
  aim_is (Reads n field) name e = cc
  aim_is (Writes n field value) name e = cc
  aim_is (Takes n) name e = cc
  aim_is (LetsGo n) name e = cc
  aim_is (GivesUp n) name e = cc
  aim_is (Seals n) name e = cc
  aim_is (Makes n kind) name e = cc
  aim_is (Finishes end) name e = absurd (cc)

  -- an event that touches an object is a step by the rules
  pub touch_moves : (name : Name) → aim (due plan (frame_of core.world caller)) ≡ Some name → (outcome : Acted)
      → act plan caller (frame_of core.world caller) (due plan (frame_of core.world caller)) (finite.get core.world.heap name) ≡ Some outcome
      → Moves (rules_of plan) core.world caller (acted core caller name outcome).world
  touch_moves name at outcome acts = record { touch = Puts name outcome.1; frame = outcome.0; acts = (aim_is (due plan (frame_of core.world caller)) name at, acts); is = refl }

  -- and so is a finish
  pub finish_moves : (end : End) → due plan (frame_of core.world caller) ≡ Finishes end → Moves (rules_of plan) core.world caller (finishes core caller (frame_of core.world caller) end).0.world
  finish_moves end is = record {
    touch = Leaves;
    frame = finished end (frame_of core.world caller);
    acts = (ap aim_of is, ap (λ d. finished_by d (frame_of core.world caller)) is);
    is = refl;
  }
