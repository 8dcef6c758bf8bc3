-- What a caller's step is, by its answer.
use Rattle.std.proofs.Common.{◌≡◌, ℕ, ◌<◌, Bool, true, false, Option, Some, None, refl, sym, ap, ◌∙◌, arith}
use Rattle.std.specs.Prelude.{nat_lt, if◌then◌else◌}
use Rattle.std.specs.FinMap as finite
use Rattle.std.proofs.lemmas.Bool.Decides.{nat_tests}
use Rattle.dl_ir.specs.declared.answers.End.{End}
use Rattle.dl_ir.specs.declared.names.Name.{Name}
use Rattle.dl_core.specs.declared.answers.Event.{Event}
use Rattle.dl_core.specs.declared.answers.Progress.{Progress}
use Rattle.dl_core.specs.declared.answers.Progress.TheVariants as progress
use Rattle.dl_core.specs.declared.dues.Due.{Due}
use Rattle.dl_core.specs.declared.dues.Due.TheVariants.{Nothing, Reserves, TakesRoot, Enters, Reads, Writes, Takes, LetsGo, GivesUp, Seals, Makes, Finishes}
use Rattle.dl_core.specs.Core.{Core, Stepped, frame_of, reserves, refuses, enters, finishes, acted, with_event, touches, step, step_due}
use Rattle.dl_core.specs.Events.{Acted, act, aim, event_of}
use Rattle.dl_core.specs.Frames.{Frame}
use Rattle.dl_core.specs.LocalSteps.{due}
use Rattle.dl_core.specs.Plans.{Plan}
use Rattle.dl_core.proofs.Names.{same_some}

module _ (plan : Plan) (core : Core) (caller : ℕ) where
  abbrev frame : Frame
  frame = frame_of core.world caller

  -- the operation goes on
  pub data Goes (after : Core) : Type 0 where
    reserves_on : (need : ℕ) → due plan (frame_of core.world caller) ≡ Reserves need → after ≡ (reserves core caller (frame_of core.world caller) need).0 → Goes after
    enters_on : due plan (frame_of core.world caller) ≡ Enters → after ≡ (enters plan core caller (frame_of core.world caller)).0 → Goes after
    touches_on : (name : Name) → aim (due plan (frame_of core.world caller)) ≡ Some name → (outcome : Acted)
        → act plan caller (frame_of core.world caller) (due plan (frame_of core.world caller)) (finite.get core.world.heap name) ≡ Some outcome → after ≡ acted core caller name outcome → Goes after

  -- each step is one of these
  pub data IsStep (after : Core) (answer : Progress) : Type 0 where
    moves : (event : Event) → answer ≡ progress.Moved event → Goes after → IsStep after answer
    refuses_it : (need : ℕ) → due plan (frame_of core.world caller) ≡ Reserves need → core.pool.free < need → (after, answer) ≡ refuses core caller (frame_of core.world caller) need → IsStep after answer
    finishes_it : (end : End) → due plan (frame_of core.world caller) ≡ Finishes end → (after, answer) ≡ finishes core caller (frame_of core.world caller) end → IsStep after answer

  none_step : {s : Stepped} → None ≡ Some s → ⊥
  none_step e = cc

  touched_one : (name : Name) (event : Option Event) (out : Option Acted) (after : Core) (answer : Progress) → with_event core caller name event out ≡ Some (after, answer)
      → (what : Event) × (answer ≡ progress.Moved what) × ((outcome : Acted) × (out ≡ Some outcome) × (after ≡ acted core caller name outcome))
  touched_one name None out after answer e = absurd (none_step e)
  touched_one name (Some event) None after answer e = absurd (none_step e)
  touched_one name (Some event) (Some outcome) after answer e = (event, ap (λ (s : Stepped). s.1) (sym (same_some e)), (outcome, refl, ap (λ (s : Stepped). s.0) (sym (same_some e))))

  touching : (d : Due) → due plan frame ≡ d → (name : Name) → aim d ≡ Some name → (after : Core) (answer : Progress) → touches plan core caller frame d name ≡ Some (after, answer) → IsStep after answer
  touching d is name at after answer e =
      let got = touched_one name (event_of d (finite.get core.world.heap name)) (act plan caller frame d (finite.get core.world.heap name)) after answer e in
      moves got.0 got.1 (touches_on name (ap aim is ∙ at) got.2.0 (ap (λ due_is. act plan caller frame due_is (finite.get core.world.heap name)) is ∙ got.2.1) got.2.2)

  asked : (need : ℕ) → due plan frame ≡ Reserves need → (after : Core) (answer : Progress) → (b : Bool) → nat_lt core.pool.free need ≡ b
      → Some (if b then refuses core caller frame need else reserves core caller frame need) ≡ Some (after, answer) → IsStep after answer
  asked need is after answer true t e = refuses_it need is (grind (arith, nat_tests, t)) (sym (same_some e))
  asked need is after answer false t e = moves _ (ap (λ (s : Stepped). s.1) (sym (same_some e))) (reserves_on need is (ap (λ (s : Stepped). s.0) (sym (same_some e))))

  by_due : (d : Due) → due plan frame ≡ d → (after : Core) (answer : Progress) → step_due plan core caller frame d ≡ Some (after, answer) → IsStep after answer
  by_due Nothing is after answer e = absurd (none_step e)
  by_due (Reserves need) is after answer e = asked need is after answer (nat_lt core.pool.free need) refl e
  by_due (TakesRoot number) is after answer e = touching (TakesRoot number) is _ refl after answer e
  by_due Enters is after answer e = moves _ (ap (λ (s : Stepped). s.1) (sym (same_some e))) (enters_on is (ap (λ (s : Stepped). s.0) (sym (same_some e))))
  by_due (Reads name field) is after answer e = touching (Reads name field) is name refl after answer e
  by_due (Writes name field value) is after answer e = touching (Writes name field value) is name refl after answer e
  by_due (Takes name) is after answer e = touching (Takes name) is name refl after answer e
  by_due (LetsGo name) is after answer e = touching (LetsGo name) is name refl after answer e
  by_due (GivesUp name) is after answer e = touching (GivesUp name) is name refl after answer e
  by_due (Seals name) is after answer e = touching (Seals name) is name refl after answer e
  by_due (Makes name kind) is after answer e = touching (Makes name kind) is name refl after answer e
  by_due (Finishes end) is after answer e = finishes_it end is (sym (same_some e))

  pub step_kind : (after : Core) (answer : Progress) → step plan core caller ≡ Some (after, answer) → IsStep after answer
  step_kind after answer e = by_due (due plan frame) refl after answer e
