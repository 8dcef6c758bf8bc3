-- Names are given once.
use Rattle.std.proofs.Common.{◌≡◌, ◌≢◌, ◌⊎◌, get_or, inl, inr, ℕ, ◌+◌, ◌≤◌, length, set, refl, sym, ap, subst, ◌∙◌, arith}
use Rattle.std.specs.FinMap as finite
use Rattle.std.proofs.lemmas.Bool.{cases_lt}
use Rattle.std.proofs.lemmas.List.{get_or-set_same, get_or-set_other, get_or_past, length-set}
use Rattle.dl_ir.specs.declared.names.Name.{Name}
use Rattle.dl_ir.specs.Heap.{IsHidden}
use Rattle.dl_core.specs.declared.dues.Due.{Due}
use Rattle.dl_core.specs.declared.dues.Due.TheVariants.{Makes}
use Rattle.dl_core.specs.Plans.{Plan, IsPlan, locals_of, fuel_of}
use Rattle.dl_core.specs.declared.stages.Stage.TheVariants as stages
use Rattle.dl_core.specs.Frames.{Frame, IsEntered, idle}
use Rattle.dl_core.specs.LocalSteps.{due, next_name}
use Rattle.dl_core.specs.Events.{begun, reserved, refused, entered, finished}
use Rattle.dl_core.specs.Core.{Core, frame_of, with_call}
use Rattle.dl_core.specs.Reached.{Calls}
use Rattle.dl_core.specs.Reach.{ticket_in}
use Rattle.dl_core.specs.Sound.{Stands, idles, waits, works}
use Rattle.dl_core.specs.Laws.{IsKept}
use Rattle.dl_core.proofs.Events.{works_running}
use Rattle.dl_core.proofs.Kept.{ready_same}
use Rattle.dl_core.proofs.LawfulAlways.{lawful_always}
use Rattle.dl_core.proofs.Machine.{StepIs, reserves_now, refuses_now, enters_now, finishes_now, touches_one, step_is}
use Rattle.dl_core.proofs.Names.{same_number}
use Rattle.dl_core.proofs.Why as why
use Rattle.dl_core.proofs.Why.{Why}
use Rattle.dl_order.specs.Found.{IsThere, IsGiven, NamesAreGivenOnce}
use Rattle.dl_order.proofs.Keeping.{touch_one}

-- a given name stays given where one frame changes, and what runs by it then has made as much
given_on : (core after : Core) (caller : ℕ) (frame : Frame) (name : Name) → core.clock ≤ after.clock → after.world.frames ≡ set core.world.frames caller frame
    → (IsEntered frame → frame.ticket ≡ name.ticket → name.index ≤ frame.made) → IsGiven core name → IsGiven after name
given_on core after caller frame name later frames mine given = record {
  drawn = omega (arith, given.drawn, later);
  made = λ other. by other (same_number caller other);
}
  where
    same : (other : ℕ) (f : Frame) → frame_of after.world other ≡ f → (IsEntered f → f.ticket ≡ name.ticket → name.index ≤ f.made)
        → IsEntered (frame_of after.world other) → ticket_in after.world other ≡ name.ticket → name.index ≤ (frame_of after.world other).made
    same other f e so = subst (λ (g : Frame). IsEntered g → g.ticket ≡ name.ticket → name.index ≤ g.made) (sym e) so

    by : (other : ℕ) → (caller ≡ other) ⊎ (caller ≢ other) → IsEntered (frame_of after.world other) → ticket_in after.world other ≡ name.ticket → name.index ≤ (frame_of after.world other).made
    by other (inr apart) = same other (frame_of core.world other) (ap (λ fs. get_or fs other idle) frames ∙ get_or-set_other core.world.frames caller other frame idle (λ e. apart (sym e))) (given.made other)
    by other (inl own) = elim (cases_lt caller (length core.world.frames)) [
      | inl lt ↦ same other frame (ap (λ fs. get_or fs other idle) frames ∙ ap (λ n. get_or (set core.world.frames caller frame) n idle) (sym own) ∙ get_or-set_same core.world.frames caller frame idle lt) mine
      | inr le ↦ same other idle
          (ap (λ fs. get_or fs other idle) frames ∙ get_or_past (set core.world.frames caller frame) other idle (let long = length-set core.world.frames caller frame in omega (arith, long, le, own)))
          (λ some ticket. absurd (omega (arith, some)))
    ]

module _ (plan : Plan) (core : Core) (name : Name) (given : IsGiven core name) where
  step_given : (caller : ℕ) (after : Core) → StepIs plan core caller after → IsGiven after name
  step_given caller after (reserves_now need asks enough is_after) =
      subst (λ c. IsGiven c name) (sym is_after) (given_on core _ caller (reserved need (frame_of core.world caller)) name (omega arith) refl (given.made caller) given)
  step_given caller after (refuses_now need asks few is_after) =
      subst (λ c. IsGiven c name) (sym is_after) (given_on core _ caller (refused (frame_of core.world caller)) name (omega arith) refl (λ some ticket. absurd (omega (arith, some))) given)
  step_given caller after (enters_now enters is_after) =
      let frame = frame_of core.world caller in
      let raw = record frame { stage = stages.Running; ticket = core.clock + 1; locals = locals_of plan frame.call; turns = fuel_of plan frame.call } in
      subst (λ c. IsGiven c name) (sym is_after)
      (given_on core _ caller (entered plan (core.clock + 1) frame) name (omega arith) refl (λ some ticket. absurd (let drawn = (ready_same plan raw).3 in omega (arith, drawn, ticket, given.drawn))) given)
  step_given caller after (finishes_now end over is_after) =
      subst (λ c. IsGiven c name) (sym is_after) (given_on core _ caller (finished end (frame_of core.world caller)) name (omega arith) refl (λ some ticket. absurd (omega (arith, some))) given)
  step_given caller after (touches_one target at outcome acts is_after) =
      let one = touch_one plan caller (frame_of core.world caller) (due plan (frame_of core.world caller)) (finite.get core.world.heap target) outcome acts in
      subst (λ c. IsGiven c name) (sym is_after)
      (given_on core _ caller outcome.0 name (omega arith) refl
      (λ some ticket. let so_far = given.made caller (omega (arith, some, one.0)) (sym one.0 ∙ ticket) in omega (arith, so_far, one.3)) given)

module _ (plan : Plan) (core : Core) (calls : Calls) (is : IsPlan plan) (kept : IsKept plan core calls) where
  there_given : (name : Name) → IsThere core.world.heap name → IsGiven core name
  there_given name found = record { drawn = kept.sound.tickets.names name found.object found.there; made = λ caller some ticket. by caller some ticket (kept.sound.each caller).stands }
    where
      by : (caller : ℕ) → IsEntered (frame_of core.world caller) → ticket_in core.world caller ≡ name.ticket → Stands plan core.world.heap calls caller (frame_of core.world caller) → name.index ≤ (frame_of core.world caller).made
      by caller some ticket (idles e) = absurd (omega (arith, some, ap (λ (f : Frame). f.ticket) e))
      by caller some ticket (waits call w) = absurd (omega (arith, some, ap (λ (f : Frame). f.ticket) w.is))
      by caller some ticket (works call e w) = w.own_names name found.object found.there (sym ticket)

  makes_new : (caller kind : ℕ) (name : Name) → due plan (frame_of core.world caller) ≡ Makes name kind → IsHidden name × (¬ (IsGiven core name))
  makes_new caller kind name = by (due plan (frame_of core.world caller)) (why.why plan (frame_of core.world caller))
    where
      new : (name : Name) → next_name (frame_of core.world caller) ≡ name → IsEntered (frame_of core.world caller) → IsHidden name × (¬ (IsGiven core name))
      new name same some =
          let ticket = ap (λ (n : Name). n.ticket) same in
          (omega (arith, ticket, some), λ given. let few = given.made caller some ticket in omega (arith, few, ap (λ (n : Name). n.index) same))

      by : (d : Due) → Why plan (frame_of core.world caller) d → d ≡ Makes name kind → IsHidden name × (¬ (IsGiven core name))
      by d why.idles f = absurd (cc)
      by d (why.reserves tidy stage few) f = absurd (cc)
      by d (why.takes_root number tidy stage next) f = absurd (cc)
      by d (why.enters tidy stage next) f = absurd (cc)
      by d (why.reads_code local field n at to) f = absurd (cc)
      by d (why.reads_first field n booked given at hand) f = absurd (cc)
      by d (why.writes_code local field content n at to) f = absurd (cc)
      by d (why.writes_first field n target value booked given at hand to may) f = absurd (cc)
      by d (why.takes_code n at to other) f = absurd (cc)
      by d (why.takes_first field n target value booked given at hand to other) f = absurd (cc)
      by d (why.lets_go n rest first what) f = absurd (cc)
      by d (why.gives_up n booked given gone) f = absurd (cc)
      by d (why.seals end entry rest tidy ended null entries) f = absurd (cc)
      by d (why.makes made at few) f = new name (named f) (works_running plan core calls caller is kept.lawful kept.sound at.running).1
        where
          named : {n m : Name} {k l : ℕ} → Makes n k ≡ Makes m l → n ≡ m
          named e = cc
      by d (why.finishes end tidy stage null gone) f = absurd (cc)

pub names_are_given_once : NamesAreGivenOnce
names_are_given_once plan core calls is reached =
    let kept = lawful_always plan core calls is reached in
    record {
      there = there_given plan core calls is kept;
      steps = λ caller after answer name steps given. step_given plan core name given caller after (step_is plan core caller after answer steps);
      begins = λ caller call name given. given_on core (with_call core caller call) caller (begun call (frame_of core.world caller)) name (omega arith) refl (λ some ticket. absurd (omega (arith, some))) given;
      makes = makes_new plan core calls is kept;
    }
