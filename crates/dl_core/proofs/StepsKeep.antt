-- Every step of a caller keeps all that holds.
use Rattle.std.proofs.Common.{◌≡◌, ◌<◌, ◌≤◌, ℕ, sym, ap, subst, ◌∙◌, []}
use Rattle.dl_ir.specs.declared.answers.End.{End}
use Rattle.dl_core.specs.declared.stages.Stage.TheVariants as stages
use Rattle.dl_core.specs.Plans.{Plan, IsPlan, allocs_of}
use Rattle.dl_core.specs.Frames.{Frame}
use Rattle.dl_core.specs.declared.dues.Due.{Due}
use Rattle.dl_core.specs.declared.dues.Due.TheVariants.{Reserves, Enters, Finishes}
use Rattle.dl_core.specs.LocalSteps.{due}
use Rattle.dl_core.specs.Core.{Core, frame_of, reserves, refuses, enters, finishes}
use Rattle.dl_core.specs.Reached.{Calls}
use Rattle.dl_core.specs.Laws.{IsKept, StepsKeep}
use Rattle.dl_core.proofs.Events.{works_ended}
use Rattle.dl_core.proofs.EnterKeeps.{kept}
use Rattle.dl_core.proofs.FinishKeeps.{finish_kept}
use Rattle.dl_core.proofs.Machine as machine
use Rattle.dl_core.proofs.Machine.{StepIs, step_is}
use Rattle.dl_core.proofs.RefuseKeeps.{refuse_kept}
use Rattle.dl_core.proofs.ReserveKeeps.{reserve_kept}
use Rattle.dl_core.proofs.TouchesKeep.{touch_keeps}
use Rattle.dl_core.proofs.Why as why
use Rattle.dl_core.proofs.Why.{Why}

module _ (plan : Plan) (core : Core) (calls : Calls) (caller : ℕ) (is : IsPlan plan) (all : IsKept plan core calls) where
  same_need : {a b : ℕ} → Reserves a ≡ Reserves b → a ≡ b
  same_need e = cc

  same_end : {a b : End} → Finishes a ≡ Finishes b → a ≡ b
  same_end e = cc

  abbrev frame : Frame
  frame = frame_of core.world caller

  -- why a reservation is due
  record Asks (need : ℕ) : Type 0 where
    pub tidy : frame.loose ≡ []
    pub called : frame.stage ≡ stages.Called
    pub few : frame.spares < allocs_of plan frame.call
    pub is_need : allocs_of plan frame.call ≡ need

  asks : (need : ℕ) → due plan frame ≡ Reserves need → Asks need
  asks need e = by (due plan frame) (why.why plan frame) e
    where
      by : (d : Due) → Why plan frame d → d ≡ Reserves need → Asks need
      by d why.idles f = absurd (cc)
      by d (why.reserves tidy stage few) f = record { tidy = tidy; called = stage; few = few; is_need = same_need f }
      by d (why.takes_root number tidy stage next) f = absurd (cc)
      by d (why.enters tidy stage next) f = absurd (cc)
      by d (why.reads_code local field n at to) f = absurd (cc)
      by d (why.reads_first field n booked given at hand) f = absurd (cc)
      by d (why.writes_code local field content n at to) f = absurd (cc)
      by d (why.writes_first field n target value booked given at hand to may) f = absurd (cc)
      by d (why.takes_code n at to other) f = absurd (cc)
      by d (why.takes_first field n target value booked given at hand to other) f = absurd (cc)
      by d (why.lets_go n rest first what) f = absurd (cc)
      by d (why.gives_up n booked given none) f = absurd (cc)
      by d (why.seals end entry rest tidy ended null entries) f = absurd (cc)
      by d (why.makes kind at few) f = absurd (cc)
      by d (why.finishes end tidy stage null none) f = absurd (cc)

  entering : due plan frame ≡ Enters → IsKept plan (enters plan core caller frame).0 calls
  entering e = by (due plan frame) (why.why plan frame) e
    where
      by : (d : Due) → Why plan frame d → d ≡ Enters → IsKept plan (enters plan core caller frame).0 calls
      by d why.idles f = absurd (cc)
      by d (why.reserves tidy stage few) f = absurd (cc)
      by d (why.takes_root number tidy stage next) f = absurd (cc)
      by d (why.enters tidy stage next) f = kept plan core calls caller is all.lawful all.sound e tidy stage next
      by d (why.reads_code local field n at to) f = absurd (cc)
      by d (why.reads_first field n booked given at hand) f = absurd (cc)
      by d (why.writes_code local field content n at to) f = absurd (cc)
      by d (why.writes_first field n target value booked given at hand to may) f = absurd (cc)
      by d (why.takes_code n at to other) f = absurd (cc)
      by d (why.takes_first field n target value booked given at hand to other) f = absurd (cc)
      by d (why.lets_go n rest first what) f = absurd (cc)
      by d (why.gives_up n booked given none) f = absurd (cc)
      by d (why.seals end entry rest tidy ended null entries) f = absurd (cc)
      by d (why.makes kind at few) f = absurd (cc)
      by d (why.finishes end tidy stage null none) f = absurd (cc)

  finishing : (end : End) → due plan frame ≡ Finishes end → IsKept plan (finishes core caller frame end).0 calls
  finishing end e = by (due plan frame) (why.why plan frame) e
    where
      by : (d : Due) → Why plan frame d → d ≡ Finishes end → IsKept plan (finishes core caller frame end).0 calls
      by d why.idles f = absurd (cc)
      by d (why.reserves tidy stage few) f = absurd (cc)
      by d (why.takes_root number tidy stage next) f = absurd (cc)
      by d (why.enters tidy stage next) f = absurd (cc)
      by d (why.reads_code local field n at to) f = absurd (cc)
      by d (why.reads_first field n booked given at hand) f = absurd (cc)
      by d (why.writes_code local field content n at to) f = absurd (cc)
      by d (why.writes_first field n target value booked given at hand to may) f = absurd (cc)
      by d (why.takes_code n at to other) f = absurd (cc)
      by d (why.takes_first field n target value booked given at hand to other) f = absurd (cc)
      by d (why.lets_go n rest first what) f = absurd (cc)
      by d (why.gives_up n booked given none) f = absurd (cc)
      by d (why.seals end' entry rest tidy ended null entries) f = absurd (cc)
      by d (why.makes kind at few) f = absurd (cc)
      by d (why.finishes end' tidy ended null none) f = finish_kept plan core calls caller is all.lawful all.sound end (works_ended plan core calls caller is all.lawful all.sound end' ended) none

  by_step : (after : Core) → StepIs plan core caller after → IsKept plan after calls
  by_step after (machine.reserves_now need e room is') =
      let a = asks need e in
      subst (λ c. IsKept plan c calls) (ap (λ n. (reserves core caller frame n).0) a.is_need ∙ sym is')
      (reserve_kept plan core calls caller is all.lawful all.sound a.tidy a.called a.few (subst (λ n. n ≤ core.pool.free) (sym a.is_need) room))
  by_step after (machine.refuses_now need e short is') =
      let a = asks need e in
      subst (λ c. IsKept plan c calls) (ap (λ n. (refuses core caller frame n).0) a.is_need ∙ sym is')
      (refuse_kept plan core calls caller is all.lawful all.sound a.tidy a.called a.few (subst (λ n. core.pool.free < n) (sym a.is_need) short))
  by_step after (machine.enters_now e is') = subst (λ c. IsKept plan c calls) (sym is') (entering e)
  by_step after (machine.finishes_now end e is') = subst (λ c. IsKept plan c calls) (sym is') (finishing end e)
  by_step after (machine.touches_one name at outcome acts is') = subst (λ c. IsKept plan c calls) (sym is') (touch_keeps plan core calls caller is all.lawful all.sound name at outcome acts)

-- every step keeps all that holds
pub steps_keep : StepsKeep
steps_keep plan core next calls caller answer is all steps = by_step plan core calls caller is all next (step_is plan core caller next answer steps)
