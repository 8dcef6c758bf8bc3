-- Every state to which a run comes is serial.
use Rattle.std.proofs.Common.{◌≡◌, ℕ, ◌+◌, [], Some, refl, sym, ap, subst, ◌∙◌, arith}
use Rattle.std.specs.FinMap as finite
use Rattle.std.proofs.lemmas.List.{get_or-set_same}
use Rattle.dl_ir.specs.declared.answers.End.{End}
use Rattle.dl_ir.specs.declared.names.Name.{Name}
use Rattle.dl_shape.specs.Pool.{ReturnsFit}
use Rattle.dl_shape.specs.Replay.{IsLegalFrom, greatest_ticket}
use Rattle.dl_core.specs.declared.stages.Stage.TheVariants as stages
use Rattle.dl_core.specs.Heaps.{plain, marked}
use Rattle.dl_core.specs.Plans.{Plan, IsPlan}
use Rattle.dl_core.specs.Frames.{Frame, IsEntered, idle}
use Rattle.dl_core.specs.declared.dues.Due.{Due}
use Rattle.dl_core.specs.declared.dues.Due.TheVariants.{Reserves, TakesRoot, Finishes}
use Rattle.dl_core.specs.LocalSteps.{due}
use Rattle.dl_core.specs.Events.{aim, begun, reserved, refused, finished}
use Rattle.dl_core.specs.Steps.{none}
use Rattle.dl_core.specs.Core.{Core, Shared, frame_of, rules_of, aim_of, reserves, refuses, finishes, acted, step, fresh, with_call}
use Rattle.dl_core.specs.Reached.{Calls, IsReached, no_calls, with_begun, starts, begins, steps}
use Rattle.dl_core.specs.Sound.{Stands, idles, waits, works}
use Rattle.dl_order.specs.Serial.{history_of, SerialAlways}
use Rattle.dl_core.proofs.Fresh.{fresh_frame}
use Rattle.dl_core.proofs.Machine.{StepIs, reserves_now, refuses_now, enters_now, finishes_now, touches_one, step_is, touch_moves, finish_moves}
use Rattle.dl_core.proofs.Names.{no_some}
use Rattle.dl_core.proofs.Plain.{plain_marked}
use Rattle.dl_core.proofs.LawfulAlways.{lawful_always}
use Rattle.dl_order.specs.Lengths.{steps_in_turn}
use Rattle.dl_order.proofs.Entering.{enters_on}
use Rattle.dl_order.proofs.Finishing.{row_finishes}
use Rattle.dl_order.proofs.Runs.{turn_frame}
use Rattle.dl_order.proofs.Histories.{StandsIn, begun_stands, history_none}
use Rattle.dl_order.proofs.Keeping.{touch_one}
use Rattle.dl_order.proofs.Serial.{none_entered, IsLeft, left_of, serial_left, row_runs, IsReplayOf, replay_as, IsSerialOn, IsCalledFor, for_places, for_a_root, for_a_ticket, called_for, waiting_due, not_called_past, aside, goes_on, is_over, takes_a_root}
use Rattle.dl_order.proofs.Worlds.{stands_of, nowhere_unentered, has_frame, idle_rests}

module _ (plan : Plan) (is : IsPlan plan) where
  same_calls : (calls : Calls) → StandsIn calls calls
  same_calls calls caller index call e = e

  fresh_serial : IsSerialOn plan (fresh plan) (no_calls plan)
  fresh_serial = record {
    end = (fresh plan).world;
    callers = [];
    row = record {
      entered = tt;
      low = tt;
      rises = tt;
      all = λ caller e. absurd (omega (arith, e, ap (λ (f : Frame). f.ticket) (fresh_frame plan is caller)));
    };
    runs = none;
    replay = replay_as plan (no_calls plan) (greatest_ticket plan.heap) plan.heap (plain (marked plan.heap)) [] (history_of (fresh plan).world) (plain_marked plan.heap)
        (history_none (fresh plan).world (λ caller. ap (λ (f : Frame). f.finished) (fresh_frame plan is caller)))
        (record { heap_is = refl; legal = IsLegalFrom.ends; returns = ReturnsFit.ends; clock_is = omega arith });
  }

  -- a caller that asks for places
  pub asks_when : (core : Core) (calls : Calls) (caller need : ℕ) → IsReached plan core calls → due plan (frame_of core.world caller) ≡ Reserves need → ((frame_of core.world caller).ticket ≡ 0) × ((frame_of core.world caller).stage ≡ stages.Called)
  asks_when core calls caller need reached asks = by (stands_of plan is core calls reached caller)
    where
      by : Stands plan core.world.heap calls caller (frame_of core.world caller) → ((frame_of core.world caller).ticket ≡ 0) × ((frame_of core.world caller).stage ≡ stages.Called)
      by (idles e) = absurd (let nothing = sym (ap (due plan) e) ∙ asks in cc)
      by (waits call w) = (ap (λ (f : Frame). f.ticket) w.is, ap (λ (f : Frame). f.stage) w.is)
      by (works call e w) = absurd (nowhere_unentered plan is core calls reached caller (ap aim_of asks) e)

  -- a caller that finishes
  pub finishes_when : (core : Core) (calls : Calls) (caller : ℕ) (end : End) → IsReached plan core calls → due plan (frame_of core.world caller) ≡ Finishes end → IsEntered (frame_of core.world caller)
  finishes_when core calls caller end reached over = by (stands_of plan is core calls reached caller)
    where
      never : {d : Due} → IsCalledFor plan (frame_of core.world caller) d → d ≡ Finishes end → ⊥
      never (for_places need e all few) f = cc
      never (for_a_root number e there) f = cc
      never (for_a_ticket e enough no_more) f = cc

      by : Stands plan core.world.heap calls caller (frame_of core.world caller) → IsEntered (frame_of core.world caller)
      by (idles e) = absurd (let nothing = sym (ap (due plan) e) ∙ over in cc)
      by (waits call w) = absurd (never (called_for plan (frame_of core.world caller)) (sym (waiting_due plan (frame_of core.world caller) w.is) ∙ over))
      by (works call e w) = e

  -- a caller that touches an object has entered, or takes a root
  pub data Touches (core : Core) (caller : ℕ) : Type 0 where
    runs_on : IsEntered (frame_of core.world caller) → Touches core caller
    at_root : (number : ℕ) → due plan (frame_of core.world caller) ≡ TakesRoot number → (frame_of core.world caller).ticket ≡ 0 → (frame_of core.world caller).stage ≡ stages.Called → Touches core caller

  pub touches_when : (core : Core) (calls : Calls) (caller : ℕ) (name : Name) → IsReached plan core calls → aim (due plan (frame_of core.world caller)) ≡ Some name → Touches core caller
  touches_when core calls caller name reached at = by (stands_of plan is core calls reached caller)
    where
      by_due : {d : Due} → IsCalledFor plan (frame_of core.world caller) d → due plan (frame_of core.world caller) ≡ d → (frame_of core.world caller).ticket ≡ 0 → (frame_of core.world caller).stage ≡ stages.Called → Touches core caller
      by_due (for_places need e all few) d_is z called = absurd (no_some (sym (ap aim (d_is ∙ e)) ∙ at))
      by_due (for_a_root number e there) d_is z called = at_root number (d_is ∙ e) z called
      by_due (for_a_ticket e enough no_more) d_is z called = absurd (no_some (sym (ap aim (d_is ∙ e)) ∙ at))

      by : Stands plan core.world.heap calls caller (frame_of core.world caller) → Touches core caller
      by (idles e) = absurd (no_some (sym (ap (λ f. aim (due plan f)) e) ∙ at))
      by (waits call w) = by_due (called_for plan (frame_of core.world caller)) (waiting_due plan (frame_of core.world caller) w.is) (ap (λ (f : Frame). f.ticket) w.is) (ap (λ (f : Frame). f.stage) w.is)
      by (works call e w) = runs_on e

  -- a step of a caller that has entered takes exactly one step off what is left
  pub one_less : (core after : Core) (calls : Calls) (caller : ℕ) (end : Shared) (count : ℕ) → IsReached plan core calls → IsLeft plan core.world core.clock end count → IsEntered (frame_of core.world caller) → StepIs plan core caller after
      → (after.clock ≡ core.clock) × ((less : ℕ) × (count ≡ less + 1) × IsLeft plan after.world after.clock end less)
  one_less core after calls caller end count reached left entered (reserves_now need asks enough is_after) = absurd (omega (arith, entered, (asks_when core calls caller need reached asks).0))
  one_less core after calls caller end count reached left entered (refuses_now need asks few is_after) = absurd (omega (arith, entered, (asks_when core calls caller need reached asks).0))
  one_less core after calls caller end count reached left entered (enters_now enters is_after) = absurd (nowhere_unentered plan is core calls reached caller (ap aim_of enters) entered)
  one_less core after calls caller end count reached left entered (finishes_now how over is_after) =
      subst (λ (c : Core). (c.clock ≡ core.clock) × ((less : ℕ) × (count ≡ less + 1) × IsLeft plan c.world c.clock end less)) (sym is_after) (
        refl,
        is_over plan is core calls caller (finishes core caller (frame_of core.world caller) how).0 end count _ _ reached left entered (finish_moves plan core caller how over) refl
            (get_or-set_same core.world.frames caller (finished how (frame_of core.world caller)) idle (has_frame plan is core.world caller entered)),
      )
  one_less core after calls caller end count reached left entered (touches_one name at outcome acts is_after) =
      subst (λ (c : Core). (c.clock ≡ core.clock) × ((less : ℕ) × (count ≡ less + 1) × IsLeft plan c.world c.clock end less)) (sym is_after) (
        refl,
        goes_on plan is core calls caller (acted core caller name outcome) end count reached left entered (touch_moves plan core caller name at outcome acts) refl
            (ap (λ (f : Frame). f.ticket) (get_or-set_same core.world.frames caller outcome.0 idle (has_frame plan is core.world caller entered))
            ∙ (touch_one plan caller (frame_of core.world caller) (due plan (frame_of core.world caller)) (finite.get core.world.heap name) outcome acts).0),
      )

  entered_step : (core after : Core) (calls : Calls) (caller : ℕ) → IsReached plan core calls → IsSerialOn plan core calls → IsEntered (frame_of core.world caller) → StepIs plan core caller after → IsSerialOn plan after calls
  entered_step core after calls caller reached serial entered step =
      let on = one_less core after calls caller serial.end (steps_in_turn (rules_of plan) serial.runs) reached (left_of plan core calls serial) entered step in
      serial_left plan after calls serial.end on.1.0 on.1.2 (subst (λ n. IsReplayOf plan calls n (plain serial.end.heap) (history_of serial.end)) (sym on.0) serial.replay)

  serial_step : (core after : Core) (calls : Calls) (caller : ℕ) → IsReached plan core calls → IsSerialOn plan core calls → StepIs plan core caller after → IsSerialOn plan after calls
  serial_step core after calls caller reached serial (reserves_now need asks enough is_after) =
      let when = asks_when core calls caller need reached asks in
      subst (λ c. IsSerialOn plan c calls) (sym is_after)
      (aside plan is core calls calls caller (reserved need (frame_of core.world caller)) (reserves core caller (frame_of core.world caller) need).0 serial (same_calls calls)
      (not_called_past plan is core.world caller when.1) when.0 when.0 refl refl refl)
  serial_step core after calls caller reached serial (refuses_now need asks few is_after) =
      let when = asks_when core calls caller need reached asks in
      subst (λ c. IsSerialOn plan c calls) (sym is_after)
      (aside plan is core calls calls caller (refused (frame_of core.world caller)) (refuses core caller (frame_of core.world caller) need).0 serial (same_calls calls)
      (not_called_past plan is core.world caller when.1) when.0 refl refl refl refl)
  serial_step core after calls caller reached serial (enters_now enters is_after) =
      subst (λ c. IsSerialOn plan c calls) (sym is_after) (enters_on plan is core calls caller reached serial enters)
  serial_step core after calls caller reached serial (finishes_now end over is_after) =
      entered_step core after calls caller reached serial (finishes_when core calls caller end reached over) (finishes_now end over is_after)
  serial_step core after calls caller reached serial (touches_one name at outcome acts is_after) = by (touches_when core calls caller name reached at)
    where
      by : Touches core caller → IsSerialOn plan after calls
      by (runs_on entered) = entered_step core after calls caller reached serial entered (touches_one name at outcome acts is_after)
      by (at_root number takes z called) =
          subst (λ c. IsSerialOn plan c calls) (sym is_after)
          (takes_a_root plan is core calls caller number (acted core caller name outcome) reached serial z called takes (touch_moves plan core caller name at outcome acts) refl)

  pub serial_on : (core : Core) (calls : Calls) → IsReached plan core calls → IsSerialOn plan core calls
  serial_on core calls starts = fresh_serial
  serial_on core calls (begins {core = before} {calls = so_far} caller call reached may) =
      let rests = idle_rests plan before.world.heap so_far caller (frame_of before.world caller) (stands_of plan is before so_far reached caller) may.idle in
      aside plan is before so_far (with_begun so_far caller call) caller (begun call (frame_of before.world caller)) (with_call before caller call) (serial_on before so_far reached) (begun_stands so_far caller call)
      (omega (arith, may.is_caller.to_last, (lawful_always plan before so_far is reached).sound.frames)) (ap (λ (f : Frame). f.ticket) rests) refl refl refl refl
  serial_on core calls (steps {core = before} caller answer reached e) =
      serial_step before core calls caller reached (serial_on before calls reached) (step_is plan before caller core answer e)

-- and so it is serial
pub serial_always : SerialAlways
serial_always plan core calls is reached =
    let serial = serial_on plan is core calls reached in
    record {
      end = serial.end;
      rests = record { callers = serial.callers; are = row_runs core.world core.clock serial.callers serial.row; runs = serial.runs };
      entered = row_finishes plan is calls core.clock core.world serial.end serial.callers (record { core = core; is = refl; clock_is = refl; reached = reached }) serial.row serial.runs;
      others = λ caller none_now. turn_frame (rules_of plan) serial.callers core.world serial.end serial.runs caller (none_entered core.world caller serial.callers none_now serial.row.entered);
      all = serial.replay.clock_is;
      heap = serial.replay.heap_is;
      legal = record { startable = is.start.startable; goes = serial.replay.legal };
      returns = serial.replay.returns;
    }
