-- Every run ends.
use Rattle.std.proofs.Common.{◌≡◌, ◌≢◌, ◌⊎◌, List, [], ◌∷◌, get_or, refl, sym, ◌∙◌, inl, inr, ℕ, zero, suc, ◌+◌, ◌<◌, ◌≤◌, arith}
use Rattle.std.proofs.lemmas.Bool.{cases_lt}
use Rattle.dl_core.specs.Plans.{Plan, IsPlan}
use Rattle.dl_core.specs.declared.stages.Stage.{Stage}
use Rattle.dl_core.specs.declared.stages.Stage.TheVariants as stages
use Rattle.dl_core.specs.Frames.{Frame, idle}
use Rattle.dl_core.specs.Core.{Core, Shared, frame_of, with_call}
use Rattle.dl_core.specs.Reached.{Calls, IsReached, begins, steps, with_begun}
use Rattle.dl_order.specs.Serial.{Rests}
use Rattle.dl_core.specs.Machines.{AreAllIdle}
use Rattle.dl_order.specs.Measure.{calls_left, steps_before_entry, steps_to_end, IsEnding, ends, EachRunEnds, EachRunCanEnd}
use Rattle.dl_order.proofs.Always.{serial_always}
use Rattle.dl_order.proofs.Falls.{begins_fall, steps_fall}
use Rattle.dl_order.proofs.Measure.{one_step_less}
use Rattle.dl_order.proofs.Progress.{someone_moves}

module _ (plan : Plan) (is : IsPlan plan) where
  -- all states to which a run comes with fewer calls left end
  abbrev CallsEnd : ℕ → Type 0
  CallsEnd bound = (core : Core) (calls : Calls) → IsReached plan core calls → calls_left plan calls < bound → IsEnding plan core calls

  -- all with so many calls left at most, and fewer steps before entries
  abbrev EntriesEnd : ℕ → ℕ → Type 0
  EntriesEnd most bound = (core : Core) (calls : Calls) → IsReached plan core calls → calls_left plan calls ≤ most → steps_before_entry plan core.world < bound → IsEnding plan core calls

  -- all with so many of these at most, and fewer steps to the end of those that have entered
  abbrev StepsEnd : ℕ → ℕ → ℕ → Type 0
  StepsEnd most before bound = (core : Core) (calls : Calls) (end : Shared) → IsReached plan core calls → calls_left plan calls ≤ most → steps_before_entry plan core.world ≤ before → (rests : Rests plan core.world end) → steps_to_end rests < bound → IsEnding plan core calls

  by_steps : (most before : ℕ) → CallsEnd most → EntriesEnd most before → (bound : ℕ) → StepsEnd most before bound
  by_steps most before calls_end entries_end zero core calls end reached few low rests less = absurd (omega arith)
  by_steps most before calls_end entries_end (suc bound) core calls end reached few low rests less = ends
      (λ caller after answer e. elim (cases_lt 0 (frame_of core.world caller).ticket) [
        | inl entered ↦
            let on = one_step_less plan core after calls caller answer end is reached entered e rests in
            let same = (steps_fall plan core after calls caller answer is reached e).1 entered in
            by_steps most before calls_end entries_end bound after calls end (steps caller answer reached e) few (omega (arith, low, same)) on.0 (omega (arith, less, on.1))
        | inr le ↦
            let fell = (steps_fall plan core after calls caller answer is reached e).0 (omega (arith, le)) in
            entries_end after calls (steps caller answer reached e) few (omega (arith, low, fell))
      ])
      (λ caller call may. calls_end (with_call core caller call) (with_begun calls caller call) (begins caller call reached may) (omega (arith, few, begins_fall plan core calls caller call is reached may)))

  by_entries : (most : ℕ) → CallsEnd most → (bound : ℕ) → EntriesEnd most bound
  by_entries most calls_end zero core calls reached few less = absurd (omega arith)
  by_entries most calls_end (suc bound) core calls reached few less =
      let serial = serial_always plan core calls is reached in
      by_steps most bound calls_end (by_entries most calls_end bound) (steps_to_end serial.rests + 1) core calls serial.end reached few (omega (arith, less)) serial.rests (omega arith)

  by_calls : (bound : ℕ) → CallsEnd bound
  by_calls zero core calls reached less = absurd (omega arith)
  by_calls (suc bound) core calls reached less = by_entries bound (by_calls bound) (steps_before_entry plan core.world + 1) core calls reached (omega (arith, less)) (omega arith)

pub each_run_ends : EachRunEnds
each_run_ends plan core calls is reached = by_calls plan is (calls_left plan calls + 1) core calls reached (omega arith)

-- ---- and can be brought to its end

-- every caller is idle, or some caller is not
all_or_one : (frames : List Frame) → ((caller : ℕ) → (get_or frames caller idle).stage ≡ stages.Idle) ⊎ ((caller : ℕ) × ((get_or frames caller idle).stage ≢ stages.Idle))
all_or_one [] = inl (λ caller. refl)
all_or_one (frame ∷ frames) = by frame.stage refl (all_or_one frames)
  where
    busy : (s t : Stage) → s ≡ t → t ≢ stages.Idle → s ≢ stages.Idle
    busy s t same other e = other (sym same ∙ e)

    one : frame.stage ≢ stages.Idle → ((caller : ℕ) → (get_or (frame ∷ frames) caller idle).stage ≡ stages.Idle) ⊎ ((caller : ℕ) × ((get_or (frame ∷ frames) caller idle).stage ≢ stages.Idle))
    one other = inr (0, other)

    first_or : frame.stage ≡ stages.Idle → ((caller : ℕ) → (get_or frames caller idle).stage ≡ stages.Idle) → (caller : ℕ) → (get_or (frame ∷ frames) caller idle).stage ≡ stages.Idle
    first_or e rest zero = e
    first_or e rest (suc caller) = rest caller

    by : (s : Stage) → frame.stage ≡ s → ((caller : ℕ) → (get_or frames caller idle).stage ≡ stages.Idle) ⊎ ((caller : ℕ) × ((get_or frames caller idle).stage ≢ stages.Idle))
        → ((caller : ℕ) → (get_or (frame ∷ frames) caller idle).stage ≡ stages.Idle) ⊎ ((caller : ℕ) × ((get_or (frame ∷ frames) caller idle).stage ≢ stages.Idle))
    by stages.Idle e (inl rest) = inl (first_or e rest)
    by stages.Idle e (inr rest) = inr (suc rest.0, rest.1)
    by stages.Called e rest = one (busy frame.stage stages.Called e (λ f. cc))
    by stages.Running e rest = one (busy frame.stage stages.Running e (λ f. cc))
    by (stages.Ended end) e rest = one (busy frame.stage (stages.Ended end) e (λ f. cc))

module _ (plan : Plan) (is : IsPlan plan) where
  brought : (core : Core) (calls : Calls) → IsReached plan core calls → IsEnding plan core calls → (end : Core) × IsReached plan end calls × AreAllIdle end
  brought core calls reached (ends after_steps after_begins) = elim (all_or_one core.world.frames) [
    | inl resting ↦ (core, reached, resting)
    | inr busy ↦
        let moves = someone_moves plan core calls busy.0 is reached busy.1 in
        brought moves.1 calls (steps moves.0 moves.2 reached moves.3) (after_steps moves.0 moves.1 moves.2 moves.3)
  ]

pub each_run_can_end : EachRunCanEnd
each_run_can_end plan core calls is reached = brought plan is core calls reached (each_run_ends plan core calls is reached)
