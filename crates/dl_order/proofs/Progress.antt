-- Where some caller has a call in hand, some caller does not wait.
use Rattle.std.proofs.Common.{◌≡◌, ◌≢◌, ◌⊎◌, inl, inr, ℕ, zero, suc, ◌+◌, ◌<◌, List, [], ◌∷◌, Option, Some, None, refl, sym, ap, subst, ◌∙◌, arith}
use Rattle.std.specs.Prelude.{slice_get, sum_by}
use Rattle.std.specs.Option.{option_map, option_map_or}
use Rattle.std.specs.FinMap as finite
use Rattle.std.proofs.lemmas.List.Sums.{get_or-le-sum_by}
use Rattle.dl_ir.specs.declared.names.Name.{Name}
use Rattle.dl_ir.specs.declared.objects.Obj.{Obj}
use Rattle.dl_ir.specs.Heap.{root}
use Rattle.dl_ir.specs.declared.answers.End.{End}
use Rattle.dl_core.specs.declared.answers.Progress.{Progress}
use Rattle.dl_core.specs.declared.answers.Progress.TheVariants as progress
use Rattle.dl_core.specs.declared.answers.Event.TheVariants as events
use Rattle.dl_core.specs.declared.objects.Mark.{Mark}
use Rattle.dl_core.specs.declared.objects.Mark.TheVariants as marks
use Rattle.dl_core.specs.declared.objects.Object.{Object}
use Rattle.dl_core.specs.declared.stages.Stage.{Stage}
use Rattle.dl_core.specs.declared.stages.Stage.TheVariants as stages
use Rattle.dl_core.specs.Heaps.{plain_object, IsHeld}
use Rattle.dl_core.specs.Plans.{Plan, IsPlan, roots_of}
use Rattle.dl_core.specs.Frames.{Frame, IsEntered, idle}
use Rattle.dl_core.specs.declared.dues.Due.TheVariants.{Reserves, TakesRoot, Enters}
use Rattle.dl_core.specs.LocalSteps.{due}
use Rattle.dl_core.specs.Events.{Acted, act, take_root, took_root, with_mark}
use Rattle.dl_core.specs.Steps.{Alone, over, then_on, InTurn, none, next}
use Rattle.dl_core.specs.Core.{Core, Shared, frame_of, rules_of, acted, with_event, asks, enters, step_due, step}
use Rattle.dl_core.specs.Reached.{Calls, IsReached}
use Rattle.dl_core.specs.Reach.{target_of_take}
use Rattle.dl_core.specs.Sound.{Stands, idles, waits, works, HasCall}
use Rattle.dl_core.proofs.Diamond.{step→moves}
use Rattle.dl_core.proofs.Names.{no_some}
use Rattle.dl_core.proofs.Plain.{get_plain}
use Rattle.dl_core.proofs.CalledRoots.{root_of_call}
use Rattle.dl_core.proofs.LawfulAlways.{lawful_always}
use Rattle.dl_order.specs.Measure.{SomeoneMoves}
use Rattle.dl_order.proofs.Always.{serial_on}
use Rattle.dl_order.proofs.Serial.{IsRow, IsCalledFor, for_places, for_a_root, for_a_ticket, called_for, waiting_due, not_called_past}
use Rattle.dl_order.proofs.Waits.{for_roots}
use Rattle.dl_order.proofs.Worlds.{stands_of, nowhere_unentered, unentered, moves_step}

-- ---- someone moves

module _ (plan : Plan) (is : IsPlan plan) (core : Core) (calls : Calls) (reached : IsReached plan core calls) where
  abbrev MovesNow : Type 0
  MovesNow = (mover : ℕ) × (after : Core) × (answer : Progress) × (step plan core mover ≡ Some (after, answer))

  first_runs : (caller : ℕ) (end : Shared) → IsEntered (frame_of core.world caller) → Alone (rules_of plan) caller core.world end → MovesNow
  first_runs caller end e (over f) = absurd (nowhere_unentered plan is core calls reached caller f e)
  first_runs caller end e (then_on {mid = on} s further) = let made = moves_step plan core caller on (step→moves (rules_of plan) core.world caller on s) in (caller, made.after, made.answer, made.steps)

  -- the number of the root that a caller with a call in hand takes next
  abbrev wanted : Frame → ℕ
  wanted frame = option_map_or (λ (n : ℕ). n) (slice_get (roots_of plan frame.call) frame.taken) 0

  pub stands_called : (caller : ℕ) → (frame_of core.world caller).stage ≡ stages.Called → (HasCall plan calls caller (frame_of core.world caller)) × ((frame_of core.world caller).ticket ≡ 0) × IsCalledFor plan (frame_of core.world caller) (due plan (frame_of core.world caller))
  stands_called caller called = by (stands_of plan is core calls reached caller)
    where
      clash : (s : Stage) → s ≡ stages.Called → s ≡ stages.Idle → ⊥
      clash s p q = cc

      by : Stands plan core.world.heap calls caller (frame_of core.world caller) → (HasCall plan calls caller (frame_of core.world caller)) × ((frame_of core.world caller).ticket ≡ 0) × IsCalledFor plan (frame_of core.world caller) (due plan (frame_of core.world caller))
      by (idles e) = absurd (clash (frame_of core.world caller).stage called (ap (λ (f : Frame). f.stage) e))
      by (waits call w) = (call, ap (λ (f : Frame). f.ticket) w.is, subst (IsCalledFor plan (frame_of core.world caller)) (sym (waiting_due plan (frame_of core.world caller) w.is)) (called_for plan (frame_of core.world caller)))
      by (works call e w) = absurd (running (frame_of core.world caller).stage called w.stage)
        where
          running : (s : Stage) → s ≡ stages.Called → (s ≡ stages.Running) ⊎ ((end : End) × (s ≡ stages.Ended end)) → ⊥
          running s p (inl q) = cc
          running s p (inr q) = not_ended s p q.0 q.1
            where
              not_ended : (s : Stage) → s ≡ stages.Called → (end : End) → s ≡ stages.Ended end → ⊥
              not_ended s p end q = cc

  -- a root that a caller wants is there, and is not sealed
  module _ (nobody : (caller : ℕ) → IsEntered (frame_of core.world caller) → ⊥) where
    zero_ticket : (caller : ℕ) → (frame_of core.world caller).ticket ≡ 0
    zero_ticket caller = by (frame_of core.world caller).ticket (nobody caller)
      where
        by : (n : ℕ) → (0 < n → ⊥) → n ≡ 0
        by n no_more = omega (arith, no_more)

    holder_called : (holder : ℕ) (name : Name) → IsHeld core.world.heap holder name → (frame_of core.world holder).stage ≡ stages.Called
    holder_called holder name held = elim (unentered plan core.world.heap calls holder (frame_of core.world holder) (stands_of plan is core calls reached holder) (zero_ticket holder)) [
      | inl i ↦ absurd ((lawful_always plan core calls is reached).lawful.who_holds.idle holder name i held)
      | inr called ↦ called
    ]

    -- a caller with a call in hand: someone moves, or it waits for one that takes a higher root
    data Turn (caller : ℕ) : Type 0 where
      someone : MovesNow → Turn caller
      behind_one : (holder : ℕ) → (frame_of core.world holder).stage ≡ stages.Called → wanted (frame_of core.world caller) < wanted (frame_of core.world holder) → Turn caller

    wanted_is : (frame : Frame) (number : ℕ) → slice_get (roots_of plan frame.call) frame.taken ≡ Some number → wanted frame ≡ number
    wanted_is frame number there = ap (λ (o : Option ℕ). option_map_or (λ (n : ℕ). n) o 0) there

    asks_moves : (caller need : ℕ) → due plan (frame_of core.world caller) ≡ Reserves need → MovesNow
    asks_moves caller need e = (caller, (asks core caller (frame_of core.world caller) need).0, (asks core caller (frame_of core.world caller) need).1, ap (step_due plan core caller (frame_of core.world caller)) e)

    enters_moves : (caller : ℕ) → due plan (frame_of core.world caller) ≡ Enters → MovesNow
    enters_moves caller e = (caller, (enters plan core caller (frame_of core.world caller)).0, (enters plan core caller (frame_of core.world caller)).1, ap (step_due plan core caller (frame_of core.world caller)) e)

    -- a caller whose root another holds
    blocked : (caller number holder : ℕ) → wanted (frame_of core.world caller) ≡ number → IsHeld core.world.heap holder (root number) → Turn caller
    blocked caller number holder here held =
        let called = holder_called holder (root number) held in
        let stands = stands_called holder called in
        by called stands.1 stands.2
      where
        by : (frame_of core.world holder).stage ≡ stages.Called → (frame_of core.world holder).ticket ≡ 0 → IsCalledFor plan (frame_of core.world holder) (due plan (frame_of core.world holder)) → Turn caller
        by called z (for_places need e all few) = someone (asks_moves holder need e)
        by called z (for_a_ticket e enough no_more) = someone (enters_moves holder e)
        by called z (for_a_root higher_one e there) =
            let higher = for_roots plan core calls holder is (lawful_always plan core calls is reached) (root higher_one) z (ap target_of_take e) in
            behind_one holder called (omega (arith, (higher.1 (root number) held).1, here, wanted_is (frame_of core.world holder) higher_one there))

    turn_of : (caller : ℕ) → (frame_of core.world caller).stage ≡ stages.Called → Turn caller
    turn_of caller called = let stands = stands_called caller called in by stands.0 stands.2
      where
        at_root : (number : ℕ) → due plan (frame_of core.world caller) ≡ TakesRoot number → slice_get (roots_of plan (frame_of core.world caller).call) (frame_of core.world caller).taken ≡ Some number
            → (object : Object) → finite.get core.world.heap (root number) ≡ Some object → (mark : Mark) → object.mark ≡ mark → Turn caller
        at_root number takes there object at marks.Free m =
            let taken : Acted = (took_root number object.kind (frame_of core.world caller), Some (with_mark (marks.Held caller) object)) in
            someone (
              caller,
              acted core caller (root number) taken,
              progress.Moved (events.TakeRoot number),
              ap (step_due plan core caller (frame_of core.world caller)) takes
                  ∙ ap (λ o. with_event core caller (root number) (Some (events.TakeRoot number)) (act plan caller (frame_of core.world caller) (TakesRoot number) o)) at
                  ∙ ap (λ k. with_event core caller (root number) (Some (events.TakeRoot number)) (take_root caller number (frame_of core.world caller) object k)) m,
            )
        at_root number takes there object at (marks.Sealed ticket) m = absurd (let hidden = ((lawful_always plan core calls is reached).sound.tickets.seals (root number) object ticket at m).1 in omega (arith, hidden))
        at_root number takes there object at (marks.Held holder) m = blocked caller number holder (wanted_is (frame_of core.world caller) number there) (record { object = object; there = at; held = m })

        found : (number : ℕ) → due plan (frame_of core.world caller) ≡ TakesRoot number → slice_get (roots_of plan (frame_of core.world caller).call) (frame_of core.world caller).taken ≡ Some number
            → (old : Option Object) → finite.get core.world.heap (root number) ≡ old → (o : Obj) → option_map plain_object old ≡ Some o → Turn caller
        found number takes there None at o e = absurd (no_some e)
        found number takes there (Some object) at o e = at_root number takes there object at object.mark refl

        by : HasCall plan calls caller (frame_of core.world caller) → IsCalledFor plan (frame_of core.world caller) (due plan (frame_of core.world caller)) → Turn caller
        by call (for_places need e all few) = someone (asks_moves caller need e)
        by call (for_a_ticket e enough no_more) = someone (enters_moves caller e)
        by call (for_a_root number e there) =
            let root_is = root_of_call plan (frame_of core.world caller).call (frame_of core.world caller).taken number call.fits there in
            let o = (lawful_always plan core calls is reached).sound.heap.roots root_is.0 (root number) root_is.1 in
            found number e there (finite.get core.world.heap (root number)) refl o.0 (sym (get_plain core.world.heap (root number)) ∙ o.1)

    -- roots rise along those that wait, and there are no more of them than the callers want
    chain : (fuel caller : ℕ) → (frame_of core.world caller).stage ≡ stages.Called → sum_by wanted core.world.frames < wanted (frame_of core.world caller) + fuel → MovesNow
    chain zero caller called enough = absurd (let within = get_or-le-sum_by wanted core.world.frames caller idle (not_called_past plan is core.world caller called) in omega (arith, within, enough))
    chain (suc fuel) caller called enough = elim (turn_of caller called) [
      | someone moves ↦ moves
      | behind_one holder holder_is lt ↦ chain fuel holder holder_is (omega (arith, lt, enough))
    ]

    called_moves : (caller : ℕ) → (frame_of core.world caller).stage ≡ stages.Called → MovesNow
    called_moves caller called = chain (sum_by wanted core.world.frames + 1) caller called (omega arith)

  someone_here : (caller : ℕ) → (frame_of core.world caller).stage ≢ stages.Idle → MovesNow
  someone_here caller busy = let serial = serial_on plan is core calls reached in by serial.end serial.callers serial.row serial.runs
    where
      by : (end : Shared) (callers : List ℕ) → IsRow core.world core.clock callers → InTurn (rules_of plan) callers core.world end → MovesNow
      by end [] row none =
          let nobody : (c : ℕ) → IsEntered (frame_of core.world c) → ⊥ = λ c e. row.all c e in
          elim (unentered plan core.world.heap calls caller (frame_of core.world caller) (stands_of plan is core calls reached caller) (zero_ticket nobody caller)) [
            | inl i ↦ absurd (busy i)
            | inr called ↦ called_moves nobody caller called
          ]
      by end (first ∷ rest) row (next {mid = mid} run more) = first_runs first mid row.entered.0 run

pub someone_moves : SomeoneMoves
someone_moves plan core calls caller is reached busy = someone_here plan is core calls reached caller busy
