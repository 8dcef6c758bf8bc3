-- A caller that has entered always has a step that comes next.
use Rattle.std.proofs.Common.{◌≡◌, ℕ, ℤ, ◌-◌, true, false, List, [], ◌∷◌, Option, Some, None, refl, length}
use Rattle.std.specs.Prelude.{slice_get, nat_lt, nat_le, ◌==◌, ◌&&◌, ◌||◌, Ok, Err, if◌then◌else◌}
use Rattle.std.specs.FinMap as finite
use Rattle.dl_ir.specs.declared.answers.End.{End}
use Rattle.dl_ir.specs.declared.answers.End.TheVariants as ends
use Rattle.dl_ir.specs.declared.names.Name.{Name}
use Rattle.dl_ir.specs.declared.names.Value.{Value}
use Rattle.dl_ir.specs.declared.names.Value.TheVariants.{Ref}
use Rattle.dl_ir.specs.Evaluation.{Number, Truth, value_of, holds_of}
use Rattle.dl_ir.specs.References.{target_in}
use Rattle.dl_instr.specs.declared.steps.Step.{Step}
use Rattle.dl_instr.specs.declared.steps.Step.TheVariants.{Read, Want, Set, Drop, Make, Eval, Write, Emit, Test, Jump, Give}
use Rattle.dl_instr.specs.declared.steps.Origin.TheVariants as origins
use Rattle.dl_core.specs.declared.stages.Booked.{Booked}
use Rattle.dl_core.specs.declared.stages.Stage.{Stage}
use Rattle.dl_core.specs.declared.stages.Stage.TheVariants as stages
use Rattle.dl_core.specs.Plans.{Plan, steps_of, allocs_of, reference_from}
use Rattle.dl_core.specs.Frames.{Frame, advanced, ended, target_at, target_in_hand, has_booked}
use Rattle.dl_core.specs.declared.dues.Due.{Due}
use Rattle.dl_core.specs.declared.dues.Due.TheVariants.{Takes, Writes, Makes, LetsGo}
use Rattle.dl_core.specs.LocalSteps.{given_out, next_name, Next, Goes, Stops, on_number, on_object, on_truth, on_wanted, next_step, next_target, next_value, next_field, next_loose, next_held, next_local, next_stage, next_after, next, step_in, due_in, due, first_referring, IsReady}
use Rattle.dl_core.specs.Steps.{Nowhere, Inside, At}
use Rattle.dl_core.specs.Core.{aim_of}

at_moves : (name : Name) → At name ≡ Nowhere → ⊥
at_moves name e = cc

inside_moves : Inside ≡ Nowhere → ⊥
inside_moves e = cc

-- what comes next is a local step, or an event that touches something
abbrev Moving : Next → Type 0
Moving (Goes after) = Unit {0}
Moving (Stops due) = aim_of due ≡ Nowhere → ⊥

module _ (plan : Plan) (frame : Frame) where
  on_a_number : (number : Number) (goes : ℤ → Frame) → Moving (on_number number frame goes)
  on_a_number (Ok n) goes = tt
  on_a_number (Err fault) goes = tt

  on_an_object : (target : Option Name) (what : Name → Due) → ((name : Name) → aim_of (what name) ≡ Nowhere → ⊥) → Moving (on_object target frame what)
  on_an_object None what moves = tt
  on_an_object (Some name) what moves = moves name

  on_a_truth : (truth : Truth) (place : ℕ) (from : Frame) → Moving (on_truth truth place from)
  on_a_truth (Ok holds) place from = tt
  on_a_truth (Err fault) place from = tt

  at_a_step : (step : Option Step) → Moving (next_step plan frame step)
  at_a_step None = tt
  at_a_step (Some (Read local field)) = on_an_object (target_at frame local) _ at_moves
  at_a_step (Some Want) = by (target_in_hand frame)
    where
      by : (target : Option Name) → Moving (on_wanted target frame)
      by None = tt
      by (Some name) = elim (has_booked frame name) as (λ b. Moving (if b then Goes (advanced frame) else Stops (Takes name))) [ true ↦ tt | false ↦ at_moves name ]
  at_a_step (Some (Set local origins.Hand)) = tt
  at_a_step (Some (Set local (origins.Local other))) = tt
  at_a_step (Some (Drop local)) = tt
  at_a_step (Some (Make kind)) = elim (nat_le (allocs_of plan frame.call) frame.made) as (λ b. Moving (if b then Goes (ended ends.Quota frame) else Stops (Makes (next_name frame) kind))) [ true ↦ tt | false ↦ at_moves (next_name frame) ]
  at_a_step (Some (Eval value)) = on_a_number (value_of value frame.locals) _
  at_a_step (Some (Write local field content)) = on_an_object (target_at frame local) _ at_moves
  at_a_step (Some Emit) = elim (nat_le 16 (length frame.emitted)) as (λ b. Moving (if b then Goes (ended ends.Emits frame) else Goes (given_out frame))) [ true ↦ tt | false ↦ tt ]
  at_a_step (Some (Test c false place)) = on_a_truth (holds_of c frame.locals) place frame
  at_a_step (Some (Test c true place)) =
      elim (frame.turns == 0) as (λ b. Moving (if b then Goes (ended ends.Fuel frame) else on_truth (holds_of c frame.locals) place (record frame { turns = frame.turns - 1 }))) [
        | true ↦ tt
        | false ↦ on_a_truth (holds_of c frame.locals) place (record frame { turns = frame.turns - 1 })
      ]
  at_a_step (Some (Jump place)) = tt
  at_a_step (Some (Give value)) = on_a_number (value_of value frame.locals) _

  at_the_end : (end : End) (local : Option ℕ) → Moving (next_local frame end local)
  at_the_end end None = by (finite.entries frame.book)
    where
      by : (entries : List (Name × Booked)) → aim_of (next_held end entries) ≡ Nowhere → ⊥
      by [] = inside_moves
      by (entry ∷ rest) = at_moves entry.0
  at_the_end end (Some local) = tt

  at_a_stage : (stage : Stage) → (stage ≡ stages.Idle → ⊥) → (stage ≡ stages.Called → ⊥) → Moving (next_stage plan frame stage)
  at_a_stage stages.Idle busy entered = absurd (busy refl)
  at_a_stage stages.Called busy entered = absurd (entered refl)
  at_a_stage stages.Running busy entered = at_a_step (slice_get (steps_of plan frame.call) frame.place)
  at_a_stage (stages.Ended end) busy entered = at_the_end end (first_referring 0 frame.locals)

  at_a_value : (name : Name) (field : ℕ) (hand : Option Value) → Moving (next_value frame name field hand)
  at_a_value name field None = at_moves name
  at_a_value name field (Some value) = by (target_in value)
    where
      by : (target : Option Name) → Moving (next_target frame name field target)
      by None = tt
      by (Some target) = elim (has_booked frame target || frame.seen) as (λ b. Moving (if b then Stops (Writes name field (Ref None)) else Stops (Takes target))) [ true ↦ at_moves name | false ↦ at_moves target ]

  at_a_field : (name : Name) (field : Option ℕ) → Moving (next_field frame name field)
  at_a_field name None = at_moves name
  at_a_field name (Some field) = at_a_value name field frame.hand

  at_a_loose : (name : Name) (booked : Option Booked) → Moving (next_loose plan frame name booked)
  at_a_loose name None = at_moves name
  at_a_loose name (Some booked) =
      elim (nat_lt 0 name.ticket && (booked.fields == 0)) as (λ b. Moving (if b then next_field frame name (reference_from plan booked.kind frame.cursor) else Stops (LetsGo name))) [
        | true ↦ at_a_field name (reference_from plan booked.kind frame.cursor)
        | false ↦ at_moves name
      ]

  always_moving : (frame.stage ≡ stages.Idle → ⊥) → (frame.stage ≡ stages.Called → ⊥) → (loose : List Name) → Moving (next_after plan frame loose)
  always_moving busy entered [] = at_a_stage frame.stage busy entered
  always_moving busy entered (name ∷ names) = at_a_loose name (finite.get frame.book name)

  -- the event that comes next of a caller that has entered touches an object, or is a finish
  pub entered_acts : IsReady plan frame → (frame.stage ≡ stages.Idle → ⊥) → (frame.stage ≡ stages.Called → ⊥) → aim_of (due plan frame) ≡ Nowhere → ⊥
  entered_acts ready busy entered nowhere = by (next plan frame) (always_moving busy entered frame.loose) ready nowhere
    where
      by : (n : Next) → Moving n → step_in n ≡ None → aim_of (due_in n) ≡ Nowhere → ⊥
      by (Goes after) moving r e = cc
      by (Stops d) moving r e = moving e
