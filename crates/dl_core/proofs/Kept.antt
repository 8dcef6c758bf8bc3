-- What local steps leave alone.
use Rattle.std.proofs.Common.{◌≡◌, ◌≤◌, arith, ℕ, ℤ, ◌-◌, true, false, List, [], ◌∷◌, ◌++◌, length, Option, Some, None, refl, subst, ◌∙◌}
use Rattle.std.specs.Prelude.{slice_get, slice_set, nat_lt, nat_le, ◌==◌, ◌&&◌, ◌||◌, Ok, Err, if◌then◌else◌}
use Rattle.std.specs.FinMap as finite
use Rattle.dl_ir.specs.declared.answers.End.{End}
use Rattle.dl_ir.specs.declared.answers.End.TheVariants as ends
use Rattle.dl_ir.specs.declared.names.Name.{Name}
use Rattle.dl_ir.specs.declared.names.Value.{Value}
use Rattle.dl_ir.specs.declared.names.Value.TheVariants.{Ref}
use Rattle.dl_ir.specs.Evaluation.{Number, Truth, number_of, value_of, holds_of}
use Rattle.dl_ir.specs.References.{target_in}
use Rattle.dl_instr.specs.declared.steps.Step.{Step}
use Rattle.dl_instr.specs.declared.steps.Step.TheVariants.{Read, Want, Set, Drop, Make, Eval, Write, Emit, Test, Jump, Give}
use Rattle.dl_instr.specs.declared.steps.Origin.TheVariants as origins
use Rattle.dl_core.specs.declared.stages.Booked.{Booked}
use Rattle.dl_core.specs.declared.stages.Stage.{Stage}
use Rattle.dl_core.specs.declared.stages.Stage.TheVariants as stages
use Rattle.dl_core.specs.Plans.{Plan, steps_of, allocs_of, reference_from}
use Rattle.dl_core.specs.Frames.{Frame, is_to_loosen, loosened, assigned, advanced, with_hand, ended, target_at, target_in_hand, has_booked}
use Rattle.dl_core.specs.declared.dues.Due.{Due}
use Rattle.dl_core.specs.declared.dues.Due.TheVariants.{Takes, Writes, Makes, LetsGo}
use Rattle.dl_core.specs.LocalSteps.{given_out, next_name, Next, Goes, Stops, on_number, on_object, on_truth, on_wanted, next_step, next_target, next_value, next_field, next_loose, next_local, next_stage, next_after, next, local_step, step_in, first_referring, ready}
use Rattle.std.proofs.lemmas.List.{length-append, length-set}
use Rattle.dl_core.specs.Shown.{IsTidy}
use Rattle.dl_core.proofs.Tidy.{loosened_tidy}
use Rattle.dl_core.proofs.LocalSteps.{ready_keeps}

-- the frames have the same call, ticket, places, book and deeds, and no number given out is taken back
abbrev pub IsSame : Frame → Frame → Type 0
IsSame before after = (after.call ≡ before.call) × (after.index ≡ before.index) × (after.taken ≡ before.taken) × (after.ticket ≡ before.ticket) × (after.made ≡ before.made) × (length before.emitted ≤ length after.emitted) × (after.spares ≡ before.spares)
    × (after.book ≡ before.book) × (after.breach ≡ before.breach) × (after.finished ≡ before.finished) × (length after.locals ≡ length before.locals) × (IsTidy before → IsTidy after)

pub itself : (frame : Frame) → IsSame frame frame
itself frame = (refl, refl, refl, refl, refl, omega arith, refl, refl, refl, refl, refl, λ tidy. tidy)

pub same_loosened : (target : Option Name) (frame : Frame) → IsSame frame (loosened target frame)
same_loosened None frame = itself frame
same_loosened (Some name) frame =
    elim (is_to_loosen frame name) as (λ b. is_to_loosen frame name ≡ b → IsSame frame (if b then record frame { loose = frame.loose ++ name ∷ [] } else frame)) [
      | true ↦ λ is. (refl, refl, refl, refl, refl, omega arith, refl, refl, refl, refl, refl, λ tidy. loosened_tidy frame name is tidy)
      | false ↦ λ is. itself frame
    ] refl

same_on : (a b c : Frame) → IsSame a b → IsSame b c → IsSame a c
same_on a b c p q = (q.0 ∙ p.0, q.1 ∙ p.1, q.2 ∙ p.2, q.3 ∙ p.3, q.4 ∙ p.4, omega (arith, p.5, q.5), q.6 ∙ p.6, q.7 ∙ p.7, q.8 ∙ p.8, q.9 ∙ p.9, q.10 ∙ p.10, λ tidy. q.11 (p.11 tidy))

pub same_assigned : (local : ℕ) (value : Value) (frame : Frame) → IsSame frame (assigned local value frame)
same_assigned local value frame =
    let set = record frame { locals = slice_set frame.locals local value } in
    same_on frame set (assigned local value frame) (refl, refl, refl, refl, refl, omega arith, refl, refl, refl, refl, length-set frame.locals local value, λ tidy. tidy) (same_loosened (target_at frame local) set)

abbrev Keeps : Frame → Next → Type 0
Keeps frame (Goes after) = IsSame frame after
Keeps frame (Stops due) = Unit {0}

module _ (plan : Plan) (frame : Frame) where
  one_more : (numbers : List ℤ) → length numbers ≤ length (numbers ++ number_of frame.hand ∷ [])
  one_more numbers = omega (arith, length-append numbers (number_of frame.hand ∷ []))

  keeps_number : (number : Number) (goes : ℤ → Frame) → ((n : ℤ) → IsSame frame (goes n)) → Keeps frame (on_number number frame goes)
  keeps_number (Ok n) goes same = same n
  keeps_number (Err fault) goes same = itself frame

  keeps_object : (target : Option Name) (what : Name → Due) → Keeps frame (on_object target frame what)
  keeps_object None what = itself frame
  keeps_object (Some name) what = tt

  keeps_truth : (truth : Truth) (place : ℕ) (from : Frame) → IsSame frame from → Keeps frame (on_truth truth place from)
  keeps_truth (Ok true) place from same = same
  keeps_truth (Ok false) place from same = same
  keeps_truth (Err fault) place from same = same

  keeps_step : (step : Option Step) → Keeps frame (next_step plan frame step)
  keeps_step None = itself frame
  keeps_step (Some (Read local field)) = keeps_object (target_at frame local) _
  keeps_step (Some Want) = by (target_in_hand frame)
    where
      by : (target : Option Name) → Keeps frame (on_wanted target frame)
      by None = itself frame
      by (Some name) = elim (has_booked frame name) as (λ b. Keeps frame (if b then Goes (advanced frame) else Stops (Takes name))) [ true ↦ itself frame | false ↦ tt ]
  keeps_step (Some (Set local origins.Hand)) = same_assigned local _ (advanced (with_hand None frame))
  keeps_step (Some (Set local (origins.Local other))) = same_assigned local _ (advanced frame)
  keeps_step (Some (Drop local)) = same_assigned local _ (advanced frame)
  keeps_step (Some (Make kind)) = elim (nat_le (allocs_of plan frame.call) frame.made) as (λ b. Keeps frame (if b then Goes (ended ends.Quota frame) else Stops (Makes (next_name frame) kind))) [ true ↦ itself frame | false ↦ tt ]
  keeps_step (Some (Eval value)) = keeps_number (value_of value frame.locals) _ (λ n. itself frame)
  keeps_step (Some (Write local field content)) = keeps_object (target_at frame local) _
  keeps_step (Some Emit) = elim (nat_le 16 (length frame.emitted)) as (λ b. Keeps frame (if b then Goes (ended ends.Emits frame) else Goes (given_out frame))) [
    | true ↦ itself frame
    | false ↦ (refl, refl, refl, refl, refl, one_more frame.emitted, refl, refl, refl, refl, refl, λ tidy. tidy)
  ]
  keeps_step (Some (Test c false place)) = keeps_truth (holds_of c frame.locals) place frame (itself frame)
  keeps_step (Some (Test c true place)) =
      elim (frame.turns == 0) as (λ b. Keeps frame (if b then Goes (ended ends.Fuel frame) else on_truth (holds_of c frame.locals) place (record frame { turns = frame.turns - 1 }))) [
        | true ↦ itself frame
        | false ↦ keeps_truth (holds_of c frame.locals) place (record frame { turns = frame.turns - 1 }) (itself frame)
      ]
  keeps_step (Some (Jump place)) = itself frame
  keeps_step (Some (Give value)) = keeps_number (value_of value frame.locals) _ (λ n. itself frame)

  keeps_local : (end : End) (local : Option ℕ) → Keeps frame (next_local frame end local)
  keeps_local end None = tt
  keeps_local end (Some local) = same_assigned local (Ref None) frame

  keeps_stage : (stage : Stage) → Keeps frame (next_stage plan frame stage)
  keeps_stage stages.Idle = tt
  keeps_stage stages.Called = tt
  keeps_stage stages.Running = keeps_step (slice_get (steps_of plan frame.call) frame.place)
  keeps_stage (stages.Ended end) = keeps_local end (first_referring 0 frame.locals)

  keeps_value : (name : Name) (field : ℕ) (hand : Option Value) → Keeps frame (next_value frame name field hand)
  keeps_value name field None = tt
  keeps_value name field (Some value) = by (target_in value)
    where
      by : (target : Option Name) → Keeps frame (next_target frame name field target)
      by None = itself frame
      by (Some target) = elim (has_booked frame target || frame.seen) as (λ b. Keeps frame (if b then Stops (Writes name field (Ref None)) else Stops (Takes target))) [ true ↦ tt | false ↦ tt ]

  keeps_field : (name : Name) (field : Option ℕ) → Keeps frame (next_field frame name field)
  keeps_field name None = tt
  keeps_field name (Some field) = keeps_value name field frame.hand

  keeps_loose : (name : Name) (booked : Option Booked) → Keeps frame (next_loose plan frame name booked)
  keeps_loose name None = tt
  keeps_loose name (Some booked) =
      elim (nat_lt 0 name.ticket && (booked.fields == 0)) as (λ b. Keeps frame (if b then next_field frame name (reference_from plan booked.kind frame.cursor) else Stops (LetsGo name))) [
        | true ↦ keeps_field name (reference_from plan booked.kind frame.cursor)
        | false ↦ tt
      ]

  keeps_after : (loose : List Name) → Keeps frame (next_after plan frame loose)
  keeps_after [] = keeps_stage frame.stage
  keeps_after (name ∷ names) = keeps_loose name (finite.get frame.book name)

  -- a local step leaves these alone
  pub step_same : (after : Frame) → local_step plan frame ≡ Some after → IsSame frame after
  step_same after e = by (next plan frame) (keeps_after frame.loose) e
    where
      by : (n : Next) → Keeps frame n → step_in n ≡ Some after → IsSame frame after
      by (Goes g) same e = let is : g ≡ after = cc in subst (IsSame frame) is same
      by (Stops due) same e = absurd (cc)

-- and so does making ready
pub ready_same : (plan : Plan) (frame : Frame) → IsSame frame (ready plan frame)
ready_same plan frame = ready_keeps plan (IsSame frame) (λ a b same e. same_on frame a b same (step_same plan a b e)) frame (itself frame)
