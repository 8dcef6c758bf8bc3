-- Why an event comes next: what holds of a frame at which it does.
use Rattle.std.proofs.Common.{◌≡◌, ◌⊎◌, inl, inr, ℕ, ℤ, ◌-◌, ◌<◌, Bool, true, false, List, [], ◌∷◌, Option, Some, None, refl, arith, length}
use Rattle.std.specs.Prelude.{slice_get, nat_lt, nat_le, ◌==◌, ◌&&◌, ◌||◌, Ok, Err, if◌then◌else◌}
use Rattle.std.specs.FinMap as finite
use Rattle.std.proofs.lemmas.Bool.Decides.{nat_tests}
use Rattle.dl_ir.specs.declared.answers.End.{End}
use Rattle.dl_ir.specs.declared.answers.End.TheVariants as ends
use Rattle.dl_ir.specs.declared.names.Name.{Name}
use Rattle.dl_ir.specs.declared.names.Value.{Value}
use Rattle.dl_ir.specs.declared.names.Value.TheVariants.{Ref}
use Rattle.dl_ir.specs.Evaluation.{Number, Truth, value_of, holds_of}
use Rattle.dl_ir.specs.References.{target_in}
use Rattle.dl_instr.specs.declared.steps.Step.{Step}
use Rattle.dl_instr.specs.declared.steps.Step.TheVariants.{Read, Want, Set, Drop, Make, Eval, Write, Emit, Test, Jump, Give}
use Rattle.dl_instr.specs.declared.steps.Origin.TheVariants as origins
use Rattle.dl_instr.specs.declared.steps.Content.{Content}
use Rattle.dl_core.specs.declared.stages.Booked.{Booked}
use Rattle.dl_core.specs.declared.stages.Stage.{Stage}
use Rattle.dl_core.specs.declared.stages.Stage.TheVariants as stages
use Rattle.dl_core.specs.Plans.{Plan, steps_of, allocs_of, roots_of, reference_from}
use Rattle.dl_core.specs.Frames.{Frame, advanced, ended, target_at, target_in_hand, has_booked}
use Rattle.dl_core.specs.declared.dues.Due.{Due}
use Rattle.dl_core.specs.declared.dues.Due.TheVariants.{Nothing, Reserves, TakesRoot, Enters, Reads, Writes, Takes, LetsGo, GivesUp, Seals, Makes, Finishes}
use Rattle.dl_core.specs.LocalSteps.{Next, Goes, Stops, on_number, on_object, on_truth, on_wanted, on_test, next_step, next_target, next_value, next_field, next_loose, next_held, next_local, next_root, next_stage, next_after, next, next_name, due, due_in, first_referring, content_of, given_out}

-- the code runs, at this step
pub record IsAtStep (plan : Plan) (frame : Frame) (step : Step) : Type 0 where
  pub tidy : frame.loose ≡ []
  pub running : frame.stage ≡ stages.Running
  pub there : slice_get (steps_of plan frame.call) frame.place ≡ Some step

-- the first loose object is hidden, and by the book no field refers to it
pub record IsGivenUp (frame : Frame) (name : Name) (booked : Booked) : Type 0 where
  pub rest : List Name
  pub first : frame.loose ≡ name ∷ rest
  pub there : finite.get frame.book name ≡ Some booked
  pub hidden : 0 < name.ticket
  pub unreferred : booked.fields ≡ 0

pub data Why (plan : Plan) (frame : Frame) : Due → Type 0 where
  idles : Why plan frame Nothing
  reserves : frame.loose ≡ [] → frame.stage ≡ stages.Called → frame.spares < allocs_of plan frame.call → Why plan frame (Reserves (allocs_of plan frame.call))
  takes_root : (number : ℕ) → frame.loose ≡ [] → frame.stage ≡ stages.Called → slice_get (roots_of plan frame.call) frame.taken ≡ Some number → Why plan frame (TakesRoot number)
  enters : frame.loose ≡ [] → frame.stage ≡ stages.Called → slice_get (roots_of plan frame.call) frame.taken ≡ None → Why plan frame Enters
  reads_code : (local field : ℕ) (name : Name) → IsAtStep plan frame (Read local field) → target_at frame local ≡ Some name → Why plan frame (Reads name field)
  reads_first : (field : ℕ) (name : Name) (booked : Booked) → IsGivenUp frame name booked → reference_from plan booked.kind frame.cursor ≡ Some field → frame.hand ≡ None → Why plan frame (Reads name field)
  writes_code : (local field : ℕ) (content : Content) (name : Name) → IsAtStep plan frame (Write local field content) → target_at frame local ≡ Some name → Why plan frame (Writes name field (content_of content frame))
  writes_first : (field : ℕ) (name target : Name) (value : Value) (booked : Booked) → IsGivenUp frame name booked → reference_from plan booked.kind frame.cursor ≡ Some field
      → frame.hand ≡ Some value → target_in value ≡ Some target → (has_booked frame target || frame.seen) ≡ true → Why plan frame (Writes name field (Ref None))
  takes_code : (name : Name) → IsAtStep plan frame Want → target_in_hand frame ≡ Some name → has_booked frame name ≡ false → Why plan frame (Takes name)
  takes_first : (field : ℕ) (name target : Name) (value : Value) (booked : Booked) → IsGivenUp frame name booked → reference_from plan booked.kind frame.cursor ≡ Some field
      → frame.hand ≡ Some value → target_in value ≡ Some target → (has_booked frame target || frame.seen) ≡ false → Why plan frame (Takes target)
  lets_go : (name : Name) (rest : List Name) → frame.loose ≡ name ∷ rest
      → (finite.get frame.book name ≡ None) ⊎ ((booked : Booked) × (finite.get frame.book name ≡ Some booked) × ((nat_lt 0 name.ticket && (booked.fields == 0)) ≡ false)) → Why plan frame (LetsGo name)
  gives_up : (name : Name) (booked : Booked) → IsGivenUp frame name booked → reference_from plan booked.kind frame.cursor ≡ None → Why plan frame (GivesUp name)
  seals : (end : End) (entry : Name × Booked) (rest : List (Name × Booked)) → frame.loose ≡ [] → frame.stage ≡ stages.Ended end → first_referring 0 frame.locals ≡ None
      → finite.entries frame.book ≡ entry ∷ rest → Why plan frame (Seals entry.0)
  makes : (kind : ℕ) → IsAtStep plan frame (Make kind) → frame.made < allocs_of plan frame.call → Why plan frame (Makes (next_name frame) kind)
  finishes : (end : End) → frame.loose ≡ [] → frame.stage ≡ stages.Ended end → first_referring 0 frame.locals ≡ None → finite.entries frame.book ≡ [] → Why plan frame (Finishes end)

abbrev Because : Plan → Frame → Next → Type 0
Because plan frame (Goes after) = Unit {0}
Because plan frame (Stops due) = Why plan frame due

module _ (plan : Plan) (frame : Frame) where
  because_number : (number : Number) (goes : ℤ → Frame) → Because plan frame (on_number number frame goes)
  because_number (Ok n) goes = tt
  because_number (Err fault) goes = tt

  because_object : (target : Option Name) → target ≡ target → (what : Name → Due) → ((name : Name) → target ≡ Some name → Why plan frame (what name)) → Because plan frame (on_object target frame what)
  because_object None e what why = tt
  because_object (Some name) e what why = why name refl

  because_truth : (truth : Truth) (place : ℕ) (from : Frame) → Because plan frame (on_truth truth place from)
  because_truth (Ok holds) place from = tt
  because_truth (Err fault) place from = tt

  because_test : (is_turn : Bool) (place : ℕ) (truth : Truth) → Because plan frame (on_test is_turn frame (λ taken. on_truth truth place taken))
  because_test false place truth = because_truth truth place frame
  because_test true place truth =
      elim (frame.turns == 0) as (λ b. Because plan frame (if b then Goes (ended ends.Fuel frame) else on_truth truth place (record frame { turns = frame.turns - 1 }))) [
        | true ↦ tt
        | false ↦ because_truth truth place (record frame { turns = frame.turns - 1 })
      ]

  because_wanted : IsAtStep plan frame Want → (target : Option Name) → target_in_hand frame ≡ target → Because plan frame (on_wanted target frame)
  because_wanted at None e = tt
  because_wanted at (Some name) e =
      elim (has_booked frame name) as (λ b. has_booked frame name ≡ b → Because plan frame (if b then Goes (advanced frame) else Stops (Takes name))) [
        | true ↦ λ t. tt
        | false ↦ λ t. takes_code name at e t
      ] refl

  because_step : (step : Option Step) → ((s : Step) → step ≡ Some s → IsAtStep plan frame s) → Because plan frame (next_step plan frame step)
  because_step None at = tt
  because_step (Some (Read local field)) at = because_object (target_at frame local) refl (λ name. Reads name field) (λ name e. reads_code local field name (at _ refl) e)
  because_step (Some Want) at = because_wanted (at _ refl) (target_in_hand frame) refl
  because_step (Some (Set local origins.Hand)) at = tt
  because_step (Some (Set local (origins.Local other))) at = tt
  because_step (Some (Drop local)) at = tt
  because_step (Some (Make kind)) at =
      elim (nat_le (allocs_of plan frame.call) frame.made) as (λ b. nat_le (allocs_of plan frame.call) frame.made ≡ b → Because plan frame (if b then Goes (ended ends.Quota frame) else Stops (Makes (next_name frame) kind))) [
        | true ↦ λ t. tt
        | false ↦ λ t. makes kind (at _ refl) (grind (arith, nat_tests, t))
      ] refl
  because_step (Some (Eval value)) at = because_number (value_of value frame.locals) _
  because_step (Some (Write local field content)) at = because_object (target_at frame local) refl (λ name. Writes name field (content_of content frame)) (λ name e. writes_code local field content name (at _ refl) e)
  because_step (Some Emit) at = elim (nat_le 16 (length frame.emitted)) as (λ b. Because plan frame (if b then Goes (ended ends.Emits frame) else Goes (given_out frame))) [ true ↦ tt | false ↦ tt ]
  because_step (Some (Test c is_turn place)) at = because_test is_turn place (holds_of c frame.locals)
  because_step (Some (Jump place)) at = tt
  because_step (Some (Give value)) at = because_number (value_of value frame.locals) _

  because_held : (end : End) → frame.loose ≡ [] → frame.stage ≡ stages.Ended end → first_referring 0 frame.locals ≡ None → (entries : List (Name × Booked)) → finite.entries frame.book ≡ entries → Why plan frame (next_held end entries)
  because_held end tidy is none [] e = finishes end tidy is none e
  because_held end tidy is none (entry ∷ rest) e = seals end entry rest tidy is none e

  because_local : (end : End) → frame.loose ≡ [] → frame.stage ≡ stages.Ended end → (local : Option ℕ) → first_referring 0 frame.locals ≡ local → Because plan frame (next_local frame end local)
  because_local end tidy is None e = because_held end tidy is e (finite.entries frame.book) refl
  because_local end tidy is (Some local) e = tt

  because_root : frame.loose ≡ [] → frame.stage ≡ stages.Called → (root : Option ℕ) → slice_get (roots_of plan frame.call) frame.taken ≡ root → Why plan frame (next_root root)
  because_root tidy is None e = enters tidy is e
  because_root tidy is (Some number) e = takes_root number tidy is e

  because_stage : frame.loose ≡ [] → (stage : Stage) → frame.stage ≡ stage → Because plan frame (next_stage plan frame stage)
  because_stage tidy stages.Idle is = idles
  because_stage tidy stages.Called is =
      elim (nat_lt frame.spares (allocs_of plan frame.call)) as (λ b. nat_lt frame.spares (allocs_of plan frame.call) ≡ b → Why plan frame (if b then Reserves (allocs_of plan frame.call) else next_root (slice_get (roots_of plan frame.call) frame.taken))) [
        | true ↦ λ t. reserves tidy is (grind (arith, nat_tests, t))
        | false ↦ λ t. because_root tidy is (slice_get (roots_of plan frame.call) frame.taken) refl
      ] refl
  because_stage tidy stages.Running is = because_step (slice_get (steps_of plan frame.call) frame.place) (λ s e. record { tidy = tidy; running = is; there = e })
  because_stage tidy (stages.Ended end) is = because_local end tidy is (first_referring 0 frame.locals) refl

  module _ (name : Name) (booked : Booked) (given : IsGivenUp frame name booked) where
    because_target : (field : ℕ) → reference_from plan booked.kind frame.cursor ≡ Some field → (value : Value) → frame.hand ≡ Some value → (target : Option Name) → target_in value ≡ target → Because plan frame (next_target frame name field target)
    because_target field at value hand None e = tt
    because_target field at value hand (Some target) e =
        elim (has_booked frame target || frame.seen) as (λ b. (has_booked frame target || frame.seen) ≡ b → Because plan frame (if b then Stops (Writes name field (Ref None)) else Stops (Takes target))) [
          | true ↦ λ t. writes_first field name target value booked given at hand e t
          | false ↦ λ t. takes_first field name target value booked given at hand e t
        ] refl

    because_value : (field : ℕ) → reference_from plan booked.kind frame.cursor ≡ Some field → (hand : Option Value) → frame.hand ≡ hand → Because plan frame (next_value frame name field hand)
    because_value field at None e = reads_first field name booked given at e
    because_value field at (Some value) e = because_target field at value e (target_in value) refl

    because_field : (field : Option ℕ) → reference_from plan booked.kind frame.cursor ≡ field → Because plan frame (next_field frame name field)
    because_field None e = gives_up name booked given e
    because_field (Some field) e = because_value field e frame.hand refl

  because_loose : (name : Name) (rest : List Name) → frame.loose ≡ name ∷ rest → (booked : Option Booked) → finite.get frame.book name ≡ booked → Because plan frame (next_loose plan frame name booked)
  because_loose name rest first None e = lets_go name rest first (inl e)
  because_loose name rest first (Some booked) e =
      elim (nat_lt 0 name.ticket && (booked.fields == 0)) as (λ b. (nat_lt 0 name.ticket && (booked.fields == 0)) ≡ b → Because plan frame (if b then next_field frame name (reference_from plan booked.kind frame.cursor) else Stops (LetsGo name))) [
        | true ↦ λ t. because_field name booked (record { rest = rest; first = first; there = e; hidden = grind (arith, nat_tests, t); unreferred = grind (arith, nat_tests, t) }) (reference_from plan booked.kind frame.cursor) refl
        | false ↦ λ t. lets_go name rest first (inr (booked, e, t))
      ] refl

  because_after : (loose : List Name) → frame.loose ≡ loose → Because plan frame (next_after plan frame loose)
  because_after [] e = because_stage e frame.stage refl
  because_after (name ∷ names) e = because_loose name names e (finite.get frame.book name) refl

  -- the event that comes next comes for one of these reasons
  pub why : Why plan frame (due plan frame)
  why = by (next plan frame) (because_after frame.loose refl)
    where
      by : (n : Next) → Because plan frame n → Why plan frame (due_in n)
      by (Goes after) b = idles
      by (Stops what) b = b
