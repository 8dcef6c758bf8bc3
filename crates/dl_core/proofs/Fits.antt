-- What an event needs is there, from why it comes next.
use Rattle.std.proofs.Common.{◌≡◌, ℕ, ◌+◌, ◌<◌, ◌≤◌, ◌^◌, List, [], ◌∷◌, length, drop, Option, Some, None, refl, sym, ap, ◌∙◌, arith, length-drop}
use Rattle.std.specs.Prelude.{slice_get}
use Rattle.std.proofs.lemmas.Option.{slice_get_within}
use Rattle.std.specs.Option.{option_map_or}
use Rattle.std.specs.FinMap as finite
use Rattle.dl_ir.specs.declared.answers.End.{End}
use Rattle.dl_ir.specs.declared.modules.FieldDecl.{FieldDecl}
use Rattle.dl_ir.specs.declared.modules.KindDecl.{KindDecl}
use Rattle.dl_ir.specs.declared.modules.Ty.{Ty}
use Rattle.dl_ir.specs.declared.modules.Ty.TheVariants.{Int, Of}
use Rattle.dl_ir.specs.declared.names.Name.{Name}
use Rattle.dl_ir.specs.Heap.{root}
use Rattle.dl_ir.specs.Rows.{Rows}
use Rattle.dl_instr.specs.declared.steps.Step.{Step}
use Rattle.dl_instr.specs.declared.steps.Step.TheVariants.{Make}
use Rattle.dl_core.specs.declared.counters.Counters.{Counters}
use Rattle.dl_core.specs.declared.dues.Due.{Due}
use Rattle.dl_core.specs.declared.frames.Frame.{Frame as Kept}
use Rattle.dl_core.specs.declared.objects.Object.{Object}
use Rattle.dl_core.specs.declared.objects.Mark.TheVariants as marks
use Rattle.dl_core.specs.declared.stages.Stage.TheVariants as stages
use Rattle.dl_core.specs.Needs.{CanHoldMore}
use Rattle.dl_core.specs.Parts.{CanStep, CanAsk, CanEnter, CanFinish}
use Rattle.dl_core.specs.Plans.{Plan, allocs_of, roots_of, fields_of, first_reference, or_later, reference_from}
use Rattle.dl_core.specs.Shown.{shown, HasFewFields, HasFewRefs, IsAtStep as StandsAtStep}
use Rattle.dl_core.proofs.Why.{Why, IsAtStep, idles, reserves, takes_root, enters, reads_code, reads_first, writes_code, writes_first, takes_code, takes_first, lets_go, gives_up, seals, makes, finishes}

-- the number of the first reference is one of a field
first_in : (at : ℕ) (fields : List FieldDecl) (found : ℕ) → first_reference at fields ≡ Some found → (at ≤ found) × (found < at + length fields)
first_in at [] found e = absurd (none e)
  where
    none : None ≡ Some found → ⊥
    none p = cc
first_in at (field ∷ rest) found e = by field.ty (first_in (at + 1) rest found) e
  where
    same : Some at ≡ Some found → at ≡ found
    same p = cc

    by : (ty : Ty) → (first_reference (at + 1) rest ≡ Some found → (at + 1 ≤ found) × (found < at + 1 + length rest)) → or_later ty at (first_reference (at + 1) rest) ≡ Some found → (at ≤ found) × (found < at + length (field ∷ rest))
    by Int there later = let within = there later in (omega (arith, within.0), omega (arith, within.1))
    by (Of kind) there now = let is = same now in (omega (arith, is), omega (arith, is))

abbrev fields_in : Option KindDecl → List FieldDecl
fields_in declared = option_map_or (λ (d : KindDecl). d.fields) declared []

few_field : (plan : Plan) (kind from found : ℕ) → HasFewFields plan.code → reference_from plan kind from ≡ Some found → found < 16
few_field plan kind from found few e = by (slice_get plan.code.source.kinds kind) refl
  where
    within : (from ≤ found) × (found < from + length (drop from (fields_of plan kind)))
    within = first_in from (drop from (fields_of plan kind)) found e

    by : (declared : Option KindDecl) → slice_get plan.code.source.kinds kind ≡ declared → found < 16
    by None is = let none : length (fields_of plan kind) ≡ 0 = ap (λ (d : Option KindDecl). length (fields_in d)) is in omega (arith, within.0, within.1, length-drop from (fields_of plan kind), none)
    by (Some declared) is = let all : length (fields_of plan kind) ≡ length declared.fields = ap (λ (d : Option KindDecl). length (fields_in d)) is in omega (arith, within.0, within.1, length-drop from (fields_of plan kind), all, few kind declared is)

-- what is known of a caller's frame beside why its next event comes
pub record HasFacts (plan : Plan) (kept : Kept) (heap : Rows Object) (counters : Counters) : Type 0 where
  pub fields : HasFewFields plan.code
  pub roots : kept.roots.items ≡ roots_of plan (shown kept).call
  pub more : (name : Name) (object : Object) → finite.get heap.rows name ≡ Some object → object.mark ≡ marks.Free → CanHoldMore kept
  pub refs : HasFewRefs kept
  pub spares : kept.spares + 1 < 2 ^ 32
  pub make : (kind : ℕ) → IsAtStep plan (shown kept) (Make kind) → kept.made < allocs_of plan (shown kept).call → CanHoldMore kept × (kept.made + 1 < 2 ^ 32) × (finite.len heap.rows < heap.room)
  pub asks : kept.stage ≡ stages.Called → kept.spares < allocs_of plan (shown kept).call → CanAsk kept counters
  pub enters : kept.stage ≡ stages.Called → CanEnter plan.code kept counters
  pub finishes : (end : End) → kept.stage ≡ stages.Ended end → finite.entries kept.book.rows ≡ [] → CanFinish kept counters

module _ (plan : Plan) (kept : Kept) (heap : Rows Object) (counters : Counters) (facts : HasFacts plan kept heap counters) where
  stands : (step : Step) → IsAtStep plan (shown kept) step → StandsAtStep plan.code kept
  stands step at _ = (step, at.there)

  -- an object is given up, and no step of the code is carried out
  works : (name : Name) (rest : List Name) → kept.loose.items ≡ name ∷ rest → StandsAtStep plan.code kept
  works name rest first none = absurd (apart (sym first ∙ none))
    where
      apart : name ∷ rest ≡ [] → ⊥
      apart p = cc

  first_of : (name : Name) (rest : List Name) → kept.loose.items ≡ name ∷ rest → slice_get kept.loose.items 0 ≡ Some name
  first_of name rest e = ap (λ (l : List Name). slice_get l 0) e

  no_first : (name : Name) → kept.loose.items ≡ [] → slice_get kept.loose.items 0 ≡ Some name → ⊥
  no_first name none e = nothing (sym (ap (λ (l : List Name). slice_get l 0) none) ∙ e)
    where
      nothing : None ≡ Some name → ⊥
      nothing p = cc

  pub steps_need : (due : Due) → Why plan (shown kept) due → CanStep plan.code kept heap counters due
  steps_need _ idles = tt
  steps_need _ (reserves none called few) = facts.asks called few
  steps_need _ (takes_root number none called there) = (slice_get_within kept.roots.items kept.taken number (ap (λ (l : List ℕ). slice_get l kept.taken) facts.roots ∙ there), λ object is free. facts.more (root number) object is free)
  steps_need _ (enters none called there) = facts.enters called
  steps_need _ (reads_code local field name at is) = stands _ at
  steps_need _ (reads_first field name booked first from hand) = works name first.rest first.first
  steps_need _ (writes_code local field content name at is) = (stands _ at, λ other e. absurd (no_first other at.tidy e), facts.refs)
  steps_need _ (writes_first field name target value booked first from hand is held) = (works name first.rest first.first, λ other e. let few = few_field plan booked.kind kept.cursor field facts.fields from in omega (arith, few), facts.refs)
  steps_need _ (takes_code name at is none) = (stands _ at, λ object there free. facts.more name object there free)
  steps_need _ (takes_first field name target value booked first from hand is none) = (works name first.rest first.first, λ object there free. facts.more target object there free)
  steps_need _ (lets_go name rest first why) = first_of name rest first
  steps_need _ (gives_up name booked first none) = (first_of name first.rest first.first, facts.spares)
  steps_need _ (seals end entry rest none ended referring entries) = none
  steps_need _ (makes kind at few) = let made = facts.make kind at few in record { more = made.0; step = (Make kind, at.there); made = made.1; room = made.2 }
  steps_need _ (finishes end none ended referring entries) = facts.finishes end ended entries
