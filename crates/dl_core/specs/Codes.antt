-- What holds of the code of each operation, as far as the machine rests on it.
use Rattle.std.specs.Prelude.{◌≡◌, ◌+◌, ◌-◌, ℕ, pos, Bool, true, false, Some, List, length, slice_get}
use Rattle.dl_ir.specs.declared.expressions.Expr.{Expr}
use Rattle.dl_ir.specs.declared.expressions.Expr.TheVariants.{Num}
use Rattle.dl_ir.specs.declared.modules.Module.{Module}
use Rattle.dl_ir.specs.declared.modules.OpDecl.{OpDecl}
use Rattle.dl_ir.specs.declared.modules.Ty.{Ty}
use Rattle.dl_ir.specs.declared.modules.Ty.TheVariants.{Int, Of}
use Rattle.dl_ir.specs.Heap.{IsNodeKind}
use Rattle.dl_ir.specs.Typed.{IsNumberLocal, IsLocalOf, HasFieldOf, types_of}
use Rattle.dl_instr.specs.declared.steps.Step.{Step}
use Rattle.dl_instr.specs.declared.steps.Step.TheVariants.{Read, Want, Set, Drop, Make, Eval, Write, Emit, Give}
use Rattle.dl_instr.specs.declared.steps.Origin.TheVariants as origins
use Rattle.dl_instr.specs.declared.steps.Content.{Content}
use Rattle.dl_instr.specs.declared.steps.Content.TheVariants as contents
use Rattle.dl_instr.specs.Drops.{is_use}
use Rattle.dl_instr.specs.Jumps.{jump_of, JumpsLand}
use Rattle.dl_core.specs.Plans.{Plan, IsPlan, source_of}
use Rattle.dl_core.specs.LocalSteps.{GoesBackToTurns}

module _ (source : Module) (types : List Ty) where
  -- what is written into a field of this type
  pub data FitsContent : Ty → Content → Type 0 where
    a_number : FitsContent Int contents.Number
    a_local : {kind other : ℕ} → IsLocalOf types other kind → FitsContent (Of kind) (contents.Local other)
    a_null : {kind : ℕ} → FitsContent (Of kind) contents.Null

  -- a step names locals, fields and kinds that are there, and of types that fit
  pub data IsTypedStep : Step → Type 0 where
    read : {local field kind : ℕ} {ty : Ty} → IsLocalOf types local kind → HasFieldOf source kind field ty → IsTypedStep (Read local field)
    want : IsTypedStep Want
    set : {local : ℕ} {ty : Ty} → slice_get types local ≡ Some ty → IsTypedStep (Set local origins.Hand)
    copy : {local other kind : ℕ} → IsLocalOf types local kind → IsLocalOf types other kind → IsTypedStep (Set local (origins.Local other))
    drop : {local kind : ℕ} → IsLocalOf types local kind → IsTypedStep (Drop local)
    make : {kind : ℕ} → IsNodeKind source kind → IsTypedStep (Make kind)
    write : {local field kind : ℕ} {ty : Ty} {content : Content} → IsLocalOf types local kind → HasFieldOf source kind field ty → FitsContent ty content → IsTypedStep (Write local field content)
    eval : {value : Expr} → IsTypedStep (Eval value)
    emit : IsTypedStep Emit
    test : {step : Step} {place : ℕ} → jump_of step ≡ Some place → IsTypedStep step
    give : {value : Expr} → IsTypedStep (Give value)

  module _ (steps : List Step) where
    -- a field of this type is read at a place
    pub record IsReadAt (at local field : ℕ) (ty : Ty) : Type 0 where
      pub step : slice_get steps at ≡ Some (Read local field)
      pub kind : ℕ
      pub is_local : IsLocalOf types local kind
      pub has_field : HasFieldOf source kind field ty

    -- the step at a place uses what the hand holds, and the steps directly before it have put there what it needs
    pub data IsFilledFor (at : ℕ) : Step → Type 0 where
      evaluated : (before : ℕ) {local : ℕ} {value : Expr} → at ≡ before + 1 → slice_get steps before ≡ Some (Eval value) → IsNumberLocal types local → IsFilledFor at (Set local origins.Hand)
      loaded : (before : ℕ) {local other field : ℕ} → at ≡ before + 1 → IsReadAt before other field Int → IsNumberLocal types local → IsFilledFor at (Set local origins.Hand)
      followed : (before : ℕ) {local other field kind : ℕ} → at ≡ before + 2 → IsReadAt before other field (Of kind) → slice_get steps (before + 1) ≡ Some Want → IsLocalOf types local kind
          → IsFilledFor at (Set local origins.Hand)
      made : (before : ℕ) {local kind : ℕ} → at ≡ before + 1 → slice_get steps before ≡ Some (Make kind) → IsLocalOf types local kind → IsFilledFor at (Set local origins.Hand)
      wanted : (before : ℕ) {local field kind : ℕ} → at ≡ before + 1 → IsReadAt before local field (Of kind) → IsFilledFor at Want
      stored : (before : ℕ) {local field : ℕ} {value : Expr} → at ≡ before + 1 → slice_get steps before ≡ Some (Eval value) → IsFilledFor at (Write local field contents.Number)
      told : (before : ℕ) {value : Expr} → at ≡ before + 1 → slice_get steps before ≡ Some (Eval value) → IsFilledFor at Emit
      linked : (before : ℕ) {local field kind : ℕ} {content : Content} → at ≡ before + 2 → IsReadAt before local field (Of kind) → slice_get steps (before + 1) ≡ Some Want
          → FitsContent (Of kind) content → IsFilledFor at (Write local field content)

-- the step leaves something in the hand
abbrev pub fills : Step → Bool
fills (Read local field) = true
fills Want = true
fills (Make kind) = true
fills (Eval value) = true
fills step = false

-- the code of an operation: its steps fit the types of its locals, jumps land on steps, those that go back land before loops' tests,
-- what the hand holds is used by the step that follows and by no other, and the last step gives a number
pub record IsGoodCode (source : Module) (types : List Ty) (steps : List Step) : Type 0 where
  pub typed : (at : ℕ) (step : Step) → slice_get steps at ≡ Some step → IsTypedStep source types step
  pub jumps : JumpsLand steps
  pub turns : GoesBackToTurns steps
  pub filled : (at : ℕ) (step : Step) → slice_get steps at ≡ Some step → is_use step ≡ true → IsFilledFor source types steps at step
  pub used : (at : ℕ) (step : Step) → slice_get steps at ≡ Some step → fills step ≡ true → (next : Step) × (slice_get steps (at + 1) ≡ Some next) × (is_use next ≡ true)
  pub passed : (at place : ℕ) (step target : Step) → slice_get steps at ≡ Some step → jump_of step ≡ Some place → slice_get steps place ≡ Some target → is_use target ≡ false
  pub last : slice_get steps (length steps - 1) ≡ Some (Give (Num (pos 0)))

-- the code of each operation of a plan is such
abbrev pub HasGoodCode : Plan → Type 0
HasGoodCode plan = (number : ℕ) (op : OpDecl) (steps : List Step) → slice_get (source_of plan).ops number ≡ Some op → slice_get plan.code.ops number ≡ Some steps
    → IsGoodCode (source_of plan) (types_of op) steps

-- every plan has such code
abbrev pub PlansHaveGoodCode : Type 0
PlansHaveGoodCode = (plan : Plan) → IsPlan plan → HasGoodCode plan
