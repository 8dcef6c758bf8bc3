-- That a typed block has exactly one outcome, and that relation and function agree on it.
use Rattle.std.specs.Prelude.{◌≡◌, ◌↔◌, ℕ, Option, Some, List, slice_get}
use Rattle.dl_ir.specs.declared.answers.End.{End}
use Rattle.dl_ir.specs.declared.modules.OpDecl.{OpDecl}
use Rattle.dl_ir.specs.declared.modules.Ty.{Ty}
use Rattle.dl_ir.specs.declared.statements.Stmt.{Stmt}
use Rattle.dl_ir.specs.Meaning.{Context, State, block_does}
use Rattle.dl_ir.specs.Relation.{RunsBlock}
use Rattle.dl_meaning.specs.Fitting.{Fits}
use Rattle.dl_meaning.specs.Single.{outcome}
use Rattle.dl_ir.specs.Checked.{IsChecked}
use Rattle.dl_ir.specs.Typed.{IsTypedBlock, FieldsReferToNodes, types_of}

-- a block has an outcome from a state, that state fits again, and any other outcome is it
pub record HasOneOutcome (cx : Context) (types : List Ty) (block : List Stmt) (s : State) : Type 0 where
  pub after : State
  pub end : Option End
  pub runs : RunsBlock cx block s after end
  pub fits : Fits cx types after
  pub only : (t : State) (other : Option End) → RunsBlock cx block s t other → (t ≡ after) × (other ≡ end)

-- a typed block has one outcome from each state that fits, whatever the turns that are left
abbrev pub TypedHasOneOutcome : Type 0
TypedHasOneOutcome = (cx : Context) (types : List Ty) (block : List Stmt) (s : State) → FieldsReferToNodes cx.source → IsTypedBlock cx.source types block
    → Fits cx types s → HasOneOutcome cx types block s

-- the body of each operation of a checked module has one outcome from each state that fits
abbrev pub BodiesHaveOneOutcome : Type 0
BodiesHaveOneOutcome = (cx : Context) (number : ℕ) (op : OpDecl) (s : State) → IsChecked cx.source → slice_get cx.source.ops number ≡ Some op
    → Fits cx (types_of op) s → HasOneOutcome cx (types_of op) op.body s

-- at a typed block and a state that fits, the relation holds exactly of what the function gives
abbrev pub FunctionIsRelation : Type 0
FunctionIsRelation = (cx : Context) (types : List Ty) (block : List Stmt) (s t : State) (end : Option End) → FieldsReferToNodes cx.source
    → IsTypedBlock cx.source types block → Fits cx types s → RunsBlock cx block s t end ↔ (block_does cx block s ≡ outcome t end)
