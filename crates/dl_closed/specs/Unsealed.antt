-- That a forest-closed module never seals.
use Rattle.std.specs.Prelude.{◌≡◌, ◌≢◌, None, List, All}
use Rattle.dl_ir.specs.declared.answers.Answer.{Answer}
use Rattle.dl_ir.specs.declared.answers.End.TheVariants as ends
use Rattle.dl_ir.specs.declared.answers.Entry.{Entry}
use Rattle.dl_ir.specs.declared.calls.Call.{Call}
use Rattle.dl_ir.specs.declared.modules.Module.{Module}
use Rattle.dl_ir.specs.declared.names.Name.{Name}
use Rattle.dl_ir.specs.CallForms.{AreCallsOf}
use Rattle.dl_ir.specs.Heap.{Objects}
use Rattle.dl_shape.specs.Closed.{IsForestClosed}
use Rattle.dl_shape.specs.Replay.{IsLegal}

-- the answer tells of no sealed object: its operation did not end at one, and sealed none
pub record IsUnsealed (answer : Answer) : Type 0 where
  pub passed : (name : Name) → answer.end ≢ ends.Sealed name
  pub seals_none : answer.breach ≡ None

-- where each serial run from a heap ends each operation in a forest, no answer of a legal history tells of a sealed object
abbrev pub ForestClosedNeverSeals : Type 0
ForestClosedNeverSeals = (source : Module) (all : List (List Call)) (heap : Objects) (history : List Entry) → All (AreCallsOf source) all
    → IsForestClosed source heap → IsLegal source all heap history → All (λ (entry : Entry). IsUnsealed entry.answer) history
