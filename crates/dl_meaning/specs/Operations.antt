-- What the calls of a checked module do: each ends in exactly one way, and leaves a heap of the module.
use Rattle.std.specs.Prelude.{◌≡◌, ◌+◌, ◌≤◌, ℕ, ℤ, Option, Some, List, [], ◌∷◌, slice_get, All}
use Rattle.dl_ir.specs.declared.answers.End.{End}
use Rattle.dl_ir.specs.declared.answers.Entry.{Entry}
use Rattle.dl_ir.specs.declared.calls.Call.{Call}
use Rattle.dl_ir.specs.declared.modules.Module.{Module}
use Rattle.dl_ir.specs.declared.modules.OpDecl.{OpDecl}
use Rattle.dl_ir.specs.CallForms.{AllFit, IsCallOf}
use Rattle.dl_ir.specs.Checked.{IsChecked}
use Rattle.dl_ir.specs.Heap.{Objects, IsHeapOf}
use Rattle.dl_ir.specs.Meaning.{State}
use Rattle.dl_ir.specs.Relation.{RunsBlock}
use Rattle.dl_ir.specs.Typed.{types_of}
use Rattle.dl_shape.specs.Operation.{result_of, operated}
pub use Rattle.dl_shape.specs.Operation.{context_of, begun}
use Rattle.dl_shape.specs.Replay.{replayed, IsLegal}
use Rattle.dl_meaning.specs.FirstStates.{HasTicketsBelow}
use Rattle.dl_meaning.specs.OneOutcome.{HasOneOutcome}
use Rattle.dl_meaning.specs.Single.{outcome}

-- an operation of a checked module, given fitting arguments, has exactly one outcome on each heap of the module whose tickets are
-- below its own, whatever the turns
abbrev pub OperationsHaveOneOutcome : Type 0
OperationsHaveOneOutcome = (source : Module) (number : ℕ) (op : OpDecl) (arguments : List ℤ) (h : Objects) (ticket turns : ℕ) → IsChecked source
    → slice_get source.ops number ≡ Some op → AllFit source op.params arguments → IsHeapOf source h → HasTicketsBelow ticket h
    → HasOneOutcome (context_of source ticket op) (types_of op) op.body (begun op arguments h turns)

-- what a call gives, is what the outcome of its operation gives
abbrev pub CallsGiveTheOutcome : Type 0
CallsGiveTheOutcome = (source : Module) (h : Objects) (ticket : ℕ) (call : Call) (op : OpDecl) (after : State) (end : Option End)
    → slice_get source.ops call.op ≡ Some op → RunsBlock (context_of source ticket op) op.body (begun op call.args h op.fuel) after end
    → operated source h ticket call ≡ result_of (outcome after end)

-- a call leaves a heap of the module, in which no ticket is above its own
abbrev pub CallsLeaveHeaps : Type 0
CallsLeaveHeaps = (source : Module) (h : Objects) (ticket : ℕ) (call : Call) → IsChecked source → IsCallOf source call → IsHeapOf source h → HasTicketsBelow ticket h
    → IsHeapOf source (operated source h ticket call).objects × HasTicketsBelow (ticket + 1) (operated source h ticket call).objects

-- each call of the files is one of the module
abbrev pub AreFilesOf : Module → List (List Call) → Type 0
AreFilesOf source files = All (λ calls. All (IsCallOf source) calls) files

-- the tickets of a history rise, and none is below this one
abbrev pub RisesFrom : ℕ → List Entry → Type 0
RisesFrom ticket [] = Unit {0}
RisesFrom ticket (entry ∷ rest) = (ticket ≤ entry.ticket) × RisesFrom (entry.ticket + 1) rest

-- the replay of a history whose tickets rise leaves a heap of the module
abbrev pub ReplaysLeaveHeaps : Type 0
ReplaysLeaveHeaps = (source : Module) (files : List (List Call)) (ticket : ℕ) (h : Objects) (history : List Entry) → IsChecked source → AreFilesOf source files
    → IsHeapOf source h → HasTicketsBelow ticket h → RisesFrom ticket history → IsHeapOf source (replayed source files h history)

-- and so does that of a legal history
abbrev pub LegalReplaysLeaveHeaps : Type 0
LegalReplaysLeaveHeaps = (source : Module) (files : List (List Call)) (h : Objects) (history : List Entry) → IsChecked source → AreFilesOf source files
    → IsLegal source files h history → IsHeapOf source (replayed source files h history)
