-- The replay of a history, and which histories are legal.
use Rattle.std.specs.Prelude.{◌≡◌, ◌+◌, ℕ, Option, Some, None, List, [], ◌∷◌, fold}
use Rattle.dl_ir.specs.declared.modules.Module.{Module}
use Rattle.dl_ir.specs.declared.calls.Call.{Call}
use Rattle.dl_ir.specs.declared.answers.Entry.{Entry}
use Rattle.dl_ir.specs.Cover.{call_at}
use Rattle.dl_ir.specs.Heap.{Objects}
use Rattle.dl_shape.specs.Operation.{operated}
use Rattle.dl_shape.specs.Startable.{IsStartable}
pub use Rattle.dl_shape.specs.Startable.{greatest_ticket}

-- the heap after a call with a ticket; where there is no call, the heap as it was
abbrev pub after_call : Module → Objects → ℕ → Option Call → Objects
after_call source heap ticket None = heap
after_call source heap ticket (Some call) = (operated source heap ticket call).objects

-- the heap after the calls of a history, each run with its ticket on what the one before left
abbrev pub replayed : Module → List (List Call) → Objects → List Entry → Objects
replayed source files heap history = fold (λ objects (entry : Entry). after_call source objects entry.ticket (call_at files entry.caller entry.index)) heap history

-- from a heap and a ticket on, the tickets rise by one, and each answer is the one that its call gives at that point
pub data IsLegalFrom (source : Module) (files : List (List Call)) : ℕ → Objects → List Entry → Type 0 where
  ends : {ticket : ℕ} {heap : Objects} → IsLegalFrom source files ticket heap []
  goes_on : {ticket : ℕ} {heap : Objects} {entry : Entry} {rest : List Entry} (call : Call) → entry.ticket ≡ ticket → call_at files entry.caller entry.index ≡ Some call
      → entry.answer ≡ (operated source heap ticket call).answer
      → IsLegalFrom source files (ticket + 1) (operated source heap ticket call).objects rest
      → IsLegalFrom source files ticket heap (entry ∷ rest)

-- a history is legal from a heap: a run may start from the heap, the tickets rise by one from the heap's greatest on, and the answers
-- are those of the replay
pub record IsLegal (source : Module) (files : List (List Call)) (heap : Objects) (history : List Entry) : Type 0 where
  pub startable : IsStartable source heap
  pub goes : IsLegalFrom source files (greatest_ticket heap + 1) heap history
