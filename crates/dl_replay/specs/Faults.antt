-- The fault of a history: its first entry whose ticket is not the next one, or whose answer is not the one that its operation gives.
use Rattle.std.specs.Prelude.{◌≡◌, ◌≢◌, ◌+◌, ◌++◌, ℕ, List, ◌∷◌, Some, length, All}
use Rattle.dl_ir.specs.declared.answers.Answer.{Answer}
use Rattle.dl_ir.specs.declared.answers.Entry.{Entry}
use Rattle.dl_ir.specs.declared.answers.Refusal.{Refusal}
use Rattle.dl_ir.specs.declared.calls.Call.{Call}
use Rattle.dl_ir.specs.declared.modules.Module.{Module}
use Rattle.dl_ir.specs.Cover.{call_at, Covers}
use Rattle.dl_ir.specs.Heap.{Objects}
use Rattle.dl_shape.specs.Operation.{operated}
use Rattle.dl_shape.specs.Replay.{replayed, greatest_ticket, IsLegal}
use Rattle.dl_replay.specs.declared.replays.ReplayFault.{ReplayFault}
use Rattle.dl_replay.specs.declared.replays.ReplayFault.TheVariants.{Gap, Differs}

-- an entry is that of an operation of the files
pub record NamesOperation (files : List (List Call)) (entry : Entry) : Type 0 where
  pub call : Call
  pub is_there : call_at files entry.caller entry.index ≡ Some call

-- where a history and refusals have each operation of the files once, each entry is that of an operation of the files
abbrev pub CoveredEntriesNameOperations : Type 0
CoveredEntriesNameOperations = (files : List (List Call)) (history : List Entry) (refusals : List Refusal) → Covers files history refusals → All (NamesOperation files) history

-- the ticket that is next after these entries of a history from a heap
abbrev pub next_ticket : Objects → List Entry → ℕ
next_ticket heap before = greatest_ticket heap + 1 + length before

-- the answer that a call gives after these entries of a history from a heap
abbrev pub answer_after : Module → List (List Call) → Objects → List Entry → Call → Answer
answer_after source files heap before call = (operated source (replayed source files heap before) (next_ticket heap before) call).answer

-- a history is legal up to an entry: the entries before it are
pub record IsLegalUpTo (source : Module) (files : List (List Call)) (heap : Objects) (history before : List Entry) (entry : Entry) : Type 0 where
  pub behind : List Entry
  pub whole : history ≡ before ++ entry ∷ behind
  pub legal : IsLegal source files heap before

-- the first entry at fault has another ticket than the next one; or it has that ticket and another answer than its call gives
pub data IsFault (source : Module) (files : List (List Call)) (heap : Objects) (history : List Entry) : ReplayFault → Type 0 where
  gap : (before : List Entry) (entry : Entry) → IsLegalUpTo source files heap history before entry → entry.ticket ≢ next_ticket heap before
      → IsFault source files heap history (Gap (next_ticket heap before))
  differs : (before : List Entry) (entry : Entry) (call : Call) → IsLegalUpTo source files heap history before entry → entry.ticket ≡ next_ticket heap before
      → call_at files entry.caller entry.index ≡ Some call → entry.answer ≢ answer_after source files heap before call
      → IsFault source files heap history (Differs (next_ticket heap before) entry.answer (answer_after source files heap before call))
