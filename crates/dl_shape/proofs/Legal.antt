-- The tickets of a legal history rise.
use Rattle.std.proofs.Common.{ℕ, ◌+◌, ◌<◌, ◌≤◌, List, arith}
use Rattle.std.specs.Prelude.{All}
use Rattle.std.proofs.lemmas.List.Elements.{All-nil, All-cons, All-weaker}
use Rattle.dl_ir.specs.declared.answers.Entry.{Entry}
use Rattle.dl_ir.specs.declared.calls.Call.{Call}
use Rattle.dl_ir.specs.declared.modules.Module.{Module}
use Rattle.dl_ir.specs.Heap.{Objects}
use Rattle.dl_shape.specs.Replay.{IsLegalFrom, ends, goes_on}
use Rattle.dl_shape.proofs.Rising.{Rises}

-- no ticket is below the first
legal_from : {source : Module} {files : List (List Call)} {ticket : ℕ} {heap : Objects} {history : List Entry} → IsLegalFrom source files ticket heap history
    → All (λ (entry : Entry). ticket ≤ entry.ticket) history
legal_from {ticket = ticket} ends = All-nil (λ (entry : Entry). ticket ≤ entry.ticket)
legal_from {ticket = ticket} (goes_on {entry = entry} {rest = rest} call own named answer legal) =
    All-cons (λ (entry : Entry). ticket ≤ entry.ticket) entry rest (omega (arith, own))
    (All-weaker (λ (later : Entry). ticket + 1 ≤ later.ticket) (λ (later : Entry). ticket ≤ later.ticket) (λ later above. omega arith) rest (legal_from legal))

pub legal_rises : {source : Module} {files : List (List Call)} {ticket : ℕ} {heap : Objects} {history : List Entry} → IsLegalFrom source files ticket heap history
    → Rises (λ (entry : Entry). entry.ticket) history
legal_rises ends = tt
legal_rises (goes_on {ticket = ticket} {entry = entry} {rest = rest} call own named answer legal) =
    (All-weaker (λ (later : Entry). ticket + 1 ≤ later.ticket) (λ (later : Entry). entry.ticket < later.ticket) (λ later above. omega (arith, own)) rest (legal_from legal), legal_rises legal)
