-- What one entry comes to. What a replay promises does not rest on it.
use Rattle.std.specs.Prelude.{◌≡◌, ◌≢◌, ◌+◌, ℕ, List, Some}
use Rattle.dl_ir.specs.declared.answers.Answer.{Answer}
use Rattle.dl_ir.specs.declared.answers.Entry.{Entry}
use Rattle.dl_ir.specs.declared.calls.Call.{Call}
use Rattle.dl_ir.specs.declared.modules.Module.{Module}
use Rattle.dl_ir.specs.Cover.{call_at}
use Rattle.dl_ir.specs.Heap.{Objects, IsHeapOf}
use Rattle.dl_meaning.specs.FirstStates.{HasTicketsBelow}
use Rattle.dl_shape.specs.Operation.{operated}
use Rattle.dl_replay.specs.declared.replays.ReplayFault.{ReplayFault}
use Rattle.dl_replay.specs.declared.replays.ReplayFault.TheVariants.{Gap, Differs, Memory}

-- an entry has the next ticket and the answer of its call, which leaves a heap
pub record GoesOn (source : Module) (files : List (List Call)) (heap : Objects) (ticket : ℕ) (entry : Entry) (left : Objects) : Type 0 where
  pub call : Call
  pub own : entry.ticket ≡ ticket
  pub named : call_at files entry.caller entry.index ≡ Some call
  pub answer : entry.answer ≡ (operated source heap ticket call).answer
  pub leaves : left ≡ (operated source heap ticket call).objects
  pub of_module : IsHeapOf source left
  pub below : HasTicketsBelow (ticket + 1) left

-- an entry has the next ticket and another answer than its call gives
pub record HasOtherAnswer (source : Module) (files : List (List Call)) (heap : Objects) (ticket : ℕ) (entry : Entry) (kept given : Answer) : Type 0 where
  pub call : Call
  pub own : entry.ticket ≡ ticket
  pub named : call_at files entry.caller entry.index ≡ Some call
  pub is_kept : kept ≡ entry.answer
  pub is_given : given ≡ (operated source heap ticket call).answer
  pub other : kept ≢ given

-- the fault of one entry, where this ticket is the next one
abbrev pub IsFaultHere : Module → List (List Call) → Objects → ℕ → Entry → ReplayFault → Type 0
IsFaultHere source files heap ticket entry (Gap next) = (next ≡ ticket) × (entry.ticket ≢ ticket)
IsFaultHere source files heap ticket entry (Differs at kept given) = (at ≡ ticket) × HasOtherAnswer source files heap ticket entry kept given
IsFaultHere source files heap ticket entry Memory = Unit {0}
