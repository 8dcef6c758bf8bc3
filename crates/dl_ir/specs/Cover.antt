-- That a history and refusals have each operation of the files once.
use Rattle.std.specs.Prelude.{◌≡◌, ◌+◌, ◌<◌, ◌&&◌, ◌==◌, ℕ, zero, suc, Option, Some, None, List, slice_get, count_by, AllPairs, option_and_then}
use Rattle.dl_ir.specs.declared.answers.Entry.{Entry}
use Rattle.dl_ir.specs.declared.answers.Refusal.{Refusal}
use Rattle.dl_ir.specs.declared.calls.Call.{Call}

-- the operation of a caller with this index, both counted from 1
abbrev pub call_at : List (List Call) → ℕ → ℕ → Option Call
call_at files zero index = None
call_at files (suc caller) zero = None
call_at files (suc caller) (suc index) = option_and_then (λ (calls : List Call). slice_get calls index) (slice_get files caller)

-- how often the operation of a caller with this index stands in a history
abbrev pub runs_of : ℕ → ℕ → List Entry → ℕ
runs_of caller index history = count_by (λ (entry : Entry). (entry.caller == caller) && (entry.index == index)) history

-- how often the operation of a caller with this index stands among refusals
abbrev pub refusals_of : ℕ → ℕ → List Refusal → ℕ
refusals_of caller index refusals = count_by (λ (refusal : Refusal). (refusal.caller == caller) && (refusal.index == index)) refusals

-- one operation that is there, or none
abbrev pub one_if_there : Option Call → ℕ
one_if_there None = 0
one_if_there (Some call) = 1

-- each operation of the files stands exactly once, in the history or among the refusals; nothing else stands there; and each
-- caller's entries rise in the history by index
pub record Covers (files : List (List Call)) (history : List Entry) (refusals : List Refusal) : Type 0 where
  pub once : (caller index : ℕ) → runs_of caller index history + refusals_of caller index refusals ≡ one_if_there (call_at files caller index)
  pub in_order : AllPairs (λ (earlier later : Entry). earlier.caller ≡ later.caller → earlier.index < later.index) history
