-- Which operations of a file are refused.
use Rattle.std.specs.Prelude.{◌≡◌, ◌↔◌, ◌+◌, ◌<◌, ℕ, List, [], ◌∷◌, Some, All, filter, nat_lt}
use Rattle.std.specs.List.Sorted.{IsNonDecreasingBy}
use Rattle.dl_ir.specs.declared.answers.Entry.{Entry}
use Rattle.dl_ir.specs.declared.answers.Refusal.{Refusal}
use Rattle.dl_ir.specs.declared.calls.Call.{Call}
use Rattle.dl_ir.specs.declared.modules.Module.{Module}
use Rattle.dl_ir.specs.Cover.{call_at, refusals_of}
use Rattle.dl_ir.specs.Heap.{Objects, hidden_count}
use Rattle.dl_shape.specs.Replay.{replayed}
use Rattle.dl_serial.specs.Rooms.{allocs_of}

-- the entries of operations before the one with this number
abbrev pub entries_before : ℕ → List Entry → List Entry
entries_before index entries = filter (λ (entry : Entry). nat_lt entry.index index) entries

-- the heap in which the operation of a file with this number begins: the replay of the entries before it
abbrev pub heap_before : Module → List Call → Objects → List Entry → ℕ → Objects
heap_before source calls heap entries index = replayed source (calls ∷ []) heap (entries_before index entries)

-- an operation of the file stands among the refusals exactly where the places less the hidden objects of the heap, at that point, are
-- below the number of objects that it may make
abbrev pub RefusesExactly : ℕ → Module → List Call → Objects → List Entry → List Refusal → Type 0
RefusesExactly places source calls heap entries refusals = (index : ℕ) (call : Call) → call_at (calls ∷ []) 1 index ≡ Some call
    → (refusals_of 1 index refusals ≡ 1) ↔ (places < allocs_of source call + hidden_count (heap_before source calls heap entries index))

-- the refusals are of caller 1, in order of index
pub record AreOfOne (refusals : List Refusal) : Type 0 where
  pub caller : All (λ (refusal : Refusal). refusal.caller ≡ 1) refusals
  pub in_order : IsNonDecreasingBy (λ (refusal : Refusal). refusal.index) refusals
