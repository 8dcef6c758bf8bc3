-- The moves of the pool of places that a history gives, and which of them are lawful.
use Rattle.std.specs.Prelude.{◌≡◌, ◌+◌, ◌<◌, ◌≤◌, ◌==◌, ◌++◌, ◌+ℤ◌, ◌-ℤ◌, ◌≤ℤ◌, ℕ, ℤ, pos, List, [], ◌∷◌, length, slice_get, option_and_then, filter, fold, map, count_by, nat_lt, nat_le, All, Contains, if◌then◌else◌}
use Rattle.std.specs.Option.{option_map_or}
use Rattle.std.specs.List.{flat_map}
use Rattle.std.specs.List.Sorted.{IsStrictlyIncreasing}
use Rattle.dl_ir.specs.declared.modules.OpDecl.{OpDecl}
use Rattle.dl_ir.specs.declared.modules.Module.{Module}
use Rattle.dl_ir.specs.declared.calls.Call.{Call}
use Rattle.dl_ir.specs.declared.moves.Move.{Move}
use Rattle.dl_ir.specs.declared.answers.Entry.{Entry}
use Rattle.dl_ir.specs.declared.answers.Refusal.{Refusal}
use Rattle.dl_ir.specs.Heap.{Objects, hidden_count}
use Rattle.dl_ir.specs.Cover.{call_at}
use Rattle.dl_shape.specs.Replay.{after_call}
use Rattle.dl_shape.specs.Rising.{in_rising}

-- the number of objects that the operation of a caller with this index may make
abbrev pub allocs_at : Module → List (List Call) → ℕ → ℕ → ℕ
allocs_at source files caller index = option_map_or (λ (op : OpDecl). op.allocs)
    (option_and_then (λ (call : Call). slice_get source.ops call.op) (call_at files caller index)) 0

-- the reservation of an entry, where its operation may make objects
abbrev pub reservation_of : Entry → ℕ → List Move
reservation_of entry allocs = if nat_lt 0 allocs then record { version = entry.reserved_at; change = pos 0 -ℤ pos allocs; ticket = entry.ticket } ∷ [] else []

-- the return of an entry, where it returned places
abbrev pub return_of : Entry → List Move
return_of entry = if nat_lt 0 entry.returned then record { version = entry.returned_at; change = pos entry.returned; ticket = entry.ticket } ∷ [] else []

-- the moves of an entry
abbrev pub moves_of_entry : Module → List (List Call) → Entry → List Move
moves_of_entry source files entry = reservation_of entry (allocs_at source files entry.caller entry.index) ++ return_of entry

-- the moves of a history
abbrev pub moves_of : Module → List (List Call) → List Entry → List Move
moves_of source files history = flat_map (moves_of_entry source files) history

-- the moves in rising versions
abbrev pub in_rising_versions : List Move → List Move
in_rising_versions moves = in_rising (λ (move : Move). move.version) moves

-- the versions of an entry's moves
abbrev pub versions_of : Module → List (List Call) → Entry → List ℕ
versions_of source files entry = map (λ (move : Move). move.version) (moves_of_entry source files entry)

-- an entry has no version but those of its moves: where it made none, its version is 0
pub record HasVersionsOfMovesAlone (source : Module) (files : List (List Call)) (entry : Entry) : Type 0 where
  pub unreserved : allocs_at source files entry.caller entry.index ≡ 0 → entry.reserved_at ≡ 0
  pub unreturned : entry.returned ≡ 0 → entry.returned_at ≡ 0

-- the number of free places at a version
abbrev pub free_at : ℕ → Objects → List Move → ℕ → ℤ
free_at places heap moves version = fold (λ free (move : Move). free +ℤ move.change) (pos places -ℤ pos (hidden_count heap))
    (filter (λ (move : Move). nat_le move.version version) moves)

-- each entry returns what it reserved and did not keep: its allocs and the hidden objects before it are the returned places and the hidden objects after it
pub data ReturnsFit (source : Module) (files : List (List Call)) : Objects → List Entry → Type 0 where
  ends : {heap : Objects} → ReturnsFit source files heap []
  goes_on : {heap : Objects} {entry : Entry} {rest : List Entry}
      → allocs_at source files entry.caller entry.index + hidden_count heap
      ≡ entry.returned + hidden_count (after_call source heap entry.ticket (call_at files entry.caller entry.index))
      → ReturnsFit source files (after_call source heap entry.ticket (call_at files entry.caller entry.index)) rest
      → ReturnsFit source files heap (entry ∷ rest)

-- a refusal was due: its operation needs more places than were free at its version
pub record IsDue (source : Module) (files : List (List Call)) (places : ℕ) (heap : Objects) (moves : List Move) (refusal : Refusal) : Type 0 where
  pub need : refusal.need ≡ allocs_at source files refusal.caller refusal.index
  pub found : pos refusal.found ≡ free_at places heap moves refusal.version
  pub short : refusal.found < refusal.need
  pub seen : refusal.version ≤ length moves

-- every number of the one list is below every number of the other
abbrev pub AreBelow : List ℕ → List ℕ → Type 0
AreBelow lower upper = All (λ a. All (λ b. a < b) upper) lower

-- the pool of so many places is lawful: what its moves and refusals say of each other, from the heap at the start on
pub record IsLawfulPool (places : ℕ) (source : Module) (files : List (List Call)) (heap : Objects) (history : List Entry) (refusals : List Refusal) : Type 0 where
  -- the versions of the moves are 1, 2, 3 and so on, each once
  pub in_range : All (λ (move : Move). (1 ≤ move.version) × (move.version ≤ length (moves_of source files history))) (moves_of source files history)
  pub each_once : (version : ℕ) → 1 ≤ version → version ≤ length (moves_of source files history)
      → count_by (λ (move : Move). move.version == version) (moves_of source files history) ≡ 1
  -- the number of free places is never negative
  pub never_negative : (version : ℕ) → version ≤ length (moves_of source files history) → pos 0 ≤ℤ free_at places heap (moves_of source files history) version
  -- each entry returns what it reserved and did not keep
  pub returns : ReturnsFit source files heap history
  -- each refusal was due
  pub due : All (IsDue source files places heap (moves_of source files history)) refusals
  -- along a caller's operations the versions of moves rise, within one entry too
  pub within : All (λ (entry : Entry). IsStrictlyIncreasing (versions_of source files entry)) history
  pub along : (a b : Entry) → Contains history a → Contains history b → a.caller ≡ b.caller → a.index < b.index
      → AreBelow (versions_of source files a) (versions_of source files b)
  -- a refusal's version is not below an earlier move of its caller and is below each later one
  pub not_before : (entry : Entry) (refusal : Refusal) → Contains history entry → Contains refusals refusal → entry.caller ≡ refusal.caller
      → entry.index < refusal.index → All (λ version. version ≤ refusal.version) (versions_of source files entry)
  pub before : (entry : Entry) (refusal : Refusal) → Contains history entry → Contains refusals refusal → entry.caller ≡ refusal.caller
      → refusal.index < entry.index → All (λ version. refusal.version < version) (versions_of source files entry)
