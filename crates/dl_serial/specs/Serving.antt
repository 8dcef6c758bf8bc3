-- How a line of calls is worked off, call by call. What the runner promises does not rest on it.
use Rattle.std.specs.Prelude.{◌≡◌, ℕ, ◌+◌, ◌<◌, ◌≤◌, ◌==◌, ◌++◌, List, [], ◌∷◌, Some, length, slice_get, if◌then◌else◌}
use Rattle.dl_ir.specs.declared.answers.Entry.{Entry}
use Rattle.dl_ir.specs.declared.answers.Refusal.{Refusal}
use Rattle.dl_ir.specs.declared.calls.Call.{Call}
use Rattle.dl_ir.specs.declared.modules.Module.{Module}
use Rattle.dl_ir.specs.Heap.{Objects, hidden_count}
use Rattle.dl_shape.specs.Operation.{operated}
use Rattle.dl_serial.specs.Rooms.{allocs_of}

-- the number of moves that taking or returning so many places is: none of no places is none
abbrev pub move_count : ℕ → ℕ
move_count places = if places == 0 then 0 else 1

-- the version that a move of so many places makes, or 0 where there is none
abbrev pub version_made : ℕ → ℕ → ℕ
version_made version places = if places == 0 then 0 else version + 1

-- the entry of a call that is carried out: its ticket, its number, its answer, and its moves of the pool
pub record IsEntryOf (source : Module) (heap : Objects) (call : Call) (drawn number seen : ℕ) (entry : Entry) : Type 0 where
  pub ticket : entry.ticket ≡ drawn
  pub caller : entry.caller ≡ 1
  pub index : entry.index ≡ number
  pub answer : entry.answer ≡ (operated source heap drawn call).answer
  pub reserved_at : entry.reserved_at ≡ version_made seen (allocs_of source call)
  pub returned : entry.returned + hidden_count (operated source heap drawn call).objects ≡ allocs_of source call + hidden_count heap
  pub returned_at : entry.returned_at ≡ version_made (seen + move_count (allocs_of source call)) entry.returned

-- the refusal of a call for want of places
pub record IsRefusalOf (source : Module) (places : ℕ) (heap : Objects) (call : Call) (number seen : ℕ) (refusal : Refusal) : Type 0 where
  pub caller : refusal.caller ≡ 1
  pub index : refusal.index ≡ number
  pub need : refusal.need ≡ allocs_of source call
  pub found : refusal.found + hidden_count heap ≡ places
  pub version : refusal.version ≡ seen

-- so many of the calls of caller 1 lead to entries and refusals, to a heap and to a version of the pool: a call is refused
-- exactly where the places less the hidden objects are below what its operation may make
pub data Serves (source : Module) (places first : ℕ) (start : Objects) (calls : List Call) : ℕ → List Entry → List Refusal → Objects → ℕ → Type 0 where
  begins : Serves source places first start calls 0 [] [] start 0
  carries_out : {count version : ℕ} {entries : List Entry} {refusals : List Refusal} {heap : Objects} (call : Call) (entry : Entry)
      → Serves source places first start calls count entries refusals heap version
      → slice_get calls count ≡ Some call
      → allocs_of source call + hidden_count heap ≤ places
      → IsEntryOf source heap call (first + length entries) (count + 1) version entry
      → Serves source places first start calls (count + 1) (entries ++ entry ∷ []) refusals (operated source heap (first + length entries) call).objects
      (version + move_count (allocs_of source call) + move_count entry.returned)
  refuses : {count version : ℕ} {entries : List Entry} {refusals : List Refusal} {heap : Objects} (call : Call) (refusal : Refusal)
      → Serves source places first start calls count entries refusals heap version
      → slice_get calls count ≡ Some call
      → places < allocs_of source call + hidden_count heap
      → IsRefusalOf source places heap call (count + 1) version refusal
      → Serves source places first start calls (count + 1) entries (refusals ++ refusal ∷ []) heap version
