-- What callers see of a history, and the places of a caller's entries and refusals.
use Rattle.std.specs.Prelude.{◌≡◌, ◌==◌, ◌+◌, ℕ, List, filter, length, slice_get, Some, All}
use Rattle.std.specs.Option.{option_map_or}
use Rattle.std.specs.List.{flat_map, range_with_len}
use Rattle.std.specs.List.Sorted.{IsPermutation, IsNonDecreasingBy}
use Rattle.dl_ir.specs.declared.answers.Entry.{Entry}
use Rattle.dl_ir.specs.declared.answers.Refusal.{Refusal}
use Rattle.dl_ir.specs.declared.moves.Move.{Move}

-- the entries of a history and the moves of the pool that they made
pub record Seen : Type 0 where
  pub entries : List Entry
  pub moves : List Move

-- the elements of some lists, one list after another
abbrev pub joined : {X : Type 0} → List (List X) → List X
joined lists = flat_map (λ list. list) lists

-- the caller of the entry at a place
abbrev pub caller_at : List Entry → ℕ → ℕ
caller_at entries place = option_map_or (λ (entry : Entry). entry.caller) (slice_get entries place) 0

-- the index of the entry at a place
abbrev pub index_at : List Entry → ℕ → ℕ
index_at entries place = option_map_or (λ (entry : Entry). entry.index) (slice_get entries place) 0

-- the places, from 0 on, at which entries of this caller stand
abbrev pub places_of : List Entry → ℕ → List ℕ
places_of entries caller = filter (λ place. caller_at entries place == caller) (range_with_len 0 (length entries))

-- these are the places of a caller's entries, each once, in order of index
pub record ArePlacesOf (entries : List Entry) (caller : ℕ) (places : List ℕ) : Type 0 where
  pub each_once : IsPermutation (places_of entries caller) places
  pub in_order : IsNonDecreasingBy (index_at entries) places

-- the refusals of a caller
abbrev pub refusals_by : ℕ → List Refusal → List Refusal
refusals_by caller refusals = filter (λ (refusal : Refusal). refusal.caller == caller) refusals

-- the lists have the refusals of one caller each, from caller 1 on, in order of index
abbrev pub AreByCaller : List (List Refusal) → Type 0
AreByCaller lists = (at : ℕ) (list : List Refusal) → slice_get lists at ≡ Some list
    → All (λ (refusal : Refusal). refusal.caller ≡ at + 1) list × IsNonDecreasingBy (λ (refusal : Refusal). refusal.index) list
