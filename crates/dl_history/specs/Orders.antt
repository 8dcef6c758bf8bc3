-- How a history keeps the places of its entries, and what is told of one operation.
use Rattle.std.specs.Prelude.{◌≡◌, ◌==◌, ◌*◌, ◌≤◌, ℕ, List, [], length, slice_get, Option, Some, None, option_and_then, if◌then◌else◌}
use Rattle.std.specs.List.{range_with_len}
use Rattle.std.specs.List.Sorted.{IsPermutation, IsSorted, IsNonDecreasingBy}
use Rattle.std.specs.Ordering.{nat_cmp, ordering_then}
use Rattle.dl_ir.specs.declared.answers.Answer.{Answer}
use Rattle.dl_ir.specs.declared.answers.Entry.{Entry}
use Rattle.dl_ir.specs.declared.answers.Refusal.{Refusal}
use Rattle.dl_ir.specs.declared.moves.Move.{Move}
use Rattle.dl_history.specs.Histories.{caller_at, index_at, refusals_by}

-- the places of all entries, each once, by caller and then by index
pub record IsOrder (entries : List Entry) (order : List ℕ) : Type 0 where
  pub each_once : IsPermutation (range_with_len 0 (length entries)) order
  pub sorted : IsSorted (λ a b. ordering_then (nat_cmp (caller_at entries a) (caller_at entries b)) (nat_cmp (index_at entries a) (index_at entries b))) order

-- these are the refusals of a caller, in order of index
pub record AreRefusalsOf (all : List Refusal) (caller : ℕ) (refusals : List Refusal) : Type 0 where
  pub those : refusals ≡ refusals_by caller all
  pub in_order : IsNonDecreasingBy (λ (refusal : Refusal). refusal.index) refusals

-- the answer of an entry, where it has this index
abbrev pub answer_with : ℕ → Option Entry → Option Answer
answer_with index None = None
answer_with index (Some entry) = if entry.index == index then Some entry.answer else None

-- the answer of the entry at a place, where there is one and the entry has this index
abbrev pub answer_at : List Entry → ℕ → Option ℕ → Option Answer
answer_at entries index place = answer_with index (option_and_then (slice_get entries) place)

-- empty lists with memory for so many entries, for twice as many moves, and for the places of the entries
pub record IsRoom (total : ℕ) (entries : List Entry) (entries_room : ℕ) (moves : List Move) (moves_room : ℕ) (order : List ℕ) (order_room : ℕ) : Type 0 where
  pub no_entries : entries ≡ []
  pub no_moves : moves ≡ []
  pub no_places : order ≡ []
  pub for_entries : total ≤ entries_room
  pub for_moves : 2 * total ≤ moves_room
  pub for_places : total ≤ order_room
