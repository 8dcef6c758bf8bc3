-- The rows of a heap, of which each is kept in two parts: the values of the fields behind the fourth stand aside.
use Rattle.std.specs.Prelude.{◌≡◌, ◌≤◌, ◌+◌, ◌-◌, ℕ, Bool, true, false, List, [], ◌++◌, Option, Some, None, length, map, slice_set}
use Rattle.std.specs.FinMap.{FinMap, entries, from_sorted, get}
use Rattle.dl_ir.specs.declared.names.Name.{Name}
use Rattle.dl_ir.specs.declared.names.Value.{Value}
use Rattle.dl_ir.specs.declared.rows.Head.{Head}
use Rattle.dl_ir.specs.declared.rows.Row.{Row}
use Rattle.dl_ir.specs.Heap.{name_cmp}
use Rattle.dl_ir.specs.Rows.{Rows}

-- What stands aside, where something does.
abbrev pub aside : Bool → Option (List Value) → List Value
aside true (Some far) = far
aside true None = []
aside false far = []

-- The row of an object, with what stands aside of it.
abbrev pub whole : Head → Option (List Value) → Row
whole head far = record { refs = head.refs; object = record { kind = head.kind; sealed = head.sealed; fields = head.near ++ aside head.wide far } }

-- A name with its row.
abbrev pub entry_whole : FinMap name_cmp (List Value) → Name × Head → Name × Row
entry_whole tails e = (e.0, whole e.1 (get tails e.0))

-- Names with their rows.
abbrev pub along : FinMap name_cmp (List Value) → List (Name × Head) → List (Name × Row)
along tails heads = map {B = Name × Row} (entry_whole tails) heads

-- The rows of all names.
unfoldable pub joined : FinMap name_cmp Head → FinMap name_cmp (List Value) → FinMap name_cmp Row
joined heads tails = from_sorted (along tails (entries heads))

-- The head in which this one of its values is another.
abbrev pub near_with : ℕ → Value → Head → Head
near_with field value head = record head { near = slice_set head.near field value }

-- The values aside, of which this one is another.
abbrev pub far_with : ℕ → Value → List Value → List Value
far_with at value far = slice_set far at value

-- The head of the object, sealed.
abbrev pub sealed_head : Head → Head
sealed_head head = record head { sealed = true }

-- The head whose number has this more, and then this fewer, down to 0.
abbrev pub recounted_head : ℕ → ℕ → Head → Head
recounted_head more fewer head = record head { refs = head.refs + more - fewer }

-- A head has at most four values, and four where more stand aside.
pub record IsHead (head : Head) : Type 0 where
  pub few : length head.near ≤ 4
  pub full : head.wide ≡ true → length head.near ≡ 4

-- An object is there of which something stands aside.
abbrev pub IsWide : Option Head → Type 0
IsWide None = ⊥
IsWide (Some head) = head.wide ≡ true

-- Something stands aside only of an object that is there and tells so, and there is as much memory for it.
pub record IsStored (heads : Rows Head) (tails : Rows (List Value)) : Type 0 where
  pub each : (name : Name) (head : Head) → get heads.rows name ≡ Some head → IsHead head
  pub wide : (name : Name) (far : List Value) → get tails.rows name ≡ Some far → IsWide (get heads.rows name)
  pub room : tails.room ≡ heads.room
