-- What each caller has of its own, and how it changes.
use Rattle.std.specs.Prelude.{◌+◌, ◌-◌, ◌<◌, ◌==◌, ◌&&◌, ℕ, ℤ, Bool, false, not, Option, Some, None, List, [], ◌∷◌, ◌++◌, slice_get, slice_set, count_by, nat_le, if◌then◌else◌}
use Rattle.std.specs.List.{list_any}
use Rattle.std.specs.Option.{option_map, option_map_or}
use Rattle.std.specs.FinMap as finite
use Rattle.std.specs.FinMap.{FinMap}
use Rattle.dl_ir.specs.declared.answers.End.{End}
use Rattle.dl_ir.specs.declared.calls.Call.{Call}
use Rattle.dl_ir.specs.declared.names.Name.{Name}
use Rattle.dl_ir.specs.declared.names.Value.{Value}
use Rattle.dl_ir.specs.declared.names.Value.TheVariants.{Ref}
use Rattle.dl_ir.specs.Evaluation.{target_of}
use Rattle.dl_ir.specs.Heap.{name_cmp}
use Rattle.dl_ir.specs.References.{name_eq, refers_to}
use Rattle.dl_core.specs.declared.stages.Stage.{Stage}
use Rattle.dl_core.specs.declared.stages.Stage.TheVariants as stages
use Rattle.dl_core.specs.declared.stages.Booked.{Booked}
use Rattle.dl_core.specs.declared.stages.Finished.{Finished}
use Rattle.dl_core.specs.Heaps.{put_at}

-- what a caller knows of the objects that it holds
abbrev pub Book : Type 0
Book = FinMap name_cmp Booked

-- what a caller has of its own
pub record Frame : Type 0 where
  -- how far it has come with the call in hand
  pub stage : Stage
  -- the call in hand, and how many calls it has begun
  pub call : Call
  pub index : ℕ
  -- how many of the call's roots it has taken
  pub taken : ℕ
  -- the operation's ticket; 0 until it enters
  pub ticket : ℕ
  -- the place in the code
  pub place : ℕ
  pub locals : List Value
  -- what was read, evaluated or made and is used by the step that follows
  pub hand : Option Value
  -- the turns left
  pub turns : ℕ
  -- how many objects the operation has made
  pub made : ℕ
  -- the numbers that the operation has given out
  pub emitted : List ℤ
  -- places that are reserved and not used
  pub spares : ℕ
  pub book : Book
  -- the held objects that are to be let go or given up, in the order in which this is done
  pub loose : List Name
  -- the first field, of the object that is being given up, that may not be null yet
  pub cursor : ℕ
  -- the target of that field is sealed, and the caller has seen this
  pub seen : Bool
  -- the first object that the operation sealed
  pub breach : Option Name
  -- the operations that the caller has finished
  pub finished : List Finished

-- no call
abbrev pub no_call : Call
no_call = record { op = 0; args = [] }

-- a caller with no call in hand, after so many calls, of which it finished these
abbrev pub at_rest : ℕ → List Finished → Frame
at_rest index finished = record {
  stage = stages.Idle;
  call = no_call;
  index = index;
  taken = 0;
  ticket = 0;
  place = 0;
  locals = [];
  hand = None;
  turns = 0;
  made = 0;
  emitted = [];
  spares = 0;
  book = finite.empty;
  loose = [];
  cursor = 0;
  seen = false;
  breach = None;
  finished = finished;
}

-- a caller with a call in hand that has not entered: it has taken so many of the call's roots, has so many places and this book
abbrev pub waiting : Call → ℕ → ℕ → Book → ℕ → List Finished → Frame
waiting call taken spares book index finished = record (at_rest index finished) { stage = stages.Called; call = call; taken = taken; spares = spares; book = book }

-- a caller that has begun nothing
abbrev pub idle : Frame
idle = at_rest 0 []

-- the operation has entered, and is not finished
abbrev pub IsEntered : Frame → Type 0
IsEntered frame = 0 < frame.ticket

-- the number of locals that refer to an object
abbrev pub locals_to : Frame → Name → ℕ
locals_to frame name = count_by (refers_to name) frame.locals

-- the caller holds the object
abbrev pub has_booked : Frame → Name → Bool
has_booked frame name = finite.contains_key frame.book name

-- what a local refers to
abbrev pub target_at : Frame → ℕ → Option Name
target_at frame local = target_of (slice_get frame.locals local)

-- what the hand refers to
abbrev pub target_in_hand : Frame → Option Name
target_in_hand frame = target_of frame.hand

-- what the hand holds; null where it is empty
abbrev pub value_in_hand : Option Value → Value
value_in_hand None = Ref None
value_in_hand (Some value) = value

-- the name is one of the list
abbrev pub is_among : Name → List Name → Bool
is_among name names = list_any (name_eq name) names

-- the list without its first element
abbrev pub behind_of : {X : Type 0} → List X → List X
behind_of [] = []
behind_of (first ∷ others) = others

-- the list without its first name
abbrev pub behind : List Name → List Name
behind = behind_of

-- the object is held, has no local and at most one field that refers to it, and is not loose yet
abbrev pub is_to_loosen : Frame → Name → Bool
is_to_loosen frame name =
    option_map_or (λ (booked : Booked). nat_le booked.fields 1) (finite.get frame.book name) false
    && (locals_to frame name == 0)
    && not (is_among name frame.loose)

-- an object from which a local or a field has gone is loose now, where it is to be
abbrev pub loosened : Option Name → Frame → Frame
loosened None frame = frame
loosened (Some name) frame = if is_to_loosen frame name then record frame { loose = frame.loose ++ name ∷ [] } else frame

-- a local gets a value
abbrev pub assigned : ℕ → Value → Frame → Frame
assigned local value frame = loosened (target_at frame local) (record frame { locals = slice_set frame.locals local value })

-- the book with the number of fields of a held object changed
abbrev pub recounted : (ℕ → ℕ) → Option Name → Book → Book
recounted change None book = book
recounted change (Some name) book = put_at book name (option_map (λ (booked : Booked). record booked { fields = change booked.fields }) (finite.get book name))

-- one field more refers to the object
abbrev pub raised : Option Name → Book → Book
raised = recounted (λ fields. fields + 1)

-- one field less refers to the object
abbrev pub lowered : Option Name → Book → Book
lowered = recounted (λ fields. fields - 1)

-- an object is held from now on, to which so many fields refer
abbrev pub with_booked : Name → ℕ → ℕ → Frame → Frame
with_booked name kind fields frame = record frame { book = finite.insert frame.book name (record { kind = kind; fields = fields }) }

-- the object is held no longer
abbrev pub without_booked : Name → Frame → Frame
without_booked name frame = record frame { book = finite.remove frame.book name }

-- the next step of the code
abbrev pub advanced : Frame → Frame
advanced frame = record frame { place = frame.place + 1 }

-- the step of the code at this place
abbrev pub gone_to : ℕ → Frame → Frame
gone_to place frame = record frame { place = place }

abbrev pub with_hand : Option Value → Frame → Frame
with_hand hand frame = record frame { hand = hand }

-- the operation ends
abbrev pub ended : End → Frame → Frame
ended end frame = record frame { stage = stages.Ended end; hand = None }
