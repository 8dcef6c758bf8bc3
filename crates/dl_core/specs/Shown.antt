-- A frame as the program keeps it, and the frame that it is.
use Rattle.std.specs.Prelude.{◌≡◌, ◌+◌, ◌<◌, ◌≤◌, ◌^◌, ℕ, true, false, Option, Some, None, List, [], ◌∷◌, length, map, slice_get, get_or}
use Rattle.std.specs.FinMap as finite
use Rattle.dl_ir.specs.declared.answers.End.TheVariants as ends
use Rattle.dl_ir.specs.declared.answers.Entry.{Entry}
use Rattle.dl_ir.specs.declared.answers.Refusal.{Refusal}
use Rattle.dl_ir.specs.declared.names.Name.{Name}
use Rattle.dl_ir.specs.declared.modules.KindDecl.{KindDecl}
use Rattle.dl_instr.specs.declared.code.Code.{Code}
use Rattle.dl_instr.specs.declared.steps.Step.{Step}
use Rattle.dl_core.specs.declared.dues.Due.{Due}
use Rattle.dl_core.specs.declared.stages.Booked.{Booked}
use Rattle.dl_core.specs.declared.frames.Frame.{Frame as Kept}
use Rattle.dl_core.specs.Accounts.{finished_in}
use Rattle.dl_core.specs.Rooms.{Roomed}
use Rattle.dl_core.specs.Plans.{Plan, steps_of, roots_of}
use Rattle.dl_core.specs.Frames.{Frame, Book, has_booked, is_among, ended}
use Rattle.dl_core.specs.LocalSteps.{Next, Goes, Stops, GoesBackToTurns}

-- what a frame is, memory left aside
abbrev pub shown : Kept → Frame
shown kept = record {
  stage = kept.stage;
  call = record { op = kept.op; args = kept.args.items };
  index = kept.index;
  taken = kept.taken;
  ticket = kept.ticket;
  place = kept.place;
  locals = kept.locals.items;
  hand = kept.hand;
  turns = kept.turns;
  made = kept.made;
  emitted = kept.emitted;
  spares = kept.spares;
  book = kept.book.rows;
  loose = kept.loose.items;
  cursor = kept.cursor;
  seen = kept.seen;
  breach = kept.breach;
  finished = map finished_in kept.entries.items;
}

-- what no local step changes: the memory of a frame, the roots of the call in hand, and what is kept of the caller's operations
pub record Rooms : Type 0 where
  pub args : ℕ
  pub roots : Roomed ℕ
  pub locals : ℕ
  pub book : ℕ
  pub loose : ℕ
  pub reserved_at : ℕ
  pub entries : Roomed Entry
  pub refusals : Roomed Refusal

abbrev pub rooms_of : Kept → Rooms
rooms_of kept = record {
  args = kept.args.room;
  roots = kept.roots;
  locals = kept.locals.room;
  book = kept.book.room;
  loose = kept.loose.room;
  reserved_at = kept.reserved_at;
  entries = kept.entries;
  refusals = kept.refusals;
}

-- the memory of a frame
pub record Memory : Type 0 where
  pub args : ℕ
  pub roots : ℕ
  pub locals : ℕ
  pub book : ℕ
  pub loose : ℕ
  pub entries : ℕ
  pub refusals : ℕ

abbrev pub memory_of : Kept → Memory
memory_of kept = record {
  args = kept.args.room;
  roots = kept.roots.room;
  locals = kept.locals.room;
  book = kept.book.room;
  loose = kept.loose.room;
  entries = kept.entries.room;
  refusals = kept.refusals.room;
}

-- another of the held objects can become loose
abbrev pub HasSpace : Kept → Type 0
HasSpace kept = (name : Name) → has_booked (shown kept) name ≡ true → is_among name kept.loose.items ≡ false → length kept.loose.items < kept.loose.room

-- a plan of which the code alone is known
abbrev pub with_code : Code → Plan
with_code code = record { code = code; heap = finite.empty; places = 0; sizes = [] }

-- what comes next is told, and the frame is the one after it
abbrev pub after : Next → Frame → Option Due × Frame
after (Goes next) frame = (None, next)
after (Stops due) frame = (Some due, frame)

-- the frame of an operation that goes to an object, or ends at null
abbrev pub shown_at : Option Name → Frame → Frame
shown_at None frame = ended ends.Null frame
shown_at (Some name) frame = frame

-- no kind has many fields
abbrev pub HasFewFields : Code → Type 0
HasFewFields code = (number : ℕ) (kind : KindDecl) → slice_get code.source.kinds number ≡ Some kind → length kind.fields ≤ 16

-- these objects are held, and each stands in the list once
abbrev pub AreTidy : Book → List Name → Type 0
AreTidy book [] = Unit {0}
AreTidy book (name ∷ names) = (finite.contains_key book name ≡ true) × (is_among name names ≡ false) × AreTidy book names

-- the loose objects are held and stand in the list once, so that memory for as many as are held serves
abbrev pub IsTidy : Frame → Type 0
IsTidy frame = AreTidy frame.book frame.loose

-- what local steps of a frame rest on
pub record CanGoOn (code : Code) (kept : Kept) : Type 0 where
  pub few : HasFewFields code
  pub tidy : IsTidy (shown kept)
  pub room : finite.len kept.book.rows ≤ kept.loose.room
  pub locals : length kept.locals.items < 2 ^ 32
  pub roots : (plan : Plan) → plan.code ≡ code → kept.roots.items ≡ roots_of plan (shown kept).call
  pub turns : (plan : Plan) → plan.code ≡ code → GoesBackToTurns (steps_of plan (shown kept).call)

-- a field more that refers to a held object can be counted
abbrev pub HasFewRefs : Kept → Type 0
HasFewRefs kept = (name : Name) (booked : Booked) → finite.get kept.book.rows name ≡ Some booked → booked.fields + 1 < 2 ^ 32

-- the code of each operation goes back to loops' tests alone
abbrev pub HasTurns : Code → Type 0
HasTurns code = (op : ℕ) → GoesBackToTurns (get_or code.ops op [])

-- the code has a step at the frame's place
abbrev pub HasStep : Code → Kept → Type 0
HasStep code kept = (step : Step) × (slice_get (get_or code.ops kept.op []) kept.place ≡ Some step)

-- it has one unless a loose object is worked off
abbrev pub IsAtStep : Code → Kept → Type 0
IsAtStep code kept = kept.loose.items ≡ [] → HasStep code kept

-- while an object is given up, the field behind this one can be counted
abbrev pub IsFewField : Kept → ℕ → Type 0
IsFewField kept field = (name : Name) → slice_get kept.loose.items 0 ≡ Some name → field + 1 < 2 ^ 32
