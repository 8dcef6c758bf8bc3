-- What contracts see of a pass: of one caller's way into a run that several callers share.
use Rattle.std.specs.Prelude.{◌≡◌, ◌≢◌, ◌+◌, ◌*◌, ◌<◌, ℕ, max, List, [], ◌∷◌, ◌++◌, fold, length, map}
use Rattle.std.specs.List.{zip}
use Rattle.dl_ir.specs.declared.answers.Entry.{Entry}
use Rattle.dl_ir.specs.declared.answers.Refusal.{Refusal}
use Rattle.dl_ir.specs.declared.calls.Call.{Call}
use Rattle.dl_ir.specs.declared.modules.KindDecl.{KindDecl}
use Rattle.dl_ir.specs.declared.names.Name.{Name}
use Rattle.dl_ir.specs.CallForms.{IsCallOf}
use Rattle.dl_ir.specs.Heap.{Objects, start_objects}
use Rattle.dl_shape.specs.Replay.{greatest_ticket}
use Rattle.dl_instr.specs.declared.code.Code.{Code}
use Rattle.dl_core.specs.declared.answers.Lock.{Lock}
use Rattle.dl_core.specs.declared.answers.Lock.TheVariants as locks
use Rattle.dl_core.specs.declared.stages.Stage.TheVariants as stages
use Rattle.dl_core.specs.Plans.{Plan, source_of, size_of}
use Rattle.dl_core.specs.Frames.{Frame, idle}
use Rattle.dl_core.specs.Events.{begun}
use Rattle.dl_core.specs.Core.{Account, no_account, entry_of}

-- how callers are kept apart: one turn for all of them, under which an operation runs to its end, or one lock for each object
pub data Manner : Type 0 where
  OneTurn : Manner
  OneLockEach : Manner

-- a step on a shared word, with the number found there where the step tells one
pub data Glance : Type 0 where
  NoStep : Glance
  Loaded : (word found : ℕ) → Glance
  Stored : (word : ℕ) → Glance
  Compared : (word found : ℕ) → Glance
  Added : (word found : ℕ) → Glance

-- how many steps a pass has made on shared words, and the last two of them
pub record Look : Type 0 where
  pub count : ℕ
  pub last : Glance
  pub before : Glance

-- no step is made
abbrev pub no_look : Look
no_look = record { count = 0; last = NoStep; before = NoStep }

-- one step more
abbrev pub looked : Glance → Look → Look
looked glance look = record { count = look.count + 1; last = glance; before = look.last }

-- where a pass tries to make an object: the first place that it tries, and how many it has tried in vain for the object that comes next
pub record Round : Type 0 where
  pub from : ℕ
  pub tries : ℕ

abbrev pub first_round : Round
first_round = record { from = 0; tries = 0 }

-- what contracts see of a pass
pub record PassView : Type 0 where
  pub caller : ℕ
  -- the calls begun on it, in order
  pub calls : List Call
  -- what its caller has of its own, the call in hand and its ticket with it; and what the pool keeps of the caller, the version of
  -- the reservation with it
  pub frame : Frame
  pub account : Account
  -- the greatest ticket that it has drawn or learnt
  pub front : ℕ
  -- the greatest version of the pool that it has made, been refused at or learnt
  pub known : ℕ
  pub look : Look
  -- the objects that it has come upon, with their places, where objects have places
  pub places : List (Name × ℕ)
  pub round : Round

-- what a note tells: a front and a version of the pool
pub record Told : Type 0 where
  pub front : ℕ
  pub known : ℕ

-- the entries of a pass, in order of index
abbrev pub entries_in : PassView → List Entry
entries_in view = map (entry_of view.caller) (zip view.frame.finished view.account.versions)

-- the refusals of a pass, in order of index
abbrev pub refusals_in : PassView → List Refusal
refusals_in view = view.account.refusals

-- no call is in hand, and no reservation
pub record IsIdle (view : PassView) : Type 0 where
  pub stage : view.frame.stage ≡ stages.Idle
  pub unreserved : view.account.reserved_at ≡ 0

-- a call is in hand
abbrev pub IsBusy : PassView → Type 0
IsBusy view = view.frame.stage ≢ stages.Idle

-- a pass that has begun nothing
abbrev pub fresh_pass : Plan → ℕ → PassView
fresh_pass plan caller = record {
  caller = caller;
  calls = [];
  frame = idle;
  account = no_account;
  front = greatest_ticket plan.heap;
  known = 0;
  look = no_look;
  places = [];
  round = first_round;
}

-- a call may be put into the hand of a pass: it has none, and has room for one more, and the call is one of the module
pub record MayTake (plan : Plan) (view : PassView) (call : Call) : Type 0 where
  pub idle : IsIdle view
  pub room : length view.calls < size_of plan view.caller
  pub fits : IsCallOf (source_of plan) call

-- a call is in the hand of the pass
abbrev pub begun_by : Call → PassView → PassView
begun_by call view = record view { calls = view.calls ++ call ∷ []; frame = begun call view.frame }

-- what a pass tells by a note
abbrev pub told_by : PassView → Told
told_by view = record { front = view.front; known = view.known }

-- a pass takes in what a note tells
abbrev pub learnt_by : Told → PassView → PassView
learnt_by told view = record view { front = max view.front told.front; known = max view.known told.known }

-- the plan of a run from a heap
abbrev pub plan_over : Code → Objects → ℕ → List ℕ → Plan
plan_over code heap places sizes = record { code = code; heap = heap; places = places; sizes = sizes }

-- the plan of a run from the start heap of the code's module
abbrev pub first_plan : Code → ℕ → List ℕ → Plan
first_plan code places sizes = plan_over code (start_objects code.source) places sizes

-- the words that callers share where each object has a lock of its own. Word 0 has the version of the pool and the free places, word 1
-- the last ticket. Behind these stand the roots, each with its lock and its fields; behind these the places, each with its state, the
-- name and the kind of its object, and the object's fields

-- the number of words for fields, and of roots
abbrev pub width_of : Plan → ℕ
width_of plan = fold (λ most (kind : KindDecl). max most (length kind.fields)) 0 (source_of plan).kinds

abbrev pub roots_in : Plan → ℕ
roots_in plan = fold (λ (count : ℕ) (kind : KindDecl). count + kind.count) 0 (source_of plan).kinds

abbrev pub root_word : Plan → ℕ → ℕ
root_word plan number = 2 + number * (1 + width_of plan)

abbrev pub place_word : Plan → ℕ → ℕ
place_word plan place = root_word plan (roots_in plan) + place * (4 + width_of plan)

-- the word of a lock. The turn stands at word 0
abbrev pub word_of : Plan → Lock → ℕ
word_of plan locks.Turn = 0
word_of plan (locks.Root number) = root_word plan number
word_of plan (locks.Object name) = 0
word_of plan (locks.Place place) = place_word plan place

-- what stands in the word of a lock that a caller has
abbrev pub held_word : Lock → ℕ → ℕ
held_word locks.Turn caller = caller
held_word lock caller = 1 + caller

-- what stands in word 0 where the pool has this version and so many free places
abbrev pub pool_word : ℕ → ℕ → ℕ
pool_word version free = version * 16777216 + free
