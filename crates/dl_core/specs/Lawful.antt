-- The lawful states of the machine: seven facts of each state to which a run comes.
use Rattle.std.specs.Prelude.{◌≡◌, ◌+◌, ◌*◌, ◌<◌, ◌≤◌, ℕ, Some, length, nat_lt, slice_get, sum_by, if◌then◌else◌, Contains}
use Rattle.std.specs.FinMap as finite
use Rattle.dl_ir.specs.declared.names.Name.{Name}
use Rattle.dl_ir.specs.declared.names.Value.TheVariants.{Ref}
use Rattle.dl_ir.specs.Heap.{IsHidden, root, hidden_count}
use Rattle.dl_shape.specs.Replay.{greatest_ticket}
use Rattle.dl_core.specs.declared.stages.Booked.{Booked}
use Rattle.dl_core.specs.declared.stages.Stage.TheVariants as stages
use Rattle.dl_core.specs.Heaps.{Heap, refs, plain, IsHeld}
use Rattle.dl_core.specs.Plans.{Plan, IsCaller, size_of, allocs_of, roots_of}
use Rattle.dl_core.specs.Frames.{Frame, IsEntered, locals_to, target_in_hand}
use Rattle.dl_core.specs.Core.{Account, Core, Shared, frame_of}
use Rattle.dl_core.specs.Reached.{Calls, calls_of}
use Rattle.dl_core.specs.Reach.{ticket_in}
use Rattle.dl_core.specs.Changes.{IsCounted, IsApart}

-- each reference local of an entered caller is null or refers to an object that the caller holds
abbrev pub LocalsAreHeld : Shared → Type 0
LocalsAreHeld world = (caller local : ℕ) (name : Name) → IsEntered (frame_of world caller) → slice_get (frame_of world caller).locals local ≡ Some (Ref (Some name)) → IsHeld world.heap caller name

-- the book of an entered caller has each object that it holds, with the number of fields that refer to it; the number of its locals is
-- counted from the locals
pub record IsBookedRight (world : Shared) (caller : ℕ) (name : Name) : Type 0 where
  pub booked : Booked
  pub there : finite.get (frame_of world caller).book name ≡ Some booked
  pub fields : booked.fields ≡ refs world.heap name

abbrev pub BooksAreRight : Shared → Type 0
BooksAreRight world = (caller : ℕ) (name : Name) → IsEntered (frame_of world caller) → IsHeld world.heap caller name → IsBookedRight world caller name

-- why a caller holds an object
pub data HasReason (heap : Heap) (frame : Frame) (name : Name) : Type 0 where
  -- a local refers to it
  for_a_local : 0 < locals_to frame name → HasReason heap frame name
  -- several fields refer to it
  for_fields : 1 < refs heap name → HasReason heap frame name
  -- it is to be let go or given up
  for_the_list : Contains frame.loose name → HasReason heap frame name
  -- it was just taken or made, and the hand refers to it
  for_the_hand : target_in_hand frame ≡ Some name → HasReason heap frame name

abbrev pub HoldsForReasons : Shared → Type 0
HoldsForReasons world = (caller : ℕ) (name : Name) → IsEntered (frame_of world caller) → IsHeld world.heap caller name → HasReason world.heap (frame_of world caller) name

-- the object is one of the roots that the call in hand has taken
pub record IsTakenRoot (plan : Plan) (frame : Frame) (name : Name) : Type 0 where
  pub at : ℕ
  pub within : at < frame.taken
  pub number : ℕ
  pub there : slice_get (roots_of plan frame.call) at ≡ Some number
  pub is : name ≡ root number

-- only entered callers hold hidden objects; a caller that has not entered holds the first of its roots in rising order, and an idle
-- caller holds nothing
pub record HoldInOrder (plan : Plan) (world : Shared) : Type 0 where
  pub hidden : (caller : ℕ) (name : Name) → IsHeld world.heap caller name → IsHidden name → IsEntered (frame_of world caller)
  pub roots : (caller : ℕ) (name : Name) → (frame_of world caller).ticket ≡ 0 → IsHeld world.heap caller name → IsTakenRoot plan (frame_of world caller) name
  pub taken : (caller : ℕ) (name : Name) → (frame_of world caller).ticket ≡ 0 → IsTakenRoot plan (frame_of world caller) name → IsHeld world.heap caller name
  pub idle : (caller : ℕ) (name : Name) → (frame_of world caller).stage ≡ stages.Idle → ¬ (IsHeld world.heap caller name)

-- 1 for a caller that has entered
abbrev pub one_if_entered : Frame → ℕ
one_if_entered frame = if nat_lt 0 frame.ticket then 1 else 0

-- the number of calls entered, running or finished
abbrev pub entered_in : Shared → ℕ
entered_in world = sum_by (λ (frame : Frame). length frame.finished + one_if_entered frame) world.frames

-- the number of calls finished
abbrev pub finished_in : Shared → ℕ
finished_in world = sum_by (λ (frame : Frame). length frame.finished) world.frames

-- the number of spare places of all callers
abbrev pub spares_in : Shared → ℕ
spares_in world = sum_by (λ (frame : Frame). frame.spares) world.frames

-- 1 for a caller whose call in hand has a reservation
abbrev pub one_if_reserved : Account → ℕ
one_if_reserved account = if nat_lt 0 account.reserved_at then 1 else 0

-- how places, calls, tickets and versions add up
pub record AddUp (plan : Plan) (core : Core) (calls : Calls) : Type 0 where
  pub places : core.pool.free + spares_in core.world + hidden_count (plain core.world.heap) ≡ plan.places
  pub enough : (caller : ℕ) → IsEntered (frame_of core.world caller) → allocs_of plan (frame_of core.world caller).call ≤ (frame_of core.world caller).spares + (frame_of core.world caller).made
  pub sizes : (caller : ℕ) → IsCaller plan caller → length (calls_of calls caller) ≤ size_of plan caller
  pub clock : core.clock ≡ greatest_ticket plan.heap + entered_in core.world
  pub version : core.pool.version ≤ 2 * finished_in core.world + sum_by one_if_reserved core.pool.accounts

-- a state is lawful
pub record IsLawful (plan : Plan) (core : Core) (calls : Calls) : Type 0 where
  pub free_refs : IsCounted core.world.heap
  pub locals_held : LocalsAreHeld core.world
  pub books : BooksAreRight core.world
  pub held_why : HoldsForReasons core.world
  pub who_holds : HoldInOrder plan core.world
  pub older_reach : IsApart core.world.heap (ticket_in core.world)
  pub totals : AddUp plan core calls
