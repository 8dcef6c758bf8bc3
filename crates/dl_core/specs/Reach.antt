-- What a caller can come to from what it holds, for whom it waits, and the rules by which it takes.
use Rattle.std.specs.Prelude.{◌≡◌, ◌≢◌, ◌<◌, ◌⊎◌, ℕ, Option, Some, None}
use Rattle.std.specs.FinMap as finite
use Rattle.dl_ir.specs.declared.names.Name.{Name}
use Rattle.dl_ir.specs.Heap.{root}
use Rattle.dl_core.specs.declared.objects.Mark.{Mark}
use Rattle.dl_core.specs.declared.objects.Mark.TheVariants as marks
use Rattle.dl_core.specs.declared.objects.Object.{Object}
use Rattle.dl_core.specs.Heaps.{Heap, refs_in, IsHeld}
use Rattle.dl_core.specs.Plans.{Plan}
use Rattle.dl_core.specs.Frames.{Frame, IsEntered}
use Rattle.dl_core.specs.declared.dues.Due.{Due}
use Rattle.dl_core.specs.declared.dues.Due.TheVariants.{TakesRoot, Reads, Writes, Takes, LetsGo, GivesUp, Seals}
use Rattle.dl_core.specs.LocalSteps.{due}
use Rattle.dl_core.specs.Core.{Shared, frame_of}

-- some field of the object refers to the name
abbrev pub RefersTo : Object → Name → Type 0
RefersTo object name = 0 < refs_in name object

-- an object of the heap refers to another name
pub record Links (heap : Heap) (from to : Name) : Type 0 where
  pub object : Object
  pub there : finite.get heap from ≡ Some object
  pub refers : RefersTo object to

-- what the caller holds, and all on paths of fields from there
pub data Reaches (heap : Heap) (caller : ℕ) : Name → Type 0 where
  holds : {name : Name} → IsHeld heap caller name → Reaches heap caller name
  along : {from to : Name} → Reaches heap caller from → Links heap from to → Reaches heap caller to

-- a path of fields
pub data Path (heap : Heap) (from : Name) : Name → Type 0 where
  starts : Path heap from from
  goes : {mid to : Name} → Path heap from mid → Links heap mid to → Path heap from to

-- the path passes an object that the caller holds
abbrev pub Passes : (heap : Heap) (caller : ℕ) (from to : Name) → Path heap from to → Type 0
Passes heap caller from to starts = IsHeld heap caller from
Passes heap caller from to (goes {mid = mid} path link) = Passes heap caller from mid path ⊎ IsHeld heap caller to

-- the ticket of each caller's operation; 0 for a caller that has not entered
abbrev pub ticket_in : Shared → ℕ → ℕ
ticket_in world caller = (frame_of world caller).ticket

-- the mark is that of a caller or an operation with a ticket above this one
abbrev pub IsAbove : (ℕ → ℕ) → ℕ → Mark → Type 0
IsAbove tickets ticket marks.Free = ⊥
IsAbove tickets ticket (marks.Held caller) = ticket < tickets caller
IsAbove tickets ticket (marks.Sealed by) = ticket < by

-- the object that an event takes
abbrev pub target_of_take : Due → Option Name
target_of_take (TakesRoot number) = Some (root number)
target_of_take (Takes name) = Some name
target_of_take due = None

-- a caller waits for another: its next event takes an object that the other holds
pub record WaitsFor (plan : Plan) (world : Shared) (caller other : ℕ) : Type 0 where
  pub name : Name
  pub takes : target_of_take (due plan (frame_of world caller)) ≡ Some name
  pub held : IsHeld world.heap other name
  pub apart : caller ≢ other

-- callers that each wait for the next
pub data Waits (plan : Plan) (world : Shared) (caller : ℕ) : ℕ → Type 0 where
  at_once : {other : ℕ} → WaitsFor plan world caller other → Waits plan world caller other
  onward : {mid other : ℕ} → Waits plan world caller mid → WaitsFor plan world mid other → Waits plan world caller other

-- nobody holds the object of this name, and it is not sealed
pub record IsFree (heap : Heap) (name : Name) : Type 0 where
  pub object : Object
  pub there : finite.get heap name ≡ Some object
  pub free : object.mark ≡ marks.Free

-- the rules by which an event keeps to what the caller holds. A caller reads and writes fields only of objects that it holds. It takes
-- its roots in rising order, each above all that it holds, and before it enters; it lets go, gives up and seals only when it has entered. It
-- takes a free hidden object only when each path from a root to it passes an object that the caller holds
abbrev pub Dominates : Shared → ℕ → Frame → Due → Type 0
Dominates world caller frame (TakesRoot number) = (¬ (IsEntered frame)) × ((name : Name) → IsHeld world.heap caller name → (name.ticket ≡ 0) × (name.index < number))
Dominates world caller frame (Reads name field) = IsHeld world.heap caller name
Dominates world caller frame (Writes name field value) = IsHeld world.heap caller name
Dominates world caller frame (Takes name) = IsFree world.heap name → (first : ℕ) (path : Path world.heap (root first) name) → Passes world.heap caller (root first) name path
Dominates world caller frame (LetsGo name) = IsEntered frame
Dominates world caller frame (GivesUp name) = IsEntered frame
Dominates world caller frame (Seals name) = IsEntered frame
Dominates world caller frame due = Unit {0}
