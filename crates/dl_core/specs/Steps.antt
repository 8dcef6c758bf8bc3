-- Steps that look at one frame and at most one object, over any kind of frame.
use Rattle.std.specs.Prelude.{ℕ, ◌≡◌, List, [], ◌∷◌, Option, Some, None, get_or, set}
use Rattle.std.specs.FinMap as finite
use Rattle.dl_ir.specs.declared.names.Name.{Name}
use Rattle.dl_core.specs.declared.objects.Object.{Object}
use Rattle.dl_core.specs.Heaps.{Heap, put_at}

-- the shared objects, and a frame for each caller. That of caller c stands at place c; nobody has number 0
pub record World (Frame : Type 0) : Type 0 where
  pub heap : Heap
  pub frames : List Frame

-- what a frame's next step touches: there is none, or its frame alone, or one object
pub data Aim : Type 0 where
  Nowhere : Aim
  Inside : Aim
  At : (name : Name) → Aim

-- how callers act. `act` gives the new frame and what then stands at the name; nothing where the caller waits
pub record Rules (Frame : Type 0) : Type 0 where
  pub idle : Frame
  pub aim : Frame → Aim
  pub act : ℕ → Frame → Option Object → Option (Frame × Option Object)
  pub alone : ℕ → Frame → Frame

module _ {Frame : Type 0} (rules : Rules Frame) where
  -- a caller's frame
  abbrev pub frame_by : World Frame → ℕ → Frame
  frame_by world caller = get_or world.frames caller rules.idle

  -- the world with another frame of a caller
  abbrev pub with_frame_by : World Frame → ℕ → Frame → World Frame
  with_frame_by world caller frame = record { heap = world.heap; frames = set world.frames caller frame }

  -- the world with another frame of a caller, and with this at a name
  abbrev pub acted_by : World Frame → ℕ → Name → Option (Frame × Option Object) → Option (World Frame)
  acted_by world caller name None = None
  acted_by world caller name (Some acted) = Some (record { heap = put_at world.heap name acted.1; frames = set world.frames caller acted.0 })

  abbrev pub at_aim : World Frame → ℕ → Aim → Option (World Frame)
  at_aim world caller Nowhere = None
  at_aim world caller Inside = Some (with_frame_by world caller (rules.alone caller (frame_by world caller)))
  at_aim world caller (At name) = acted_by world caller name (rules.act caller (frame_by world caller) (finite.get world.heap name))

  -- a caller's next step, if it does not wait
  abbrev pub step_by : World Frame → ℕ → Option (World Frame)
  step_by world caller = at_aim world caller (rules.aim (frame_by world caller))

  -- a caller goes on alone, until no step comes next
  pub data Alone (caller : ℕ) : World Frame → World Frame → Type 0 where
    over : {world : World Frame} → rules.aim (frame_by world caller) ≡ Nowhere → Alone caller world world
    then_on : {world mid end : World Frame} → step_by world caller ≡ Some mid → Alone caller mid end → Alone caller world end

  -- these callers go on alone, one after another
  pub data InTurn : List ℕ → World Frame → World Frame → Type 0 where
    none : {world : World Frame} → InTurn [] world world
    next : {caller : ℕ} {callers : List ℕ} {world mid end : World Frame} → Alone caller world mid → InTurn callers mid end → InTurn (caller ∷ callers) world end
