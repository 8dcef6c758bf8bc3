-- The state of the meaning that a frame and a heap are.
use Rattle.dl_serial.specs.declared.frames.Frame.{Frame}
use Rattle.dl_serial.specs.declared.frames.Task.{Task}
use Rattle.std.specs.Prelude.{◌+◌, ◌≤◌}
use Rattle.std.specs.FinMap as finite
use Rattle.dl_ir.specs.Heap.{View}
use Rattle.dl_ir.specs.Meaning.{Context, State}
use Rattle.dl_ir.specs.declared.modules.Module.{Module}

-- the state that a frame and a heap are
abbrev pub state_of : Frame → View → State
state_of frame heap = record { locals = frame.locals.items; objects = heap.objects; turns = frame.turns; made = frame.made; emitted = frame.emitted }

-- the context that a module and a task are
abbrev pub context_of : Module → Task → Context
context_of source task = record { source = source; ticket = task.ticket; allocs = task.allocs }

-- the heap has room for what the operation may still make
pub record HasRoom (task : Task) (frame : Frame) (heap : View) : Type 0 where
  pub made : frame.made ≤ task.allocs
  pub room : finite.len heap.objects + task.allocs ≤ heap.room + frame.made
