-- What an operation needs of the pool.
use Rattle.std.specs.Prelude.{ℕ, slice_get}
use Rattle.std.specs.Option.{option_map_or}
use Rattle.dl_ir.specs.declared.calls.Call.{Call}
use Rattle.dl_ir.specs.declared.modules.Module.{Module}
use Rattle.dl_ir.specs.declared.modules.OpDecl.{OpDecl}

-- the number of objects that the operation of a call may make
abbrev pub allocs_of : Module → Call → ℕ
allocs_of source call = option_map_or (λ (op : OpDecl). op.allocs) (slice_get source.ops call.op) 0
