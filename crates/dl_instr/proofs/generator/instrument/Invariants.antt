use Rattle.std.proofs.Common.{◌≡◌, map, take}
use Rattle.dl_instr.specs.Code.{op_code}
use Rattle.dl_instr.proofs.generator.instrument.Given as goal

abbrev pub invariant-loop-op : goal.invariant-loop-op
invariant-loop-op l = l.ops ≡ map op_code (take l.op-index l.op-items)
