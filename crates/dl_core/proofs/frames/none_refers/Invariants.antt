use Rattle.std.proofs.Common.{◌≡◌, take}
use Rattle.std.specs.Prelude.{count_by}
use Rattle.dl_ir.specs.References.{refers_to}
use Rattle.dl_core.proofs.frames.none_refers.Given as goal

abbrev pub invariant-loop-value : goal.invariant-loop-value
invariant-loop-value l = l.count ≡ count_by (refers_to l.name) (take l.value-index l.values)
