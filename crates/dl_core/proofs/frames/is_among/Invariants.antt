use Rattle.std.proofs.Common.{◌≡◌, take}
use Rattle.std.specs.List.{list_any}
use Rattle.dl_ir.specs.References.{name_eq}
use Rattle.dl_core.proofs.frames.is_among.Given as goal

abbrev pub invariant-loop-other : goal.invariant-loop-other
invariant-loop-other l = l.found ≡ list_any (name_eq l.name) (take l.other-index l.names)
