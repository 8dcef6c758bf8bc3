use Rattle.std.proofs.Common.{◌≡◌}
use Rattle.std.specs.List.{list_any}
use Rattle.dl_shape.specs.Forests.{names_root}
use Rattle.dl_shape.proofs.references.refers_to_root.Given as goal

-- those that are left tell as much as all
abbrev pub invariant-loop-value : goal.invariant-loop-value
invariant-loop-value l = list_any names_root l.value-iterator ≡ list_any names_root l.fields
