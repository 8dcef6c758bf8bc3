use Rattle.std.proofs.Common.{◌≡◌}
use Rattle.std.specs.List.{list_all}
use Rattle.std.specs.FinMap.{entries}
use Rattle.dl_shape.specs.Forests.{stands_in_forest}
use Rattle.dl_shape.proofs.references.is_forest.Given as goal

-- all is well where it is of what is left
abbrev pub invariant-loop-name : goal.invariant-loop-name
invariant-loop-name l = list_all (stands_in_forest l.heap.objects) l.name-iterator ≡ list_all (stands_in_forest l.heap.objects) (entries l.heap.objects)
