use Rattle.std.proofs.Common.{◌≡◌, ◌++◌, take}
use Rattle.std.specs.Prelude.{map}
use Rattle.dl_command.specs.Wanted.{operations_from, wanted_held}
use Rattle.dl_command.proofs.wanted.add_operations.Given as goal

abbrev pub invariant-paths : goal.invariant-paths
invariant-paths l = map wanted_held l.wanted.items ≡ map wanted_held l.fn.wanted.items ++ operations_from l.first (take l.i (map (λ path. path.now) l.paths))
