use Rattle.std.proofs.Common.{◌≡◌, length, map, take}
use Rattle.dl_core_tests.proofs.runs.sizes_of.Given as goal

abbrev pub invariant-files : goal.invariant-files
invariant-files l = l.sizes.items ≡ map length (take l.calls-index l.files)
