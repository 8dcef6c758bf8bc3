use Rattle.std.proofs.Common.{take}
use Rattle.std.specs.Prelude.{All}
use Rattle.dl_replay.specs.Faults.{NamesOperation}
use Rattle.domlock.proofs.run_tests.name_operations.Given as goal

abbrev pub invariant-entries : goal.invariant-entries
invariant-entries l = All (NamesOperation l.files) (take l.entry-index l.entries)
