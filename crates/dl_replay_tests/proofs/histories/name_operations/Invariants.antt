use Rattle.std.proofs.Common.{take}
use Rattle.std.specs.Prelude.{All}
use Rattle.dl_replay.specs.Faults.{NamesOperation}
use Rattle.dl_replay_tests.proofs.histories.name_operations.Given as goal

abbrev pub invariant-entries : goal.invariant-entries
invariant-entries l = All (NamesOperation l.files) (take l.entry-index l.entries)
