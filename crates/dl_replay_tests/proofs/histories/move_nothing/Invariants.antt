use Rattle.std.proofs.Common.{◌≡◌, drop}
use Rattle.dl_shape.specs.Pool.{moves_of}
use Rattle.dl_replay_tests.proofs.histories.move_nothing.Given as goal

abbrev pub invariant-entries : goal.invariant-entries
invariant-entries l = moves_of l.source l.files (drop l.entry-index l.entries) ≡ moves_of l.source l.files l.entries
