use Rattle.std.proofs.Common.{◌≤◌, ◌*◌, vec_len}
use Rattle.dl_tests.proofs.operation_files.many.Given as goal

abbrev pub invariant-loop-turn : goal.invariant-loop-turn
invariant-loop-turn l = vec_len l.file ≤ 7 * l._turn
