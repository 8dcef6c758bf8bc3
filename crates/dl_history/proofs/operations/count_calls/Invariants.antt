use Rattle.std.proofs.Common.{◌≡◌, ◌+◌, ◌*◌, ◌≤◌, drop, length, sum_by}
use Rattle.dl_history.proofs.operations.count_calls.Given as goal

abbrev pub invariant-callers : goal.invariant-callers
invariant-callers l = record {
  counted : l.count + sum_by length (drop l.i l.files) ≡ sum_by length l.files;
  few : l.count ≤ 65536 * l.i;
}
