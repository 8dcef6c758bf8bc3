use Rattle.std.proofs.Common.{◌≡◌, ◌++◌, ◌+◌, ◌≤◌, length}
use Rattle.dl_core.proofs.openings.copied.Given as goal

abbrev pub invariant-loop-value : goal.invariant-loop-value
invariant-loop-value l = record {
  same : l.copy ++ l.value-iterator ≡ l.fields;
  few : length l.copy + length l.value-iterator ≤ 16;
}
