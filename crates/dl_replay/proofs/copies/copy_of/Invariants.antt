use Rattle.std.proofs.Common.{◌≡◌, ◌++◌, ◌+◌, ◌≤◌, length}
use Rattle.dl_replay.proofs.copies.copy_of.Given as goal

abbrev pub invariant-loop-value : goal.invariant-loop-value
invariant-loop-value l = record {
  same : l.fields ++ l.value-iterator ≡ l.object.fields;
  few : length l.fields + length l.value-iterator ≤ 16;
}
