use Rattle.std.proofs.Common.{◌≡◌, ◌+◌, ◌*◌, ◌≤◌, drop, length}
use Rattle.std.specs.Prelude.{sum_by}
use Rattle.dl_command.proofs.run.total_of.Given as goal

abbrev pub invariant-files : goal.invariant-files
invariant-files l = record {
  counted : l.total + sum_by length (drop l.calls-index l.files) ≡ sum_by length l.files;
  few : l.total ≤ 65536 * l.calls-index;
}
