use Rattle.std.proofs.Common.{◌≡◌, ◌+◌, ◌*◌, ◌^◌, ◌≤◌, drop, length}
use Rattle.dl_history.specs.Histories.{joined}
use Rattle.dl_work.proofs.summaries.number_in.Given as goal

-- those of the lists so far are counted
abbrev pub invariant-loop-list : goal.invariant-loop-list
invariant-loop-list l = record {
  counted : l.number + length (joined (drop l.list-index l.refusals)) ≡ length (joined l.refusals);
  few : l.number ≤ l.list-index * 2 ^ 64;
}
