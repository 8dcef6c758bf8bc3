use Rattle.std.proofs.Common.{◌≡◌, ◌+◌, ◌≤◌, ◌++◌, drop, length, vec_len, vec_capacity}
use Rattle.dl_history.specs.Histories.{joined}
use Rattle.dl_history.proofs.merging.gather.Given as goal

abbrev pub invariant-lists : goal.invariant-lists
invariant-lists g l = record {
  added : l.all.items ++ joined (drop l.list-index l.lists) ≡ l.initial.all.items ++ joined l.lists;
  room : vec_len l.all + length (joined (drop l.list-index l.lists)) ≤ vec_capacity l.all;
}
