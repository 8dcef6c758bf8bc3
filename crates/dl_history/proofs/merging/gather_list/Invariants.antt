use Rattle.std.proofs.Common.{◌≡◌, ◌+◌, ◌++◌, drop, vec_len, vec_capacity}
use Rattle.dl_history.proofs.merging.gather_list.Given as goal

abbrev pub invariant-items : goal.invariant-items
invariant-items g l = record {
  added : l.all.items ++ drop l.item-index l.list ≡ l.initial.all.items ++ l.list;
  len : vec_len l.all ≡ vec_len l.initial.all + l.item-index;
  capacity : vec_capacity l.all ≡ vec_capacity l.initial.all;
}
