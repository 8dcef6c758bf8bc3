use Rattle.std.proofs.Common.{◌≡◌, vec_len, vec_capacity}
use Rattle.std.specs.List.{range_with_len}
use Rattle.dl_history.proofs.merging.put_places.Given as goal

abbrev pub invariant-places : goal.invariant-places
invariant-places l = record {
  put : l.order.items ≡ range_with_len 0 l.place;
  len : vec_len l.order ≡ l.place;
  capacity : vec_capacity l.order ≡ vec_capacity l.initial.order;
}
