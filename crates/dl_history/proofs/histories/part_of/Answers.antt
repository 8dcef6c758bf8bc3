use Rattle.std.proofs.Common.{◌≡◌, true, false, rules}
use Rattle.std.specs.Prelude.{nat_lt, nat_le}
use Rattle.std.specs.List.Sorted.{IsPartitionPoint}
use Rattle.std.proofs.lemmas.List.Sorted.{IsPartitionPoint-from_clause}
use Rattle.dl_history.specs.Histories.{caller_at}
use Rattle.dl_history.proofs.Places.{parted_below, parted_upto, in_turn, places_are}
use Rattle.dl_history.proofs.histories.part_of.Goals as goal

pub returns : goal.returns
returns c =
    let at_from : IsPartitionPoint (λ place. nat_lt (caller_at c.args.entries.now place) c.args.caller ≡ true) (λ place. nat_lt (caller_at c.args.entries.now place) c.args.caller ≡ false) c.args.order.now c.partition_point-from.result
    = IsPartitionPoint-from_clause (λ place. nat_lt (caller_at c.args.entries.now place) c.args.caller) c.args.order.now _ c.partition_point-from.ensures.partitioned
    (parted_below c.args.entries.now c.args.order.now c.requires c.args.caller) (λ a r q k. search rules) in
    let at_to : IsPartitionPoint (λ place. nat_le (caller_at c.args.entries.now place) c.args.caller ≡ true) (λ place. nat_le (caller_at c.args.entries.now place) c.args.caller ≡ false) c.args.order.now c.partition_point-to.result
    = IsPartitionPoint-from_clause (λ place. nat_le (caller_at c.args.entries.now place) c.args.caller) c.args.order.now _ c.partition_point-to.ensures.partitioned
    (parted_upto c.args.entries.now c.args.order.now c.requires c.args.caller) (λ a r q k. search rules) in
    record {
      begins = in_turn c.args.entries.now c.args.order.now c.requires c.args.caller _ _ c.partition_point-from.ensures.bound c.partition_point-to.ensures.bound at_from at_to;
      ends = c.partition_point-to.ensures.bound;
      part = places_are c.args.entries.now c.args.order.now c.requires c.args.caller _ _ c.partition_point-from.ensures.bound c.partition_point-to.ensures.bound at_from at_to;
    }
