use Rattle.std.proofs.Common.{rules, ℕ, subst}
use Rattle.std.specs.List.Sorted.{IsPermutation}
use Rattle.std.proofs.lemmas.Fn.{always_returns_same}
use Rattle.dl_history.specs.Histories.{caller_at, index_at}
use Rattle.dl_history.proofs.merging.put_in_order.Goals as goal

pub returns : goal.returns
returns c = record {
  each_once = subst (λ l. IsPermutation l c.sort_unstable_by_key.new.self.items) c.put_places.ensures c.sort_unstable_by_key.ensures.permutation;
  sorted = c.sort_unstable_by_key.ensures.sorted (λ (place : ℕ). (caller_at c.args.entries.now place, index_at c.args.entries.now place)) (always_returns_same _ _ _ (λ a r q k. search rules));
}
