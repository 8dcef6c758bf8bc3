-- The places of a caller's entries, within the places of all.
use Rattle.std.proofs.Common.{◌≡◌, refl, ℕ, ◌<◌, ◌≤◌, ◌==◌, true, false, List, length, filter, get_or, subst, arith}
use Rattle.std.specs.Prelude.{nat_lt, nat_le}
use Rattle.std.specs.List.{slice_range, range_with_len}
use Rattle.std.specs.List.Sorted.{IsPermutation, IsPartitionedBy, IsPartitionPoint}
use Rattle.std.proofs.lemmas.List.Sorted.{IsPartitionedBy-leb, IsPartitionedBy-ltb}
use Rattle.std.proofs.lemmas.Bool.Decides.{nat_tests}
use Rattle.dl_ir.specs.declared.answers.Entry.{Entry}
use Rattle.dl_history.specs.Histories.{caller_at, index_at, places_of, ArePlacesOf}
use Rattle.dl_history.specs.Orders.{IsOrder}
use Rattle.dl_lemmas.proofs.Counts.{filter_moves, filter_part}
use Rattle.dl_lemmas.proofs.Sorted.{first_rises, second_rises}
use Rattle.std.proofs.lemmas.Bool.{leb-true, leb-false}

below_differs : (a b : ℕ) → nat_lt a b ≡ true → (a == b) ≡ false
below_differs a b h = grind (arith, nat_tests)

above_differs : (a b : ℕ) → nat_le a b ≡ false → (a == b) ≡ false
above_differs a b h = grind (arith, nat_tests)

between_same : (a b : ℕ) → nat_lt a b ≡ false → nat_le a b ≡ true → (a == b) ≡ true
between_same a b low high = grind (arith, nat_tests)

between_is : (a b : ℕ) → nat_lt a b ≡ false → nat_le a b ≡ true → a ≡ b
between_is a b low high = grind (arith, nat_tests)

not_both : (a b : ℕ) → nat_lt a b ≡ true → nat_le a b ≡ false → ⊥
not_both a b low high = grind (arith, nat_tests)

module _ (entries : List Entry) (order : List ℕ) (is_order : IsOrder entries order) (caller : ℕ) where
  pub parted_below : IsPartitionedBy (λ place. nat_lt (caller_at entries place) caller) order
  parted_below = IsPartitionedBy-ltb (caller_at entries) order caller (first_rises (caller_at entries) (index_at entries) order is_order.sorted)

  pub parted_upto : IsPartitionedBy (λ place. nat_le (caller_at entries place) caller) order
  parted_upto = IsPartitionedBy-leb (caller_at entries) order caller (first_rises (caller_at entries) (index_at entries) order is_order.sorted)

  module _ (from to : ℕ) (from_within : from ≤ length order) (to_within : to ≤ length order)
      (at_from : IsPartitionPoint (λ place. nat_lt (caller_at entries place) caller ≡ true) (λ place. nat_lt (caller_at entries place) caller ≡ false) order from)
      (at_to : IsPartitionPoint (λ place. nat_le (caller_at entries place) caller ≡ true) (λ place. nat_le (caller_at entries place) caller ≡ false) order to) where
    pub in_turn : from ≤ to
    in_turn = elim (nat_le from to) as (λ b. nat_le from to ≡ b → from ≤ to) [
      | true ↦ λ t. leb-true from to t
      | false ↦ λ t.
          let below : to < from = leb-false from to t in
          absurd (not_both (caller_at entries (get_or order to 0)) caller (at_from.0 to 0 (omega arith) below) (at_to.1 to 0 (omega arith) (omega arith)))
    ] refl

    part : filter (λ place. caller_at entries place == caller) order ≡ slice_range order from to
    part = filter_part (λ place. caller_at entries place == caller) order from to in_turn to_within
        (λ k d low high. below_differs (caller_at entries (get_or order k d)) caller (at_from.0 k d low high))
        (λ k d low high. between_same (caller_at entries (get_or order k d)) caller (at_from.1 k d low (omega arith)) (at_to.0 k d (omega arith) high))
        (λ k d low high. above_differs (caller_at entries (get_or order k d)) caller (at_to.1 k d low high))

    pub places_are : ArePlacesOf entries caller (slice_range order from to)
    places_are = record {
      each_once = subst (λ l. IsPermutation (places_of entries caller) l) part (filter_moves (λ place. caller_at entries place == caller) (range_with_len 0 (length entries)) order is_order.each_once);
      in_order = second_rises (caller_at entries) (index_at entries) order is_order.sorted from to caller to_within
          (λ k d low high. between_is (caller_at entries (get_or order k d)) caller (at_from.1 k d low (omega arith)) (at_to.0 k d (omega arith) high));
    }
