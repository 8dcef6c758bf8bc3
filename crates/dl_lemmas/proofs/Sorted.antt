-- Lists that are sorted by one key after another.
use Rattle.std.proofs.Common.{◌≡◌, ℕ, ◌+◌, ◌-◌, ◌<◌, ◌≤◌, false, List, length, get_or, drop, sym, ◌∙◌, ap, arith}
use Rattle.std.specs.List.{AllWithin, slice_range}
use Rattle.std.specs.List.Sorted.{IsNonDecreasingBy, IsSorted}
use Rattle.std.specs.Ordering.{nat_cmp, ordering_then, is_lt}
use Rattle.std.proofs.lemmas.Bool.Decides.{nat_tests}
use Rattle.std.proofs.lemmas.List.{length-take, get_or-take, get_or-drop}
use Rattle.std.proofs.lemmas.List.Sorted.{IsNonDecreasingBy-from_all_adjacent}

-- one key after another: the first never falls, and where it stays the second does not fall
first_key : (a b c d : ℕ) → is_lt (ordering_then (nat_cmp c a) (nat_cmp d b)) ≡ false → a ≤ c
first_key a b c d h = grind (arith, nat_tests)

second_key : (a b c d : ℕ) → c ≡ a → is_lt (ordering_then (nat_cmp c a) (nat_cmp d b)) ≡ false → b ≤ d
second_key a b c d same h = grind (arith, nat_tests)

-- the keys of a list that is sorted by one key after another
module _ (first second : ℕ → ℕ) (xs : List ℕ) (sorted : IsSorted (λ a b. ordering_then (nat_cmp (first a) (first b)) (nat_cmp (second a) (second b))) xs) where
  pub first_rises : IsNonDecreasingBy first xs
  first_rises = IsNonDecreasingBy-from_all_adjacent first xs (λ k d within. first_key (first (get_or xs k d)) (second (get_or xs k d)) (first (get_or xs (k + 1) d)) (second (get_or xs (k + 1) d)) (sorted k d (omega arith) within))

  -- where the first key is the same, the second does not fall
  pub second_rises : (from to key : ℕ) → to ≤ length xs → AllWithin (λ x. first x ≡ key) xs from to → IsNonDecreasingBy second (slice_range xs from to)
  second_rises from to key within same = IsNonDecreasingBy-from_all_adjacent second (slice_range xs from to) (λ k d inside.
      let short : length (slice_range xs from to) ≤ to - from = omega (arith, length-take {A = ℕ}) in
      let here : get_or (slice_range xs from to) k d ≡ get_or xs (from + k) d = get_or-slice xs from to k d (omega arith) in
      let next : get_or (slice_range xs from to) (k + 1) d ≡ get_or xs (from + k + 1) d = get_or-slice xs from to (k + 1) d (omega arith) ∙ ap (λ n. get_or xs n d) (omega arith) in
      let alike : first (get_or xs (from + k + 1) d) ≡ first (get_or xs (from + k) d) = same (from + k + 1) d (omega arith) (omega arith) ∙ sym (same (from + k) d (omega arith) (omega arith)) in
      let rises : second (get_or xs (from + k) d) ≤ second (get_or xs (from + k + 1) d) = second_key (first (get_or xs (from + k) d)) (second (get_or xs (from + k) d)) (first (get_or xs (from + k + 1) d)) (second (get_or xs (from + k + 1) d)) alike (sorted (from + k) d (omega arith) (omega arith)) in
      rw (here, next) rises)
    where
      get_or-slice : (xs : List ℕ) (from to k d : ℕ) → k < to - from → get_or (slice_range xs from to) k d ≡ get_or xs (from + k) d
      get_or-slice xs from to k d below = get_or-take (to - from) (drop from xs) k d below ∙ get_or-drop from xs k d
