-- Counts of what passes a test, and filters.
use Rattle.std.proofs.Common.{◌≡◌, ℕ, zero, suc, ◌+◌, ◌-◌, ◌<◌, ◌≤◌, ◌==◌, Bool, true, false, cond, ◌&&◌, List, [], ◌∷◌, ◌++◌, length, get_or, take, drop, filter, refl, sym, ◌∙◌, ap, arith}
use Rattle.std.specs.Prelude.{count_by, remove}
use Rattle.std.specs.List.{AllWithin, slice_range, range_with_len}
use Rattle.std.specs.List.Sorted.{IsPermutation}
use Rattle.std.proofs.lemmas.List.Sums.{sum_by-cons, sum_by_push}
use Rattle.std.proofs.lemmas.List.Sorted.{IsPermutation-refl, IsPermutation-sym, IsPermutation-cons, IsPermutation-trans, IsPermutation-remove, sum_by-IsPermutation}
use Rattle.std.proofs.lemmas.Bool.Decides.{nat_tests}
use Rattle.dl_lemmas.proofs.Tests.{same_number}

-- a count over a first element and the others
pub count-cons : {X : Type 0} (p : X → Bool) (x : X) (xs : List X) → count_by p (x ∷ xs) ≡ cond (p x) 1 0 + count_by p xs
count-cons p x xs = sum_by-cons (λ y. cond (p y) 1 0) x xs

-- one more at the end
pub count-push : {X : Type 0} (p : X → Bool) (xs : List X) (x : X) → count_by p (xs ++ x ∷ []) ≡ count_by p xs + cond (p x) 1 0
count-push p xs x = sum_by_push (λ y. cond (p y) 1 0) xs x

-- an order of the elements changes no count
pub count-moves : {X : Type 0} (p : X → Bool) (xs ys : List X) → IsPermutation xs ys → count_by p ys ≡ count_by p xs
count-moves p xs ys moves = sum_by-IsPermutation (λ y. cond (p y) 1 0) xs ys moves

-- a number that is counted is there
counted_there : (k : ℕ) (ys : List ℕ) → 0 < count_by (λ y. y == k) ys → (i : ℕ) × (i < length ys) × (k ≡ get_or ys i k)
counted_there k [] some = absurd (omega arith)
counted_there k (y ∷ ys) some = elim (y == k) as (λ b. (y == k) ≡ b → (i : ℕ) × (i < length (y ∷ ys)) × (k ≡ get_or (y ∷ ys) i k)) [
  | true ↦ λ is. (0, omega arith, same y k is)
  | false ↦ λ is.
      let count : count_by (λ z. z == k) (y ∷ ys) ≡ 0 + count_by (λ z. z == k) ys = count-cons (λ z. z == k) y ys ∙ ap (λ (b : Bool). cond b 1 0 + count_by (λ z. z == k) ys) is in
      let later = counted_there k ys (omega arith) in
      (suc later.0, omega (arith, later.1), later.2)
] refl
  where
    same : (y k : ℕ) → (y == k) ≡ true → k ≡ y
    same y k is = grind (arith, nat_tests)

-- the counts of what is left when a first element is taken out
counts_left : (x : ℕ) (xs ys rest : List ℕ) → ((k : ℕ) → count_by (λ z. z == k) (x ∷ xs) ≡ count_by (λ z. z == k) ys) → IsPermutation ys (x ∷ rest)
    → (k : ℕ) → count_by (λ z. z == k) xs ≡ count_by (λ z. z == k) rest
counts_left x xs ys rest same out k =
    let whole : count_by (λ z. z == k) (x ∷ rest) ≡ count_by (λ z. z == k) (x ∷ xs) = count-moves (λ z. z == k) ys (x ∷ rest) out ∙ sym (same k) in
    let left : count_by (λ z. z == k) (x ∷ rest) ≡ cond (x == k) 1 0 + count_by (λ z. z == k) rest = count-cons (λ z. z == k) x rest in
    let right : count_by (λ z. z == k) (x ∷ xs) ≡ cond (x == k) 1 0 + count_by (λ z. z == k) xs = count-cons (λ z. z == k) x xs in
    omega arith

-- lists of numbers with the same counts have the same elements
pub counts_move : (xs ys : List ℕ) → ((k : ℕ) → count_by (λ x. x == k) xs ≡ count_by (λ x. x == k) ys) → IsPermutation xs ys
counts_move [] [] same = IsPermutation-refl _
counts_move [] (y ∷ ys) same =
    let there : 0 ≡ 1 + count_by (λ x. x == y) ys = same y ∙ count-cons (λ x. x == y) y ys ∙ ap (λ (b : Bool). cond b 1 0 + count_by (λ x. x == y) ys) (same_number y) in
    absurd (omega arith)
counts_move (x ∷ xs) ys same =
    let there : count_by (λ z. z == x) ys ≡ 1 + count_by (λ z. z == x) xs
    = sym (same x) ∙ count-cons (λ z. z == x) x xs ∙ ap (λ (b : Bool). cond b 1 0 + count_by (λ z. z == x) xs) (same_number x) in
    let found = counted_there x ys (omega arith) in
    let out : IsPermutation ys (x ∷ remove ys found.0) = IsPermutation-remove ys found.0 x found.1 found.2 in
    let rest = counts_left x xs ys (remove ys found.0) same out in
    IsPermutation-trans _ _ _ (IsPermutation-cons x _ _ (counts_move xs (remove ys found.0) rest)) (IsPermutation-sym _ _ out)

-- what a test counts among those that another one keeps
pub count-filter : {X : Type 0} (p q : X → Bool) (xs : List X) → count_by q (filter p xs) ≡ count_by (λ x. p x && q x) xs
count-filter p q [] = refl
count-filter p q (x ∷ xs) = elim (p x) as (λ b. p x ≡ b → count_by q (cond b (x ∷ filter p xs) (filter p xs)) ≡ count_by (λ y. p y && q y) (x ∷ xs)) [
  | true ↦ λ is. count-cons q x (filter p xs) ∙ ap (λ n. cond (q x) 1 0 + n) (count-filter p q xs)
      ∙ ap (λ (b : Bool). cond (b && q x) 1 0 + count_by (λ y. p y && q y) xs) (sym is) ∙ sym (count-cons (λ y. p y && q y) x xs)
  | false ↦ λ is.
      let whole : count_by (λ y. p y && q y) (x ∷ xs) ≡ 0 + count_by (λ y. p y && q y) xs
      = count-cons (λ y. p y && q y) x xs ∙ ap (λ (b : Bool). cond (b && q x) 1 0 + count_by (λ y. p y && q y) xs) is in
      omega (arith, count-filter p q xs)
] refl

-- a filter of numbers in another order has the same numbers
pub filter_moves : (p : ℕ → Bool) (xs ys : List ℕ) → IsPermutation xs ys → IsPermutation (filter p xs) (filter p ys)
filter_moves p xs ys moves = counts_move (filter p xs) (filter p ys) (λ k.
    count-filter p (λ x. x == k) xs ∙ sym (count-moves (λ x. p x && (x == k)) xs ys moves) ∙ sym (count-filter p (λ x. x == k) ys))

-- a filter is the part of a list within which alone its test passes
pub filter_part : {X : Type 0} (p : X → Bool) (xs : List X) (from to : ℕ) → from ≤ to → to ≤ length xs
    → AllWithin (λ x. p x ≡ false) xs 0 from → AllWithin (λ x. p x ≡ true) xs from to → AllWithin (λ x. p x ≡ false) xs to (length xs)
    → filter p xs ≡ slice_range xs from to
filter_part p [] zero zero ordered within before inside after = refl
filter_part p [] (suc from) to ordered within before inside after = absurd (omega arith)
filter_part p [] zero (suc to) ordered within before inside after = absurd (omega arith)
filter_part p (x ∷ xs) (suc from) zero ordered within before inside after = absurd (omega arith)
filter_part p (x ∷ xs) (suc from) (suc to) ordered within before inside after =
    let rest = filter_part p xs from to (omega arith) (omega arith)
    (λ k d low high. before (suc k) d (omega arith) (omega arith)) (λ k d low high. inside (suc k) d (omega arith) (omega arith)) (λ k d low high. after (suc k) d (omega arith) (omega arith)) in
    let no : p x ≡ false = before 0 x (omega arith) (omega arith) in
    let less : suc to - suc from ≡ to - from = omega arith in
    ap (λ (b : Bool). cond b (x ∷ filter p xs) (filter p xs)) no ∙ rest ∙ ap (λ n. take n (drop from xs)) (sym less)
filter_part p (x ∷ xs) zero (suc to) ordered within before inside after =
    let rest = filter_part p xs 0 to (omega arith) (omega arith)
    (λ k d low high. absurd (omega arith)) (λ k d low high. inside (suc k) d (omega arith) (omega arith)) (λ k d low high. after (suc k) d (omega arith) (omega arith)) in
    let yes : p x ≡ true = inside 0 x (omega arith) (omega arith) in
    let less : suc to - 0 ≡ suc (to - 0) = omega arith in
    ap (λ (b : Bool). cond b (x ∷ filter p xs) (filter p xs)) yes ∙ ap (λ l. x ∷ l) rest ∙ ap (λ n. take n (x ∷ xs)) (sym less)
filter_part p (x ∷ xs) zero zero ordered within before inside after =
    let rest = filter_part p xs 0 0 (omega arith) (omega arith)
    (λ k d low high. absurd (omega arith)) (λ k d low high. absurd (omega arith)) (λ k d low high. after (suc k) d (omega arith) (omega arith)) in
    let no : p x ≡ false = after 0 x (omega arith) (omega arith) in
    ap (λ (b : Bool). cond b (x ∷ filter p xs) (filter p xs)) no ∙ rest

-- so many numbers from 0 on, and one more
pub range_push : (n : ℕ) → range_with_len 0 (n + 1) ≡ range_with_len 0 n ++ n ∷ []
range_push n =
    let next : n + 1 ≡ suc n = omega arith in
    let last : 0 + n ≡ n = omega arith in
    ap (range_with_len 0) next ∙ range-suc n 0 ∙ ap (λ m. range_with_len 0 n ++ m ∷ []) last
  where
    range-suc : (n a : ℕ) → range_with_len a (suc n) ≡ range_with_len a n ++ (a + n) ∷ []
    range-suc zero a = let e : a ≡ a + 0 = omega arith in ap (λ x. x ∷ []) e
    range-suc (suc n) a = let e : a + 1 + n ≡ a + suc n = omega arith in ap (λ l. a ∷ l) (range-suc n (a + 1) ∙ ap (λ x. range_with_len (a + 1) n ++ x ∷ []) e)
