-- Lists in rising order of a key.
use Rattle.std.proofs.Common.{◌≡◌, ◌≢◌, ℕ, zero, suc, ◌<◌, ◌≤◌, ◌⊎◌, inl, inr, Bool, true, false, List, [], ◌∷◌, ◌++◌, map, refl, sym, ◌∙◌, ap, subst, arith, append_assoc}
use Rattle.std.specs.Prelude.{All, AllPairs, Contains, nat_le, if◌then◌else◌}
use Rattle.std.specs.List.{flat_map}
use Rattle.std.specs.List.Sorted.{IsPermutation, IsNonDecreasingBy}
use Rattle.std.proofs.lemmas.List.Elements.{All-push, All-map, All-nil, All-cons, All-head, All-tail, All-weaker, All-contains}
use Rattle.std.proofs.lemmas.List.Sorted.{IsPermutation-refl, IsPermutation-sym, IsPermutation-cons, IsPermutation-trans, IsPermutation-middle, IsPermutation-map, IsPermutation-append, IsPermutation-append_comm, All-permutation, Contains-permutation}
use Rattle.std.proofs.lemmas.Map.Keys.{IsDistinct-IsPermutation}
use Rattle.std.proofs.lemmas.Map.Made.{AllPairs-from_IsDistinct, IsDistinct-from_AllPairs}
use Rattle.std.proofs.lemmas.List.Kept.{AllPairs-cons}
use Rattle.std.proofs.lemmas.Bool.Decides.{nat_tests, Decides-eqb}
use lib.Dec.{eqb}
use Rattle.dl_shape.specs.Rising.{put_by, in_rising, AreApart}

module _ {X : Type 0} (key : X → ℕ) where
  -- each key is below all later ones
  abbrev pub Rises : List X → Type 0
  Rises [] = Unit {0}
  Rises (x ∷ rest) = All (λ y. key x < key y) rest × Rises rest

  swap_first : (x y : X) (rest : List X) → IsPermutation (x ∷ y ∷ rest) (y ∷ x ∷ rest)
  swap_first x y rest = IsPermutation-middle (x ∷ []) y rest

  -- putting an element in only moves the others
  pub put_moves : (x : X) (xs : List X) → IsPermutation (x ∷ xs) (put_by key x xs)
  put_moves x [] = IsPermutation-refl _
  put_moves x (y ∷ rest) = elim (nat_le (key x) (key y)) as (λ b. IsPermutation (x ∷ y ∷ rest) (if b then x ∷ y ∷ rest else y ∷ put_by key x rest)) [
    | true ↦ IsPermutation-refl _
    | false ↦ IsPermutation-trans _ _ _ (swap_first x y rest) (IsPermutation-cons y _ _ (put_moves x rest))
  ]

  -- the elements in rising keys are the elements of the list
  pub rising_moves : (xs : List X) → IsPermutation xs (in_rising key xs)
  rising_moves [] = IsPermutation-refl _
  rising_moves (x ∷ rest) = IsPermutation-trans _ _ _ (IsPermutation-cons x _ _ (rising_moves rest)) (put_moves x (in_rising key rest))

  le_of : (a b : ℕ) → nat_le a b ≡ true → a ≤ b
  le_of a b h = grind (arith, nat_tests)

  above_of : (a b : ℕ) → nat_le a b ≡ false → b < a
  above_of a b h = grind (arith, nat_tests)

  below_not : (a b : ℕ) → a ≤ b → (a ≡ b → ⊥) → a < b
  below_not a b le differ = omega (arith, differ)

  -- a list stays in rising keys where an element with a key of its own is put in
  put_rises : (x : X) (xs : List X) → All (λ y. key x ≡ key y → ⊥) xs → Rises xs → Rises (put_by key x xs)
  put_rises x [] differ rises = (All-nil (λ y. key x < key y), tt)
  put_rises x (y ∷ rest) differ rises = elim (nat_le (key x) (key y)) as (λ b. nat_le (key x) (key y) ≡ b → Rises (if b then x ∷ y ∷ rest else y ∷ put_by key x rest)) [
    | true ↦ λ le.
        let below : key x < key y = below_not _ _ (le_of _ _ le) (All-head (λ z. key x ≡ key z → ⊥) y rest differ) in
        (All-cons (λ z. key x < key z) y rest below (All-weaker (λ z. key y < key z) (λ z. key x < key z) (λ z above. omega arith) rest rises.0), rises)
    | false ↦ λ above.
        let first : key y < key x = above_of _ _ above in
        (All-permutation (λ z. key y < key z) _ _ (put_moves x rest) (All-cons (λ z. key y < key z) x rest first rises.0), put_rises x rest (All-tail (λ z. key x ≡ key z → ⊥) y rest differ) rises.1)
  ] refl

  unmap : (P : ℕ → Type 0) (xs : List X) → All P (map key xs) → All (λ x. P (key x)) xs
  unmap P [] h = All-nil (λ x. P (key x))
  unmap P (x ∷ rest) h = All-cons (λ y. P (key y)) x rest (All-head P (key x) (map key rest) h) (unmap P rest (All-tail P (key x) (map key rest) h))

  apart_head : (k : ℕ) (ks : List ℕ) → AllPairs (λ a b. a ≢ b) (k ∷ ks) → All (λ b. k ≡ b → ⊥) ks
  apart_head k ks apart i d within = apart 0 (suc i) d (omega arith) (omega arith)

  apart_tail : (k : ℕ) (ks : List ℕ) → AllPairs (λ a b. a ≢ b) (k ∷ ks) → AllPairs (λ a b. a ≢ b) ks
  apart_tail k ks apart i j d before within = apart (suc i) (suc j) d (omega arith) (omega arith)

  -- elements with keys of their own are put in rising keys
  pub rising_rises : (xs : List X) → AreApart key xs → Rises (in_rising key xs)
  rising_rises [] apart = tt
  rising_rises (x ∷ rest) apart =
      put_rises x _ (All-permutation (λ y. key x ≡ key y → ⊥) _ _ (rising_moves rest) (unmap (λ k. key x ≡ k → ⊥) rest (apart_head _ _ apart))) (rising_rises rest (apart_tail _ _ apart))

  -- keys of their own stay so when the elements change places
  pub apart_moves : (xs ys : List X) → IsPermutation xs ys → AreApart key xs → AreApart key ys
  apart_moves xs ys moves apart =
      AllPairs-from_IsDistinct Decides-eqb (map key ys) (IsDistinct-IsPermutation eqb (λ x y. grind (arith, nat_tests)) (map key xs) (map key ys) (IsPermutation-map key xs ys moves) (IsDistinct-from_AllPairs Decides-eqb (map key xs) apart))

  -- elements with keys of their own that do not fall rise
  pub sorted_rises : (xs : List X) → IsNonDecreasingBy key xs → AreApart key xs → Rises xs
  sorted_rises [] up apart = tt
  sorted_rises (x ∷ rest) up apart =
      let differ : All (λ y. key x ≡ key y → ⊥) rest = unmap (λ k. key x ≡ k → ⊥) rest (apart_head _ _ apart) in (
        λ k d within. below_not _ _ (up 0 (suc k) d (omega arith) (omega arith)) (differ k d within),
        sorted_rises rest (λ i j d le within. up (suc i) (suc j) d (omega arith) (omega arith)) (apart_tail _ _ apart),
      )

  member_cases : (x y : X) (rest : List X) → Contains (y ∷ rest) x → (y ≡ x) ⊎ Contains rest x
  member_cases x y rest (zero, within, is) = inl is
  member_cases x y rest (suc k, within, is) = inr (k, omega arith, is)

  member_head : (x : X) (rest : List X) → Contains (x ∷ rest) x
  member_head x rest = (0, omega arith, refl)

  member_tail : (x y : X) (rest : List X) → Contains rest x → Contains (y ∷ rest) x
  member_tail x y rest (k, within, is) = (suc k, omega arith, is)

  same_heads : (x y : X) (xs ys : List X) → Rises (x ∷ xs) → Rises (y ∷ ys) → Contains (y ∷ ys) x → Contains (x ∷ xs) y → x ≡ y
  same_heads x y xs ys up_x up_y x_in y_in = elim (member_cases x y ys x_in) [
    | inl is ↦ sym is
    | inr later ↦ elim (member_cases y x xs y_in) [
      | inl is ↦ is
      | inr after ↦
          let above : key y < key x = All-contains (λ z. key y < key z) ys x up_y.0 later in
          let below : key x < key y = All-contains (λ z. key x < key z) xs y up_x.0 after in
          absurd (omega arith)
    ]
  ]

  in_rest : (x z : X) (xs ys : List X) → Rises (x ∷ xs) → Contains xs z → Contains (x ∷ ys) z → Contains ys z
  in_rest x z xs ys up later there = elim (member_cases z x ys there) [
    | inl is ↦
        let above : key x < key z = All-contains (λ w. key x < key w) xs z up.0 later in
        absurd (omega (arith, ap key is))
    | inr after ↦ after
  ]

  -- two lists in rising keys with the same elements are the same
  pub rises_same : (xs ys : List X) → Rises xs → Rises ys → ((z : X) → Contains xs z → Contains ys z) → ((z : X) → Contains ys z → Contains xs z) → xs ≡ ys
  rises_same [] [] up_x up_y to from = refl
  rises_same [] (y ∷ ys) up_x up_y to from = let none = from y (member_head y ys) in absurd (omega (arith, none.1))
  rises_same (x ∷ xs) [] up_x up_y to from = let none = to x (member_head x xs) in absurd (omega (arith, none.1))
  rises_same (x ∷ xs) (y ∷ ys) up_x up_y to from =
      let same : x ≡ y = same_heads x y xs ys up_x up_y (to x (member_head x xs)) (from y (member_head y ys)) in
      let up : Rises (x ∷ ys) = subst (λ z. Rises (z ∷ ys)) (sym same) up_y in
      let rest : xs ≡ ys = rises_same xs ys up_x.1 up_y.1
      (λ z there. in_rest x z xs ys up_x there (subst (λ w. Contains (w ∷ ys) z) (sym same) (to z (member_tail z x xs there))))
      (λ z there. in_rest x z ys xs up there (from z (member_tail z y ys there))) in
      ap (λ z. z ∷ xs) same ∙ ap (λ zs. y ∷ zs) rest

  -- what a sort by a key leaves of elements with keys of their own
  pub sorted_is : (xs ys : List X) → AreApart key xs → IsPermutation xs ys → IsNonDecreasingBy key ys → ys ≡ in_rising key xs
  sorted_is xs ys apart moves up =
      let across : IsPermutation ys (in_rising key xs) = IsPermutation-trans _ _ _ (IsPermutation-sym _ _ moves) (rising_moves xs) in
      rises_same ys (in_rising key xs) (sorted_rises ys up (apart_moves xs ys moves apart)) (rising_rises xs apart)
      (λ z there. Contains-permutation _ _ z across there) (λ z there. Contains-permutation _ _ z (IsPermutation-sym _ _ across) there)

  -- a list in rising keys stays as it is
  pub rising_is : (xs : List X) → Rises xs → in_rising key xs ≡ xs
  rising_is [] up = refl
  rising_is (x ∷ []) up = refl
  rising_is (x ∷ y ∷ rest) up =
      let below : nat_le (key x) (key y) ≡ true = not_above _ _ (All-head (λ z. key x < key z) y rest up.0) in
      ap (put_by key x) (rising_is (y ∷ rest) up.1) ∙ ap (λ (b : Bool). if b then x ∷ y ∷ rest else y ∷ put_by key x rest) below
    where
      not_above : (a b : ℕ) → a < b → nat_le a b ≡ true
      not_above a b h = grind (arith, nat_tests)

  -- a list in rising keys goes on with a higher one
  pub rises_push : (xs : List X) (y : X) → Rises xs → All (λ x. key x < key y) xs → Rises (xs ++ y ∷ [])
  rises_push [] y up below = (All-nil (λ x. key y < key x), tt)
  rises_push (x ∷ rest) y up below =
      (All-push (λ z. key x < key z) rest y up.0 (All-head (λ z. key z < key y) x rest below), rises_push rest y up.1 (All-tail (λ z. key z < key y) x rest below))

  -- keys that rise are apart
  pub rises_apart : (xs : List X) → Rises xs → AreApart key xs
  rises_apart [] up = λ i j d before within. absurd (omega arith)
  rises_apart (x ∷ rest) up =
      AllPairs-cons (λ a b. a ≢ b) (key x) (map key rest)
      (All-map (λ b. key x ≢ b) key rest (All-weaker (λ y. key x < key y) (λ y. key x ≢ key y) (λ y below same. omega arith) rest up.0))
      (rises_apart rest up.1)

module _ {X Y : Type 0} (key : X → ℕ) (f : X → List Y) where
  put_pieces : (x : X) (xs : List X) → IsPermutation (f x ++ flat_map f xs) (flat_map f (put_by key x xs))
  put_pieces x [] = IsPermutation-refl _
  put_pieces x (y ∷ rest) = elim (nat_le (key x) (key y)) as (λ b. IsPermutation (f x ++ flat_map f (y ∷ rest)) (flat_map f (if b then x ∷ y ∷ rest else y ∷ put_by key x rest))) [
    | true ↦ IsPermutation-refl _
    | false ↦
        let swapped : IsPermutation ((f x ++ f y) ++ flat_map f rest) ((f y ++ f x) ++ flat_map f rest)
        = IsPermutation-append _ _ _ _ (IsPermutation-append_comm (f x) (f y)) (IsPermutation-refl (flat_map f rest)) in
        let moved : IsPermutation (f x ++ (f y ++ flat_map f rest)) (f y ++ (f x ++ flat_map f rest))
        = subst (λ l. IsPermutation l (f y ++ (f x ++ flat_map f rest))) (append_assoc (f x) (f y) (flat_map f rest))
        (subst (λ l. IsPermutation ((f x ++ f y) ++ flat_map f rest) l) (append_assoc (f y) (f x) (flat_map f rest)) swapped) in
        IsPermutation-trans _ _ _ moved (IsPermutation-append _ _ _ _ (IsPermutation-refl (f y)) (put_pieces x rest))
  ]

  -- what a list's elements give only changes its order with them
  pub rising_pieces : (xs : List X) → IsPermutation (flat_map f xs) (flat_map f (in_rising key xs))
  rising_pieces [] = IsPermutation-refl _
  rising_pieces (x ∷ rest) =
      IsPermutation-trans _ _ _ (IsPermutation-append _ _ _ _ (IsPermutation-refl (f x)) (rising_pieces rest)) (put_pieces x (in_rising key rest))
