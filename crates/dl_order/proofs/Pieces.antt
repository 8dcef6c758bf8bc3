-- Lists of pieces, one for each caller, put in rising order.
use Rattle.std.proofs.Common.{◌≡◌, ◌≢◌, ◌⊎◌, inl, inr, ℕ, zero, suc, ◌+◌, ◌<◌, ◌≤◌, Bool, true, false, cond, ℤ, pos, ◌+ℤ◌, List, [], ◌∷◌, ◌++◌, map, fold, filter, refl, ap, ap₂, ◌∙◌, arith}
use Rattle.std.specs.Prelude.{AllPairs, count_by, nat_le, if◌then◌else◌}
use Rattle.std.specs.List.{flat_map}
use Rattle.std.proofs.lemmas.Grind.{flat_map-append}
use Rattle.std.proofs.lemmas.Int.{ints}
use Rattle.std.proofs.lemmas.List.Kept.{AllPairs-cons}
use Rattle.std.proofs.lemmas.List.Sums.{sum_by-append, sum_by-cons}
use Rattle.dl_ir.specs.declared.moves.Move.{Move}
use Rattle.dl_shape.specs.Rising.{put_by, in_rising}
use Rattle.dl_core.specs.Sound.{numbers_from}
use Rattle.dl_core.proofs.Names.{same_number}
use Rattle.dl_core.proofs.Elements.{Each, In, Up, each_in, each_of, each_all}

-- a last piece with nothing in it may be left out
pub no_last : {Y : Type 0} (f : ℕ → List Y) (first count : ℕ) → f (first + count) ≡ [] → flat_map f (numbers_from first (suc count)) ≡ flat_map f (numbers_from first count)
no_last f first zero e = ap (λ l. l ++ []) (let same : first ≡ first + 0 = omega arith in ap f same ∙ e)
no_last f first (suc count) e = ap (λ l. f first ++ l) (no_last f (first + 1) count (let same : first + 1 + count ≡ first + suc count = omega arith in ap f same ∙ e))

map_append : {X Y : Type 0} (g : X → Y) (xs ys : List X) → map g (xs ++ ys) ≡ map g xs ++ map g ys
map_append g [] ys = refl
map_append g (x ∷ xs) ys = ap (λ l. g x ∷ l) (map_append g xs ys)

pub map_pieces : {X Y Z : Type 0} (g : Y → Z) (f : X → List Y) (xs : List X) → map g (flat_map f xs) ≡ flat_map (λ x. map g (f x)) xs
map_pieces g f [] = refl
map_pieces g f (x ∷ xs) = map_append g (f x) (flat_map f xs) ∙ ap (λ l. map g (f x) ++ l) (map_pieces g f xs)

pub pieces_of_pieces : {X Y Z : Type 0} (g : Y → List Z) (f : X → List Y) (xs : List X) → flat_map g (flat_map f xs) ≡ flat_map (λ x. flat_map g (f x)) xs
pieces_of_pieces g f [] = refl
pieces_of_pieces g f (x ∷ xs) = flat_map-append g (f x) (flat_map f xs) ∙ ap (λ l. flat_map g (f x) ++ l) (pieces_of_pieces g f xs)

-- a change of elements that leaves their keys alone
module _ {X : Type 0} (key : X → ℕ) (g : X → X) (same : (x : X) → key (g x) ≡ key x) where
  put_changed : (x : X) (xs : List X) → put_by key (g x) (map g xs) ≡ map g (put_by key x xs)
  put_changed x [] = refl
  put_changed x (y ∷ xs) =
      ap₂ (λ (a b : ℕ). if nat_le a b then g x ∷ g y ∷ map g xs else g y ∷ put_by key (g x) (map g xs)) (same x) (same y)
      ∙ (elim (nat_le (key x) (key y)) as (λ b. (if b then g x ∷ g y ∷ map g xs else g y ∷ put_by key (g x) (map g xs)) ≡ map g (if b then x ∷ y ∷ xs else y ∷ put_by key x xs)) [
        | true ↦ refl
        | false ↦ ap (λ l. g y ∷ l) (put_changed x xs)
      ])

  pub rising_changed : (xs : List X) → in_rising key (map g xs) ≡ map g (in_rising key xs)
  rising_changed [] = refl
  rising_changed (x ∷ xs) = ap (put_by key (g x)) (rising_changed xs) ∙ put_changed x (in_rising key xs)

-- elements of pieces
module _ {X : Type 0} where
  pub in_append : (x : X) (xs ys : List X) → In x (xs ++ ys) → In x xs ⊎ In x ys
  in_append x [] ys there = inr there
  in_append x (y ∷ xs) ys (inl same) = inl (inl same)
  in_append x (y ∷ xs) ys (inr there) = elim (in_append x xs ys there) [ inl t ↦ inl (inr t) | inr t ↦ inr t ]

  pub in_piece : {A : Type 0} (f : A → List X) (x : X) (pieces : List A) → In x (flat_map f pieces) → (a : A) × (In a pieces × In x (f a))
  in_piece f x [] there = absurd there
  in_piece f x (a ∷ pieces) there = elim (in_append x (f a) (flat_map f pieces) there) [
    | inl here ↦ (a, (inl refl, here))
    | inr later ↦ let on = in_piece f x pieces later in (on.0, (inr on.1.0, on.1.1))
  ]

  in_put : (key : X → ℕ) (z x : X) (xs : List X) → In z (put_by key x xs) → (z ≡ x) ⊎ In z xs
  in_put key z x [] there = there
  in_put key z x (y ∷ xs) there = elim (nat_le (key x) (key y)) as (λ b. In z (if b then x ∷ y ∷ xs else y ∷ put_by key x xs) → (z ≡ x) ⊎ In z (y ∷ xs)) [
    | true ↦ λ t. t
    | false ↦ λ t. elim t [ inl same ↦ inr (inl same) | inr later ↦ elim (in_put key z x xs later) [ inl s ↦ inl s | inr l ↦ inr (inr l) ] ]
  ] there

  pub in_rising_in : (key : X → ℕ) (z : X) (xs : List X) → In z (in_rising key xs) → In z xs
  in_rising_in key z [] there = there
  in_rising_in key z (x ∷ xs) there = elim (in_put key z x (in_rising key xs) there) [ inl same ↦ inl same | inr later ↦ inr (in_rising_in key z xs later) ]

  pub each_pieces : {A : Type 0} (P : X → Type 0) (f : A → List X) (pieces : List A) → ((a : A) → Each P (f a)) → Each P (flat_map f pieces)
  each_pieces P f pieces each = each_of P (flat_map f pieces) (λ x there. let piece = in_piece f x pieces there in each_in P x (f piece.0) (each piece.0) piece.1.1)

  -- what holds of elements with rising keys
  pub pairs_in : (key : X → ℕ) (R : X → X → Type 0) (xs : List X) → Up key xs → ((a b : X) → In a xs → In b xs → key a < key b → R a b) → AllPairs R xs
  pairs_in key R [] u h = λ i j d before within. absurd (omega arith)
  pairs_in key R (x ∷ xs) u h =
      AllPairs-cons R x xs (each_all (R x) xs (each_of (R x) xs (λ y there. h x y (inl refl) (inr there) (each_in (λ z. key x < key z) y xs u.0 there))))
      (pairs_in key R xs u.1 (λ a b ina inb lt. h a b (inr ina) (inr inb) lt))

  -- two keys that rise along a list rise together
  pub rise_together : (key other : X → ℕ) (xs : List X) → Up key xs → Up other xs → (a b : X) → In a xs → In b xs → key a < key b → other a < other b
  rise_together key other [] u v a b ina inb lt = absurd ina
  rise_together key other (x ∷ xs) u v a b (inl p) (inl q) lt = absurd (omega (arith, lt, ap key p, ap key q))
  rise_together key other (x ∷ xs) u v a b (inl p) (inr inb) lt = let less = each_in (λ z. other x < other z) b xs v.0 inb in omega (arith, less, ap other p)
  rise_together key other (x ∷ xs) u v a b (inr ina) (inl q) lt = let less = each_in (λ z. key x < key z) a xs u.0 ina in absurd (omega (arith, less, lt, ap key q))
  rise_together key other (x ∷ xs) u v a b (inr ina) (inr inb) lt = rise_together key other xs u.1 v.1 a b ina inb lt

-- counting in pieces
module _ {X : Type 0} (p : X → Bool) where
  pub count_none : (xs : List X) → Each (λ x. p x ≡ false) xs → count_by p xs ≡ 0
  count_none [] e = refl
  count_none (x ∷ xs) e = sum_by-cons (λ y. cond (p y) 1 0) x xs ∙ omega (arith, ap {B = ℕ} (λ b. cond b 1 0) e.0, count_none xs e.1)

  module _ (f : ℕ → List X) where
    step : (n : ℕ) (rest : List ℕ) → count_by p (flat_map f (n ∷ rest)) ≡ count_by p (f n) + count_by p (flat_map f rest)
    step n rest = sum_by-append (λ y. cond (p y) 1 0) (f n) (flat_map f rest)

    pub none_there : (first count : ℕ) → ((n : ℕ) → first ≤ n → n < first + count → count_by p (f n) ≡ 0) → count_by p (flat_map f (numbers_from first count)) ≡ 0
    none_there first zero z = refl
    none_there first (suc count) z = step first (numbers_from (first + 1) count) ∙ omega (arith, z first (omega arith) (omega arith), none_there (first + 1) count (λ n low high. z n (omega arith) (omega arith)))

    pub one_there : (at first count : ℕ) → first ≤ at → at < first + count → ((n : ℕ) → n ≢ at → count_by p (f n) ≡ 0) → count_by p (flat_map f (numbers_from first count)) ≡ count_by p (f at)
    one_there at first zero low high z = absurd (omega arith)
    one_there at first (suc count) low high z = elim (same_number first at) [
      | inl same ↦ step first (numbers_from (first + 1) count) ∙ omega (arith, none_there (first + 1) count (λ n l h. z n (λ e. omega (arith, e, same, l))), ap (λ n. count_by p (f n)) same)
      | inr other ↦ step first (numbers_from (first + 1) count) ∙ omega (arith, z first other, one_there at (first + 1) count (below first at low other) (omega arith) z)
    ]
      where
        below : (a b : ℕ) → a ≤ b → a ≢ b → a + 1 ≤ b
        below a b le n = omega (arith, n)

-- sums of integers over pieces
abbrev pub tally : {X : Type 0} → (X → ℤ) → List X → ℤ
tally g [] = pos 0
tally g (x ∷ xs) = g x +ℤ tally g xs

tally_append : {X : Type 0} (g : X → ℤ) (xs ys : List X) → tally g (xs ++ ys) ≡ tally g xs +ℤ tally g ys
tally_append g [] ys = omega (arith, ints)
tally_append g (x ∷ xs) ys = omega (arith, ints, tally_append g xs ys)

pub tally_pieces : {X Y : Type 0} (g : Y → ℤ) (f : X → List Y) (xs : List X) → tally g (flat_map f xs) ≡ tally (λ x. tally g (f x)) xs
tally_pieces g f [] = refl
tally_pieces g f (x ∷ xs) = omega (arith, ints, tally_append g (f x) (flat_map f xs), tally_pieces g f xs)

tally_put : {X : Type 0} (key : X → ℕ) (g : X → ℤ) (x : X) (xs : List X) → tally g (put_by key x xs) ≡ g x +ℤ tally g xs
tally_put key g x [] = refl
tally_put key g x (y ∷ xs) = elim (nat_le (key x) (key y)) as (λ b. tally g (if b then x ∷ y ∷ xs else y ∷ put_by key x xs) ≡ g x +ℤ tally g (y ∷ xs)) [
  | true ↦ refl
  | false ↦ omega (arith, ints, tally_put key g x xs)
]

pub tally_rising : {X : Type 0} (key : X → ℕ) (g : X → ℤ) (xs : List X) → tally g (in_rising key xs) ≡ tally g xs
tally_rising key g [] = refl
tally_rising key g (x ∷ xs) = omega (arith, ints, tally_put key g x (in_rising key xs), tally_rising key g xs)

-- the change of a move, where it is not above a version
abbrev pub change_up_to : ℕ → Move → ℤ
change_up_to version move = if nat_le move.version version then move.change else pos 0

pub fold_tally : (version : ℕ) (start : ℤ) (moves : List Move) → fold (λ free (move : Move). free +ℤ move.change) start (filter (λ (move : Move). nat_le move.version version) moves) ≡ start +ℤ tally (change_up_to version) moves
fold_tally version start [] = omega (arith, ints)
fold_tally version start (m ∷ moves) = elim (nat_le m.version version) as (λ b. fold (λ free (move : Move). free +ℤ move.change) start (cond b (m ∷ filter (λ (move : Move). nat_le move.version version) moves) (filter (λ (move : Move). nat_le move.version version) moves))
    ≡ start +ℤ ((if b then m.change else pos 0) +ℤ tally (change_up_to version) moves)) [
      | true ↦ fold_tally version (start +ℤ m.change) moves ∙ omega (arith, ints)
      | false ↦ fold_tally version start moves ∙ omega (arith, ints)
    ]
