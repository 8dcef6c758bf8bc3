-- Lists whose elements each are something, and lists in rising order.
use Rattle.std.proofs.Common.{◌≡◌, ◌≢◌, ℕ, zero, suc, ◌<◌, ◌⊎◌, inl, inr, Bool, true, false, List, [], ◌∷◌, ◌++◌, refl, sym, ap, subst, ◌∙◌, arith}
use Rattle.std.specs.Prelude.{All, AllPairs, Contains, nat_le, if◌then◌else◌}
use Rattle.std.proofs.lemmas.List.Elements.{All-nil, All-cons}
use Rattle.std.proofs.lemmas.List.Kept.{AllPairs-cons}
use Rattle.std.proofs.lemmas.Bool.Decides.{nat_tests}
use Rattle.dl_shape.specs.Rising.{put_by, in_rising}
use Rattle.dl_shape.proofs.Rising.{Rises}

-- something of each element
abbrev pub Each : {X : Type 0} → (X → Type 0) → List X → Type 0
Each P [] = Unit {0}
Each P (x ∷ xs) = P x × Each P xs

-- one of the elements
abbrev pub In : {X : Type 0} → X → List X → Type 0
In x [] = ⊥
In x (y ∷ ys) = (x ≡ y) ⊎ In x ys

-- each key is below all later ones
abbrev pub Up : {X : Type 0} → (X → ℕ) → List X → Type 0
Up key [] = Unit {0}
Up key (x ∷ xs) = Each (λ y. key x < key y) xs × Up key xs

module _ {X : Type 0} where
  pub each_of : (P : X → Type 0) (xs : List X) → ((x : X) → In x xs → P x) → Each P xs
  each_of P [] f = tt
  each_of P (x ∷ xs) f = (f x (inl refl), each_of P xs (λ y there. f y (inr there)))

  pub each_in : (P : X → Type 0) (x : X) (xs : List X) → Each P xs → In x xs → P x
  each_in P x [] e there = absurd there
  each_in P x (y ∷ ys) e (inl same) = subst P (sym same) e.0
  each_in P x (y ∷ ys) e (inr there) = each_in P x ys e.1 there

  pub each_map : (P Q : X → Type 0) (xs : List X) → ((x : X) → P x → Q x) → Each P xs → Each Q xs
  each_map P Q [] f e = tt
  each_map P Q (x ∷ xs) f e = (f x e.0, each_map P Q xs f e.1)

  pub each_append : (P : X → Type 0) (xs ys : List X) → Each P xs → Each P ys → Each P (xs ++ ys)
  each_append P [] ys e f = f
  each_append P (x ∷ xs) ys e f = (e.0, each_append P xs ys e.1 f)

  pub each_all : (P : X → Type 0) (xs : List X) → Each P xs → All P xs
  each_all P [] e = All-nil P
  each_all P (x ∷ xs) e = All-cons P x xs e.0 (each_all P xs e.1)

  pub all_each : (P : X → Type 0) (xs : List X) → All P xs → Each P xs
  all_each P [] a = tt
  all_each P (x ∷ xs) a = (a 0 x (omega arith), all_each P xs (λ k d lt. a (suc k) d (omega arith)))

  pub in_first : (x : X) (xs ys : List X) → In x xs → In x (xs ++ ys)
  in_first x [] ys there = absurd there
  in_first x (y ∷ xs) ys (inl same) = inl same
  in_first x (y ∷ xs) ys (inr there) = inr (in_first x xs ys there)

  pub in_last : (x : X) (xs : List X) → In x (xs ++ x ∷ [])
  in_last x [] = inl refl
  in_last x (y ∷ xs) = inr (in_last x xs)

  pub in_contains : (x : X) (xs : List X) → In x xs → Contains xs x
  in_contains x [] there = absurd there
  in_contains x (y ∷ xs) (inl same) = (0, omega arith, sym same)
  in_contains x (y ∷ xs) (inr there) = let c = in_contains x xs there in (suc c.0, omega (arith, c.1), c.2)

  pub contains_in : (x : X) (xs : List X) → Contains xs x → In x xs
  contains_in x [] c = absurd (omega (arith, c.1))
  contains_in x (y ∷ xs) (zero, within, is) = inl (sym is)
  contains_in x (y ∷ xs) (suc k, within, is) = inr (contains_in x xs (k, omega arith, is))

  -- the list, cut at an element
  pub record IsCut (x : X) (xs : List X) : Type 0 where
    pub before : List X
    pub behind : List X
    pub is : xs ≡ before ++ x ∷ behind

  pub cut_at : (x : X) (xs : List X) → In x xs → IsCut x xs
  cut_at x [] there = absurd there
  cut_at x (y ∷ xs) (inl same) = record { before = []; behind = xs; is = ap (λ z. z ∷ xs) (sym same) }
  cut_at x (y ∷ xs) (inr there) = let c = cut_at x xs there in record { before = y ∷ c.before; behind = c.behind; is = ap (λ zs. y ∷ zs) c.is }

  -- an element of the list without one is one of the list
  pub in_more : (x y : X) (xs ys : List X) → In x (xs ++ ys) → In x (xs ++ y ∷ ys)
  in_more x y [] ys there = inr there
  in_more x y (z ∷ xs) ys (inl same) = inl same
  in_more x y (z ∷ xs) ys (inr there) = inr (in_more x y xs ys there)

  -- and an element of the list is that one or one of those
  pub in_less : (x y : X) (xs ys : List X) → In x (xs ++ y ∷ ys) → (x ≡ y) ⊎ In x (xs ++ ys)
  in_less x y [] ys there = there
  in_less x y (z ∷ xs) ys (inl same) = inr (inl same)
  in_less x y (z ∷ xs) ys (inr there) = elim (in_less x y xs ys there) [ inl same ↦ inl same | inr t ↦ inr (inr t) ]

  pub each_less : (P : X → Type 0) (y : X) (xs ys : List X) → Each P (xs ++ y ∷ ys) → Each P (xs ++ ys)
  each_less P y [] ys e = e.1
  each_less P y (x ∷ xs) ys e = (e.0, each_less P y xs ys e.1)

  pub each_at : (P : X → Type 0) (y : X) (xs ys : List X) → Each P (xs ++ y ∷ ys) → P y
  each_at P y [] ys e = e.0
  each_at P y (x ∷ xs) ys e = each_at P y xs ys e.1

  pub each_before : (P : X → Type 0) (xs ys : List X) → Each P (xs ++ ys) → Each P xs
  each_before P [] ys e = tt
  each_before P (x ∷ xs) ys e = (e.0, each_before P xs ys e.1)

  module _ (key : X → ℕ) where
    pub up_less : (y : X) (xs ys : List X) → Up key (xs ++ y ∷ ys) → Up key (xs ++ ys)
    up_less y [] ys u = u.1
    up_less y (x ∷ xs) ys u = (each_less (λ z. key x < key z) y xs ys u.0, up_less y xs ys u.1)

    -- all before an element are below it
    pub up_before : (y : X) (xs ys : List X) → Up key (xs ++ y ∷ ys) → Each (λ x. key x < key y) xs
    up_before y [] ys u = tt
    up_before y (x ∷ xs) ys u = (each_at (λ z. key x < key z) y xs ys u.0, up_before y xs ys u.1)

    -- the others have other keys
    pub up_others : (y : X) (xs ys : List X) → Up key (xs ++ y ∷ ys) → Each (λ x. key x ≢ key y) (xs ++ ys)
    up_others y [] ys u = each_map (λ z. key y < key z) (λ z. key z ≢ key y) ys (λ z lt same. omega arith) u.0
    up_others y (x ∷ xs) ys u = (let lt : key x < key y = each_at (λ z. key x < key z) y xs ys u.0 in λ same. omega (arith, lt, same), up_others y xs ys u.1)

    pub up_push : (y : X) (xs : List X) → Up key xs → Each (λ x. key x < key y) xs → Up key (xs ++ y ∷ [])
    up_push y [] u e = (tt, tt)
    up_push y (x ∷ xs) u e = (each_append (λ z. key x < key z) xs (y ∷ []) u.0 (e.0, tt), up_push y xs u.1 e.1)

    pub up_pairs : (xs : List X) → Up key xs → AllPairs (λ a b. key a < key b) xs
    up_pairs [] u = λ i j d before within. absurd (omega arith)
    up_pairs (x ∷ xs) u = AllPairs-cons (λ a b. key a < key b) x xs (each_all (λ z. key x < key z) xs u.0) (up_pairs xs u.1)

    pub pairs_up : (xs : List X) → AllPairs (λ a b. key a < key b) xs → Up key xs
    pairs_up [] p = tt
    pairs_up (x ∷ xs) p = (all_each (λ z. key x < key z) xs (λ k d lt. p 0 (suc k) d (omega arith) (omega arith)), pairs_up xs (λ i j d before within. p (suc i) (suc j) d (omega arith) (omega arith)))

    pub up_rises : (xs : List X) → Up key xs → Rises key xs
    up_rises [] u = tt
    up_rises (x ∷ xs) u = (each_all (λ z. key x < key z) xs u.0, up_rises xs u.1)

    -- of what holds of a list in rising keys
    pub each_put : (P : X → Type 0) (x : X) (xs : List X) → Each P (put_by key x xs) → P x × Each P xs
    each_put P x [] e = e
    each_put P x (y ∷ xs) e = elim (nat_le (key x) (key y)) as (λ b. Each P (if b then x ∷ y ∷ xs else y ∷ put_by key x xs) → P x × Each P (y ∷ xs)) [
      | true ↦ λ e. e
      | false ↦ λ e. let on = each_put P x xs e.1 in (on.0, (e.0, on.1))
    ] e

    pub each_rising : (P : X → Type 0) (xs : List X) → Each P (in_rising key xs) → Each P xs
    each_rising P [] e = tt
    each_rising P (x ∷ xs) e = let on = each_put P x (in_rising key xs) e in (on.0, each_rising P xs on.1)

    above_test : (a b : ℕ) → b < a → nat_le a b ≡ false
    above_test a b lt = grind (arith, nat_tests)

    -- an element above all comes last
    put_last : (y : X) (xs : List X) → Each (λ x. key x < key y) xs → put_by key y xs ≡ xs ++ y ∷ []
    put_last y [] e = refl
    put_last y (x ∷ xs) e = ap (λ (b : Bool). if b then y ∷ x ∷ xs else x ∷ put_by key y xs) (above_test (key y) (key x) e.0) ∙ ap (λ zs. x ∷ zs) (put_last y xs e.1)

    below_test : (a b : ℕ) → a < b → nat_le a b ≡ true
    below_test a b lt = grind (arith, nat_tests)

    put_before : (x y : X) (xs : List X) → key x < key y → put_by key x (xs ++ y ∷ []) ≡ put_by key x xs ++ y ∷ []
    put_before x y [] lt = ap (λ (b : Bool). if b then x ∷ y ∷ [] else y ∷ x ∷ []) (below_test (key x) (key y) lt)
    put_before x y (z ∷ xs) lt = elim (nat_le (key x) (key z)) as (λ b. (if b then x ∷ z ∷ (xs ++ y ∷ []) else z ∷ put_by key x (xs ++ y ∷ [])) ≡ (if b then x ∷ z ∷ xs else z ∷ put_by key x xs) ++ y ∷ []) [
      | true ↦ refl
      | false ↦ ap (λ zs. z ∷ zs) (put_before x y xs lt)
    ]

    each_put_in : (P : X → Type 0) (x : X) (xs : List X) → P x → Each P xs → Each P (put_by key x xs)
    each_put_in P x [] p e = (p, tt)
    each_put_in P x (y ∷ xs) p e = elim (nat_le (key x) (key y)) as (λ b. Each P (if b then x ∷ y ∷ xs else y ∷ put_by key x xs)) [
      | true ↦ (p, e)
      | false ↦ (e.0, each_put_in P x xs p e.1)
    ]

    pub each_in_rising : (P : X → Type 0) (xs : List X) → Each P xs → Each P (in_rising key xs)
    each_in_rising P [] e = tt
    each_in_rising P (x ∷ xs) e = each_put_in P x (in_rising key xs) e.0 (each_in_rising P xs e.1)

    -- a list into which an element above all was put
    pub rising_more : (y : X) (xs ys : List X) → Each (λ x. key x < key y) (xs ++ ys) → in_rising key (xs ++ y ∷ ys) ≡ in_rising key (xs ++ ys) ++ y ∷ []
    rising_more y [] ys e = put_last y (in_rising key ys) (each_in_rising (λ x. key x < key y) ys e)
    rising_more y (x ∷ xs) ys e = ap (put_by key x) (rising_more y xs ys e.1) ∙ put_before x y (in_rising key (xs ++ ys)) e.0

  pub up_same : (key other : X → ℕ) (xs : List X) → ((x : X) → In x xs → other x ≡ key x) → Up key xs → Up other xs
  up_same key other [] same u = tt
  up_same key other (x ∷ xs) same u = (
    each_of (λ y. other x < other y) xs (λ y there. let lt : key x < key y = each_in (λ y. key x < key y) y xs u.0 there in omega (arith, lt, same x (inl refl), same y (inr there))),
    up_same key other xs (λ y there. same y (inr there)) u.1,
  )
