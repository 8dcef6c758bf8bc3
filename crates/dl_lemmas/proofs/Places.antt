-- What stands at a place of a list.
use Rattle.std.proofs.Common.{◌≡◌, ℕ, zero, suc, ◌+◌, ◌<◌, ◌⊎◌, inl, inr, List, [], ◌∷◌, ◌++◌, length, map, take, get_or, replicate, refl, ap, subst, Option, Some, None, arith, All, slice_get, slice_set}
use Rattle.std.specs.Prelude.{Contains}
use Rattle.std.specs.Option.{option_map}
use Rattle.std.proofs.lemmas.List.Elements.{All-get_or}
use Rattle.std.proofs.lemmas.Option.{slice_get_within, slice_get-get_or, get_or_from_slice_get, same_Some}

-- one stands at each place
pub one_at : {X : Type 0} (xs : List X) (i : ℕ) → i < length xs → (x : X) × (slice_get xs i ≡ Some x)
one_at [] i within = absurd (omega arith)
one_at (x ∷ xs) i within = (get_or (x ∷ xs) i x, slice_get-get_or (x ∷ xs) i x within)

-- lists of one length have the same places
pub same_place : {X Y : Type 0} (xs : List X) (ys : List Y) (i : ℕ) (x : X) → length xs ≡ length ys → slice_get xs i ≡ Some x → (y : Y) × (slice_get ys i ≡ Some y)
same_place xs ys i x same there = one_at ys i (omega (arith, slice_get_within xs i x there, same))

-- what holds of all holds of the one at a place
pub all_at : {X : Type 0} (P : X → Type 0) (xs : List X) (i : ℕ) (x : X) → All P xs → slice_get xs i ≡ Some x → P x
all_at P xs i x all there = subst P (get_or_from_slice_get xs i x x there) (All-get_or P xs i x (slice_get_within xs i x there) all)

-- what stands at a place is an element
pub contains_at : {X : Type 0} (xs : List X) (i : ℕ) (x : X) → slice_get xs i ≡ Some x → Contains xs x
contains_at xs i x there = (i, slice_get_within xs i x there, get_or_from_slice_get xs i x x there)

-- any two defaults read the same within a list
pub either_default : {X : Type 0} (xs : List X) (i : ℕ) (d e : X) → i < length xs → get_or xs i d ≡ get_or xs i e
either_default [] i d e within = absurd (omega arith)
either_default (x ∷ xs) zero d e within = refl
either_default (x ∷ xs) (suc i) d e within = either_default xs i d e (omega arith)

-- a list of one element over and over has it at each place
pub same_everywhere : {X : Type 0} (n i : ℕ) (x : X) → get_or (replicate n x) i x ≡ x
same_everywhere zero i x = refl
same_everywhere (suc n) zero x = refl
same_everywhere (suc n) (suc i) x = same_everywhere n i x

-- ---- lists put together

-- the first of two lists stands where it stood
pub in_first : {X : Type 0} (xs ys : List X) (i : ℕ) (x : X) → slice_get xs i ≡ Some x → slice_get (xs ++ ys) i ≡ Some x
in_first [] ys i x there = cc
in_first (y ∷ xs) ys zero x there = there
in_first (y ∷ xs) ys (suc i) x there = in_first xs ys i x there

pub within_first : {X : Type 0} (xs ys : List X) (i : ℕ) → i < length xs → slice_get (xs ++ ys) i ≡ slice_get xs i
within_first [] ys i within = absurd (omega arith)
within_first (x ∷ xs) ys zero within = refl
within_first (x ∷ xs) ys (suc i) within = within_first xs ys i (omega arith)

-- the second stands behind it
pub in_second : {X : Type 0} (xs ys : List X) (j i : ℕ) → i ≡ length xs + j → slice_get (xs ++ ys) i ≡ slice_get ys j
in_second [] ys j i is = ap (slice_get ys) (omega arith)
in_second (x ∷ xs) ys j zero is = absurd (omega arith)
in_second (x ∷ xs) ys j (suc i) is = in_second xs ys j i (omega arith)

-- at the seam stands the first of it
pub at_seam : {X : Type 0} (xs ys : List X) (y : X) → slice_get (xs ++ y ∷ ys) (length xs) ≡ Some y
at_seam xs ys y = in_second xs (y ∷ ys) 0 (length xs) (omega arith)

-- the front of a list has what the list has there
pub front_get : {X : Type 0} (xs : List X) (n i : ℕ) → i < n → slice_get (take n xs) i ≡ slice_get xs i
front_get xs zero i below = absurd (omega arith)
front_get [] (suc n) i below = refl
front_get (x ∷ xs) (suc n) zero below = refl
front_get (x ∷ xs) (suc n) (suc i) below = front_get xs n i (omega arith)

-- ---- changed lists

-- what stands in a list of which one place was set
pub set_place : {X : Type 0} (xs : List X) (i j : ℕ) (x y : X) → slice_get (slice_set xs i x) j ≡ Some y → ((j ≡ i) × (y ≡ x)) ⊎ (slice_get xs j ≡ Some y)
set_place [] i j x y there = inr there
set_place (z ∷ xs) zero zero x y there = inl (refl, cc)
set_place (z ∷ xs) zero (suc j) x y there = inr there
set_place (z ∷ xs) (suc i) zero x y there = inr there
set_place (z ∷ xs) (suc i) (suc j) x y there = elim (set_place xs i j x y there) [
  | inl same ↦ inl (ap suc same.0, same.1)
  | inr other ↦ inr other
]

-- what stands in a list of images is the image of what stands there
pub in_map : {X Y : Type 0} (f : X → Y) (xs : List X) (i : ℕ) (y : Y) → slice_get (map f xs) i ≡ Some y → (x : X) × (slice_get xs i ≡ Some x) × (f x ≡ y)
in_map f [] i y there = cc
in_map f (x ∷ xs) zero y there = (x, refl, same_Some (f x) y there)
in_map f (x ∷ xs) (suc i) y there = in_map f xs i y there

-- what is made of a value is made of one that is there
pub mapped : {X Y : Type 0} (f : X → Y) (o : Option X) (y : Y) → option_map f o ≡ Some y → (x : X) × (o ≡ Some x) × (f x ≡ y)
mapped f None y is = cc
mapped f (Some x) y is = (x, refl, same_Some (f x) y is)
