-- Two lists side by side, from a place on.
use Rattle.std.proofs.Common.{zero, suc, ◌≡◌, ℕ, ◌+◌, ◌<◌, List, [], ◌∷◌, ◌++◌, length, drop, get_or, Some, None, slice_get, refl, sym, ◌∙◌, ap}
use Rattle.std.proofs.Math.Seq.{drop-nil}
use Rattle.std.proofs.lemmas.List.{drop_more}
use Rattle.std.proofs.lemmas.Option.{none-some, slice_get_within, get_or_from_slice_get}
use Rattle.std.specs.List.{flat_map, zip}

-- the texts of pairs from a place on begin with that of the pair there
pub pair_at : {A B : Type 0} (text : A × B → List ℕ) (xs : List A) (ys : List B) (i : ℕ) (x : A) (y : B) → i < length xs → x ≡ get_or xs i x → Some y ≡ slice_get ys i →
    flat_map text (zip (drop i xs) (drop i ys)) ≡ text (x, y) ++ flat_map text (zip (drop (i + 1) xs) (drop (i + 1) ys))
pair_at text xs ys i x y within is got =
    let cut : drop i xs ≡ x ∷ drop (i + 1) xs = drop_more xs i x within ∙ ap (λ z. z ∷ drop (i + 1) xs) (sym is) in
    let cut' : drop i ys ≡ y ∷ drop (i + 1) ys =
    drop_more ys i y (slice_get_within ys i y (sym got)) ∙ ap (λ z. z ∷ drop (i + 1) ys) (get_or_from_slice_get ys i y y (sym got)) in
    ap (λ l. flat_map text (zip l (drop i ys))) cut ∙ ap (λ l. flat_map text (zip (x ∷ drop (i + 1) xs) l)) cut'

zip_nil : {A B : Type 0} (xs : List A) → zip {K = A} {X = B} xs [] ≡ []
zip_nil [] = refl
zip_nil (x ∷ xs) = refl

drop_ends : {B : Type 0} (ys : List B) (i : ℕ) → None ≡ slice_get ys i → drop i ys ≡ []
drop_ends [] i none = drop-nil i
drop_ends (y ∷ ys) zero none = absurd (none-some y none)
drop_ends (y ∷ ys) (suc i) none = drop_ends ys i none

-- no pair stands behind the end of the second list
pub no_pair : {A B : Type 0} (text : A × B → List ℕ) (xs : List A) (ys : List B) (i : ℕ) → None ≡ slice_get ys i → flat_map text (zip (drop i xs) (drop i ys)) ≡ []
no_pair text xs ys i none = ap (λ l. flat_map text (zip (drop i xs) l)) (drop_ends ys i none) ∙ ap (flat_map text) (zip_nil (drop i xs))
