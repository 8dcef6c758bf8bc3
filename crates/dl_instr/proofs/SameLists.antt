-- Lists that are the same at each place.
use Rattle.std.proofs.Common.{◌≡◌, ℕ, suc, ◌<◌, List, [], ◌∷◌, length, refl, ap, Some, arith, slice_get}

pub same_at_each : {A : Type 0} (xs ys : List A) → length xs ≡ length ys → ((k : ℕ) → k < length xs → slice_get xs k ≡ slice_get ys k) → xs ≡ ys
same_at_each [] [] same each = refl
same_at_each [] (y ∷ ys) same each = absurd (omega (arith, same))
same_at_each (x ∷ xs) [] same each = absurd (omega (arith, same))
same_at_each (x ∷ xs) (y ∷ ys) same each =
    let head = each 0 (omega arith) in
    let tail = same_at_each xs ys (omega (arith, same)) (λ k h. each (suc k) (omega (arith, h))) in
    cc

pub differ_at : {A : Type 0} (xs ys : List A) (k : ℕ) (x y : A) → slice_get xs k ≡ Some x → slice_get ys k ≡ Some y → (x ≡ y → ⊥) → xs ≡ ys → ⊥
differ_at xs ys k x y here there differ same = differ (let both = ap (λ zs. slice_get zs k) same in cc)
