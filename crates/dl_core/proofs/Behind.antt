-- Lists from whose front elements went.
use Rattle.std.proofs.Common.{◌≡◌, ℕ, zero, suc, ◌+◌, ◌<◌, List, [], ◌∷◌, length, drop, ap, ◌∙◌, arith}
use Rattle.dl_core.specs.Frames.{behind_of}

-- one element more went
pub behind_drop : {X : Type 0} (xs : List X) (n : ℕ) → n < length xs → drop (n + 1) xs ≡ behind_of (drop n xs)
behind_drop [] n lt = absurd (omega (arith, lt))
behind_drop (x ∷ xs) zero lt = ap (λ k. drop k (x ∷ xs)) {x = 0 + 1} {y = suc zero} (omega arith)
behind_drop (x ∷ xs) (suc n) lt = ap (λ k. drop k (x ∷ xs)) {x = suc n + 1} {y = suc (n + 1)} (omega arith) ∙ behind_drop xs n (omega (arith, lt))
