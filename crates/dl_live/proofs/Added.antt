-- Steps added before steps.
use Rattle.std.proofs.Common.{◌≡◌, ℕ, zero, suc, ◌+◌, Some, List, [], ◌∷◌, ◌++◌, map, take, slice_get, sym, ap, ◌∙◌, arith, add-one, append_assoc}
use Rattle.dl_instr.specs.declared.steps.Step.{Step}
use Rattle.dl_live.specs.Dropped.{with_added}

-- one more step, with what is added before it
added_more : (added : ℕ → List Step) (f : Step → Step) (n : ℕ) (steps : List Step) (at place : ℕ) (step : Step) → slice_get steps at ≡ Some step → n + at ≡ place
    → with_added added n (map f (take (suc at) steps)) ≡ (with_added added n (map f (take at steps)) ++ added place) ++ f step ∷ []
added_more added f n [] at place step there is = absurd cc
added_more added f n (x ∷ rest) zero place step there is =
    let one : x ≡ step = cc in
    let here : n ≡ place = omega (arith, is) in
    ap (λ m. added m ++ f x ∷ []) here ∙ ap (λ (s : Step). added place ++ f s ∷ []) one
added_more added f n (x ∷ rest) (suc at) place step there is =
    let front = added n in
    let before = with_added added (n + 1) (map f (take at rest)) in
    ap (λ (l : List Step). front ++ f x ∷ l) (added_more added f (n + 1) rest at place step there (omega (arith, is)))
    ∙ sym (append_assoc front (f x ∷ (before ++ added place)) (f step ∷ []))
    ∙ ap (λ (l : List Step). l ++ f step ∷ []) (sym (append_assoc front (f x ∷ before) (added place)))

pub spread_more : (added : ℕ → List Step) (f : Step → Step) (steps : List Step) (at : ℕ) (step : Step) → slice_get steps at ≡ Some step
    → with_added added 0 (map f (take (at + 1) steps)) ≡ (with_added added 0 (map f (take at steps)) ++ added at) ++ f step ∷ []
spread_more added f steps at step there =
    ap (λ n. with_added added 0 (map f (take n steps))) (add-one at) ∙ added_more added f 0 steps at at step there (omega arith)
