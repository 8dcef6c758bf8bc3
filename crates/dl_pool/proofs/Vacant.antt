-- How the number of vacant places changes with one word.
use Rattle.std.proofs.Common.{◌≡◌, ◌≢◌, ℕ, zero, suc, ◌+◌, ◌*◌, ◌<◌, ◌≤◌, Bool, cond, List, length, get_or, set, refl, sym, ap, ◌∙◌, arith, get_or-set_same, mul-le-mul_right, suc-mul, lt_of_not-le, eq-eqb, ne_eqb}
use Rattle.std.proofs.lemmas.List.{get_or-set_other}
use mathlib.Core.Logic.{dite}
use native.Mathlib.Decide.{ℕ_discrete, dec_le}
use Rattle.dl_pool.specs.declared.views.Layout.{Layout}
use Rattle.dl_pool.specs.Rule.{vacant, vacant_in, word_of, one_if_vacant, IsLaidOut}

apart : (x y k : ℕ) → x < y → x * k + k ≤ y * k
apart x y k h = let a : suc x * k ≤ y * k = mul-le-mul_right k h in omega (arith, suc-mul x k)

-- two places have two words
different : (x y k : ℕ) → 0 < k → x ≢ y → x * k ≢ y * k
different x y k pos ne e = dite (dec_le y x)
    (λ le. let far = apart y x k (omega arith) in absurd (omega arith))
    (λ no. let far = apart x y k (lt_of_not-le no) in absurd (omega arith))

pub vacant_other : (ws : List ℕ) (first step n i x : ℕ) → ((p : ℕ) → p < n → i ≢ first + p * step) → vacant (set ws i x) first step n ≡ vacant ws first step n
vacant_other ws first step zero i x far = refl
vacant_other ws first step (suc n) i x far =
    let here : get_or (set ws i x) (first + n * step) 0 ≡ get_or ws (first + n * step) 0 = get_or-set_other ws i (first + n * step) x 0 (λ e. far n (omega arith) (sym e)) in
    let a : one_if_vacant (get_or (set ws i x) (first + n * step) 0) ≡ one_if_vacant (get_or ws (first + n * step) 0) = ap one_if_vacant here in
    let r = vacant_other ws first step n i x (λ p l. far p (omega arith)) in omega arith

-- one place changes from the number a to the number b
pub vacant_at : (ws : List ℕ) (first step n place b : ℕ) → 0 < step → place < n → first + place * step < length ws
    → vacant (set ws (first + place * step) b) first step n + one_if_vacant (get_or ws (first + place * step) 0) ≡ vacant ws first step n + one_if_vacant b
vacant_at ws first step zero place b pos l inside = absurd (omega arith)
vacant_at ws first step (suc n) place b pos l inside =
    let i : ℕ = first + place * step in
    dite (ℕ_discrete place n)
    (λ same.
    let rest : vacant (set ws i b) first step n ≡ vacant ws first step n = vacant_other ws first step n i b (λ p l' e. different place p step pos (omega arith) (omega arith)) in
    let here : get_or (set ws i b) i 0 ≡ b = get_or-set_same ws i b 0 inside in
    let a : one_if_vacant (get_or (set ws i b) (first + n * step) 0) ≡ one_if_vacant b = ap one_if_vacant (ap (λ (p : ℕ). get_or (set ws i b) (first + p * step) 0) (sym same) ∙ here) in
    let c : one_if_vacant (get_or ws (first + n * step) 0) ≡ one_if_vacant (get_or ws i 0) = ap (λ (p : ℕ). one_if_vacant (get_or ws (first + p * step) 0)) (sym same) in omega arith)
    (λ other.
    let r = vacant_at ws first step n place b pos (omega arith) inside in
    let here : get_or (set ws i b) (first + n * step) 0 ≡ get_or ws (first + n * step) 0 = get_or-set_other ws i (first + n * step) b 0 (λ e. different n place step pos (λ e'. other (sym e')) (omega arith)) in
    let a : one_if_vacant (get_or (set ws i b) (first + n * step) 0) ≡ one_if_vacant (get_or ws (first + n * step) 0) = ap one_if_vacant here in omega arith)

one_most : (x : ℕ) → one_if_vacant x ≤ 1
one_most x = dite (ℕ_discrete x 0)
    (λ e. let a : one_if_vacant x ≡ 1 = ap (λ (b : Bool). cond b 1 0) (eq-eqb x 0 e) in omega arith)
    (λ ne. let a : one_if_vacant x ≡ 0 = ap (λ (b : Bool). cond b 1 0) (ne_eqb x 0 ne) in omega arith)

pub vacant_most : (ws : List ℕ) (first step n : ℕ) → vacant ws first step n ≤ n
vacant_most ws first step zero = omega arith
vacant_most ws first step (suc n) = let r = vacant_most ws first step n in let a = one_most (get_or ws (first + n * step) 0) in omega arith

-- word 0 is the state of no place
pub vacant_pool : (l : Layout) (ws : List ℕ) (x : ℕ) → IsLaidOut l ws → vacant_in l (set ws 0 x) ≡ vacant_in l ws
vacant_pool l ws x laid = vacant_other ws l.first l.step l.places 0 x (λ p less e. let a = laid.first in omega arith)

-- a word that is the state of no place
pub vacant_beside : (l : Layout) (ws : List ℕ) (i x : ℕ) → ((p : ℕ) → p < l.places → i ≢ word_of l p) → vacant_in l (set ws i x) ≡ vacant_in l ws
vacant_beside l ws i x far = vacant_other ws l.first l.step l.places i x far

-- the state of a place
pub vacant_changed : (l : Layout) (ws : List ℕ) (place b : ℕ) → IsLaidOut l ws → place < l.places
    → vacant_in l (set ws (word_of l place) b) + one_if_vacant (get_or ws (word_of l place) 0) ≡ vacant_in l ws + one_if_vacant b
vacant_changed l ws place b laid less = vacant_at ws l.first l.step l.places place b laid.step less (laid.states place less)

pub vacant_word : (n : ℕ) → n ≡ 0 → one_if_vacant n ≡ 1
vacant_word n e = ap (λ (b : Bool). cond b 1 0) (eq-eqb n 0 e)

pub taken_word : (n : ℕ) → n ≢ 0 → one_if_vacant n ≡ 0
taken_word n ne = ap (λ (b : Bool). cond b 1 0) (ne_eqb n 0 ne)

-- the state of a place that is taken before and after
pub vacant_taken : (l : Layout) (ws : List ℕ) (place b : ℕ) → IsLaidOut l ws → place < l.places → get_or ws (word_of l place) 0 ≢ 0 → b ≢ 0 → vacant_in l (set ws (word_of l place) b) ≡ vacant_in l ws
vacant_taken l ws place b laid less was is =
    let a = vacant_changed l ws place b laid less in
    let c = taken_word (get_or ws (word_of l place) 0) was in
    let d = taken_word b is in omega arith

-- two places have two words
pub word_apart : (l : Layout) (p q : ℕ) → 0 < l.step → p ≢ q → word_of l p ≢ word_of l q
word_apart l p q pos ne e = different p q l.step pos ne (omega arith)
