-- One operation more is dealt to one of the callers.
use Rattle.std.proofs.Common.{◌≡◌, ◌≢◌, ℕ, zero, suc, ◌+◌, ◌%◌, ◌<◌, ◌≤◌, eq-eqb, get_or, Bool, true, false, cond, List, [], ◌∷◌, ◌++◌, set, map, filter, refl, sym, ap, ◌∙◌, arith}
use Rattle.std.specs.List.{range_with_len}
use Rattle.std.specs.Prelude.{◌==◌}
use Rattle.std.proofs.lemmas.Bool.{ne_eqb}
use Rattle.std.proofs.lemmas.List.{map-append, append-nil}
use Rattle.std.proofs.lemmas.List.FromFn.{get_or-map-range_with_len}
use Rattle.std.proofs.lemmas.List.Elements.{filter-append}
use Rattle.dl_ir.specs.declared.calls.Call.{Call}
use Rattle.dl_work.specs.Works.{call_of, file_of, files_of}

-- two functions that agree from some number on
pub same_from : {X : Type 0} (f g : ℕ → X) (first n : ℕ) → ((k : ℕ) → first ≤ k → f k ≡ g k) → map f (range_with_len first n) ≡ map g (range_with_len first n)
same_from f g first zero same = refl
same_from f g first (suc n) same =
    ap (λ x. x ∷ map f (range_with_len (first + 1) n)) (same first (omega arith))
    ∙ ap (λ xs. g first ∷ xs) (same_from f g (first + 1) n (λ k above. same k (omega arith)))

-- two functions that agree at all numbers but one
set_one : {X : Type 0} (f g : ℕ → X) (first n at : ℕ) → at < n → ((k : ℕ) → k ≢ first + at → f k ≡ g k)
    → set (map f (range_with_len first n)) at (g (first + at)) ≡ map g (range_with_len first n)
set_one f g first zero at within same = absurd (omega arith)
set_one f g first (suc n) zero within same =
    ap (λ k. g k ∷ map f (range_with_len (first + 1) n)) {x = first + 0} {y = first} (omega arith)
    ∙ ap (λ xs. g first ∷ xs) (same_from f g (first + 1) n (λ k above. same k (λ is. absurd (omega arith))))
set_one f g first (suc n) (suc at) within same =
    let shifted : first + suc at ≡ first + 1 + at = omega arith in
    ap (λ x. x ∷ set (map f (range_with_len (first + 1) n)) at (g (first + suc at))) (same first (λ is. absurd (omega arith)))
    ∙ ap (λ k. g first ∷ set (map f (range_with_len (first + 1) n)) at (g k)) shifted
    ∙ ap (λ xs. g first ∷ xs) (set_one f g (first + 1) n at (omega arith) (λ k other. same k (λ is. other (is ∙ shifted))))

range_more : (first n : ℕ) → range_with_len first (n + 1) ≡ range_with_len first n ++ (first + n) ∷ []
range_more first zero = ap (λ k. k ∷ []) {x = first} {y = first + 0} (omega arith)
range_more first (suc n) =
    ap (range_with_len first) {x = suc n + 1} {y = suc (n + 1)} (omega arith)
    ∙ ap (λ xs. first ∷ xs) (range_more (first + 1) n)
    ∙ ap (λ k. first ∷ (range_with_len (first + 1) n ++ k ∷ [])) {x = first + 1 + n} {y = first + suc n} (omega arith)

module _ (seed callers count : ℕ) where
  -- the file of a caller with one operation more, where it is dealt to the caller or not
  file_more : (caller : ℕ) (b : Bool) → (count % callers + 1 == caller) ≡ b
      → file_of seed (count + 1) callers caller ≡ file_of seed count callers caller ++ cond b (call_of seed count ∷ []) []
  file_more caller b is =
      let test = λ (number : ℕ). number % callers + 1 == caller in
      let call = call_of seed in
      ap (λ ns. map call (filter test ns)) (range_more 0 count)
      ∙ ap (map call) (filter-append test (range_with_len 0 count) ((0 + count) ∷ []))
      ∙ map-append call (filter test (range_with_len 0 count)) (filter test ((0 + count) ∷ []))
      ∙ ap (λ n. file_of seed count callers caller ++ map call (filter test (n ∷ []))) {x = 0 + count} {y = count} (omega arith)
      ∙ ap (λ c. file_of seed count callers caller ++ map call (cond c (count ∷ []) [])) is
      ∙ elim b as (λ c. file_of seed count callers caller ++ map call (cond c (count ∷ []) []) ≡ file_of seed count callers caller ++ cond c (call count ∷ []) []) [ true ↦ refl | false ↦ refl ]

  file_same : (caller : ℕ) → caller ≢ 1 + count % callers → file_of seed count callers caller ≡ file_of seed (count + 1) callers caller
  file_same caller other =
      let not_dealt : (count % callers + 1 == caller) ≡ false = ne_eqb (count % callers + 1) caller (λ is. other (omega (arith, is))) in
      sym (file_more caller false not_dealt ∙ append-nil (file_of seed count callers caller))

  pub dealt : count % callers < callers
      → set (files_of seed count callers) (count % callers) (file_of seed count callers (1 + count % callers) ++ call_of seed count ∷ []) ≡ files_of seed (count + 1) callers
  dealt within =
      let is_dealt : (count % callers + 1 == 1 + count % callers) ≡ true = eq-eqb (count % callers + 1) (1 + count % callers) (omega arith) in
      ap (λ file. set (files_of seed count callers) (count % callers) file) (sym (file_more (1 + count % callers) true is_dealt))
      ∙ set_one (file_of seed count callers) (file_of seed (count + 1) callers) 1 callers (count % callers) within file_same

  -- the file before
  pub file_there : (at : ℕ) → at < callers → (d : List Call) → get_or (files_of seed count callers) at d ≡ file_of seed count callers (1 + at)
  file_there at within d = get_or-map-range_with_len (file_of seed count callers) 1 callers at (1 + at) d within refl
