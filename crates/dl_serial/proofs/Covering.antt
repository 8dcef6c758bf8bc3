-- a line of calls covers them
use Rattle.std.proofs.Common.{◌≡◌, ℕ, zero, suc, ◌+◌, ◌<◌, ◌≤◌, ◌==◌, ◌&&◌, Bool, cond, List, [], ◌∷◌, length, take, refl, sym, ap, ◌∙◌, Option, Some, None, arith, add-one, add-zero}
use Rattle.std.specs.Prelude.{slice_get, All, AllPairs}
use Rattle.std.proofs.lemmas.List.Elements.{All-push}
use Rattle.std.proofs.lemmas.List.Quantifiers.{all_pairs_push}
use Rattle.std.proofs.lemmas.Bool.{ne_eqb}
use Rattle.std.proofs.lemmas.Option.{slice_get_within}
use Rattle.std.proofs.Math.Dec.{eqb-suc-suc}
use Rattle.std.proofs.Math.Seq.{take-length}
use Rattle.dl_ir.specs.declared.answers.Entry.{Entry}
use Rattle.dl_ir.specs.declared.answers.Refusal.{Refusal}
use Rattle.dl_ir.specs.declared.calls.Call.{Call}
use Rattle.dl_ir.specs.declared.modules.Module.{Module}
use Rattle.dl_ir.specs.Cover.{Covers, call_at, runs_of, refusals_of, one_if_there}
use Rattle.dl_ir.specs.Heap.{Objects}
use Rattle.dl_serial.specs.Serving.{Serves, begins, carries_out, refuses}
use Rattle.dl_lemmas.proofs.Counts.{count-push}

-- 1 where the numbers are those, 0 elsewhere
abbrev one_at : ℕ → ℕ → ℕ → ℕ → ℕ
one_at c n caller index = cond ((c == caller) && (n == index)) 1 0

no_test : (a b : ℕ) → (a ≡ b → ⊥) → cond {A = ℕ} (a == b) 1 0 ≡ 0
no_test a b apart = ap (λ (t : Bool). cond {A = ℕ} t 1 0) (ne_eqb a b apart)

taken_one : {X : Type 0} (xs : List X) (n j : ℕ) (call : Option X → ℕ) → call None ≡ 0 → ((x : X) → call (Some x) ≡ 1) → n < length xs
    → call (slice_get (take (suc n) xs) j) ≡ call (slice_get (take n xs) j) + cond (n == j) 1 0
taken_one [] n j call none some within = absurd (omega arith)
taken_one (x ∷ xs) zero zero call none some within = some x ∙ sym (ap (λ m. m + 1) none)
taken_one (x ∷ xs) zero (suc j) call none some within = sym (ap (λ (m : ℕ). call None + m) (no_test 0 (suc j) (λ e. omega (arith, e))) ∙ add-zero (call None))
taken_one (x ∷ xs) (suc n) zero call none some within = sym (ap (λ (m : ℕ). call (Some x) + m) (no_test (suc n) 0 (λ e. omega (arith, e))) ∙ add-zero (call (Some x)))
taken_one (x ∷ xs) (suc n) (suc j) call none some within =
    taken_one xs n j call none some (omega arith) ∙ ap (λ (t : Bool). call (slice_get (take n xs) j) + cond t 1 0) (sym (eqb-suc-suc n j))

-- another caller than the first
other : (n caller index : ℕ) → one_at 1 (n + 1) (suc (suc caller)) index ≡ 0
other n caller index = ap (λ (b : Bool). cond {A = ℕ} (b && ((n + 1) == index)) 1 0) (ne_eqb 1 (suc (suc caller)) (λ e. omega (arith, e)))

-- one more call is there
taken : (calls : List Call) (n caller index : ℕ) → n < length calls
    → one_if_there (call_at (take (n + 1) calls ∷ []) caller index) ≡ one_if_there (call_at (take n calls ∷ []) caller index) + one_at 1 (n + 1) caller index
taken calls n zero index within = refl
taken calls n (suc zero) zero within = sym (ap (λ (m : ℕ). 0 + m) (no_test (n + 1) 0 (λ e. omega (arith, e))))
taken calls n (suc zero) (suc index) within = rw (add-one n) (taken_one calls n index one_if_there refl (λ _. refl) within ∙ ap (λ (t : Bool). one_if_there (slice_get (take n calls) index) + cond t 1 0) (sym (eqb-suc-suc n index)))
taken calls n (suc (suc caller)) zero within = sym (ap (λ (m : ℕ). 0 + m) (other n caller zero))
taken calls n (suc (suc caller)) (suc index) within = sym (ap (λ (m : ℕ). 0 + m) (other n caller (suc index)))

none_there : (caller index : ℕ) → one_if_there (call_at ([] ∷ []) caller index) ≡ 0
none_there zero index = refl
none_there (suc zero) zero = refl
none_there (suc zero) (suc index) = refl
none_there (suc (suc caller)) zero = refl
none_there (suc (suc caller)) (suc index) = refl

module _ (source : Module) (places first : ℕ) (start : Objects) (calls : List Call) where
  -- each of the calls so far stands once
  pub serves_once : {n version : ℕ} {es : List Entry} {rs : List Refusal} {heap : Objects} → Serves source places first start calls n es rs heap version
      → (caller index : ℕ) → runs_of caller index es + refusals_of caller index rs ≡ one_if_there (call_at (take n calls ∷ []) caller index)
  serves_once begins caller index = sym (none_there caller index)
  serves_once (carries_out {count = n} {entries = es} {refusals = rs} call e before there fits is) caller index =
      let old = serves_once before caller index in
      let more = count-push (λ (d : Entry). (d.caller == caller) && (d.index == index)) es e in
      let same : cond ((e.caller == caller) && (e.index == index)) 1 0 ≡ one_at 1 (n + 1) caller index = rw (is.caller, is.index) refl in
      let taken_on = taken calls n caller index (slice_get_within calls n call there) in
      omega (arith, old, more, same, taken_on)
  serves_once (refuses {count = n} {entries = es} {refusals = rs} call r before there short is) caller index =
      let old = serves_once before caller index in
      let more = count-push (λ (d : Refusal). (d.caller == caller) && (d.index == index)) rs r in
      let same : cond ((r.caller == caller) && (r.index == index)) 1 0 ≡ one_at 1 (n + 1) caller index = rw (is.caller, is.index) refl in
      let taken_on = taken calls n caller index (slice_get_within calls n call there) in
      omega (arith, old, more, same, taken_on)

  -- no index is above the number of calls so far
  pub serves_indexes : {n version : ℕ} {es : List Entry} {rs : List Refusal} {heap : Objects} → Serves source places first start calls n es rs heap version
      → All (λ (e : Entry). e.index ≤ n) es
  serves_indexes begins = λ k d within. absurd (omega arith)
  serves_indexes (carries_out {count = n} {entries = es} call e before there fits is) =
      All-push (λ (d : Entry). d.index ≤ n + 1) es e (λ k d within. omega (arith, serves_indexes before k d within)) (omega (arith, is.index))
  serves_indexes (refuses {count = n} call r before there short is) = λ k d within. omega (arith, serves_indexes before k d within)

  -- indexes rise
  pub serves_in_order : {n version : ℕ} {es : List Entry} {rs : List Refusal} {heap : Objects} → Serves source places first start calls n es rs heap version
      → AllPairs (λ (earlier later : Entry). earlier.caller ≡ later.caller → earlier.index < later.index) es
  serves_in_order begins = λ i j d less within. absurd (omega arith)
  serves_in_order (carries_out {count = n} {entries = es} call e before there fits is) =
      all_pairs_push (λ (earlier later : Entry). earlier.caller ≡ later.caller → earlier.index < later.index) es e (serves_in_order before)
      (λ k d within same. omega (arith, serves_indexes before k d within, is.index))
  serves_in_order (refuses call r before there short is) = serves_in_order before

  -- all the calls are covered
  pub serves_covers : {version : ℕ} {es : List Entry} {rs : List Refusal} {heap : Objects} → Serves source places first start calls (length calls) es rs heap version
      → Covers (calls ∷ []) es rs
  serves_covers is = record {
    once = λ caller index. serves_once is caller index ∙ ap (λ (cs : List Call). one_if_there (call_at (cs ∷ []) caller index)) (take-length calls);
    in_order = serves_in_order is;
  }
