-- A line of calls refuses exactly those for which too few places are free.
use Rattle.std.proofs.Common.{◌≡◌, ℕ, zero, suc, ◌+◌, ◌<◌, ◌≤◌, ◌==◌, ◌&&◌, ◌↔◌, Bool, true, false, cond, List, [], ◌∷◌, ◌++◌, length, nat_lt, refl, sym, ap, subst, ◌∙◌, inl, inr, Some, arith, add-one}
use Rattle.std.specs.Prelude.{slice_get, All}
use Rattle.std.proofs.lemmas.List.{append-nil}
use Rattle.std.proofs.lemmas.List.Elements.{filter-append, All-head, All-tail}
use Rattle.std.proofs.lemmas.List.Sums.{sum_by-cons}
use Rattle.std.proofs.lemmas.Bool.{ne_eqb, cases_lt}
use Rattle.std.proofs.lemmas.Bool.Decides.{nat_tests}
use Rattle.std.proofs.lemmas.Option.{slice_get_within}
use Rattle.dl_ir.specs.declared.answers.Entry.{Entry}
use Rattle.dl_ir.specs.declared.answers.Refusal.{Refusal}
use Rattle.dl_ir.specs.declared.calls.Call.{Call}
use Rattle.dl_ir.specs.declared.modules.Module.{Module}
use Rattle.dl_ir.specs.Cover.{refusals_of}
use Rattle.dl_ir.specs.Heap.{Objects, hidden_count}
use Rattle.dl_shape.specs.Replay.{replayed}
use Rattle.dl_serial.specs.Refusing.{entries_before, heap_before, RefusesExactly}
use Rattle.dl_serial.specs.Rooms.{allocs_of}
use Rattle.dl_serial.specs.Serving.{Serves, begins, carries_out, refuses}
use Rattle.dl_serial.proofs.Covering.{serves_indexes}
use Rattle.dl_serial.proofs.Laws.{serves_replayed}
use Rattle.dl_serial.proofs.Listed.{within}
use Rattle.dl_lemmas.proofs.Counts.{count-push}

less_is : (a b : ℕ) → a < b → nat_lt a b ≡ true
less_is a b less = grind (arith, nat_tests)

not_less_is : (a b : ℕ) → b ≤ a → nat_lt a b ≡ false
not_less_is a b above = grind (arith, nat_tests)

false_behind : (b : Bool) → (b && false) ≡ false
false_behind true = refl
false_behind false = refl

itself : (m : ℕ) → cond {A = ℕ} (m == m) 1 0 ≡ 1
itself m = grind (arith, nat_tests)

-- all entries are before the next index
all_before : (n : ℕ) (es : List Entry) → All (λ (e : Entry). e.index ≤ n) es → entries_before (n + 1) es ≡ es
all_before n [] all = refl
all_before n (e ∷ es) all =
    let first : e.index ≤ n = All-head (λ (d : Entry). d.index ≤ n) e es all in
    ap (λ b. cond b (e ∷ entries_before (n + 1) es) (entries_before (n + 1) es)) (less_is e.index (n + 1) (omega (arith, first)))
    ∙ ap (λ (l : List Entry). e ∷ l) (all_before n es (All-tail (λ (d : Entry). d.index ≤ n) e es all))

-- an entry behind is not among those before
not_before : (index : ℕ) (es : List Entry) (e : Entry) → index ≤ e.index → entries_before index (es ++ e ∷ []) ≡ entries_before index es
not_before index es e behind =
    filter-append (λ (d : Entry). nat_lt d.index index) es (e ∷ [])
    ∙ ap (λ b. entries_before index es ++ cond b (e ∷ []) []) (not_less_is e.index index behind) ∙ append-nil (entries_before index es)

-- a refusal of another index does not count
other_index : (caller index : ℕ) (r : Refusal) → (r.index ≡ index → ⊥) → cond {A = ℕ} ((r.caller == caller) && (r.index == index)) 1 0 ≡ 0
other_index caller index r other =
    ap (λ b. cond {A = ℕ} ((r.caller == caller) && b) 1 0) (ne_eqb r.index index other) ∙ ap (λ b. cond {A = ℕ} b 1 0) (false_behind (r.caller == caller))

-- none of the refusals so far is that of the next index
none_next : (n : ℕ) (rs : List Refusal) → All (λ (r : Refusal). r.index ≤ n) rs → refusals_of 1 (n + 1) rs ≡ 0
none_next n [] all = refl
none_next n (r ∷ rs) all =
    let first : r.index ≤ n = All-head (λ (q : Refusal). q.index ≤ n) r rs all in
    let here = other_index 1 (n + 1) r (λ same. omega (arith, first, same)) in
    let rest = none_next n rs (All-tail (λ (q : Refusal). q.index ≤ n) r rs all) in
    omega (arith, sum_by-cons (λ (q : Refusal). cond {A = ℕ} ((q.caller == 1) && (q.index == (n + 1))) 1 0) r rs, here, rest)

module _ (source : Module) (places first : ℕ) (start : Objects) (calls : List Call) where
  -- the call at a place was refused exactly where too few places were free
  abbrev IsRefusedRightly : ℕ → Call → List Entry → List Refusal → Type 0
  IsRefusedRightly k call es rs = (refusals_of 1 (k + 1) rs ≡ 1) ↔ (places < allocs_of source call + hidden_count (heap_before source calls start es (k + 1)))

  -- the heap that the entries so far lead to
  heap_now : {n version : ℕ} {es : List Entry} {rs : List Refusal} {heap : Objects} → Serves source places first start calls n es rs heap version
      → heap_before source calls start es (n + 1) ≡ heap
  heap_now {n = n} {es = es} served =
      ap (replayed source (calls ∷ []) start) (all_before n es (serves_indexes source places first start calls served)) ∙ serves_replayed source places first start calls served

  same_call : (n : ℕ) (call other : Call) → slice_get calls n ≡ Some call → slice_get calls n ≡ Some other → call ≡ other
  same_call n call other is is_other = cc

  serves_rightly : {n version : ℕ} {es : List Entry} {rs : List Refusal} {heap : Objects} → Serves source places first start calls n es rs heap version
      → (k : ℕ) (call : Call) → k < n → slice_get calls k ≡ Some call → IsRefusedRightly k call es rs
  serves_rightly begins k call less is = absurd (omega (arith, less))
  serves_rightly (carries_out {count = n} {entries = es} {refusals = rs} {heap = h} made e before there fits own) k call less is = elim (cases_lt k n) [
    | inl sooner ↦
        subst (λ (l : List Entry). (refusals_of 1 (k + 1) rs ≡ 1) ↔ (places < allocs_of source call + hidden_count (replayed source (calls ∷ []) start l)))
        (sym (not_before (k + 1) es e (omega (arith, own.index, sooner)))) (serves_rightly before k call sooner is)
    | inr later ↦
        let same : k ≡ n = omega (arith, later, less) in
        let one : made ≡ call = same_call n made call there (subst (λ (j : ℕ). slice_get calls j ≡ Some call) same is) in
        let now : heap_before source calls start (es ++ e ∷ []) (k + 1) ≡ h
        = ap (λ (j : ℕ). heap_before source calls start (es ++ e ∷ []) (j + 1)) same
        ∙ ap (replayed source (calls ∷ []) start) (not_before (n + 1) es e (omega (arith, own.index))) ∙ heap_now before in
        let none : refusals_of 1 (k + 1) rs ≡ 0 = ap (λ (j : ℕ). refusals_of 1 (j + 1) rs) same ∙ none_next n rs (within source places first start calls before) in
        let enough : allocs_of source call + hidden_count h ≤ places = subst (λ (c : Call). allocs_of source c + hidden_count h ≤ places) one fits in
        (λ refused. absurd (omega (arith, refused, none)), λ short. absurd (omega (arith, enough, short, ap hidden_count now)))
  ]
  serves_rightly (refuses {count = n} {entries = es} {refusals = rs} {heap = h} made r before there short own) k call less is = elim (cases_lt k n) [
    | inl sooner ↦
        let other = other_index 1 (k + 1) r (λ same. omega (arith, same, own.index, sooner)) in
        let counted : refusals_of 1 (k + 1) (rs ++ r ∷ []) ≡ refusals_of 1 (k + 1) rs
        = count-push (λ (q : Refusal). (q.caller == 1) && (q.index == (k + 1))) rs r ∙ omega (arith, other) in
        subst (λ (c : ℕ). (c ≡ 1) ↔ (places < allocs_of source call + hidden_count (heap_before source calls start es (k + 1)))) (sym counted) (serves_rightly before k call sooner is)
    | inr later ↦
        let same : k ≡ n = omega (arith, later, less) in
        let one : made ≡ call = same_call n made call there (subst (λ (j : ℕ). slice_get calls j ≡ Some call) same is) in
        let now : heap_before source calls start es (k + 1) ≡ h = ap (λ (j : ℕ). heap_before source calls start es (j + 1)) same ∙ heap_now before in
        let none : refusals_of 1 (n + 1) rs ≡ 0 = none_next n rs (within source places first start calls before) in
        let own_one : cond {A = ℕ} ((r.caller == 1) && (r.index == (n + 1))) 1 0 ≡ 1 = rw (own.caller, own.index) (itself (n + 1)) in
        let counted : refusals_of 1 (k + 1) (rs ++ r ∷ []) ≡ 1
        = ap (λ (j : ℕ). refusals_of 1 (j + 1) (rs ++ r ∷ [])) same ∙ count-push (λ (q : Refusal). (q.caller == 1) && (q.index == (n + 1))) rs r ∙ omega (arith, none, own_one) in
        let too_few : places < allocs_of source call + hidden_count h = subst (λ (c : Call). places < allocs_of source c + hidden_count h) one short in
        (λ _. omega (arith, too_few, ap hidden_count now), λ _. counted)
  ]

  pub serves_refuses : {version : ℕ} {es : List Entry} {rs : List Refusal} {heap : Objects} → Serves source places first start calls (length calls) es rs heap version
      → RefusesExactly places source calls start es rs
  serves_refuses served zero call is = cc
  serves_refuses {es = es} {rs = rs} served (suc k) call is =
      subst (λ (j : ℕ). (refusals_of 1 j rs ≡ 1) ↔ (places < allocs_of source call + hidden_count (heap_before source calls start es j))) (add-one k)
      (serves_rightly served k call (slice_get_within calls k call is) is)
