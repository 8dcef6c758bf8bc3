-- What the order and the form of a heap part's lines say of its objects.
use Rattle.std.proofs.Common.{◌≡◌, ℕ, zero, suc, ◌+◌, ◌<◌, ◌≤◌, true, false, cond, inl, inr, [], ◌∷◌, length, take, refl, sym, ap, subst, ◌∙◌, T, Some, arith}
use Rattle.std.specs.Prelude.{All, filter, nat_lt}
use Rattle.std.specs.List.{slice_get}
use Rattle.std.specs.FinMap.{is_sorted}
use Rattle.std.specs.declared.cmp.Ordering.TheVariants.{Less}
use Rattle.std.proofs.lemmas.Bool.{cases_lt}
use Rattle.std.proofs.lemmas.Bool.Decides.{nat_tests}
use Rattle.std.proofs.lemmas.List.{length-take-le}
use Rattle.std.proofs.lemmas.Option.{slice_get_within}
use Rattle.dl_ir.specs.declared.modules.Module.{Module}
use Rattle.dl_ir.specs.declared.names.Name.{Name}
use Rattle.dl_ir.specs.declared.objects.Obj.{Obj}
use Rattle.dl_ir.specs.Heap.{name_cmp, root, IsRootOf, IsNodeKind, hidden_count}
use Rattle.dl_heapfile.specs.Form.{MayFollow, AreListed, AreInPlace, root_count}
use Rattle.dl_heapfile.specs.Faults.{heap_of}
use Rattle.dl_heapfile.proofs.Rising.{Entries, below_root, entries-heap_of}
use Rattle.dl_lemmas.proofs.Entries.{Rise, sorted_rise}
use Rattle.dl_lemmas.proofs.Places.{all_at, front_get}

-- the object is that of the root with this number
pub record IsRootAt (source : Module) (at : ℕ) (e : Name × Obj) : Type 0 where
  pub name : e.0 ≡ root at
  pub root_of : IsRootOf source e.1.kind e.0
  pub unsealed : e.1.sealed ≡ false

-- the object is hidden, behind lesser names
pub record IsHiddenBehind (source : Module) (before : Entries) (e : Name × Obj) : Type 0 where
  pub above : All (λ (earlier : Name × Obj). name_cmp earlier.0 e.0 ≡ Less) before
  pub node : IsNodeKind source e.1.kind
  pub ticket : 1 ≤ e.0.ticket
  pub low_ticket : e.0.ticket ≤ 4611686018427387904
  pub index : 1 ≤ e.0.index
  pub low_index : e.0.index ≤ 64

pub follows_root : (source : Module) (before : Entries) (e : Name × Obj) → MayFollow source before e → length before < root_count source → IsRootAt source (length before) e
follows_root source before e (MayFollow.next_root less name of unsealed) low = record { name = name; root_of = of; unsealed = unsealed }
follows_root source before e (MayFollow.next_hidden many above node ticket low_ticket index low_index) low = absurd (omega (arith, many, low))

pub follows_hidden : (source : Module) (before : Entries) (e : Name × Obj) → MayFollow source before e → root_count source ≤ length before → IsHiddenBehind source before e
follows_hidden source before e (MayFollow.next_root less name of unsealed) many = absurd (omega (arith, less, many))
follows_hidden source before e (MayFollow.next_hidden many above node ticket low_ticket index low_index) at_least =
    record { above = above; node = node; ticket = ticket; low_ticket = low_ticket; index = index; low_index = low_index }

module _ (source : Module) (es : Entries) (listed : AreListed source es) where
  front_length : (at : ℕ) (e : Name × Obj) → slice_get es at ≡ Some e → length (take at es) ≡ at
  front_length at e there = let within = slice_get_within es at e there in length-take-le at es (omega (arith, within))

  pub root_at : (at : ℕ) (e : Name × Obj) → slice_get es at ≡ Some e → at < root_count source → IsRootAt source at e
  root_at at e there low =
      let long = front_length at e there in
      subst (λ n. IsRootAt source n e) long (follows_root source (take at es) e (listed.each at e there) (omega (arith, long, low)))

  pub hidden_at : (at : ℕ) (e : Name × Obj) → slice_get es at ≡ Some e → root_count source ≤ at → IsHiddenBehind source (take at es) e
  hidden_at at e there high =
      let long = front_length at e there in
      follows_hidden source (take at es) e (listed.each at e there) (omega (arith, long, high))

  pub rise : Rise name_cmp es
  rise i j e f at_i at_j less = elim (cases_lt j (root_count source)) [
    | inl low ↦
        let first = root_at i e at_i (omega (arith, low, less)) in
        let second = root_at j f at_j low in
        subst (λ (n : Name). name_cmp n f.0 ≡ Less) (sym first.name) (subst (λ (n : Name). name_cmp (root i) n ≡ Less) (sym second.name) (below_root i j less))
    | inr high ↦ all_at (λ (earlier : Name × Obj). name_cmp earlier.0 f.0 ≡ Less) (take j es) i e (hidden_at j f at_j high).above (front_get es j i less ∙ at_i)
  ]

  pub sorted : T (is_sorted name_cmp es)
  sorted = sorted_rise name_cmp es rise

-- with so many roots before, the others are hidden
count_behind : (n : ℕ) (es : Entries) → ((at : ℕ) (e : Name × Obj) → slice_get es at ≡ Some e → at < n → e.0.ticket ≡ 0) → ((at : ℕ) (e : Name × Obj) → slice_get es at ≡ Some e → n ≤ at → 1 ≤ e.0.ticket)
    → n ≤ length es → n + length (filter (λ (e : Name × Obj). nat_lt 0 e.0.ticket) es) ≡ length es
count_behind zero [] roots others long = refl
count_behind (suc n) [] roots others long = absurd (omega (arith, long))
count_behind zero (e ∷ es) roots others long =
    let kept = filter (λ (f : Name × Obj). nat_lt 0 f.0.ticket) es in
    let here : nat_lt 0 e.0.ticket ≡ true = grind (arith, nat_tests, others 0 e refl (omega arith)) in
    let rest = count_behind zero es (λ at f there less. absurd (omega (arith, less))) (λ at f there less. others (suc at) f there (omega arith)) (omega arith) in
    ap (λ b. 0 + length (cond b (e ∷ kept) kept)) here ∙ omega (arith, rest)
count_behind (suc n) (e ∷ es) roots others long =
    let kept = filter (λ (f : Name × Obj). nat_lt 0 f.0.ticket) es in
    let zero_ticket = roots 0 e refl (omega arith) in
    let here : nat_lt 0 e.0.ticket ≡ false = ap (nat_lt 0) zero_ticket in
    let rest = count_behind n es (λ at f there less. roots (suc at) f there (omega (arith, less))) (λ at f there less. others (suc at) f there (omega (arith, less))) (omega (arith, long)) in
    ap (λ b. suc n + length (cond b (e ∷ kept) kept)) here ∙ omega (arith, rest)

module _ (source : Module) (es : Entries) (placed : AreInPlace source es) where
  pub hidden_is : hidden_count (heap_of es) ≡ length (filter (λ (e : Name × Obj). nat_lt 0 e.0.ticket) es)
  hidden_is = ap (λ (l : Entries). length (filter (λ (e : Name × Obj). nat_lt 0 e.0.ticket) l)) (entries-heap_of es (sorted source es placed.listed))

  -- the objects are the roots and the hidden ones
  pub in_all : root_count source + hidden_count (heap_of es) ≡ length es
  in_all = ap (λ n. root_count source + n) hidden_is ∙ count_behind (root_count source) es
      (λ at e there less. ap (λ (n : Name). n.ticket) (root_at source es placed.listed at e there less).name)
      (λ at e there less. (hidden_at source es placed.listed at e there less).ticket)
      placed.all_roots
