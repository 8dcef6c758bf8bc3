-- The entries of a heap, and what a look through them finds.
use Rattle.std.proofs.Common.{◌≡◌, ℕ, ◌≤◌, Bool, true, false, cond, ◌&&◌, [], ◌∷◌, refl, sym, ap, subst, ◌∙◌, T, Some, None, arith, ◌⊎◌, inl, inr}
use Rattle.std.specs.Prelude.{find, sum_by}
use Rattle.std.specs.List.{list_all}
use Rattle.std.specs.Cmp.{Equal-is}
use Rattle.std.specs.Ordering.{is_eq, eq_by_cmp, ordering_reverse}
use Rattle.std.specs.declared.cmp.Ordering.TheVariants.{Less}
use Rattle.std.specs.FinMap as map
use Rattle.std.specs.FinMap.{is_sorted, get-entries, entries_sorted}
use Rattle.std.specs.FinMap.Entries.{below_all}
use Rattle.std.proofs.lemmas.Cmp.{tied_itself}
use Rattle.std.proofs.lemmas.List.Sums.{sum_by-cons}
use Rattle.dl_ir.specs.declared.names.Name.{Name}
use Rattle.dl_ir.specs.declared.objects.Obj.{Obj}
use Rattle.dl_ir.specs.Heap.{Objects, name_cmp}
use Rattle.dl_ir.proofs.NameOrder.{names_total, exact_names}
use Rattle.dl_ir.proofs.SortedEntries.{Held as Entered, first_of_both, second_of_both, is_less}

abbrev pub Held : Type 0
Held = Entered Obj

-- the entry stands in the list
abbrev pub In : Name × Obj → Held → Type 0
In e [] = ⊥
In e (x ∷ es) = (x ≡ e) ⊎ In e es

-- what is looked up stands there
in_found : (k : Name) (o : Obj) (es : Held) → map.find name_cmp k es ≡ Some o → In (k, o) es
in_found k o [] is = cc
in_found k o (e ∷ es) is =
    elim (eq_by_cmp name_cmp k e.0) as (λ b. eq_by_cmp name_cmp k e.0 ≡ b → cond b (Some e.1) (map.find name_cmp k es) ≡ Some o → (e ≡ (k, o)) ⊎ In (k, o) es) [
      | true ↦ λ t found.
          let same : k ≡ e.0 = exact_names k e.0 ((Equal-is (name_cmp k e.0)).0 t) in
          let held : e.1 ≡ o = cc in
          inl (λ i. (sym same i, held i))
      | false ↦ λ t found. inr (in_found k o es found)
    ] refl is

below_in : (x : Name) (e : Name × Obj) (es : Held) → T (below_all name_cmp x es) → In e es → name_cmp x e.0 ≡ Less
below_in x e [] below is = absurd is
below_in x e (f ∷ es) below is = elim is [
  | inl here ↦ subst (λ (g : Name × Obj). name_cmp x g.0 ≡ Less) here (is_less _ (first_of_both _ _ below))
  | inr there ↦ below_in x e es (second_of_both _ _ below) there
]

-- and what stands there is looked up
found_in : (e : Name × Obj) (es : Held) → T (is_sorted name_cmp es) → In e es → map.find name_cmp e.0 es ≡ Some e.1
found_in e [] sorted is = absurd is
found_in e (f ∷ es) sorted is = elim is [
  | inl here ↦ subst (λ (g : Name × Obj). map.find name_cmp g.0 (f ∷ es) ≡ Some g.1) here (ap (λ r. cond (is_eq r) (Some f.1) (map.find name_cmp f.0 es)) (tied_itself names_total f.0))
  | inr there ↦
      let less = below_in f.0 e es (first_of_both _ _ sorted) there in
      ap (λ r. cond (is_eq r) (Some f.1) (map.find name_cmp e.0 es)) (names_total.antisymm e.0 f.0 ∙ ap ordering_reverse less)
      ∙ found_in e es (second_of_both _ _ sorted) there
]

module _ (h : Objects) where
  pub in_entries : (k : Name) (o : Obj) → map.get h k ≡ Some o → In (k, o) (map.entries h)
  in_entries k o is = in_found k o (map.entries h) (sym (get-entries h k) ∙ is)

  pub get_in : (e : Name × Obj) → In e (map.entries h) → map.get h e.0 ≡ Some e.1
  get_in e is = get-entries h e.0 ∙ found_in e (map.entries h) (entries_sorted h) is

-- what a search finds stands there and passes
pub find_some : (test : Name × Obj → Bool) (es : Held) (e : Name × Obj) → find test es ≡ Some e → In e es × (test e ≡ true)
find_some test [] e is = cc
find_some test (x ∷ es) e is = elim (test x) as (λ b. test x ≡ b → cond b (Some x) (find test es) ≡ Some e → In e (x ∷ es) × (test e ≡ true)) [
  | true ↦ λ t found. let same : x ≡ e = cc in (inl same, ap test (sym same) ∙ t)
  | false ↦ λ t found. let rest = find_some test es e found in (inr rest.0, rest.1)
] refl is

-- where it finds none, none passes
pub find_none : (test : Name × Obj → Bool) (es : Held) (e : Name × Obj) → find test es ≡ None → In e es → test e ≡ false
find_none test [] e is here = absurd here
find_none test (x ∷ es) e is here = elim (test x) as (λ b. test x ≡ b → cond b (Some x) (find test es) ≡ None → (x ≡ e) ⊎ In e es → test e ≡ false) [
  | true ↦ λ t none. cc
  | false ↦ λ t none at. elim at [ inl same ↦ ap test (sym same) ∙ t | inr there ↦ find_none test es e none there ]
] refl is here

-- where all pass, each passes, and the other way round
pub all_pass : (test : Name × Obj → Bool) (es : Held) (e : Name × Obj) → list_all test es ≡ true → In e es → test e ≡ true
all_pass test [] e is here = absurd here
all_pass test (x ∷ es) e is here = elim (test x) as (λ b. test x ≡ b → (b && list_all test es) ≡ true → (x ≡ e) ⊎ In e es → test e ≡ true) [
  | true ↦ λ t rest at. elim at [ inl same ↦ ap test (sym same) ∙ t | inr there ↦ all_pass test es e rest there ]
  | false ↦ λ t rest. cc
] refl is here

pub pass_all : (test : Name × Obj → Bool) (es : Held) → ((e : Name × Obj) → In e es → test e ≡ true) → list_all test es ≡ true
pass_all test [] each = refl
pass_all test (x ∷ es) each = ap (λ b. b && list_all test es) (each x (inl refl)) ∙ pass_all test es (λ e there. each e (inr there))

-- a term is within the sum, and a sum of zeros is 0
pub term_le : (f : Name × Obj → ℕ) (es : Held) (e : Name × Obj) → In e es → f e ≤ sum_by f es
term_le f [] e is = absurd is
term_le f (x ∷ es) e is = elim is [
  | inl same ↦ subst (λ (y : Name × Obj). f y ≤ sum_by f (x ∷ es)) same (omega (arith, sum_by-cons f x es))
  | inr there ↦ omega (arith, sum_by-cons f x es, term_le f es e there)
]

pub zeros : (f : Name × Obj → ℕ) (es : Held) → ((e : Name × Obj) → In e es → f e ≡ 0) → sum_by f es ≡ 0
zeros f [] each = refl
zeros f (x ∷ es) each = omega (arith, sum_by-cons f x es, each x (inl refl), zeros f es (λ e there. each e (inr there)))
