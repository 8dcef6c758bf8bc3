-- There are no more objects than places and roots.
use Rattle.std.proofs.Common.{◌≡◌, ℕ, ◌+◌, ◌<◌, ◌≤◌, Bool, true, false, cond, List, [], ◌∷◌, length, filter, refl, subst, arith}
use Rattle.std.specs.Prelude.{nat_lt, nat_eq, ◌||◌}
use Rattle.std.specs.List.{list_any, IsDistinct, AllByRecursion}
use Rattle.std.specs.FinMap as finite
use Rattle.std.specs.FinMap.{len-entries}
use Rattle.std.proofs.lemmas.Map.Steps.{length-le_from_distinct_below}
use Rattle.std.proofs.lemmas.Bool.Decides.{nat_tests}
use Rattle.dl_ir.specs.declared.names.Name.{Name}
use Rattle.dl_ir.specs.declared.objects.Obj.{Obj}
use Rattle.dl_ir.specs.Heap.{Objects, IsHeapOf, HasStart, hidden_count}
use Rattle.dl_ir.specs.declared.modules.Module.{Module}
use Rattle.dl_shape.proofs.Names.{names}
use Rattle.dl_lemmas.proofs.Entries.{AreEntries, IsNoKey, entries_are}
use Rattle.dl_core.proofs.RootNumbers.{in_row}
use Rattle.dl_lemmas.proofs.Tests.{not_both}

-- the numbers of the roots among entries
abbrev index_if : Bool → ℕ → List ℕ → List ℕ
index_if true index rest = rest
index_if false index rest = index ∷ rest

abbrev numbers : List (Name × Obj) → List ℕ
numbers [] = []
numbers (e ∷ es) = index_if (nat_lt 0 e.0.ticket) e.0.index (numbers es)

-- what is not hidden is a root
split : (es : List (Name × Obj)) → length es ≡ length (filter (λ (e : Name × Obj). nat_lt 0 e.0.ticket) es) + length (numbers es)
split [] = omega arith
split (e ∷ es) =
    let rest = split es in
    elim (nat_lt 0 e.0.ticket) as (λ b. length (e ∷ es) ≡ length (cond b (e ∷ filter (λ (d : Name × Obj). nat_lt 0 d.0.ticket) es) (filter (λ (d : Name × Obj). nat_lt 0 d.0.ticket) es)) + length (index_if b e.0.index (numbers es))) [
      | true ↦ omega (arith, rest)
      | false ↦ omega (arith, rest)
    ]

-- a number that differs from all roots' numbers
apart : (name : Name) → name.ticket ≡ 0 → (es : List (Name × Obj)) → IsNoKey name es → AllByRecursion (λ (n : ℕ). nat_eq name.index n ≡ false) (numbers es)
apart name root [] none = tt
apart name root (e ∷ es) none = by (nat_lt 0 e.0.ticket) refl (apart name root es none.1)
  where
    differs : nat_lt 0 e.0.ticket ≡ false → (b : Bool) → nat_eq name.index e.0.index ≡ b → b ≡ false
    differs t false is = refl
    differs t true is =
        let ticket : name.ticket ≡ e.0.ticket = grind (arith, nat_tests, t, root) in
        let index : name.index ≡ e.0.index = grind (arith, nat_tests, is) in
        absurd (none.0 (λ i. record { ticket = ticket i; index = index i }))

    by : (b : Bool) → nat_lt 0 e.0.ticket ≡ b → AllByRecursion (λ (n : ℕ). nat_eq name.index n ≡ false) (numbers es) → AllByRecursion (λ (n : ℕ). nat_eq name.index n ≡ false) (index_if b e.0.index (numbers es))
    by true t rest = rest
    by false t rest = (differs t (nat_eq name.index e.0.index) refl, rest)

distinct_if : (e : Name × Obj) (es : List (Name × Obj)) → IsNoKey e.0 es → (b : Bool) → nat_lt 0 e.0.ticket ≡ b → IsDistinct nat_eq (numbers es) → IsDistinct nat_eq (index_if b e.0.index (numbers es))
unfolding IsDistinct
distinct_if e es none true t rest = rest
distinct_if e es none false t rest = (apart e.0 (grind (arith, nat_tests, t)) es none, rest)

distinct : (objects : Objects) (es : List (Name × Obj)) → AreEntries objects es → IsDistinct nat_eq (numbers es)
unfolding IsDistinct
distinct objects [] are = tt
distinct objects (e ∷ es) are = distinct_if e es are.1 (nat_lt 0 e.0.ticket) refl (distinct objects es are.2)

module _ (source : Module) (start : HasStart source) (objects : Objects) (is : IsHeapOf source objects) where
  below : (es : List (Name × Obj)) → AreEntries objects es → (q : ℕ) → list_any (nat_eq q) (numbers es) ≡ true → q < 1024
  below [] are q e = absurd (not_both e refl)
  below (e ∷ es) are q among = by (nat_lt 0 e.0.ticket) refl (below es are.2 q) among
    where
      root_few : nat_lt 0 e.0.ticket ≡ false → e.0.index < 1024
      root_few t =
          let root = is.exposed e.0 e.1 are.0 (grind (arith, nat_tests, t)) in
          let row = in_row 0 source.kinds e.1.kind root.declared start.row root.is_there root.is_root in
          omega (arith, row, root.to_last)

      one_or : (b : Bool) → nat_eq q e.0.index ≡ b → e.0.index < 1024 → (list_any (nat_eq q) (numbers es) ≡ true → q < 1024) → list_any (nat_eq q) (e.0.index ∷ numbers es) ≡ true → q < 1024
      one_or true is few rest found = let same : q ≡ e.0.index = grind (arith, nat_tests, is) in omega (arith, same, few)
      one_or false is few rest found = rest (subst (λ b. (b || list_any (nat_eq q) (numbers es)) ≡ true) is found)

      by : (b : Bool) → nat_lt 0 e.0.ticket ≡ b → (list_any (nat_eq q) (numbers es) ≡ true → q < 1024) → list_any (nat_eq q) (index_if b e.0.index (numbers es)) ≡ true → q < 1024
      by true t rest found = rest found
      by false t rest found = one_or (nat_eq q e.0.index) refl (root_few t) rest found

  -- no more objects than are hidden, and 1,024 roots
  pub objects_few : finite.len objects ≤ hidden_count objects + 1024
  objects_few =
      let roots = length-le_from_distinct_below (numbers (finite.entries objects)) 1024 (distinct objects (finite.entries objects) (entries_are names objects)) (below (finite.entries objects) (entries_are names objects)) in
      omega (arith, split (finite.entries objects), len-entries objects, roots)
