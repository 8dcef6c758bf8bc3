-- A heap is a forest where each of its objects stands in one.
use Rattle.std.proofs.Common.{◌≡◌, ℕ, ◌<◌, ◌≤◌, Bool, true, false, cond, ◌&&◌, ◌||◌, List, [], ◌∷◌, refl, sym, ap, ◌∙◌, Some, None, inl, inr, arith}
use Rattle.std.specs.Prelude.{count_by, nat_lt, nat_le, if◌then◌else◌}
use Rattle.std.specs.List.{list_any, list_all}
use Rattle.std.specs.FinMap as map
use Rattle.std.proofs.lemmas.Bool.{ltb-true, lt-ltb, eqb-true}
use Rattle.std.proofs.lemmas.Bool.Decides.{nat_tests}
use Rattle.std.proofs.lemmas.List.Sums.{sum_by-cons}
use Rattle.dl_ir.specs.declared.names.Name.{Name}
use Rattle.dl_ir.specs.declared.names.Value.{Value}
use Rattle.dl_ir.specs.declared.names.Value.TheVariants.{Int, Ref}
use Rattle.dl_ir.specs.declared.objects.Obj.{Obj}
use Rattle.dl_ir.specs.Heap.{Objects}
use Rattle.dl_shape.specs.References.{refers_to, refs, IsForest}
use Rattle.dl_shape.specs.Settling.{is_shared}
use Rattle.dl_shape.specs.Forests.{names_root, stands_in_forest}
use Rattle.dl_ir.proofs.NameOrder.{name_eq_itself}
use Rattle.dl_ir.proofs.Members.{Held, In, in_entries, get_in, all_pass, term_le, zeros}

abbrev one_if : Bool → ℕ
one_if b = cond b 1 0

-- a value that refers to a root refers to one
root_of : (v : Value) → names_root v ≡ true → (n : Name) × (n.ticket ≡ 0) × (refers_to n v ≡ true)
root_of (Int x) is = cc
root_of (Ref None) is = cc
root_of (Ref (Some n)) is = (n, eqb-true n.ticket 0 is, name_eq_itself n)

root_counted : (vs : List Value) → list_any names_root vs ≡ true → (n : Name) × (n.ticket ≡ 0) × (0 < count_by (refers_to n) vs)
root_counted [] is = cc
root_counted (v ∷ vs) is =
    elim (names_root v) as (λ b. names_root v ≡ b → (b || list_any names_root vs) ≡ true → (n : Name) × (n.ticket ≡ 0) × (0 < count_by (refers_to n) (v ∷ vs))) [
      | true ↦ λ t _.
          let root = root_of v t in
          (root.0, root.1, omega (arith, sum_by-cons (λ x. cond (refers_to root.0 x) 1 0) v vs, ap one_if root.2))
      | false ↦ λ t rest.
          let root = root_counted vs rest in
          (root.0, root.1, omega (arith, sum_by-cons (λ x. cond (refers_to root.0 x) 1 0) v vs, root.2))
    ] refl is

-- where no value refers to a root, none refers to this one
not_root : (n : Name) (v : Value) → n.ticket ≡ 0 → names_root v ≡ false → refers_to n v ≡ false
not_root n (Int x) zero_ticket is = refl
not_root n (Ref None) zero_ticket is = refl
not_root n (Ref (Some m)) zero_ticket is = grind (arith, nat_tests)

none_counted : (n : Name) (vs : List Value) → n.ticket ≡ 0 → list_any names_root vs ≡ false → count_by (refers_to n) vs ≡ 0
none_counted n [] zero_ticket is = refl
none_counted n (v ∷ vs) zero_ticket is =
    elim (names_root v) as (λ b. names_root v ≡ b → (b || list_any names_root vs) ≡ false → count_by (refers_to n) (v ∷ vs) ≡ 0) [
      | true ↦ λ t some. cc
      | false ↦ λ t rest. omega (arith, sum_by-cons (λ x. cond (refers_to n x) 1 0) v vs, ap one_if (not_root n v zero_ticket t), none_counted n vs zero_ticket rest)
    ] refl is

stands_parts : (a b : Bool) → (if a then false else (if b then false else true)) ≡ true → (a ≡ false) × (b ≡ false)
stands_parts true b is = cc
stands_parts false true is = cc
stands_parts false false is = (refl, refl)

shared_parts : (hidden sealed : Bool) (n : ℕ) → ((hidden && (if sealed then false else true)) && nat_le 2 n) ≡ true → (hidden ≡ true) × (sealed ≡ false) × (2 ≤ n)
shared_parts true true n is = cc
shared_parts true false n is = (refl, refl, grind (arith, nat_tests))
shared_parts false sealed n is = cc

not_shared : (n : ℕ) → nat_le 2 n ≡ false → n ≤ 1
not_shared n is = grind (arith, nat_tests)

is_false : (b : Bool) → (b ≡ true → ⊥) → b ≡ false
is_false true never = absurd (never refl)
is_false false never = refl

-- in a forest each object stands so
pub forest_stands : (h : Objects) → IsForest h → (e : Name × Obj) → In e (map.entries h) → stands_in_forest h e ≡ true
forest_stands h forest e there =
    let no_root : list_any names_root e.1.fields ≡ false = is_false _ (λ is.
    let root = root_counted e.1.fields is in
    omega (arith, root.2, forest.roots_free root.0 root.1, term_le (λ (x : Name × Obj). count_by (refers_to root.0) x.1.fields) (map.entries h) e there)) in
    let alone : is_shared h e ≡ false = is_false _ (λ is.
    let parts = shared_parts (nat_lt 0 e.0.ticket) e.1.sealed (refs h e.0) is in
    omega (arith, parts.2, forest.at_most_one e.0 e.1 (get_in h e there) (ltb-true 0 e.0.ticket parts.0) parts.1)) in
    ap (λ a. if a then false else (if is_shared h e then false else true)) no_root ∙ ap (λ b. if b then false else true) alone

-- where each entry passes a test, all do
all_in : (test : Name × Obj → Bool) (es : Held) → ((e : Name × Obj) → In e es → test e ≡ true) → list_all test es ≡ true
all_in test [] passes = refl
all_in test (e ∷ es) passes = ap (λ b. b && list_all test es) (passes e (inl refl)) ∙ all_in test es (λ x there. passes x (inr there))

-- so all do
pub forest_all : (h : Objects) → IsForest h → list_all (stands_in_forest h) (map.entries h) ≡ true
forest_all h forest = all_in (stands_in_forest h) (map.entries h) (forest_stands h forest)

-- and where each does, the heap is a forest
pub stands_forest : (h : Objects) → list_all (stands_in_forest h) (map.entries h) ≡ true → IsForest h
stands_forest h all = record {
  roots_free = λ n root. zeros (λ (e : Name × Obj). count_by (refers_to n) e.1.fields) (map.entries h) (λ e there.
      let parts = stands_parts _ _ (all_pass (stands_in_forest h) (map.entries h) e all there) in
      none_counted n e.1.fields root parts.0);
  at_most_one = λ n o is hidden unsealed.
      let parts = stands_parts (list_any names_root o.fields) (is_shared h (n, o)) (all_pass (stands_in_forest h) (map.entries h) (n, o) all (in_entries h n o is)) in
      not_shared (refs h n) (
      sym (ap (λ b. (b && (if o.sealed then false else true)) && nat_le 2 (refs h n)) (lt-ltb 0 n.ticket hidden)
      ∙ ap (λ b. (if b then false else true) && nat_le 2 (refs h n)) unsealed)
      ∙ parts.1);
}
