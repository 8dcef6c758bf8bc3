-- The start heap: its roots in a row.
use Rattle.std.proofs.Common.{◌≡◌, ℕ, zero, suc, ◌+◌, ◌<◌, ◌≤◌, Bool, true, false, cond, ◌&&◌, List, [], ◌∷◌, ◌++◌, length, Option, Some, None, refl, sym, ap, subst, ◌∙◌, T, arith, length-append, ◌⊎◌, inl, inr, eqb}
use Rattle.std.specs.Prelude.{sum_by}
use Rattle.std.specs.Ordering.{is_lt, is_eq}
use Rattle.std.specs.declared.cmp.Ordering.TheVariants.{Less, Equal, Greater}
use Rattle.std.specs.FinMap as maps
use Rattle.std.specs.FinMap.{is_sorted, get-from_sorted, get-from_entries, get-empty, len-insert, same_map, len-entries, entries-from_sorted}
use Rattle.std.specs.FinMap.Entries.{below_all}
use Rattle.std.proofs.lemmas.Bool.{lt-ltb}
use Rattle.std.proofs.lemmas.Cmp.{tied_itself}
use Rattle.std.proofs.lemmas.List.Sums.{sum_by-cons}
use Rattle.dl_ir.specs.declared.modules.Module.{Module}
use Rattle.dl_ir.specs.declared.modules.KindDecl.{KindDecl}
use Rattle.dl_ir.specs.declared.names.Name.{Name}
use Rattle.dl_ir.specs.declared.objects.Obj.{Obj}
use Rattle.dl_ir.specs.Heap.{Objects, name_cmp, root, roots_from, roots_of, blank_object, start_objects, StandInRow, HasRootsAt}
use Rattle.dl_ir.proofs.NameOrder.{names_total, exact_names}
use Rattle.dl_ir.specs.Rows.{added}
use Rattle.dl_ir.proofs.SortedEntries.{Held, yes, first_of_both, second_of_both, is_less}
use Rattle.dl_ir.proofs.Lookups.{same_or_not, got_put, got_beside}
use Rattle.dl_ir.proofs.Edits.{made}

-- one more root
pub roots_from-more : (first i : ℕ) (o : Obj) → roots_from first (i + 1) o ≡ roots_from first i o ++ (root (first + i), o) ∷ []
roots_from-more first zero o = ap (λ n. (root n, o) ∷ []) {x = first} {y = first + 0} (omega arith)
roots_from-more first (suc i) o =
    ap (λ (n : ℕ). roots_from first n o) {x = suc i + 1} {y = suc (i + 1)} (omega arith)
    ∙ ap (λ (l : Held Obj). (root first, o) ∷ l) (roots_from-more (first + 1) i o ∙ ap (λ n. roots_from (first + 1) i o ++ (root n, o) ∷ []) {x = first + 1 + i} {y = first + suc i} (omega arith))

pub length-roots_from : (first count : ℕ) (o : Obj) → length (roots_from first count o) ≡ count
length-roots_from first zero o = refl
length-roots_from first (suc count) o = ap suc (length-roots_from (first + 1) count o)

-- a row ends at 1,024
pub row_bound : (next : ℕ) (kinds : List KindDecl) → StandInRow next kinds → next ≤ 1024
row_bound next [] row = row
row_bound next (d ∷ kinds) row = omega (arith, row_bound (next + d.count) kinds row.1)

-- where the roots of a kind begin
pub begins : (next : ℕ) (d : KindDecl) → HasRootsAt next d → (d.first ≡ next) ⊎ ((d.first ≡ 0) × (d.count ≡ 0))
begins next d has = elim d.is_root as (λ b. d.is_root ≡ b → (d.first ≡ next) ⊎ ((d.first ≡ 0) × (d.count ≡ 0))) [ true ↦ λ is. inl (has.of_root is) | false ↦ λ is. inr (has.of_node is) ] refl

pub few_numbers : (next : ℕ) (d : KindDecl) (kinds : List KindDecl) → StandInRow next (d ∷ kinds) → d.first + d.count ≤ 1024
few_numbers next d kinds row =
    let end = row_bound (next + d.count) kinds row.1 in
    elim (begins next d row.0) [ inl at ↦ omega arith | inr none ↦ omega (arith, none.0, none.1) ]

pub length-roots_of : (next kind : ℕ) (kinds : List KindDecl) → StandInRow next kinds → next + length (roots_of kind kinds) ≤ 1024
length-roots_of next kind [] row = omega (arith, row)
length-roots_of next kind (d ∷ kinds) row =
    let here = roots_from d.first d.count (blank_object kind d) in
    let rest = roots_of (kind + 1) kinds in
    omega (arith, length-append here rest, length-roots_from d.first d.count (blank_object kind d), length-roots_of (next + d.count) (kind + 1) kinds row.1)

-- one root before another
pub below_root : (n m : ℕ) → n < m → name_cmp (root n) (root m) ≡ Less
below_root n m less = ap (λ b. cond b Less (cond (eqb n m) Equal Greater)) (lt-ltb n m less)

both : (a b : Bool) → a ≡ true → T b → T (a && b)
both a b p q = subst (λ c. T (c && b)) (sym p) q

-- roots in a row are sorted, and so is what follows them with greater names
row_sorted : (first count : ℕ) (o : Obj) (rest : Held Obj) → T (is_sorted name_cmp rest) → ((n : ℕ) → n < first + count → T (below_all name_cmp (root n) rest))
    → T (is_sorted name_cmp (roots_from first count o ++ rest)) × ((n : ℕ) → n < first → T (below_all name_cmp (root n) (roots_from first count o ++ rest)))
row_sorted first zero o rest sorted above = (sorted, λ n less. above n (omega arith))
row_sorted first (suc count) o rest sorted above =
    let next = row_sorted (first + 1) count o rest sorted (λ n less. above n (omega arith)) in
    (both _ _ (yes _ (next.1 first (omega arith))) next.0, λ n less. both _ _ (ap is_lt (below_root n first less)) (next.1 n (omega arith)))

-- the roots of kinds in a row are sorted
pub roots_sorted : (next kind : ℕ) (kinds : List KindDecl) → StandInRow next kinds → T (is_sorted name_cmp (roots_of kind kinds)) × ((n : ℕ) → n < next → T (below_all name_cmp (root n) (roots_of kind kinds)))
roots_sorted next kind [] row = (tt, λ n less. tt)
roots_sorted next kind (d ∷ kinds) row =
    let object = blank_object kind d in
    let behind = roots_of (kind + 1) kinds in
    let rest = roots_sorted (next + d.count) (kind + 1) kinds row.1 in
    let Claim = λ (count : ℕ). T (is_sorted name_cmp (roots_from d.first count object ++ behind)) × ((n : ℕ) → n < next → T (below_all name_cmp (root n) (roots_from d.first count object ++ behind))) in
    elim (begins next d row.0) as (λ _. Claim d.count) [
      | inl at ↦ let here = row_sorted d.first d.count object behind rest.0 (λ n less. rest.1 n (omega arith)) in (here.0, λ n less. here.1 n (omega arith))
      | inr none ↦ subst Claim (sym none.1) (rest.0, λ n less. rest.1 n (omega arith))
    ]

-- what is put in one after another
pub added_both : (h : Objects) (xs ys : Held Obj) → added h (xs ++ ys) ≡ added (added h xs) ys
added_both h [] ys = refl
added_both h (x ∷ xs) ys = added_both (maps.insert h x.0 x.1) xs ys

pub added_more : (h : Objects) (xs : Held Obj) (e : Name × Obj) → added h (xs ++ e ∷ []) ≡ maps.insert (added h xs) e.0 e.1
added_more h xs e = added_both h xs (e ∷ [])

pub len-added : (h : Objects) (es : Held Obj) → maps.len (added h es) ≤ maps.len h + length es
len-added h [] = omega arith
len-added h (e ∷ es) =
    elim (maps.contains_key h e.0) as (λ b. maps.len (maps.insert h e.0 e.1) ≡ cond b (maps.len h) (maps.len h + 1) → maps.len (added (maps.insert h e.0 e.1) es) ≤ maps.len h + suc (length es)) [
      | true ↦ λ is. omega (arith, len-added (maps.insert h e.0 e.1) es, is)
      | false ↦ λ is. omega (arith, len-added (maps.insert h e.0 e.1) es, is)
    ] (len-insert names_total h e.0 e.1)

or_else : Option Obj → Option Obj → Option Obj
or_else None o = o
or_else (Some x) o = Some x

not_below : (x : Name) (es : Held Obj) → T (below_all name_cmp x es) → maps.find name_cmp x es ≡ None
not_below x [] below = refl
not_below x (e ∷ es) below =
    ap (λ r. cond (is_eq r) (Some e.1) (maps.find name_cmp x es)) (is_less _ (first_of_both _ _ below)) ∙ not_below x es (second_of_both _ _ below)

got_added : (h : Objects) (es : Held Obj) (q : Name) → T (is_sorted name_cmp es) → maps.get (added h es) q ≡ or_else (maps.find name_cmp q es) (maps.get h q)
unfolding or_else
got_added h [] q sorted = refl
got_added h (e ∷ es) q sorted =
    got_added (maps.insert h e.0 e.1) es q (second_of_both _ _ sorted)
    ∙ elim (same_or_not q e.0) [
      | inl same ↦
          ap (λ o. or_else o (maps.get (maps.insert h e.0 e.1) q)) (ap (λ n. maps.find name_cmp n es) same ∙ not_below e.0 es (first_of_both _ _ sorted))
          ∙ ap (maps.get (maps.insert h e.0 e.1)) same ∙ got_put h e.0 e.1
          ∙ sym (ap (λ n. or_else (maps.find name_cmp n (e ∷ es)) (maps.get h n)) same ∙ ap (λ r. or_else (cond (is_eq r) (Some e.1) (maps.find name_cmp e.0 es)) (maps.get h e.0)) (tied_itself names_total e.0))
      | inr other ↦
          ap (or_else (maps.find name_cmp q es)) (got_beside h e.0 e.1 q other)
          ∙ ap (λ b. or_else (cond b (Some e.1) (maps.find name_cmp q es)) (maps.get h q)) (sym other)
    ]

or_none : (o : Option Obj) → or_else o None ≡ o
unfolding or_else
or_none None = refl
or_none (Some x) = refl

-- the start heap is what the roots make, put in one after another
pub added-roots : (kinds : List KindDecl) → StandInRow 0 kinds → added maps.empty (roots_of 0 kinds) ≡ maps.from_entries (roots_of 0 kinds)
added-roots kinds row = same_map names_total exact_names _ _ (λ q.
    got_added maps.empty (roots_of 0 kinds) q (roots_sorted 0 0 kinds row).0
    ∙ ap (or_else (maps.find name_cmp q (roots_of 0 kinds))) (get-empty name_cmp q)
    ∙ or_none (maps.find name_cmp q (roots_of 0 kinds))
    ∙ sym (get-from_entries names_total (roots_of 0 kinds) q))

pub made-roots : (kinds : List KindDecl) → StandInRow 0 kinds → made (roots_of 0 kinds) ≡ maps.from_entries (roots_of 0 kinds)
made-roots kinds row = same_map names_total exact_names _ _ (λ q.
    get-from_sorted name_cmp (roots_of 0 kinds) q (roots_sorted 0 0 kinds row).0 ∙ sym (get-from_entries names_total (roots_of 0 kinds) q))

-- the kinds have so many roots in all
pub roots_total : (kind : ℕ) (kinds : List KindDecl) → sum_by (λ (d : KindDecl). d.count) kinds ≡ length (roots_of kind kinds)
roots_total kind [] = refl
roots_total kind (d ∷ kinds) =
    let here = roots_from d.first d.count (blank_object kind d) in
    omega (arith, sum_by-cons (λ (x : KindDecl). x.count) d kinds, roots_total (kind + 1) kinds, length-append here (roots_of (kind + 1) kinds), length-roots_from d.first d.count (blank_object kind d))

-- there are as many objects as roots
pub len-start : (m : Module) → StandInRow 0 m.kinds → maps.len (start_objects m) ≡ length (roots_of 0 m.kinds)
len-start m row =
    ap maps.len (sym (made-roots m.kinds row))
    ∙ len-entries (made (roots_of 0 m.kinds))
    ∙ ap length (entries-from_sorted name_cmp (roots_of 0 m.kinds) (roots_sorted 0 0 m.kinds row).0)
