-- What a map has whose values are all changed in one way.
use Rattle.std.proofs.Common.{◌≡◌, Bool, true, false, cond, ◌&&◌, List, [], ◌∷◌, length, map, refl, sym, ap, subst, ◌∙◌, T, Option, Some, None}
use Rattle.std.specs.Option.{option_map}
use Rattle.std.specs.Cmp.{IsTotalOrder}
use Rattle.std.specs.Ordering.{is_lt, eq_by_cmp}
use Rattle.std.specs.declared.cmp.Ordering.{Ordering}
use Rattle.std.specs.FinMap.{FinMap, IsAntisymmetric, find, is_sorted, get, insert, remove, len, empty, entries, entries_sorted, entries-from_sorted, get-entries, len-entries, get-empty, get-insert, get-remove, same_map}
use Rattle.std.specs.FinMap.Entries.{below_all}
use Rattle.std.proofs.lemmas.List.{length-map}
use Rattle.dl_ir.specs.Mapped.{entry_with, with_values}

-- a change of what may be there, in two cases
on_cond : {X Y : Type 0} (g : X → Y) (b : Bool) (x y : Option X) → option_map g (cond b x y) ≡ cond b (option_map g x) (option_map g y)
on_cond g true x y = refl
on_cond g false x y = refl

-- the entries with their values changed
abbrev those : {K X Y : Type 0} → (X → Y) → List (K × X) → List (K × Y)
those {K} {X} {Y} g es = map {B = K × Y} (entry_with g) es

module _ {K X Y : Type 0} (R : K → K → Ordering) (g : X → Y) where
  below-those : (k : K) (es : List (K × X)) → below_all R k (those g es) ≡ below_all R k es
  below-those k [] = refl
  below-those k (e ∷ es) = ap (λ b. is_lt (R k e.0) && b) (below-those k es)

  sorted-those : (es : List (K × X)) → is_sorted R (those g es) ≡ is_sorted R es
  sorted-those [] = refl
  sorted-those (e ∷ es) = ap (λ b. b && is_sorted R (those g es)) (below-those e.0 es) ∙ ap (λ b. below_all R e.0 es && b) (sorted-those es)

  find-those : (q : K) (es : List (K × X)) → find R q (those g es) ≡ option_map g (find R q es)
  find-those q [] = refl
  find-those q (e ∷ es) = elim (eq_by_cmp R q e.0) as (λ b. cond b (Some (g e.1)) (find R q (those g es)) ≡ option_map g (cond b (Some e.1) (find R q es))) [ true ↦ refl | false ↦ find-those q es ]

module _ {K X Y : Type 0} {R : K → K → Ordering} (g : X → Y) where
  pub entries-with_values : (m : FinMap R X) → entries (with_values g m) ≡ map {B = K × Y} (entry_with g) (entries m)
  unfolding with_values
  entries-with_values m = entries-from_sorted R (those g (entries m)) (subst T (sym (sorted-those R g (entries m))) (entries_sorted m))

  pub get-with_values : (m : FinMap R X) (q : K) → get (with_values g m) q ≡ option_map g (get m q)
  get-with_values m q = get-entries (with_values g m) q ∙ ap (find R q) (entries-with_values m) ∙ find-those R g q (entries m) ∙ ap (option_map g) (sym (get-entries m q))

  pub len-with_values : (m : FinMap R X) → len (with_values g m) ≡ len m
  len-with_values m = len-entries (with_values g m) ∙ ap length (entries-with_values m) ∙ length-map (entries m) (entry_with g) ∙ sym (len-entries m)

  module _ (o : IsTotalOrder R) (same : IsAntisymmetric R) where
    pub with_values-empty : with_values g (empty {X = X} {R = R}) ≡ empty
    with_values-empty = same_map o same _ _ (λ q. get-with_values empty q ∙ ap (option_map g) (get-empty R q) ∙ sym (get-empty R q))

    pub with_values-insert : (m : FinMap R X) (k : K) (v : X) → with_values g (insert m k v) ≡ insert (with_values g m) k (g v)
    with_values-insert m k v = same_map o same _ _ (λ q.
        get-with_values (insert m k v) q ∙ ap (option_map g) (get-insert o m k v q) ∙ on_cond g (eq_by_cmp R q k) (Some v) (get m q)
        ∙ ap (cond (eq_by_cmp R q k) (Some (g v))) (sym (get-with_values m q)) ∙ sym (get-insert o (with_values g m) k (g v) q))

    pub with_values-remove : (m : FinMap R X) (k : K) → with_values g (remove m k) ≡ remove (with_values g m) k
    with_values-remove m k = same_map o same _ _ (λ q.
        get-with_values (remove m k) q ∙ ap (option_map g) (get-remove o m k q) ∙ on_cond g (eq_by_cmp R q k) None (get m q)
        ∙ ap (cond (eq_by_cmp R q k) None) (sym (get-with_values m q)) ∙ sym (get-remove o (with_values g m) k q))
