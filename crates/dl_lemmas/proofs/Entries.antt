-- Sorted entries of finite maps: their order, what is found among them, and what is put into a map one after another.
use Rattle.std.proofs.Common.{◌≡◌, ◌≢◌, ℕ, zero, suc, ◌<◌, true, false, cond, ◌&&◌, List, [], ◌∷◌, take, map, Some, None, refl, sym, ap, subst, ◌∙◌, T, arith, Ordering, Less, Equal, slice_get}
use Rattle.std.specs.Option.{option_map}
use Rattle.std.specs.Ordering.{eq_by_cmp, is_eq, is_lt}
use Rattle.std.specs.Cmp.{tied_itself}
use Rattle.std.specs.FinMap as finite
use Rattle.std.specs.FinMap.{FinMap, find, is_sorted, entries_sorted, entries-from_sorted, get-from_sorted, get-entries}
use Rattle.std.specs.FinMap.Entries.{below_all}
use Rattle.std.proofs.lemmas.Option.{none-some, same_Some}
use Rattle.dl_lemmas.proofs.Maps.{Keys, eq_here, eq_there, same_key, less_turned}
use Rattle.dl_lemmas.proofs.Tests.{first_of_both, second_of_both, both, is_less}

-- ---- order

module _ {K X : Type 0} (R : K → K → Ordering) where
  -- each later key is greater
  abbrev pub Rise : List (K × X) → Type 0
  Rise es = (i j : ℕ) (e f : K × X) → slice_get es i ≡ Some e → slice_get es j ≡ Some f → i < j → R e.0 f.0 ≡ Less

  below_each : (k : K) (es : List (K × X)) → ((at : ℕ) (f : K × X) → slice_get es at ≡ Some f → R k f.0 ≡ Less) → T (below_all R k es)
  below_each k [] each = tt
  below_each k (e ∷ es) each = both _ _ (subst (λ r. T (is_lt r)) (sym (each 0 e refl)) tt) (below_each k es (λ at f there. each (suc at) f there))

  pub sorted_rise : (es : List (K × X)) → Rise es → T (is_sorted R es)
  sorted_rise [] rise = tt
  sorted_rise (e ∷ es) rise = both _ _ (below_each e.0 es (λ at f there. rise 0 (suc at) e f refl there (omega arith))) (sorted_rise es (λ i j f g at_i at_j less. rise (suc i) (suc j) f g at_i at_j (omega (arith, less))))

  pub below_at : (k : K) (es : List (K × X)) (at : ℕ) (f : K × X) → T (below_all R k es) → slice_get es at ≡ Some f → R k f.0 ≡ Less
  below_at k [] at f below there = cc
  below_at k (e ∷ es) zero f below there = subst (λ (g : K × X). R k g.0 ≡ Less) (same_Some e f there) (is_less _ (first_of_both _ _ below))
  below_at k (e ∷ es) (suc at) f below there = below_at k es at f (second_of_both _ _ below) there

  pub rise_sorted : (es : List (K × X)) → T (is_sorted R es) → Rise es
  rise_sorted [] sorted i j e f at_i at_j less = cc
  rise_sorted (x ∷ es) sorted i zero e f at_i at_j less = absurd (omega (arith, less))
  rise_sorted (x ∷ es) sorted zero (suc j) e f at_i at_j less = subst (λ (g : K × X). R g.0 f.0 ≡ Less) (same_Some x e at_i) (below_at x.0 es j f (first_of_both _ _ sorted) at_j)
  rise_sorted (x ∷ es) sorted (suc i) (suc j) e f at_i at_j less = rise_sorted es (second_of_both _ _ sorted) i j e f at_i at_j (omega (arith, less))

  below_front : (k : K) (es : List (K × X)) (n : ℕ) → T (below_all R k es) → T (below_all R k (take n es))
  below_front k es zero below = tt
  below_front k [] (suc n) below = tt
  below_front k (e ∷ es) (suc n) below = both _ _ (first_of_both _ _ below) (below_front k es n (second_of_both _ _ below))

  -- a front of sorted entries is sorted
  pub sorted_front : (es : List (K × X)) (n : ℕ) → T (is_sorted R es) → T (is_sorted R (take n es))
  sorted_front es zero sorted = tt
  sorted_front [] (suc n) sorted = tt
  sorted_front (e ∷ es) (suc n) sorted = both _ _ (below_front e.0 es n (first_of_both _ _ sorted)) (sorted_front es n (second_of_both _ _ sorted))

  -- a key below those of some entries is none of theirs
  pub not_below : (k : K) (es : List (K × X)) → T (below_all R k es) → find R k es ≡ None
  not_below k [] below = refl
  not_below k (e ∷ es) below =
      ap (λ r. cond (is_eq r) (Some e.1) (find R k es)) (is_less _ (first_of_both _ _ below)) ∙ not_below k es (second_of_both _ _ below)

-- ---- what is found

module _ {K X : Type 0} {R : K → K → Ordering} (o : Keys R) where
  -- what stands there is found
  pub find_there : (es : List (K × X)) (at : ℕ) (e : K × X) → T (is_sorted R es) → slice_get es at ≡ Some e → find R e.0 es ≡ Some e.1
  find_there [] at e sorted there = cc
  find_there (x ∷ es) zero e sorted there =
      subst (λ (g : K × X). find R g.0 (x ∷ es) ≡ Some g.1) (same_Some x e there) (ap (λ b. cond b (Some x.1) (find R x.0 es)) (eq_here o x.0))
  find_there (x ∷ es) (suc at) e sorted there =
      ap (λ r. cond (is_eq r) (Some x.1) (find R e.0 es)) (less_turned o x.0 e.0 (below_at R x.0 es at e (first_of_both _ _ sorted) there))
      ∙ find_there es at e (second_of_both _ _ sorted) there

  -- what is found stands there
  pub there_found : (es : List (K × X)) (k : K) (v : X) → find R k es ≡ Some v → (at : ℕ) × (slice_get es at ≡ Some (k, v))
  there_found [] k v is = absurd (none-some v is)
  there_found (e ∷ es) k v is =
      elim (eq_by_cmp R k e.0) as (λ b. eq_by_cmp R k e.0 ≡ b → cond b (Some e.1) (find R k es) ≡ Some v → (at : ℕ) × (slice_get (e ∷ es) at ≡ Some (k, v))) [
        | true ↦ λ tied found.
            let same : k ≡ e.0 = same_key o k e.0 tied in
            let held : e.1 ≡ v = same_Some e.1 v found in
            (0, λ i. Some (sym same i, held i))
        | false ↦ λ other found. let rest = there_found es k v found in (suc rest.0, rest.1)
      ] refl is

  -- what stands there is found nowhere before
  pub none_before : (es : List (K × X)) (at : ℕ) (e : K × X) → T (is_sorted R es) → slice_get es at ≡ Some e → find R e.0 (take at es) ≡ None
  none_before es zero e sorted there = refl
  none_before [] (suc at) e sorted there = refl
  none_before (x ∷ es) (suc at) e sorted there =
      ap (λ r. cond (is_eq r) (Some x.1) (find R e.0 (take at es))) (less_turned o x.0 e.0 (below_at R x.0 es at e (first_of_both _ _ sorted) there))
      ∙ none_before es at e (second_of_both _ _ sorted) there

-- ---- entries of which no two have one key

module _ {K X : Type 0} where
  -- each entry's key is none of the keys behind it
  abbrev pub IsNoKey : K → List (K × X) → Type 0
  IsNoKey k [] = Unit {0}
  IsNoKey k (e ∷ es) = (k ≢ e.0) × IsNoKey k es

  -- what a map gives at the keys of these entries, and the keys differ
  abbrev pub AreEntries : {R : K → K → Ordering} → FinMap R X → List (K × X) → Type 0
  AreEntries m [] = Unit {0}
  AreEntries m (e ∷ es) = (finite.get m e.0 ≡ Some e.1) × IsNoKey e.0 es × AreEntries m es

not_tied : {r : Ordering} → r ≡ Less → r ≡ Equal → ⊥
not_tied less tied = cc

module _ {K X : Type 0} {R : K → K → Ordering} (o : Keys R) where
  no_key : (k : K) (es : List (K × X)) → T (below_all R k es) → IsNoKey k es
  no_key k [] below = tt
  no_key k (e ∷ es) below = (
    λ same. not_tied (is_less _ (first_of_both _ _ below)) (subst (λ q. R k q ≡ Equal) same (tied_itself o.total k)),
    no_key k es (second_of_both _ _ below),
  )

  found_apart : (q k : K) (v : X) (es : List (K × X)) → IsNoKey k es → find R q es ≡ Some v → eq_by_cmp R q k ≡ false
  found_apart q k v [] apart found = absurd (none-some v found)
  found_apart q k v (e ∷ es) apart found =
      elim (eq_by_cmp R q e.0) as (λ b. eq_by_cmp R q e.0 ≡ b → cond b (Some e.1) (find R q es) ≡ Some v → eq_by_cmp R q k ≡ false) [
        | true ↦ λ tied _. eq_there o q k (λ same. apart.0 (sym same ∙ same_key o q e.0 tied))
        | false ↦ λ other later. found_apart q k v es apart.1 later
      ] refl found

  are_entries : (m : FinMap R X) (es : List (K × X)) → T (is_sorted R es) → ((q : K) (v : X) → find R q es ≡ Some v → finite.get m q ≡ Some v) → AreEntries m es
  are_entries m [] sorted found = tt
  are_entries m (e ∷ es) sorted found =
      let apart = no_key e.0 es (first_of_both _ _ sorted) in (
        found e.0 e.1 (ap (λ b. cond b (Some e.1) (find R e.0 es)) (eq_here o e.0)),
        apart,
        are_entries m es (second_of_both _ _ sorted) (λ q v later. found q v (ap (λ b. cond b (Some e.1) (find R q es)) (found_apart q e.0 v es apart later) ∙ later)),
      )

  -- the entries of a map are such
  pub entries_are : (m : FinMap R X) → AreEntries m (finite.entries m)
  entries_are m = are_entries m (finite.entries m) (entries_sorted m) (λ q v found. get-entries m q ∙ found)

-- ---- changed values

module _ {K X Y : Type 0} (R : K → K → Ordering) (f : K × X → Y) where
  -- the entry with another value under its key
  abbrev pub changed_entry : K × X → K × Y
  changed_entry e = (e.0, f e)

  below_changed : (k : K) (es : List (K × X)) → below_all R k (map changed_entry es) ≡ below_all R k es
  below_changed k [] = refl
  below_changed k (e ∷ es) = ap (λ b. is_lt (R k e.0) && b) (below_changed k es)

  -- other values leave entries sorted
  pub sorted_changed : (es : List (K × X)) → is_sorted R (map changed_entry es) ≡ is_sorted R es
  sorted_changed [] = refl
  sorted_changed (e ∷ es) = λ i. below_changed e.0 es i && sorted_changed es i

  pub still_sorted : (m : FinMap R X) → T (is_sorted R (map changed_entry (finite.entries m)))
  still_sorted m = subst T (sym (sorted_changed (finite.entries m))) (entries_sorted m)

  pub entries-changed : (m : FinMap R X) → finite.entries (finite.from_sorted {R = R} (map changed_entry (finite.entries m))) ≡ map changed_entry (finite.entries m)
  entries-changed m = entries-from_sorted R (map changed_entry (finite.entries m)) (still_sorted m)

module _ {K X Y : Type 0} (R : K → K → Ordering) (f : X → Y) where
  pub find-changed : (q : K) (es : List (K × X)) → find R q (map (λ (e : K × X). (e.0, f e.1)) es) ≡ option_map f (find R q es)
  find-changed q [] = refl
  find-changed q (e ∷ es) =
      elim (eq_by_cmp R q e.0) as (λ b. cond b (Some (f e.1)) (find R q (map (λ (e : K × X). (e.0, f e.1)) es)) ≡ option_map f (cond b (Some e.1) (find R q es))) [
        | true ↦ refl
        | false ↦ find-changed q es
      ]

  -- what is found in a map whose values are changed
  pub get-changed : (m : FinMap R X) (q : K) → finite.get (finite.from_sorted {R = R} (map (λ (e : K × X). (e.0, f e.1)) (finite.entries m))) q ≡ option_map f (finite.get m q)
  get-changed m q =
      get-from_sorted R (map (λ (e : K × X). (e.0, f e.1)) (finite.entries m)) q (still_sorted R (λ (e : K × X). f e.1) m)
      ∙ find-changed q (finite.entries m) ∙ ap (option_map f) (sym (get-entries m q))
