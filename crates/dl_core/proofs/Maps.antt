-- What a map has after a change at a key, and how much its values weigh.
use Rattle.std.proofs.Common.{◌≡◌, ◌≢◌, ℕ, ◌+◌, ◌≤◌, Bool, true, false, cond, Option, Some, None, refl, sym, ap, ◌∙◌, arith, Ordering}
use Rattle.std.specs.FinMap as map
use Rattle.std.specs.FinMap.{FinMap, get-insert, get-remove, same_map}
use Rattle.std.specs.Ordering.{eq_by_cmp}
use Rattle.std.specs.List.{sum_by}
use native.Mathlib.Nat.{zero-add}
use Rattle.dl_core.specs.Heaps.{put_at, total}
use Rattle.dl_lemmas.proofs.Maps.{Keys, eq_here, eq_there, same_key, same_without, sum-over, sum-there}

-- the weight of what may be there
abbrev pub weight : {X : Type 0} → (X → ℕ) → Option X → ℕ
weight w None = 0
weight w (Some x) = w x

twice : {A : Type 0} (b c : Bool) (x y z : A) → (b ≡ true → c ≡ true → ⊥) → cond b x (cond c y z) ≡ cond c y (cond b x z)
twice true true x y z n = absurd (n refl refl)
twice true false x y z n = refl
twice false c x y z n = refl

module _ {K X : Type 0} {R : K → K → Ordering} (o : Keys R) where
  pub get-put_at : (m : FinMap R X) (k : K) (v : Option X) (q : K) → map.get (put_at m k v) q ≡ cond (eq_by_cmp R q k) v (map.get m q)
  unfolding put_at
  get-put_at m k (Some x) q = get-insert o.total m k x q
  get-put_at m k None q = get-remove o.total m k q

  pub get_here : (m : FinMap R X) (k : K) (v : Option X) → map.get (put_at m k v) k ≡ v
  get_here m k v = get-put_at m k v k ∙ ap (λ b. cond b v (map.get m k)) (eq_here o k)

  pub get_there : (m : FinMap R X) (k : K) (v : Option X) (q : K) → q ≢ k → map.get (put_at m k v) q ≡ map.get m q
  get_there m k v q n = get-put_at m k v q ∙ ap (λ b. cond b v (map.get m q)) (eq_there o q k n)

  -- two changes at different keys
  pub put_at_comm : (m : FinMap R X) (k l : K) (v w : Option X) → k ≢ l → put_at (put_at m k v) l w ≡ put_at (put_at m l w) k v
  put_at_comm m k l v w n = same_map o.total o.same _ _ (λ q.
      get-put_at (put_at m k v) l w q
      ∙ ap (cond (eq_by_cmp R q l) w) (get-put_at m k v q)
      ∙ twice (eq_by_cmp R q l) (eq_by_cmp R q k) w v (map.get m q) (λ a b. n (sym (same_key o q k b) ∙ same_key o q l a))
      ∙ sym (get-put_at (put_at m l w) k v q ∙ ap (cond (eq_by_cmp R q k) v) (get-put_at m l w q)))

  -- to write what stands there changes nothing
  pub put_at_same : (m : FinMap R X) (k : K) → put_at m k (map.get m k) ≡ m
  put_at_same m k = same_map o.total o.same _ _ (λ q. get-put_at m k (map.get m k) q
      ∙ elim (eq_by_cmp R q k) as (λ b. eq_by_cmp R q k ≡ b → cond b (map.get m k) (map.get m q) ≡ map.get m q) [
        | true ↦ λ e. ap (map.get m) (sym (same_key o q k e))
        | false ↦ λ e. refl
      ] refl)

module _ {K X : Type 0} {R : K → K → Ordering} (o : Keys R) (w : X → ℕ) where
  -- the weight of each entry
  abbrev weight_in : K × X → ℕ
  weight_in e = w e.1

  total_removed : (m : FinMap R X) (k : K) (v : Option X) → map.get m k ≡ v → weight w v + total w (map.remove m k) ≡ total w m
  unfolding total
  total_removed m k None none = rw zero-add (ap (λ (n : FinMap R X). sum_by weight_in (map.entries n)) (same_without o m k none))
  total_removed m k (Some v) is = sym (sum-there o weight_in m k v is)

  -- a change at a key takes away the old weight there and adds the new
  pub total-put_at : (m : FinMap R X) (k : K) (v : Option X) → total w (put_at m k v) + weight w (map.get m k) ≡ total w m + weight w v
  unfolding put_at total
  total-put_at m k None = omega (arith, total_removed m k _ refl)
  total-put_at m k (Some v) = omega (arith, total_removed m k _ refl, sum-over o weight_in m k v)

  -- two entries weigh no more than all together
  pub two_of_total : (m : FinMap R X) (k l : K) (x y : X) → map.get m k ≡ Some x → map.get m l ≡ Some y → k ≢ l → w x + w y ≤ total w m
  two_of_total m k l x y a b n =
      let c : map.get (map.remove m k) l ≡ Some y = get-remove o.total m k l ∙ ap (λ t. cond t None (map.get m l)) (eq_there o l k (λ e. n (sym e))) ∙ b in
      omega (arith, total_removed m k _ a, total_removed (map.remove m k) l _ c)
