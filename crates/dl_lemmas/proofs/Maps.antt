-- Finite maps over any keys: what they have after an edit, how many entries, and sums over these.
use Rattle.std.proofs.Common.{◌≡◌, ◌≢◌, ℕ, ◌+◌, ◌≤◌, ◌⊎◌, inl, inr, true, false, cond, List, [], ◌∷◌, Option, Some, None, refl, sym, ap, ◌∙◌, arith, Ordering, Less, Equal, Greater}
use Rattle.std.specs.Prelude.{is_some, sum_by}
use Rattle.std.specs.FinMap as map
use Rattle.std.specs.FinMap.{FinMap, IsAntisymmetric, get-insert, get-remove, same_map, len-insert, entries-insert, get-entries, put, find}
use Rattle.std.specs.FinMap.Entries.{by_order}
use Rattle.std.specs.Ordering.{eq_by_cmp, is_eq, ordering_reverse}
use Rattle.std.specs.Cmp.{IsTotalOrder, tied_itself}
use Rattle.std.proofs.lemmas.Bool.{false_from_ne_true}
use Rattle.std.proofs.lemmas.Cmp.{eq_by_cmp_equiv}
use Rattle.std.proofs.lemmas.List.Sums.{sum_by-cons}
use Rattle.dl_lemmas.proofs.Tests.{is_equal}

-- what the proofs need of an order of keys
pub record Keys {K : Type 0} (R : K → K → Ordering) : Type 0 where
  pub total : IsTotalOrder R
  pub same : IsAntisymmetric R

module _ {K : Type 0} {R : K → K → Ordering} (o : Keys R) where
  pub eq_here : (k : K) → eq_by_cmp R k k ≡ true
  eq_here k = ap is_eq (tied_itself o.total k)

  pub same_key : (q k : K) → eq_by_cmp R q k ≡ true → q ≡ k
  same_key q k tied = o.same q k (is_equal (R q k) tied)

  pub eq_there : (q k : K) → q ≢ k → eq_by_cmp R q k ≡ false
  eq_there q k other = false_from_ne_true (eq_by_cmp R q k) (λ tied. other (same_key q k tied))

  -- keys are the same or differ
  pub same_or_not : (a b : K) → (a ≡ b) ⊎ (eq_by_cmp R a b ≡ false)
  same_or_not a b = elim (eq_by_cmp R a b) as (λ c. eq_by_cmp R a b ≡ c → (a ≡ b) ⊎ (eq_by_cmp R a b ≡ false)) [
    | true ↦ λ tied. inl (same_key a b tied)
    | false ↦ λ other. inr other
  ] refl

  -- from the other side
  pub turned : (a b : K) → eq_by_cmp R a b ≡ false → eq_by_cmp R b a ≡ false
  turned a b other = sym ((eq_by_cmp_equiv o.total).symm a b) ∙ other

  pub less_turned : (a b : K) → R a b ≡ Less → R b a ≡ Greater
  less_turned a b less = o.total.antisymm b a ∙ ap ordering_reverse less

module _ {K X : Type 0} {R : K → K → Ordering} (o : Keys R) (m : FinMap R X) (k : K) where
  -- what is put is there, and what is removed is not
  pub got_put : (v : X) → map.get (map.insert m k v) k ≡ Some v
  got_put v = get-insert o.total m k v k ∙ ap (λ b. cond b (Some v) (map.get m k)) (eq_here o k)

  pub gone : map.get (map.remove m k) k ≡ None
  gone = get-remove o.total m k k ∙ ap (λ b. cond b None (map.get m k)) (eq_here o k)

  -- all else stays
  pub got_beside : (v : X) (q : K) → eq_by_cmp R q k ≡ false → map.get (map.insert m k v) q ≡ map.get m q
  got_beside v q other = get-insert o.total m k v q ∙ ap (λ b. cond b (Some v) (map.get m q)) other

  pub got_left : (q : K) → eq_by_cmp R q k ≡ false → map.get (map.remove m k) q ≡ map.get m q
  got_left q other = get-remove o.total m k q ∙ ap (λ b. cond b None (map.get m q)) other

  -- to put over a value is to remove it and put
  pub put_over : (v : X) → map.insert (map.remove m k) k v ≡ map.insert m k v
  put_over v = same_map o.total o.same _ _ (λ q.
      get-insert o.total (map.remove m k) k v q
      ∙ ap (cond (eq_by_cmp R q k) (Some v)) (get-remove o.total m k q)
      ∙ elim (eq_by_cmp R q k) as (λ b. cond b (Some v) (cond b None (map.get m q)) ≡ cond b (Some v) (map.get m q)) [ true ↦ refl | false ↦ refl ]
      ∙ sym (get-insert o.total m k v q))

  -- what is there may be put there
  pub same_put : (v : X) → map.get m k ≡ Some v → map.insert m k v ≡ m
  same_put v is = same_map o.total o.same _ _ (λ q.
      get-insert o.total m k v q
      ∙ elim (eq_by_cmp R q k) as (λ b. eq_by_cmp R q k ≡ b → cond b (Some v) (map.get m q) ≡ map.get m q) [
        | true ↦ λ tied. sym is ∙ ap (map.get m) (sym (same_key o q k tied))
        | false ↦ λ other. refl
      ] refl)

  pub put_back : (v : X) → map.get m k ≡ Some v → map.insert (map.remove m k) k v ≡ m
  put_back v is = put_over v ∙ same_put v is

  -- what is not there need not be removed
  pub same_without : map.get m k ≡ None → map.remove m k ≡ m
  same_without none = same_map o.total o.same _ _ (λ q.
      get-remove o.total m k q
      ∙ elim (eq_by_cmp R q k) as (λ b. eq_by_cmp R q k ≡ b → cond b None (map.get m q) ≡ map.get m q) [
        | true ↦ λ tied. sym none ∙ ap (map.get m) (sym (same_key o q k tied))
        | false ↦ λ other. refl
      ] refl)

  -- ---- how many

  pub len-new : (v : X) → map.get m k ≡ None → map.len (map.insert m k v) ≡ map.len m + 1
  len-new v none = len-insert o.total m k v ∙ ap (λ (r : Option X). cond (is_some r) (map.len m) (map.len m + 1)) none

  pub len-there : (v w : X) → map.get m k ≡ Some v → map.len (map.insert m k w) ≡ map.len m
  len-there v w is = len-insert o.total m k w ∙ ap (λ (r : Option X). cond (is_some r) (map.len m) (map.len m + 1)) is

  pub len-taken : (v : X) → map.get m k ≡ Some v → map.len m ≡ map.len (map.remove m k) + 1
  len-taken v is = ap map.len (sym (put_back v is)) ∙ len-insert o.total (map.remove m k) k v ∙ ap (λ (r : Option X). cond (is_some r) (map.len (map.remove m k)) (map.len (map.remove m k) + 1)) gone

  -- one value more takes one place at most
  pub len-put : (v : X) → map.len (map.insert m k v) ≤ map.len m + 1
  len-put v =
      elim (map.contains_key m k) as (λ b. map.len (map.insert m k v) ≡ cond b (map.len m) (map.len m + 1) → map.len (map.insert m k v) ≤ map.len m + 1) [
        | true ↦ λ is. omega arith
        | false ↦ λ is. omega arith
      ] (len-insert o.total m k v)

-- ---- sums

sum_put : {K X : Type 0} (R : K → K → Ordering) (f : K × X → ℕ) (k : K) (v : X) (es : List (K × X)) → find R k es ≡ None → sum_by f (put R k v es) ≡ f (k, v) + sum_by f es
sum_put R f k v [] none = sum_by-cons f (k, v) []
sum_put R f k v (e ∷ es) none =
    elim (R k e.0) as (λ r. cond (is_eq r) (Some e.1) (find R k es) ≡ None → sum_by f (by_order r ((k, v) ∷ e ∷ es) ((e.0, v) ∷ es) (e ∷ put R k v es)) ≡ f (k, v) + sum_by f (e ∷ es)) [
      | Less ↦ λ _. sum_by-cons f (k, v) (e ∷ es)
      | Equal ↦ λ is. cc
      | Greater ↦ λ is. omega (arith, sum_by-cons f e (put R k v es), sum_by-cons f e es, sum_put R f k v es is)
    ] none

module _ {K X : Type 0} {R : K → K → Ordering} (o : Keys R) (f : K × X → ℕ) (m : FinMap R X) (k : K) where
  -- a new value adds its term
  pub sum-new : (v : X) → map.get m k ≡ None → sum_by f (map.entries (map.insert m k v)) ≡ f (k, v) + sum_by f (map.entries m)
  sum-new v none = ap (sum_by f) (entries-insert o.total m k v) ∙ sum_put R f k v (map.entries m) (sym (get-entries m k) ∙ none)

  -- one written over another adds its term to what the others have
  pub sum-over : (v : X) → sum_by f (map.entries (map.insert m k v)) ≡ f (k, v) + sum_by f (map.entries (map.remove m k))
  sum-over v =
      ap (λ (n : FinMap R X). sum_by f (map.entries n)) (sym (put_over o m k v))
      ∙ ap (sum_by f) (entries-insert o.total (map.remove m k) k v)
      ∙ sum_put R f k v (map.entries (map.remove m k)) (sym (get-entries (map.remove m k) k) ∙ gone o m k)

  -- a value that is there has its term
  pub sum-there : (v : X) → map.get m k ≡ Some v → sum_by f (map.entries m) ≡ f (k, v) + sum_by f (map.entries (map.remove m k))
  sum-there v is = ap (λ (n : FinMap R X). sum_by f (map.entries n)) (sym (same_put o m k v is)) ∙ sum-over v
