-- Sums over the objects of a heap, when one is removed.
use Rattle.std.proofs.Common.{◌≡◌, ℕ, ◌+◌, Bool, true, false, cond, [], ◌∷◌, refl, sym, ap, ◌∙◌, Some, None, arith}
use Rattle.std.specs.Prelude.{sum_by}
use Rattle.std.specs.Cmp.{Equal-is}
use Rattle.std.specs.Ordering.{is_eq, eq_by_cmp}
use Rattle.std.specs.declared.cmp.Ordering.TheVariants.{Less, Equal, Greater}
use Rattle.std.specs.FinMap as map
use Rattle.std.specs.FinMap.{get-remove, get-insert, entries-insert, same_map, put, get-entries}
use Rattle.std.specs.FinMap.Entries.{by_order}
use Rattle.std.proofs.lemmas.Cmp.{tied_itself}
use Rattle.std.proofs.lemmas.List.Sums.{sum_by-cons}
use Rattle.dl_ir.specs.declared.names.Name.{Name}
use Rattle.dl_ir.specs.declared.objects.Obj.{Obj}
use Rattle.dl_ir.specs.Heap.{Objects, name_cmp}
use Rattle.dl_ir.proofs.NameOrder.{names_total, exact_names}
use Rattle.dl_ir.proofs.Members.{Held}

-- what is removed and put back is there again
pub put_back : (h : Objects) (k : Name) (v : Obj) → map.get h k ≡ Some v → map.insert (map.remove h k) k v ≡ h
put_back h k v is = same_map names_total exact_names _ _ (λ q.
    get-insert names_total (map.remove h k) k v q
    ∙ elim (eq_by_cmp name_cmp q k) as (λ b. eq_by_cmp name_cmp q k ≡ b → cond b (Some v) (map.get (map.remove h k) q) ≡ map.get h q) [
      | true ↦ λ t. sym is ∙ ap (map.get h) (sym (exact_names q k ((Equal-is (name_cmp q k)).0 t)))
      | false ↦ λ t. get-remove names_total h k q ∙ ap (λ b. cond b None (map.get h q)) t
    ] refl)

shadowed : {A : Type 0} (b : Bool) (x y z : A) → cond b x (cond b y z) ≡ cond b x z
shadowed true x y z = refl
shadowed false x y z = refl

-- to put a new entry adds its term
pub sum-put : (f : Name × Obj → ℕ) (k : Name) (v : Obj) (es : Held) → map.find name_cmp k es ≡ None → sum_by f (put name_cmp k v es) ≡ f (k, v) + sum_by f es
sum-put f k v [] none = sum_by-cons f (k, v) []
sum-put f k v (e ∷ es) none =
    elim (name_cmp k e.0) as (λ r. cond (is_eq r) (Some e.1) (map.find name_cmp k es) ≡ None → sum_by f (by_order r ((k, v) ∷ e ∷ es) ((e.0, v) ∷ es) (e ∷ put name_cmp k v es)) ≡ f (k, v) + sum_by f (e ∷ es)) [
      | Less ↦ λ _. sum_by-cons f (k, v) (e ∷ es)
      | Equal ↦ λ is. cc
      | Greater ↦ λ is. omega (arith, sum_by-cons f e (put name_cmp k v es), sum_by-cons f e es, sum-put f k v es is)
    ] none

-- what is removed is not there
pub gone : (h : Objects) (k : Name) → map.get (map.remove h k) k ≡ None
gone h k = get-remove names_total h k k ∙ ap (λ r. cond (is_eq r) None (map.get h k)) (tied_itself names_total k)

-- to remove an object takes its term
pub total-remove : (f : Name × Obj → ℕ) (h : Objects) (k : Name) (v : Obj) → map.get h k ≡ Some v → sum_by f (map.entries h) ≡ f (k, v) + sum_by f (map.entries (map.remove h k))
total-remove f h k v is =
    ap (λ (g : Objects). sum_by f (map.entries g)) (sym (put_back h k v is))
    ∙ ap (sum_by f) (entries-insert names_total (map.remove h k) k v)
    ∙ sum-put f k v (map.entries (map.remove h k)) (sym (get-entries (map.remove h k) k) ∙ gone h k)

-- to write over an object takes its term and adds that of the other
pub total-over : (f : Name × Obj → ℕ) (h : Objects) (k : Name) (v w : Obj) → map.get h k ≡ Some v → sum_by f (map.entries (map.insert h k w)) + f (k, v) ≡ sum_by f (map.entries h) + f (k, w)
total-over f h k v w is =
    let over : map.insert (map.remove h k) k w ≡ map.insert h k w = same_map names_total exact_names _ _ (λ q.
    get-insert names_total (map.remove h k) k w q
    ∙ ap (λ o. cond (eq_by_cmp name_cmp q k) (Some w) o) (get-remove names_total h k q)
    ∙ shadowed (eq_by_cmp name_cmp q k) (Some w) None (map.get h q)
    ∙ sym (get-insert names_total h k w q)) in
    let put = ap (sum_by f) (entries-insert names_total (map.remove h k) k w) ∙ sum-put f k w (map.entries (map.remove h k)) (sym (get-entries (map.remove h k) k) ∙ gone h k) in
    omega (arith, ap (λ (g : Objects). sum_by f (map.entries g)) over, put, total-remove f h k v is)
