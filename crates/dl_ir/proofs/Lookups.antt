-- What a table has under a name after an edit.
use Rattle.std.proofs.Common.{◌≡◌, ◌⊎◌, inl, inr, Bool, true, false, cond, refl, sym, ap, ◌∙◌, Some, None}
use Rattle.std.specs.Prelude.{is_some}
use Rattle.std.specs.Cmp.{Equal-is}
use Rattle.std.specs.Ordering.{eq_by_cmp, is_eq}
use Rattle.std.specs.FinMap as map
use Rattle.std.specs.FinMap.{FinMap, get-insert, get-remove}
use Rattle.std.proofs.lemmas.Cmp.{tied_itself, eq_by_cmp_equiv}
use Rattle.dl_ir.specs.declared.names.Name.{Name}
use Rattle.dl_ir.specs.Heap.{name_cmp}
use Rattle.dl_ir.specs.Census.{marked}
use Rattle.dl_ir.proofs.NameOrder.{names_total, exact_names}

-- names are the same or differ
pub same_or_not : (a b : Name) → (a ≡ b) ⊎ (eq_by_cmp name_cmp a b ≡ false)
same_or_not a b = elim (eq_by_cmp name_cmp a b) as (λ c. eq_by_cmp name_cmp a b ≡ c → (a ≡ b) ⊎ (eq_by_cmp name_cmp a b ≡ false)) [
  | true ↦ λ t. inl (exact_names a b ((Equal-is (name_cmp a b)).0 t))
  | false ↦ λ t. inr t
] refl

pub turned : (a b : Name) → eq_by_cmp name_cmp a b ≡ false → eq_by_cmp name_cmp b a ≡ false
turned a b h = sym ((eq_by_cmp_equiv names_total).symm a b) ∙ h

module _ {X : Type 0} (m : FinMap name_cmp X) (k : Name) where
  pub got_put : (v : X) → map.get (map.insert m k v) k ≡ Some v
  got_put v = get-insert names_total m k v k ∙ ap (λ r. cond (is_eq r) (Some v) (map.get m k)) (tied_itself names_total k)

  pub got_beside : (v : X) (q : Name) → eq_by_cmp name_cmp q k ≡ false → map.get (map.insert m k v) q ≡ map.get m q
  got_beside v q other = get-insert names_total m k v q ∙ ap (λ b. cond b (Some v) (map.get m q)) other

  pub gone : map.get (map.remove m k) k ≡ None
  gone = get-remove names_total m k k ∙ ap (λ r. cond (is_eq r) None (map.get m k)) (tied_itself names_total k)

  pub got_left : (q : Name) → eq_by_cmp name_cmp q k ≡ false → map.get (map.remove m k) q ≡ map.get m q
  got_left q other = get-remove names_total m k q ∙ ap (λ b. cond b None (map.get m q)) other

-- a name that is marked or not
pub has_marked : (belongs : Bool) (m : FinMap name_cmp (Unit {0})) (k : Name) → map.contains_key (marked belongs m k) k ≡ belongs
has_marked true m k = ap is_some (got_put m k tt)
has_marked false m k = ap is_some (gone m k)

pub has_beside : (belongs : Bool) (m : FinMap name_cmp (Unit {0})) (k q : Name) → eq_by_cmp name_cmp q k ≡ false → map.contains_key (marked belongs m k) q ≡ map.contains_key m q
has_beside true m k q other = ap is_some (got_beside m k tt q other)
has_beside false m k q other = ap is_some (got_left m k q other)
