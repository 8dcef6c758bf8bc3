-- Sealing shared objects one after another.
use Rattle.std.proofs.Common.{◌≡◌, ℕ, ◌<◌, Bool, true, false, cond, ◌&&◌, ◌||◌, [], ◌∷◌, map, refl, sym, ap, subst, ◌∙◌, T, Option, Some, None, inl, inr, arith}
use Rattle.std.specs.Prelude.{find, sum_by, nat_lt, nat_le, if◌then◌else◌}
use Rattle.std.specs.Option.{option_map}
use Rattle.std.specs.Cmp.{Equal-is}
use Rattle.std.specs.Ordering.{eq_by_cmp}
use Rattle.std.specs.FinMap as maps
use Rattle.std.specs.FinMap.{is_sorted, entries-from_sorted, get-from_sorted, get-entries, same_map, same_entries_map}
use Rattle.std.proofs.Math.Bool.{or-true, or-false}
use Rattle.dl_ir.specs.declared.names.Name.{Name}
use Rattle.dl_ir.specs.declared.objects.Obj.{Obj}
use Rattle.dl_ir.specs.Heap.{Objects, name_cmp}
use Rattle.dl_ir.specs.References.{refs, is_open, is_shared, first_name, with_seal, with_seal_of}
use Rattle.dl_ir.proofs.NameOrder.{names_total, exact_names}
use Rattle.dl_ir.proofs.Members.{Held, get_in, find_some}
use Rattle.dl_ir.proofs.Lookups.{same_or_not, got_put, got_beside}
use Rattle.dl_ir.proofs.Totals.{total-over}
use Rattle.dl_ir.proofs.Keeping.{refs-over}
use Rattle.dl_lemmas.proofs.Entries as entries
use Rattle.dl_shape.specs.Settling.{sealed_entry, sealed_heap}
use Rattle.dl_shape.proofs.Order.{named}

-- sealing keeps the names and their order
pub still_sorted : (h : Objects) → T (is_sorted name_cmp (map (sealed_entry h) (maps.entries h)))
still_sorted h = entries.still_sorted name_cmp (λ e. (sealed_entry h e).1) h

-- the object of this name, sealed if it is shared
abbrev pub sealed_at : Objects → Name → Obj → Obj
sealed_at g q o = record o { sealed = o.sealed || is_shared g (q, o) }

found_sealed : (g : Objects) (q : Name) (es : Held) → maps.find name_cmp q (map (sealed_entry g) es) ≡ option_map (sealed_at g q) (maps.find name_cmp q es)
found_sealed g q [] = refl
found_sealed g q (e ∷ es) =
    elim (eq_by_cmp name_cmp q e.0) as (λ b. eq_by_cmp name_cmp q e.0 ≡ b → cond b (Some (sealed_at g e.0 e.1)) (maps.find name_cmp q (map (sealed_entry g) es)) ≡ option_map (sealed_at g q) (cond b (Some e.1) (maps.find name_cmp q es))) [
      | true ↦ λ t. ap (λ n. Some (sealed_at g n e.1)) (sym (exact_names q e.0 ((Equal-is (name_cmp q e.0)).0 t)))
      | false ↦ λ t. found_sealed g q es
    ] refl

pub got_sealed : (h : Objects) (q : Name) → maps.get (sealed_heap h) q ≡ option_map (sealed_at h q) (maps.get h q)
got_sealed h q =
    get-from_sorted name_cmp (map (sealed_entry h) (maps.entries h)) q (still_sorted h)
    ∙ found_sealed h q (maps.entries h)
    ∙ ap (option_map (sealed_at h q)) (sym (get-entries h q))

-- the first shared object is there, and is shared
shared_there : (h : Objects) (n : Name) → Some n ≡ first_name (is_shared h) h → (o : Obj) × (maps.get h n ≡ Some o) × (is_shared h (n, o) ≡ true)
shared_there h n is =
    let first = named (is_shared h) h n is in
    let at = find_some (is_shared h) (maps.entries h) first.0 first.1 in
    (first.0.1, ap (maps.get h) (sym first.2) ∙ get_in h first.0 at.0, ap (λ m. is_shared h (m, first.0.1)) (sym first.2) ∙ at.1)

-- what is sealed counts nothing, and what is not counts one
abbrev open_one : Name × Obj → ℕ
open_one e = if e.1.sealed then 0 else 1

-- the number of unsealed objects
abbrev pub unsealed : Objects → ℕ
unsealed h = sum_by open_one (maps.entries h)

shared_open : (hidden sealed few : Bool) → ((hidden && (if sealed then false else true)) && few) ≡ true → sealed ≡ false
shared_open true true few is = cc
shared_open true false few is = refl
shared_open false sealed few is = cc

module _ (h : Objects) (n : Name) (is : Some n ≡ first_name (is_shared h) h) where
  abbrev there : (o : Obj) × (maps.get h n ≡ Some o) × (is_shared h (n, o) ≡ true)
  there = shared_there h n is

  abbrev sealed_one : Obj
  sealed_one = record there.0 { sealed = true }

  next_is : with_seal h n ≡ maps.insert h n sealed_one
  next_is = ap (with_seal_of h n) there.1

  same_refs : (q : Name) → refs (maps.insert h n sealed_one) q ≡ refs h q
  same_refs q = omega (arith, refs-over h n there.0 sealed_one q there.1)

  -- sealing it first leads to the same
  pub seal_step : sealed_heap (with_seal h n) ≡ sealed_heap h
  seal_step = ap sealed_heap next_is ∙ same_map names_total exact_names _ _ (λ q.
      got_sealed (maps.insert h n sealed_one) q
      ∙ elim (same_or_not q n) [
        | inl same ↦ subst (λ m. option_map (sealed_at (maps.insert h n sealed_one) m) (maps.get (maps.insert h n sealed_one) m) ≡ option_map (sealed_at h m) (maps.get h m)) (sym same) (
            ap (option_map (sealed_at (maps.insert h n sealed_one) n)) (got_put h n sealed_one)
            ∙ ap (λ b. Some (record there.0 { sealed = b })) (sym (ap (λ b. there.0.sealed || b) there.2 ∙ or-true there.0.sealed))
            ∙ ap (option_map (sealed_at h n)) (sym there.1))
        | inr other ↦
            ap (option_map (sealed_at (maps.insert h n sealed_one) q)) (got_beside h n sealed_one q other)
            ∙ ap (λ r. option_map (λ (o : Obj). record o { sealed = o.sealed || (is_open (q, o) && nat_le 2 r) }) (maps.get h q)) (same_refs q)
      ]
      ∙ sym (got_sealed h q))

  -- and fewer are left to be sealed
  pub seal_fewer : unsealed (with_seal h n) < unsealed h
  seal_fewer =
      let over = total-over open_one h n there.0 sealed_one there.1 in
      let once = ap {B = ℕ} (λ b. if b then 0 else 1) (shared_open (nat_lt 0 n.ticket) there.0.sealed (nat_le 2 (refs h n)) there.2) in
      omega (arith, ap unsealed next_is, over, once)

stays : (h : Objects) (es : Held) → find (is_shared h) es ≡ None → map (sealed_entry h) es ≡ es
stays h [] none = refl
stays h (e ∷ es) none =
    elim (is_shared h e) as (λ b. is_shared h e ≡ b → cond b (Some e) (find (is_shared h) es) ≡ None → map (sealed_entry h) (e ∷ es) ≡ e ∷ es) [
      | true ↦ λ t some. cc
      | false ↦ λ t rest.
          ap (λ b. (e.0, record e.1 { sealed = e.1.sealed || b }) ∷ map (sealed_entry h) es) t
          ∙ ap (λ b. (e.0, record e.1 { sealed = b }) ∷ map (sealed_entry h) es) (or-false e.1.sealed)
          ∙ ap (λ (l : Held). e ∷ l) (stays h es rest)
    ] refl none

none_found : (o : Option (Name × Obj)) → None ≡ option_map (λ (e : Name × Obj). e.0) o → o ≡ None
none_found None is = refl
none_found (Some e) is = cc

-- where none is shared, none is sealed
pub seal_end : (h : Objects) → None ≡ first_name (is_shared h) h → h ≡ sealed_heap h
seal_end h none = same_entries_map h (sealed_heap h) (sym (
    entries-from_sorted name_cmp (map (sealed_entry h) (maps.entries h)) (still_sorted h)
    ∙ stays h (maps.entries h) (none_found (find (is_shared h) (maps.entries h)) none)))
