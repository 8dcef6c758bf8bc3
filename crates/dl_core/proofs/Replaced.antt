-- What a table has after a value was removed, changed and put back.
use Rattle.std.proofs.Common.{◌≡◌, ℕ, ◌+◌, ◌-◌, ◌<◌, ◌≤◌, ◌⊎◌, inl, inr, cond, Option, Some, None, refl, sym, ap, subst, ◌∙◌, arith}
use Rattle.std.specs.Prelude.{is_some}
use Rattle.std.specs.Option.{option_map}
use Rattle.std.specs.FinMap as finite
use Rattle.std.specs.FinMap.{FinMap, len-insert, len-remove, empty_of_len, get-empty}
use Rattle.dl_ir.specs.declared.names.Name.{Name}
use Rattle.dl_ir.specs.Heap.{name_cmp}
use Rattle.dl_ir.specs.Rows.{Rows}
use Rattle.dl_core.specs.Heaps.{put_at}
use Rattle.dl_shape.proofs.Names.{names}
use Rattle.dl_lemmas.proofs.Maps.{put_over}

no_one : {X : Type 0} {x : X} → Some x ≡ None → ⊥
no_one e = cc

module _ {X : Type 0} (m : FinMap name_cmp X) (name : Name) where
  -- a value that is there was changed
  pub put_back : (change : X → X) (x : X) → Some x ≡ finite.get m name → finite.insert (finite.remove m name) name (change x) ≡ put_at m name (option_map change (finite.get m name))
  unfolding put_at
  put_back change x e = put_over names m name (change x) ∙ ap (λ (o : Option X). put_at m name (option_map change o)) e

  -- there is none
  pub put_none : (change : X → X) → None ≡ finite.get m name → finite.remove m name ≡ put_at m name (option_map change (finite.get m name))
  unfolding put_at
  put_none change e = ap (λ (o : Option X). put_at m name (option_map change o)) e

  -- there is memory where there was
  pub has_back : (x : X) (room : ℕ) → Some x ≡ finite.get m name → finite.len m ≤ room → finite.len (finite.remove m name) < room
  has_back x room e few = by (finite.len m) (len-remove names.total m name ∙ ap (λ (o : Option X). cond (is_some o) (finite.len m - 1) (finite.len m)) (sym e)) some
    where
      by : (n : ℕ) → finite.len (finite.remove m name) ≡ finite.len m - 1 → 0 < finite.len m → finite.len (finite.remove m name) < room
      by n is more = omega (arith, is, more, few)

      zero_or : (n : ℕ) → (n ≡ 0) ⊎ (0 < n)
      zero_or n = grind arith

      none_there : finite.len m ≡ 0 → ⊥
      none_there none = no_one (e ∙ ap (λ (o : FinMap name_cmp X). finite.get o name) (empty_of_len m none) ∙ get-empty name_cmp name)

      some : 0 < finite.len m
      some = elim (zero_or (finite.len m)) [ inl none ↦ absurd (none_there none) | inr more ↦ more ]

  -- and there are as many
  pub few_back : (change : X → X) (room : ℕ) (now : Rows X) → now ≡ record { rows = put_at m name (option_map change (finite.get m name)); room = room } → finite.len m ≤ room → finite.len now.rows ≤ now.room
  unfolding put_at
  few_back change room now is few = subst (λ (t : Rows X). finite.len t.rows ≤ t.room) (sym is) (by (finite.get m name) refl)
    where
      by : (found : Option X) → finite.get m name ≡ found → finite.len (put_at m name (option_map change found)) ≤ room
      by None e = let same : finite.len (finite.remove m name) ≡ finite.len m = len-remove names.total m name ∙ ap (λ (o : Option X). cond (is_some o) (finite.len m - 1) (finite.len m)) e in omega (arith, same, few)
      by (Some x) e = let same : finite.len (finite.insert m name (change x)) ≡ finite.len m = len-insert names.total m name (change x) ∙ ap (λ (o : Option X). cond (is_some o) (finite.len m) (finite.len m + 1)) e in omega (arith, same, few)
