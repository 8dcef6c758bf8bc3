-- Settling a heap that is a forest once it is trimmed seals nothing.
use Rattle.std.proofs.Common.{◌≡◌, ℕ, zero, suc, Bool, true, false, cond, ◌||◌, [], ◌∷◌, Option, Some, None, map, refl, sym, ap, subst, ◌∙◌, inl, inr}
use Rattle.std.specs.Prelude.{find, if◌then◌else◌}
use Rattle.std.specs.Option.{option_map}
use Rattle.std.specs.List.{list_any}
use Rattle.std.specs.Ordering.{eq_by_cmp}
use Rattle.std.specs.FinMap as finite
use Rattle.std.specs.FinMap.{get-remove, entries-from_sorted, entries_sorted, same_entries_map}
use Rattle.dl_ir.specs.declared.names.Name.{Name}
use Rattle.dl_ir.specs.declared.objects.Obj.{Obj}
use Rattle.dl_ir.specs.Heap.{Objects, name_cmp}
use Rattle.dl_shape.specs.Forests.{names_root}
use Rattle.dl_shape.specs.References.{IsForest}
use Rattle.dl_shape.specs.Settling.{is_loose, is_shared, first_name, without, trim_by, trim, sealed_entry, sealed_heap, settled, breach_of}
use Rattle.dl_shape.proofs.Forest.{forest_stands}
use Rattle.dl_ir.proofs.Members.{Held, In}
use Rattle.dl_ir.proofs.NameOrder.{names_total}
use Rattle.dl_closed.proofs.Statements.{NoneSealed}
use Rattle.std.proofs.Math.Bool.{or-false}

one_less : (b : Bool) (old : Option Obj) (p : Obj) → cond b None old ≡ Some p → old ≡ Some p
one_less true old p is = cc
one_less false old p is = is

removed : (h : Objects) (k : Name) → NoneSealed h → NoneSealed (finite.remove h k)
removed h k none = λ q p is. none q p (one_less (eq_by_cmp name_cmp q k) (finite.get h q) p (sym (get-remove names_total h k q) ∙ is))

without_one : (o : Option Name) (h : Objects) (next : Objects → Objects) → NoneSealed h → ((g : Objects) → NoneSealed g → NoneSealed (next g)) → NoneSealed (without o h next)
without_one None h next none keeps = none
without_one (Some k) h next none keeps = keeps (finite.remove h k) (removed h k none)

trimmed : (n : ℕ) (h : Objects) → NoneSealed h → NoneSealed (trim_by n h)
trimmed zero h none = none
trimmed (suc n) h none = without_one (first_name (is_loose h) h) h (trim_by n) none (trimmed n)

stands_alone : (a b : Bool) → (if a then false else (if b then false else true)) ≡ true → b ≡ false
stands_alone true b is = cc
stands_alone false true is = cc
stands_alone false false is = refl

-- no object of a forest is shared
not_shared : (h : Objects) → IsForest h → (e : Name × Obj) → In e (finite.entries h) → is_shared h e ≡ false
not_shared h forest e there = stands_alone (list_any names_root e.1.fields) (is_shared h e) (forest_stands h forest e there)

none_found : (test : Name × Obj → Bool) (es : Held) → ((e : Name × Obj) → In e es → test e ≡ false) → find test es ≡ None
none_found test [] passes_not = refl
none_found test (e ∷ es) passes_not = rw (passes_not e (inl refl)) (none_found test es (λ f there. passes_not f (inr there)))

pub no_breach : (h : Objects) → IsForest (trim h) → breach_of h ≡ None
no_breach h forest = ap (option_map (λ (entry : Name × Obj). entry.0)) (none_found (is_shared (trim h)) (finite.entries (trim h)) (not_shared (trim h) forest))

entry_same : (h : Objects) (e : Name × Obj) → is_shared h e ≡ false → sealed_entry h e ≡ e
entry_same h e passes_not = ap (λ b. (e.0, record e.1 { sealed = b })) (ap (λ c. e.1.sealed || c) passes_not ∙ or-false e.1.sealed)

entries_same : (h : Objects) (es : Held) → ((e : Name × Obj) → In e es → is_shared h e ≡ false) → map (sealed_entry h) es ≡ es
entries_same h [] passes_not = refl
entries_same h (e ∷ es) passes_not =
    ap (λ (l : Held). sealed_entry h e ∷ l) (entries_same h es (λ f there. passes_not f (inr there))) ∙ ap (λ (x : Name × Obj). x ∷ es) (entry_same h e (passes_not e (inl refl)))

sealed_same : (h : Objects) → IsForest h → sealed_heap h ≡ h
sealed_same h forest =
    ap finite.from_sorted (entries_same h (finite.entries h) (not_shared h forest))
    ∙ same_entries_map (finite.from_sorted (finite.entries h)) h (entries-from_sorted name_cmp (finite.entries h) (entries_sorted h))

pub settled_unsealed : (h : Objects) → IsForest (trim h) → NoneSealed h → NoneSealed (settled h)
settled_unsealed h forest none = subst NoneSealed (sym (sealed_same (trim h) forest)) (trimmed (finite.len h) h none)
