-- How the numbers of objects and of hidden objects change with a heap
use Rattle.std.proofs.Common.{◌≡◌, ℕ, zero, suc, ◌+◌, ◌<◌, ◌≤◌, Bool, true, false, cond, List, [], ◌∷◌, length, map, refl, sym, ap, subst, ◌∙◌, Some, None, arith}
use Rattle.std.specs.Prelude.{nat_lt, slice_set, find}
use Rattle.std.proofs.lemmas.Bool.{lt-ltb}
use Rattle.std.specs.Cmp.{first_so}
use Rattle.std.specs.FinMap as finite
use Rattle.std.specs.FinMap.{entries-from_sorted, len-entries}
use Rattle.std.specs.Option.{option_map}
use Rattle.std.proofs.lemmas.List.{length-map}
use Rattle.std.proofs.lemmas.Option.{none-some}
use Rattle.dl_ir.specs.declared.names.Name.{Name}
use Rattle.dl_ir.specs.declared.names.Value.{Value}
use Rattle.dl_ir.specs.declared.objects.Obj.{Obj}
use Rattle.dl_ir.specs.Heap.{Objects, name_cmp, hidden_count, with_field, with_field_of}
use Rattle.dl_shape.specs.Settling.{is_loose, first_name, without, trim_by, trim, sealed_entry, sealed_heap, settled}
use Rattle.dl_lemmas.proofs.Maps.{same_without, len-new, len-there, len-taken}
use Rattle.dl_shape.proofs.HiddenCount.{one, hidden_in, hidden_in-cons, hidden_count-new, hidden_count-over, hidden_count-there}
use Rattle.dl_shape.proofs.Names.{names}
use Rattle.dl_shape.proofs.Sealing.{still_sorted}
use Rattle.dl_serial.specs.Growth.{Grows}

-- the entries of a heap
abbrev pub Held : Type 0
Held = List (Name × Obj)

-- the removal of a hidden object, if it is there
pub grows-remove : (h : Objects) (k : Name) → nat_lt 0 k.ticket ≡ true → Grows h (finite.remove h k) 0 0
grows-remove h k hidden =
    let is_one : one k ≡ 1 = ap (λ b. cond b 1 0) hidden in
    elim (finite.get h k) as (λ r. finite.get h k ≡ r → Grows h (finite.remove h k) 0 0) [
      | None ↦ λ none. subst (λ (g : Objects). Grows h g 0 0) (sym (same_without names h k none)) (record { hidden = omega arith; roots = omega arith })
      | Some v ↦ λ is. record {
        hidden = omega (arith, hidden_count-there h k v is, is_one);
        roots = omega (arith, hidden_count-there h k v is, is_one, len-taken names h k v is);
      }
    ] refl

-- a write changes no number
pub grows-with_field : (h : Objects) (name : Name) (field : ℕ) (value : Value) (made : ℕ) → Grows h (with_field h name field value) made made
grows-with_field h name field value made =
    elim (finite.get h name) as (λ r. finite.get h name ≡ r → Grows h (with_field_of h name field value r) made made) [
      | None ↦ λ none. record { hidden = omega arith; roots = omega arith }
      | Some v ↦ λ is. record {
        hidden = omega (arith, hidden_count-there h name v is, hidden_count-over h name (record v { fields = slice_set v.fields field value }));
        roots = omega (arith, hidden_count-there h name v is, hidden_count-over h name (record v { fields = slice_set v.fields field value }), len-there names h name v (record v { fields = slice_set v.fields field value }) is);
      }
    ] refl

-- an addition of a hidden object
pub grows-put : (h : Objects) (name : Name) (object : Obj) (made : ℕ) → 0 < name.ticket → Grows h (finite.insert h name object) made (made + 1)
grows-put h name object made hidden =
    let is_one : one name ≡ 1 = ap (λ b. cond b 1 0) (lt-ltb 0 name.ticket hidden) in
    elim (finite.get h name) as (λ r. finite.get h name ≡ r → Grows h (finite.insert h name object) made (made + 1)) [
      | None ↦ λ none. record {
        hidden = omega (arith, is_one, hidden_count-new h name object none);
        roots = omega (arith, is_one, hidden_count-new h name object none, len-new names h name object none);
      }
      | Some v ↦ λ is. record {
        hidden = omega (arith, hidden_count-there h name v is, hidden_count-over h name object);
        roots = omega (arith, hidden_count-there h name v is, hidden_count-over h name object, len-there names h name v object is);
      }
    ] refl

-- one change after another
pub grows_on : {a b c : Objects} {i j k : ℕ} → Grows a b i j → Grows b c j k → Grows a c i k
grows_on first second = record { hidden = omega arith; roots = omega arith }

-- what a search finds passes its test
find_passes : (test : Name × Obj → Bool) (es : Held) (e : Name × Obj) → find test es ≡ Some e → test e ≡ true
find_passes test [] e is = absurd (none-some e is)
find_passes test (d ∷ es) e is =
    elim (test d) as (λ b. test d ≡ b → cond b (Some d) (find test es) ≡ Some e → test e ≡ true) [
      | true ↦ λ t is. let same : d ≡ e = cc in subst (λ (x : Name × Obj). test x ≡ true) same t
      | false ↦ λ t is. find_passes test es e is
    ] refl is

-- a loose object is hidden
loose_hidden : (g h : Objects) (k : Name) → first_name (is_loose g) h ≡ Some k → nat_lt 0 k.ticket ≡ true
loose_hidden g h k =
    elim (find (is_loose g) (finite.entries h)) as (λ r. find (is_loose g) (finite.entries h) ≡ r → option_map (λ (e : Name × Obj). e.0) r ≡ Some k → nat_lt 0 k.ticket ≡ true) [
      | None ↦ λ _ is. absurd (none-some k is)
      | Some e ↦ λ found is.
          let same : e.0 ≡ k = cc in
          subst (λ (n : Name). nat_lt 0 n.ticket ≡ true) same (first_so _ _ (first_so _ _ (find_passes (is_loose g) (finite.entries h) e found)))
    ] refl

-- trimming
grows-trim_by : (count : ℕ) (h : Objects) → Grows h (trim_by count h) 0 0
grows-trim_by zero h = record { hidden = omega arith; roots = omega arith }
grows-trim_by (suc count) h =
    elim (first_name (is_loose h) h) as (λ r. first_name (is_loose h) h ≡ r → Grows h (without r h (trim_by count)) 0 0) [
      | None ↦ λ _. record { hidden = omega arith; roots = omega arith }
      | Some k ↦ λ is. grows_on (grows-remove h k (loose_hidden h h k is)) (grows-trim_by count (finite.remove h k))
    ] refl

hidden_in-sealed : (g : Objects) (es : Held) → hidden_in (map (sealed_entry g) es) ≡ hidden_in es
hidden_in-sealed g [] = refl
hidden_in-sealed g (e ∷ es) = hidden_in-cons (sealed_entry g e) (map (sealed_entry g) es) ∙ ap (λ n. one e.0 + n) (hidden_in-sealed g es) ∙ sym (hidden_in-cons e es)

grows-sealed : (h : Objects) → Grows h (sealed_heap h) 0 0
grows-sealed h =
    let made : finite.entries (sealed_heap h) ≡ map (sealed_entry h) (finite.entries h)
    = entries-from_sorted name_cmp _ (still_sorted h) in
    let same_hidden : hidden_count (sealed_heap h) ≡ hidden_count h = ap hidden_in made ∙ hidden_in-sealed h (finite.entries h) in
    let same_len : finite.len (sealed_heap h) ≡ finite.len h
    = len-entries (sealed_heap h) ∙ ap length made ∙ length-map (finite.entries h) (sealed_entry h) ∙ sym (len-entries h) in
    record { hidden = omega (arith, same_hidden); roots = omega (arith, same_hidden, same_len) }

-- settling
pub grows-settled : (h : Objects) → Grows h (settled h) 0 0
grows-settled h = grows_on (grows-trim_by (finite.len h) h) (grows-sealed (trim h))

-- an operation: its body, and then settling
pub grows-operation : {a b c : Objects} {made allocs : ℕ} → Grows a b 0 made → Grows b c 0 0 → made ≤ allocs → Grows a c 0 allocs
grows-operation body settling within = record { hidden = omega arith; roots = omega arith }
