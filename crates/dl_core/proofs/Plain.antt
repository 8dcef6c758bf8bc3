-- Heaps with their marks left aside.
use Rattle.std.proofs.Common.{◌≡◌, Bool, true, false, cond, List, [], ◌∷◌, map, Option, Some, None, refl, sym, ap, ◌∙◌, Ordering, arith}
use Rattle.std.specs.Prelude.{sum_by, count_by}
use Rattle.std.specs.Option.{option_map}
use Rattle.std.specs.Ordering.{eq_by_cmp}
use Rattle.std.specs.FinMap as finite
use Rattle.std.specs.FinMap.{same_map}
use Rattle.std.proofs.lemmas.List.Sums.{sum_by-cons}
use Rattle.dl_ir.specs.declared.names.Name.{Name}
use Rattle.dl_ir.specs.declared.objects.Obj.{Obj}
use Rattle.dl_ir.specs.Heap.{Objects, name_cmp}
use Rattle.dl_ir.specs.References as references
use Rattle.dl_core.specs.declared.objects.Object.{Object}
use Rattle.dl_core.specs.Heaps.{Heap, put_at, total, refs, refs_in, plain, plain_object, marked, marked_object, is_sealed, first_mark}
use Rattle.dl_shape.proofs.Names.{names}
use Rattle.dl_core.proofs.Maps.{get-put_at}
use Rattle.dl_lemmas.proofs.Entries.{get-changed, entries-changed}

module _ {K X Y : Type 0} (R : K → K → Ordering) (change : X → Y) where
  abbrev pub changed_entry : K × X → K × Y
  changed_entry e = (e.0, change e.1)

-- what a plain heap has under a name
pub get_plain : (heap : Heap) (name : Name) → finite.get (plain heap) name ≡ option_map plain_object (finite.get heap name)
get_plain heap name = get-changed name_cmp plain_object heap name

pub get_marked : (objects : Objects) (name : Name) → finite.get (marked objects) name ≡ option_map marked_object (finite.get objects name)
get_marked objects name = get-changed name_cmp marked_object objects name

mapped : {A B : Type 0} (f : A → B) (b : Bool) (v : Option A) (o : Option A) → option_map f (cond b v o) ≡ cond b (option_map f v) (option_map f o)
mapped f true v o = refl
mapped f false v o = refl

-- a change of the heap is one of the plain heap
pub plain_put : (heap : Heap) (name : Name) (found : Option Object) → plain (put_at heap name found) ≡ put_at (plain heap) name (option_map plain_object found)
plain_put heap name found = same_map names.total names.same _ _ (λ q.
    get_plain (put_at heap name found) q
    ∙ ap (option_map plain_object) (get-put_at names heap name found q)
    ∙ mapped plain_object (eq_by_cmp name_cmp q name) found (finite.get heap q)
    ∙ ap (λ o. cond (eq_by_cmp name_cmp q name) (option_map plain_object found) o) (sym (get_plain heap q))
    ∙ sym (get-put_at names (plain heap) name (option_map plain_object found) q))

-- marking a heap and leaving the marks aside gives it back
pub plain_marked : (objects : Objects) → plain (marked objects) ≡ objects
plain_marked objects = same_map names.total names.same _ _ (λ q.
    get_plain (marked objects) q ∙ ap (option_map plain_object) (get_marked objects q) ∙ back (finite.get objects q))
  where
    back_one : (o : Obj) → plain_object (marked_object o) ≡ o
    back_one o = by o.sealed refl
      where
        by : (b : Bool) → o.sealed ≡ b → plain_object (marked_object o) ≡ o
        by true e = λ i. record { kind = o.kind; sealed = (ap (λ c. is_sealed (first_mark c)) e ∙ sym e) i; fields = o.fields }
        by false e = λ i. record { kind = o.kind; sealed = (ap (λ c. is_sealed (first_mark c)) e ∙ sym e) i; fields = o.fields }

    back : (o : Option Obj) → option_map plain_object (option_map marked_object o) ≡ o
    back None = refl
    back (Some o) = ap Some (back_one o)

same_sum : (name : Name) (es : List (Name × Object)) → sum_by (λ (e : Name × Obj). count_by (references.refers_to name) e.1.fields) (map (λ e. (e.0, plain_object e.1)) es) ≡ sum_by (λ e. refs_in name e.1) es
same_sum name [] = refl
same_sum name (e ∷ es) =
    omega (arith, sum_by-cons (λ (e : Name × Obj). count_by (references.refers_to name) e.1.fields) (e.0, plain_object e.1) (map (λ e. (e.0, plain_object e.1)) es), sum_by-cons (λ (e : Name × Object). refs_in name e.1) e es, same_sum name es)

-- as many fields refer to a name in the plain heap
pub plain_refs : (heap : Heap) (name : Name) → references.refs (plain heap) name ≡ refs heap name
unfolding total
plain_refs heap name = ap (sum_by (λ (e : Name × Obj). count_by (references.refers_to name) e.1.fields)) (entries-changed name_cmp (λ e. plain_object e.1) heap) ∙ same_sum name (finite.entries heap)
