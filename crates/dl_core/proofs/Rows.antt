-- Each event that touches an object does there what a caller may do.
use Rattle.std.proofs.Common.{◌≡◌, ℕ, zero, suc, ◌<◌, false, cond, List, [], ◌∷◌, get_or, Option, Some, None, refl, sym, ap, ◌∙◌, arith}
use Rattle.std.specs.Prelude.{count_by, sum_by, All}
use Rattle.std.specs.FinMap as finite
use Rattle.std.specs.declared.cmp.Ordering.{Ordering}
use Rattle.std.proofs.lemmas.List.Sums.{sum_by-cons}
use Rattle.dl_ir.specs.declared.names.Name.{Name}
use Rattle.dl_ir.specs.declared.names.Value.{Value}
use Rattle.dl_ir.specs.declared.names.Value.TheVariants.{Int, Ref}
use Rattle.dl_ir.specs.Evaluation.{target_of}
use Rattle.dl_ir.specs.Heap.{IsHidden}
use Rattle.dl_ir.specs.References.{refers_to, target_in}
use Rattle.dl_core.specs.declared.objects.Object.{Object}
use Rattle.dl_core.specs.Heaps.{Heap, refs, refs_in, field_of, total}
use Rattle.dl_core.specs.Reach.{Links}
use Rattle.dl_core.specs.Changes.{IsCounted}
use Rattle.dl_lemmas.proofs.Entries.{AreEntries, entries_are}
use Rattle.dl_shape.proofs.Names.{names}
use Rattle.dl_core.proofs.Maps.{weight, total-put_at}
use Rattle.dl_core.proofs.Names.{name_itself, no_some}

-- ---- values and fields

-- what a local refers to, it holds
pub target_held : (found : Option Value) (name : Name) → target_of found ≡ Some name → found ≡ Some (Ref (Some name))
target_held None name e = absurd (no_some e)
target_held (Some (Int n)) name e = absurd (no_some e)
target_held (Some (Ref target)) name e = ap (λ t. Some (Ref t)) e

pub target_value : (value : Value) (name : Name) → target_in value ≡ Some name → value ≡ Ref (Some name)
target_value (Int n) name e = absurd (no_some e)
target_value (Ref target) name e = ap Ref e

-- an object with a field that refers to a name refers to it
pub field_refers : (values : List Value) (field : ℕ) (name : Name) → get_or values field (Ref None) ≡ Ref (Some name) → 0 < count_by (refers_to name) values
field_refers [] field name e = absurd (let clash : ◌≡◌ {A = Value} (Ref None) (Ref (Some name)) = e in cc)
field_refers (value ∷ rest) zero name e =
    let one : ◌≡◌ {A = ℕ} (cond (refers_to name value) 1 0) 1 = ap {B = ℕ} (λ b. cond b 1 0) (ap (refers_to name) e ∙ name_itself name) in
    omega (arith, sum_by-cons (λ x. cond (refers_to name x) 1 0) value rest, one)
field_refers (value ∷ rest) (suc field) name e = omega (arith, sum_by-cons (λ x. cond (refers_to name x) 1 0) value rest, field_refers rest field name e)

-- values that refer to nothing refer to no name
pub none_refers : (name : Name) (values : List Value) → ((at : ℕ) → target_in (get_or values at (Ref None)) ≡ None) → count_by (refers_to name) values ≡ 0
none_refers name [] null = refl
none_refers name (value ∷ rest) null =
    let here : refers_to name value ≡ false = by value (null 0) in
    let one : ◌≡◌ {A = ℕ} (cond (refers_to name value) 1 0) 0 = ap {B = ℕ} (λ b. cond b 1 0) here in
    omega (arith, sum_by-cons (λ x. cond (refers_to name x) 1 0) value rest, one, none_refers name rest (λ at. null (suc at)))
  where
    by : (v : Value) → target_in v ≡ None → refers_to name v ≡ false
    by (Int n) e = refl
    by (Ref None) e = refl
    by (Ref (Some m)) e = absurd (no_some (sym e))

-- ---- references

-- a name to which an object refers has a field that refers to it
pub link_refs : (heap : Heap) (from to : Name) → Links heap from to → 0 < refs heap to
link_refs heap from to link = omega (arith, link.refers, ap (weight (refs_in to)) link.there, total-put_at names (refs_in to) heap from None)

-- and is hidden
pub link_hidden : (heap : Heap) → IsCounted heap → (from to : Name) → Links heap from to → IsHidden to
link_hidden heap counted from to link = by to.ticket refl
  where
    by : (t : ℕ) → to.ticket ≡ t → 0 < to.ticket
    by zero e = absurd (omega (arith, link_refs heap from to link, counted.roots to e))
    by (suc t) e = omega (arith, e)

-- a field of a held object that refers to a name is a link
pub field_links : (heap : Heap) (from to : Name) (object : Object) (field : ℕ) → finite.get heap from ≡ Some object → field_of object field ≡ Ref (Some to) → Links heap from to
field_links heap from to object field there e = record { object = object; there = there; refers = field_refers object.fields field to e }

module _ {X : Type 0} (weight_of : X → ℕ) where
  zero_sum : {R : Name → Name → Ordering} (m : finite.FinMap R X) (es : List (Name × X)) → AreEntries m es → ((name : Name) (x : X) → finite.get m name ≡ Some x → weight_of x ≡ 0)
      → sum_by (λ e. weight_of e.1) es ≡ 0
  zero_sum m [] are zero_of = refl
  zero_sum m (e ∷ es) are zero_of = omega (arith, sum_by-cons (λ (x : Name × X). weight_of x.1) e es, zero_of e.0 e.1 are.0, zero_sum m es are.2 zero_of)

-- where no object refers to a name, no field does
pub no_refs : (heap : Heap) (name : Name) → ((from : Name) (object : Object) → finite.get heap from ≡ Some object → refs_in name object ≡ 0) → refs heap name ≡ 0
unfolding total
no_refs heap name none = zero_sum (refs_in name) heap (finite.entries heap) (entries_are names heap) none

-- ---- lists

pub first_of_all : {X : Type 0} (P : X → Type 0) (x : X) (xs : List X) → All P (x ∷ xs) → P x
first_of_all P x xs all = all 0 x (omega arith)
