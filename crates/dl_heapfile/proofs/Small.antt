-- The numbers in the fields of a heap, looked at object by object.
use Rattle.std.proofs.Common.{◌≡◌, ℕ, ℤ, zero, suc, List, [], ◌∷◌, sym, subst, Some}
use Rattle.std.specs.List.{slice_get}
use Rattle.std.specs.FinMap as finite
use Rattle.dl_ir.specs.declared.names.Name.{Name}
use Rattle.dl_ir.specs.declared.names.Value.{Value}
use Rattle.dl_ir.specs.declared.names.Value.TheVariants.{Int}
use Rattle.dl_ir.specs.declared.objects.Obj.{Obj}
use Rattle.dl_ir.specs.Heap.{Objects}
use Rattle.dl_heapfile.specs.Lines.{IsSmall}
use Rattle.dl_heapfile.specs.Laws.{HoldsSmall}
use Rattle.dl_heapfile.proofs.Rising.{Entries, there_got, heap_of-entries}
use Rattle.std.proofs.lemmas.Option.{same_Some}

abbrev pub FieldsSmall : List Value → Type 0
FieldsSmall fields = (at : ℕ) (number : ℤ) → slice_get fields at ≡ Some (Int number) → IsSmall number

abbrev pub SmallIn : Entries → Type 0
SmallIn [] = Unit {0}
SmallIn (e ∷ es) = FieldsSmall e.1.fields × SmallIn es

small_at : (es : Entries) (at : ℕ) (e : Name × Obj) → SmallIn es → slice_get es at ≡ Some e → FieldsSmall e.1.fields
small_at [] at e all there = cc
small_at (x ∷ es) zero e all there = subst (λ (y : Name × Obj). FieldsSmall y.1.fields) (same_Some x e there) all.0
small_at (x ∷ es) (suc at) e all there = small_at es at e all.1 there

pub small_got : (heap : Objects) → SmallIn (finite.entries heap) → HoldsSmall heap
small_got heap all name object at number is held =
    let found = there_got (finite.entries heap) name object (subst (λ h. finite.get h name ≡ Some object) (sym (heap_of-entries heap)) is) in
    small_at (finite.entries heap) found.0 (name, object) all found.1 at number held
