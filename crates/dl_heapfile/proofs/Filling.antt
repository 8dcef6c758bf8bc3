-- How a heap is filled: objects with null in each field first, and then what their fields hold.
use Rattle.std.proofs.Common.{◌≡◌, ℕ, zero, suc, ◌+◌, ◌<◌, ◌≤◌, inl, inr, List, [], ◌∷◌, ◌++◌, length, take, drop, map, refl, sym, ap, subst, ◌∙◌, Some, arith}
use Rattle.std.specs.Prelude.{Ok, Err}
use Rattle.std.specs.List.{slice_get, slice_set}
use Rattle.std.proofs.lemmas.Bool.{cases_lt}
use Rattle.std.proofs.lemmas.List.Elements.{All-from_recursion}
use Rattle.std.specs.FinMap as finite
use Rattle.std.specs.FinMap.{same_map}
use Rattle.std.proofs.lemmas.List.{map_push, length-map, length-take-le}
use Rattle.dl_ir.specs.declared.modules.FieldDecl.{FieldDecl}
use Rattle.dl_ir.specs.declared.modules.KindDecl.{KindDecl}
use Rattle.dl_ir.specs.declared.modules.Module.{Module}
use Rattle.dl_ir.specs.declared.names.Name.{Name}
use Rattle.dl_ir.specs.declared.names.Value.{Value}
use Rattle.dl_ir.specs.declared.objects.Obj.{Obj}
use Rattle.dl_ir.specs.Heap.{Objects, with_field, with_field_of, HasStart, HasType, hidden_count}
use Rattle.dl_ir.proofs.NameOrder.{names_total, exact_names}
use Rattle.dl_ir.proofs.Lookups.{same_or_not, got_put, got_beside}
use Rattle.dl_heapfile.specs.Blanks.{nothing, emptied, IsObjectFault}
use Rattle.dl_heapfile.specs.declared.fault.HeapFault.{HeapFault}
use Rattle.dl_heapfile.specs.declared.fault.HeapFault.TheVariants.{NoPlaces}
use Rattle.dl_heapfile.specs.Lines.{MayHold, AllMayHold, HasForm}
use Rattle.dl_heapfile.specs.Faults.{heap_of, Every, FailsFirst, HasOneField, RefersWell, Builds}
use Rattle.dl_heapfile.proofs.Rising.{Entries}
use Rattle.std.proofs.lemmas.Option.{same_Some}
use Rattle.dl_lemmas.proofs.Places.{all_at}
use Rattle.dl_lemmas.proofs.Maps.{same_put}
use Rattle.dl_shape.proofs.Names.{names}

-- ---- lists

pub take_one : {X : Type 0} (xs : List X) (i : ℕ) (x : X) → slice_get xs i ≡ Some x → take (i + 1) xs ≡ take i xs ++ x ∷ []
take_one [] i x is = cc
take_one (y ∷ xs) zero x is = ap (λ z. z ∷ []) (same_Some y x is)
take_one {X} (y ∷ xs) (suc i) x is = ap (λ n. take n (y ∷ xs)) {x = suc i + 1} {y = suc (i + 1)} (omega arith) ∙ ap (λ (l : List X). y ∷ l) (take_one xs i x is)

pub map_one : {X Y : Type 0} (f : X → Y) (xs : List X) (i : ℕ) (x : X) → slice_get xs i ≡ Some x → map f (take (i + 1) xs) ≡ map f (take i xs) ++ f x ∷ []
map_one f xs i x is = ap (map f) (take_one xs i x is) ∙ map_push f (take i xs) x

pub taken_short : {X Y : Type 0} (f : X → Y) (xs : List X) (i : ℕ) → i ≤ length xs → length (map f (take i xs)) ≡ i
taken_short f xs i within = length-map (take i xs) f ∙ length-take-le i xs within

-- ---- an object's fields, some of them written

abbrev pub part_written : ℕ → List Value → List Value
part_written i held = take i held ++ map nothing (drop i held)

pub part_more : (held : List Value) (i : ℕ) (v : Value) → slice_get held i ≡ Some v → slice_set (part_written i held) i v ≡ part_written (i + 1) held
part_more [] i v is = cc
part_more (x ∷ held) zero v is = ap (λ (z : Value). z ∷ map nothing held) (sym (same_Some x v is))
part_more (x ∷ held) (suc i) v is = ap (λ (l : List Value). x ∷ l) (part_more held i v is) ∙ ap (λ n. part_written n (x ∷ held)) {x = suc (i + 1)} {y = suc i + 1} (omega arith)

drop_whole : (held : List Value) → part_written (length held) held ≡ held
drop_whole [] = refl
drop_whole (x ∷ held) = ap (λ (l : List Value). x ∷ l) (drop_whole held)

abbrev pub partly : ℕ → Obj → Obj
partly i object = record object { fields = part_written i object.fields }

-- an object put where it is
pub put_same : (h : Objects) (name : Name) (object : Obj) → finite.get h name ≡ Some (emptied object) → h ≡ finite.insert h name (partly 0 object)
put_same h name object there = sym (same_put names h name (partly 0 object) there)

put_over : (h : Objects) (name : Name) (v w : Obj) → finite.insert (finite.insert h name v) name w ≡ finite.insert h name w
put_over h name v w = same_map names_total exact_names _ _ (λ q. elim (same_or_not q name) [
  | inl same ↦ ap (finite.get (finite.insert (finite.insert h name v) name w)) same ∙ got_put (finite.insert h name v) name w ∙ sym (ap (finite.get (finite.insert h name w)) same ∙ got_put h name w)
  | inr other ↦ got_beside (finite.insert h name v) name w q other ∙ got_beside h name v q other ∙ sym (got_beside h name w q other)
])

-- one more field
pub write_more : (h : Objects) (name : Name) (object : Obj) (i : ℕ) (v : Value) → slice_get object.fields i ≡ Some v → with_field (finite.insert h name (partly i object)) name i v ≡ finite.insert h name (partly (i + 1) object)
write_more h name object i v is =
    ap (with_field_of (finite.insert h name (partly i object)) name i v) (got_put h name (partly i object))
    ∙ put_over h name (partly i object) (record object { fields = slice_set (part_written i object.fields) i v })
    ∙ ap (λ l. finite.insert h name (record object { fields = l })) (part_more object.fields i v is)

pub write_whole : (h : Objects) (name : Name) (object : Obj) (i : ℕ) → i ≡ length object.fields → finite.insert h name (partly i object) ≡ finite.insert h name object
write_whole h name object i all = ap (λ l. finite.insert h name (record object { fields = l })) (ap (λ n. part_written n object.fields) all ∙ drop_whole object.fields)

-- ---- values that fields may hold

pub holds_long : (decls : List FieldDecl) (held : List Value) → AllMayHold decls held → length held ≡ length decls
holds_long [] [] all = refl
holds_long [] (v ∷ held) all = absurd all
holds_long (d ∷ decls) [] all = absurd all
holds_long (d ∷ decls) (v ∷ held) all = ap suc (holds_long decls held all.1)

pub holds_at : (decls : List FieldDecl) (held : List Value) (at : ℕ) (d : FieldDecl) (v : Value) → AllMayHold decls held → slice_get decls at ≡ Some d → slice_get held at ≡ Some v → MayHold d.ty v
holds_at [] held at d v all decl is = cc
holds_at (e ∷ decls) [] at d v all decl is = absurd all
holds_at (e ∷ decls) (w ∷ held) zero d v all decl is = subst (λ (f : FieldDecl). MayHold f.ty v) (same_Some e d decl) (subst (MayHold e.ty) (same_Some w v is) all.0)
holds_at (e ∷ decls) (w ∷ held) (suc at) d v all decl is = holds_at decls held at d v all.1 decl is

-- one field more refers well
pub next_typed : (heap : Objects) (decls : List FieldDecl) (held : List Value) (i : ℕ) (d : FieldDecl) (v : Value) → slice_get decls i ≡ Some d → slice_get held i ≡ Some v → HasType heap d.ty v
    → ((at : ℕ) (field : FieldDecl) (value : Value) → at < i → slice_get decls at ≡ Some field → slice_get held at ≡ Some value → HasType heap field.ty value)
    → (at : ℕ) (field : FieldDecl) (value : Value) → at < i + 1 → slice_get decls at ≡ Some field → slice_get held at ≡ Some value → HasType heap field.ty value
next_typed heap decls held i d v decl_is held_is has before at field value below decl is = elim (cases_lt at i) [
  | inl earlier ↦ before at field value earlier decl is
  | inr late ↦
      let same : at ≡ i = omega (arith, below, late) in
      let one : d ≡ field = same_Some d field (sym decl_is ∙ ap (slice_get decls) (sym same) ∙ decl) in
      let other : v ≡ value = same_Some v value (sym held_is ∙ ap (slice_get held) (sym same) ∙ is) in
      subst (λ (f : FieldDecl). HasType heap f.ty value) one (subst (HasType heap d.ty) other has)
]

-- the fields of an object of a kind
pub form_fields : (source : Module) (object : Obj) (declared : KindDecl) → HasForm source object → slice_get source.kinds object.kind ≡ Some declared → AllMayHold declared.fields object.fields
form_fields source object declared form is = subst (λ (k : KindDecl). AllMayHold k.fields object.fields) (same_Some form.declared declared (sym form.is_there ∙ is)) form.fields

-- an object of the form of a kind has few fields
pub few_held : (source : Module) (object : Obj) → HasStart source → HasForm source object → length object.fields ≤ 16
few_held source object start form =
    let few = all_at (λ (k : KindDecl). length k.fields ≤ 16) source.kinds object.kind form.declared (All-from_recursion (λ (k : KindDecl). length k.fields ≤ 16) source.kinds start.few_fields) form.is_there in
    omega (arith, few, holds_long form.declared.fields object.fields form.fields)

-- ---- what becomes of the objects

module _ (source : Module) (places line : ℕ) (es : Entries) (heap : Objects) (same : heap ≡ heap_of es) where
  pub object_fault : (fault : HeapFault) → IsObjectFault source heap line es fault → Builds source places line es (Err fault)
  object_fault fault (IsObjectFault.dangling at fails) = Builds.dangling at (subst (λ h. FailsFirst (RefersWell source h) es at) same fails)
  object_fault fault (IsObjectFault.shape at well fails) = Builds.shape at (subst (λ h. Every (RefersWell source h) es) same well) (subst (λ h. FailsFirst (HasOneField h) es at) same fails)

  pub too_many : Every (RefersWell source heap) es × Every (HasOneField heap) es → places < hidden_count (heap_of es) → Builds source places line es (Err (NoPlaces line))
  too_many fine many = Builds.no_places (subst (λ h. Every (RefersWell source h) es) same fine.0) (subst (λ h. Every (HasOneField h) es) same fine.1) many

  pub built : Every (RefersWell source heap) es × Every (HasOneField heap) es → hidden_count (heap_of es) ≤ places → Builds source places line es (Ok heap)
  built fine fits = subst (λ h. Builds source places line es (Ok h)) (sym same) (Builds.is_heap (subst (λ h. Every (RefersWell source h) es) same fine.0) (subst (λ h. Every (HasOneField h) es) same fine.1) fits)
