-- What the types of a heap and of locals say of values.
use Rattle.std.proofs.Common.{◌≡◌, inl, inr, ℕ, zero, suc, ◌+◌, ◌-◌, ◌<◌, ◌≤◌, true, false, cond, List, [], ◌∷◌, length, drop, get_or, Some, None, refl, sym, ap, subst, ◌∙◌, arith}
use Rattle.std.specs.Prelude.{slice_get, count_by}
use Rattle.std.specs.Option.{option_map, option_map_or}
use Rattle.std.specs.FinMap as finite
use Rattle.std.proofs.lemmas.Bool.{cases_lt}
use Rattle.std.proofs.lemmas.Option.{slice_get-get_or, slice_get_within}
use Rattle.std.proofs.lemmas.List.Sums.{sum_by-cons}
use Rattle.dl_ir.specs.declared.modules.FieldDecl.{FieldDecl}
use Rattle.dl_ir.specs.declared.modules.KindDecl.{KindDecl}
use Rattle.dl_ir.specs.declared.modules.Module.{Module}
use Rattle.dl_ir.specs.declared.modules.Ty.{Ty}
use Rattle.dl_ir.specs.declared.modules.Ty.TheVariants as types
use Rattle.dl_ir.specs.declared.names.Name.{Name}
use Rattle.dl_ir.specs.declared.names.Value.{Value}
use Rattle.dl_ir.specs.declared.names.Value.TheVariants.{Int, Ref}
use Rattle.dl_ir.specs.declared.objects.Obj.{Obj}
use Rattle.dl_ir.specs.Heap.{IsHeapOf, IsHidden, IsNodeKind, IsRootOf, HasObject, HasType}
use Rattle.dl_ir.specs.References.{refers_to, target_in}
use Rattle.dl_ir.specs.Typed.{HasFieldOf}
use Rattle.dl_core.specs.declared.objects.Object.{Object}
use Rattle.dl_core.specs.Heaps.{Heap, field_of, refs, plain, plain_object}
use Rattle.dl_core.specs.Plans.{Plan, source_of, fields_of, first_reference, reference_from, or_later}
use Rattle.dl_core.proofs.Names.{name_differs, same_some, no_some}
use Rattle.dl_core.proofs.Plain.{get_plain}
use Rattle.dl_core.proofs.Rows.{no_refs}
use Rattle.std.proofs.Math.ListN.{get_or-eq_default}

-- an object of the plain heap is one of the heap
pub plain_there : (heap : Heap) (name : Name) (object : Object) → finite.get heap name ≡ Some object → finite.get (plain heap) name ≡ Some (plain_object object)
plain_there heap name object there = get_plain heap name ∙ ap (option_map plain_object) there

-- a root kind is no node kind
root_or_node : (source : Module) (kind : ℕ) (name : Name) → IsRootOf source kind name → IsNodeKind source kind → ⊥
root_or_node source kind name root node =
    let same : root.declared ≡ node.declared = same_some (sym root.is_there ∙ node.is_there) in
    let clash : true ≡ false = sym root.is_root ∙ ap (λ (d : KindDecl). d.is_root) same ∙ node.is_node in
    cc

module _ (source : Module) (heap : Heap) (is : IsHeapOf source (plain heap)) where
  -- an object of a node kind is hidden
  pub node_hidden : (name : Name) (kind : ℕ) → HasObject (plain heap) name kind → IsNodeKind source kind → IsHidden name
  node_hidden name kind has node = by name.ticket refl
    where
      by : (t : ℕ) → name.ticket ≡ t → 0 < name.ticket
      by zero e = absurd (root_or_node source kind name (subst (λ k. IsRootOf source k name) has.of_kind (is.exposed name has.object has.is_there e)) node)
      by (suc t) e = omega (arith, e)

  -- a field holds a value of its type
  pub field_has_type : (name : Name) (object : Object) (kind field : ℕ) (ty : Ty) → finite.get heap name ≡ Some object → object.kind ≡ kind → HasFieldOf source kind field ty → HasType (plain heap) ty (field_of object field)
  field_has_type name object kind field ty there of_kind has =
      let held = is.fields name (plain_object object) has.declared (plain_there heap name object there) (ap (slice_get source.kinds) of_kind ∙ has.is_there) in
      let within : field < length object.fields = omega (arith, slice_get_within has.declared.fields field has.field has.is_its_field, held.one_each) in
      subst (λ t. HasType (plain heap) t (field_of object field)) has.of_type (held.typed field has.field (field_of object field) has.is_its_field (slice_get-get_or object.fields field (Ref None) within))

  -- each object has a declared kind
  pub kind_of : (name : Name) (object : Object) → finite.get heap name ≡ Some object → (declared : KindDecl) × (slice_get source.kinds object.kind ≡ Some declared)
  kind_of name object there = by name.ticket refl
    where
      by : (t : ℕ) → name.ticket ≡ t → (declared : KindDecl) × (slice_get source.kinds object.kind ≡ Some declared)
      by zero e = let root = is.exposed name (plain_object object) (plain_there heap name object there) e in (root.declared, root.is_there)
      by (suc t) e = let node = is.hidden name (plain_object object) (plain_there heap name object there) (omega (arith, e)) in (node.declared, node.is_there)

  -- a field refers to what is hidden and there
  pub field_names : (name from : Name) (object : Object) → finite.get heap from ≡ Some object → (at : ℕ) → field_of object at ≡ Ref (Some name) → IsHidden name × ((found : Obj) × (finite.get (plain heap) name ≡ Some found))
  field_names name from object there at e =
      let declared = kind_of from object there in
      let held = is.fields from (plain_object object) declared.0 (plain_there heap from object there) declared.1 in
      elim (cases_lt at (length object.fields)) [
        | inl within ↦
            let has : slice_get object.fields at ≡ Some (field_of object at) = slice_get-get_or object.fields at (Ref None) within in
            let some : at < length declared.0.fields = omega (arith, held.one_each) in
            by (get_or declared.0.fields at (record { name = []; ty = types.Int })).ty (held.typed at _ (Ref (Some name)) (slice_get-get_or declared.0.fields at (record { name = []; ty = types.Int }) some) (has ∙ ap Some e))
        | inr past ↦ absurd (let nothing : Ref (Some name) ≡ Ref None = sym e ∙ get_or-eq_default object.fields (Ref None) past in cc)
      ]
    where
      by : (ty : Ty) → HasType (plain heap) ty (Ref (Some name)) → IsHidden name × ((found : Obj) × (finite.get (plain heap) name ≡ Some found))
      by types.Int h = absurd h
      by (types.Of kind) h = (h.0, (h.1.object, h.1.is_there))

  none_to : (name : Name) (values : List Value) → ((at : ℕ) → get_or values at (Ref None) ≡ Ref (Some name) → ⊥) → count_by (refers_to name) values ≡ 0
  none_to name [] none = refl
  none_to name (value ∷ rest) none =
      let one : ◌≡◌ {A = ℕ} (cond (refers_to name value) 1 0) 0 = ap {B = ℕ} (λ b. cond b 1 0) (by value (none 0)) in
      omega (arith, sum_by-cons (λ x. cond (refers_to name x) 1 0) value rest, one, none_to name rest (λ at e. none (suc at) e))
    where
      by : (v : Value) → (v ≡ Ref (Some name) → ⊥) → refers_to name v ≡ false
      by (Int n) e = refl
      by (Ref None) e = refl
      by (Ref (Some m)) e = name_differs name m (λ same. e (ap (λ k. Ref (Some k)) (sym same)))

  -- no field refers to a name that is not there
  pub no_dangling : (name : Name) → finite.get heap name ≡ None → refs heap name ≡ 0
  no_dangling name absent =
      no_refs heap name (λ from object there. none_to name object.fields (λ at e. no_some (sym (get_plain heap name ∙ ap (option_map plain_object) absent) ∙ (field_names name from object there at e).1.1)))

  -- no field refers to a root
  pub no_root_refs : (name : Name) → name.ticket ≡ 0 → refs heap name ≡ 0
  no_root_refs name z = no_refs heap name (λ from object there. none_to name object.fields (λ at e. absurd (omega (arith, (field_names name from object there at e).0, z))))

-- ---- where no field from a number on holds a reference

no_more : (at : ℕ) (fields : List FieldDecl) → first_reference at fields ≡ None → (i : ℕ) (field : FieldDecl) → slice_get fields i ≡ Some field → field.ty ≡ types.Int
no_more at [] e i field there = absurd (no_some there)
no_more at (f ∷ rest) e zero field there = ap (λ (g : FieldDecl). g.ty) (sym (same_some there)) ∙ by f.ty e
  where
    by : (ty : Ty) → or_later ty at (first_reference (at + 1) rest) ≡ None → ty ≡ types.Int
    by types.Int e' = refl
    by (types.Of kind) e' = absurd (no_some (sym e'))
no_more at (f ∷ rest) e (suc i) field there = no_more (at + 1) rest (by f.ty e) i field there
  where
    by : (ty : Ty) → or_later ty at (first_reference (at + 1) rest) ≡ None → first_reference (at + 1) rest ≡ None
    by types.Int e' = e'
    by (types.Of kind) e' = absurd (no_some (sym e'))

dropped : {X : Type 0} (from i : ℕ) (xs : List X) → from ≤ i → (k : ℕ) × (slice_get (drop from xs) k ≡ slice_get xs i)
dropped zero i xs le = (i, refl)
dropped (suc from) i [] le = (0, refl)
dropped (suc from) zero (x ∷ xs) le = absurd (omega arith)
dropped (suc from) (suc i) (x ∷ xs) le = dropped from i xs (omega arith)

-- where no field from a number on holds a reference, what such a field of an object holds refers to nothing
pub no_reference_from : (plan : Plan) (heap : Heap) → IsHeapOf (source_of plan) (plain heap) → (name : Name) (object : Object) → finite.get heap name ≡ Some object → (from : ℕ)
    → reference_from plan object.kind from ≡ None → (at : ℕ) → from ≤ at → target_in (field_of object at) ≡ None
no_reference_from plan heap is name object there from none at le =
    let declared = kind_of (source_of plan) heap is name object there in
    let held = is.fields name (plain_object object) declared.0 (plain_there heap name object there) declared.1 in
    let fields : fields_of plan object.kind ≡ declared.0.fields = ap (λ d. option_map_or (λ (k : KindDecl). k.fields) d []) declared.1 in
    elim (cases_lt at (length object.fields)) [
      | inl within ↦
          let some : at < length declared.0.fields = omega (arith, held.one_each) in
          let field : FieldDecl = get_or declared.0.fields at (record { name = []; ty = types.Int }) in
          let its : slice_get declared.0.fields at ≡ Some field = slice_get-get_or declared.0.fields at (record { name = []; ty = types.Int }) some in
          let k = dropped from at declared.0.fields le in
          let int : field.ty ≡ types.Int = no_more from (drop from declared.0.fields) (ap (λ fs. first_reference from (drop from fs)) (sym fields) ∙ none) k.0 field (k.1 ∙ its) in
          by (field_of object at) (subst (λ t. HasType (plain heap) t (field_of object at)) int (held.typed at field (field_of object at) its (slice_get-get_or object.fields at (Ref None) within)))
      | inr past ↦ ap target_in (get_or-eq_default object.fields (Ref None) past)
    ]
  where
    by : (v : Value) → HasType (plain heap) types.Int v → target_in v ≡ None
    by (Int n) h = refl
    by (Ref target) h = absurd h

-- ---- the fields before the first one that holds a reference

first_before : (at : ℕ) (fields : List FieldDecl) (found : ℕ) → first_reference at fields ≡ Some found → (i : ℕ) (field : FieldDecl) → slice_get fields i ≡ Some field → at + i < found → field.ty ≡ types.Int
first_before at [] found e i field there less = absurd (no_some e)
first_before at (f ∷ rest) found e zero field there less = ap (λ (g : FieldDecl). g.ty) (sym (same_some there)) ∙ by f.ty e
  where
    by : (ty : Ty) → or_later ty at (first_reference (at + 1) rest) ≡ Some found → ty ≡ types.Int
    by types.Int e' = refl
    by (types.Of kind) e' = absurd (omega (arith, same_some e', less))
first_before at (f ∷ rest) found e (suc i) field there less = first_before (at + 1) rest found (by f.ty e) i field there (omega (arith, less))
  where
    by : (ty : Ty) → or_later ty at (first_reference (at + 1) rest) ≡ Some found → first_reference (at + 1) rest ≡ Some found
    by types.Int e' = e'
    by (types.Of kind) e' = absurd (omega (arith, same_some e', less))

drop_get : {X : Type 0} (from i : ℕ) (xs : List X) → from ≤ i → slice_get (drop from xs) (i - from) ≡ slice_get xs i
drop_get zero i xs le = ap (slice_get xs) (let e : i - 0 ≡ i = omega arith in e)
drop_get (suc from) i [] le = refl
drop_get (suc from) zero (x ∷ xs) le = absurd (omega arith)
drop_get (suc from) (suc i) (x ∷ xs) le = ap (slice_get (drop from xs)) (let e : suc i - suc from ≡ i - from = omega arith in e) ∙ drop_get from i xs (omega arith)

-- before the first field from a number on that holds a reference none does
pub no_reference_before : (plan : Plan) (heap : Heap) → IsHeapOf (source_of plan) (plain heap) → (name : Name) (object : Object) → finite.get heap name ≡ Some object → (from found : ℕ)
    → reference_from plan object.kind from ≡ Some found → (at : ℕ) → from ≤ at → at < found → target_in (field_of object at) ≡ None
no_reference_before plan heap is name object there from found some at le less =
    let declared = kind_of (source_of plan) heap is name object there in
    let held = is.fields name (plain_object object) declared.0 (plain_there heap name object there) declared.1 in
    let fields : fields_of plan object.kind ≡ declared.0.fields = ap (λ d. option_map_or (λ (k : KindDecl). k.fields) d []) declared.1 in
    elim (cases_lt at (length object.fields)) [
      | inl within ↦
          let in_decl : at < length declared.0.fields = omega (arith, held.one_each) in
          let field : FieldDecl = get_or declared.0.fields at (record { name = []; ty = types.Int }) in
          let its : slice_get declared.0.fields at ≡ Some field = slice_get-get_or declared.0.fields at (record { name = []; ty = types.Int }) in_decl in
          let int : field.ty ≡ types.Int = first_before from (drop from declared.0.fields) found (ap (λ fs. first_reference from (drop from fs)) (sym fields) ∙ some) (at - from) field (drop_get from at declared.0.fields le ∙ its) (omega (arith, le, less)) in
          by (field_of object at) (subst (λ t. HasType (plain heap) t (field_of object at)) int (held.typed at field (field_of object at) its (slice_get-get_or object.fields at (Ref None) within)))
      | inr past ↦ ap target_in (get_or-eq_default object.fields (Ref None) past)
    ]
  where
    by : (v : Value) → HasType (plain heap) types.Int v → target_in v ≡ None
    by (Int n) h = refl
    by (Ref target) h = absurd h
