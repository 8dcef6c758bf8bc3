-- A heap of the module stays one where a field is written or an object is made.
use Rattle.std.proofs.Common.{◌≡◌, ℕ, ◌<◌, true, false, cond, List, refl, sym, ap, subst, ◌∙◌, Some, None, arith, ◌⊎◌, inl, inr, slice_get, slice_set, length-set}
use Rattle.std.specs.Cmp.{Equal-is}
use Rattle.std.specs.Ordering.{is_eq, eq_by_cmp}
use Rattle.std.specs.FinMap as finite
use Rattle.std.specs.FinMap.{get-insert}
use Rattle.std.proofs.lemmas.Cmp.{tied_itself}
use Rattle.std.proofs.lemmas.List.{length-map}
use Rattle.std.proofs.lemmas.Option.{slice_get-map}
use Rattle.dl_ir.specs.declared.modules.FieldDecl.{FieldDecl}
use Rattle.dl_ir.specs.declared.modules.KindDecl.{KindDecl}
use Rattle.dl_ir.specs.declared.modules.Module.{Module}
use Rattle.dl_ir.specs.declared.modules.Ty.{Ty}
use Rattle.dl_ir.specs.declared.modules.Ty.TheVariants as types
use Rattle.dl_ir.specs.declared.names.Name.{Name}
use Rattle.dl_ir.specs.declared.names.Value.{Value}
use Rattle.dl_ir.specs.declared.names.Value.TheVariants as values
use Rattle.dl_ir.specs.declared.objects.Obj.{Obj}
use Rattle.dl_ir.specs.Heap.{Objects, name_cmp, blank, blank_fields, blank_object, HasObject, HasType, HasFields, IsHeapOf, IsNodeKind, IsRootOf}
use Rattle.dl_ir.proofs.NameOrder.{names_total, exact_names}
use Rattle.dl_meaning.specs.Fitting.{HoldsType}
use Rattle.dl_lemmas.proofs.Places.{set_place}

-- what was put in is there
pub inserted : (h : Objects) (k : Name) (v : Obj) → finite.get (finite.insert h k v) k ≡ Some v
inserted h k v = get-insert names_total h k v k ∙ ap (λ r. cond (is_eq r) (Some v) (finite.get h k)) (tied_itself names_total k)

-- and what has another name is as it was
pub kept : (h : Objects) (k : Name) (v : Obj) (q : Name) → (q ≡ k) ⊎ (finite.get (finite.insert h k v) q ≡ finite.get h q)
kept h k v q = elim (eq_by_cmp name_cmp q k) as (λ b. eq_by_cmp name_cmp q k ≡ b → (q ≡ k) ⊎ (finite.get (finite.insert h k v) q ≡ finite.get h q)) [
  | true ↦ λ t. inl (exact_names q k ((Equal-is (name_cmp q k)).0 t))
  | false ↦ λ t. inr (get-insert names_total h k v q ∙ ap (λ b. cond b (Some v) (finite.get h q)) t)
] refl

-- what is found is what was put in, or was there
pub looked : (h : Objects) (k : Name) (v : Obj) (q : Name) (p : Obj) → finite.get (finite.insert h k v) q ≡ Some p → ((q ≡ k) × (p ≡ v)) ⊎ (finite.get h q ≡ Some p)
looked h k v q p is = elim (kept h k v q) [
  | inl same ↦ let there = inserted h k v in let found : finite.get (finite.insert h k v) k ≡ Some p = subst (λ n. finite.get (finite.insert h k v) n ≡ Some p) same is in inl (same, cc)
  | inr other ↦ inr (sym other ∙ is)
]

-- what is there under one name is one object
one_object : (h : Objects) (a b : Name) (x y : Obj) → finite.get h a ≡ Some x → finite.get h b ≡ Some y → a ≡ b → x ≡ y
one_object h a b x y at_a at_b same = cc

-- objects stay there, of their kinds
pub record Stays (h g : Objects) : Type 0 where
  pub object : (name : Name) (kind : ℕ) → HasObject h name kind → HasObject g name kind

pub type_stays : {h g : Objects} → Stays h g → (t : Ty) (value : Value) → HasType h t value → HasType g t value
type_stays stays types.Int (values.Int n) has = tt
type_stays stays types.Int (values.Ref target) has = absurd has
type_stays stays (types.Of kind) (values.Int n) has = absurd has
type_stays stays (types.Of kind) (values.Ref None) has = tt
type_stays stays (types.Of kind) (values.Ref (Some name)) has = (has.0, stays.object name kind has.1)

pub local_stays : {h g : Objects} → Stays h g → (t : Ty) (value : Value) → HoldsType h t value → HoldsType g t value
local_stays stays types.Int (values.Int n) has = tt
local_stays stays types.Int (values.Ref target) has = absurd has
local_stays stays (types.Of kind) (values.Int n) has = absurd has
local_stays stays (types.Of kind) (values.Ref None) has = tt
local_stays stays (types.Of kind) (values.Ref (Some name)) has = stays.object name kind has

pub fields_stay : {h g : Objects} → Stays h g → (fields : List FieldDecl) (held : List Value) → HasFields h fields held → HasFields g fields held
fields_stay stays fields held has = record {
  one_each = has.one_each;
  typed = λ at field value field_is value_is. type_stays stays field.ty value (has.typed at field value field_is value_is);
}

-- the object with another value in a field
abbrev pub changed : Obj → ℕ → Value → Obj
changed object f value = record object { fields = slice_set object.fields f value }

pub stays_written : (h : Objects) (name : Name) (object : Obj) (f : ℕ) (value : Value) → finite.get h name ≡ Some object → Stays h (finite.insert h name (changed object f value))
stays_written h name object f value there = record {
  object = λ q kind has. elim (kept h name (changed object f value) q) [
    | inl same ↦ record {
      object = changed object f value;
      is_there = subst (λ n. finite.get (finite.insert h name (changed object f value)) n ≡ Some (changed object f value)) (sym same) (inserted h name (changed object f value));
      of_kind = ap (λ (o : Obj). o.kind) (one_object h name q object has.object there has.is_there (sym same)) ∙ has.of_kind;
    }
    | inr other ↦ record { object = has.object; is_there = other ∙ has.is_there; of_kind = has.of_kind }
  ];
}

-- a value of the field's type is written
pub written : (m : Module) (h : Objects) (name : Name) (object : Obj) (f : ℕ) (value : Value) → IsHeapOf m h → finite.get h name ≡ Some object
    → ((declared : KindDecl) (field : FieldDecl) → slice_get m.kinds object.kind ≡ Some declared → slice_get declared.fields f ≡ Some field → HasType h field.ty value)
    → IsHeapOf m (finite.insert h name (changed object f value))
written m h name object f value heap there right =
    let new = changed object f value in
    let stays = stays_written h name object f value there in
    record {
      roots = λ kind q is_root.
          let old = heap.roots kind q is_root in
          elim (kept h name new q) [
            | inl same ↦
                let one = one_object h name q object old.0 there old.1 (sym same) in
                (new, subst (λ n. finite.get (finite.insert h name new) n ≡ Some new) (sym same) (inserted h name new), ap (λ (o : Obj). o.kind) one ∙ old.2, ap (λ (o : Obj). o.sealed) one ∙ old.3)
            | inr other ↦ (old.0, other ∙ old.1, old.2, old.3)
          ];
      exposed = λ q p is root_ticket. elim (looked h name new q p is) [
        | inl same ↦ subst (λ (o : Obj). IsRootOf m o.kind q) (sym same.1) (heap.exposed q object (ap (finite.get h) same.0 ∙ there) root_ticket)
        | inr other ↦ heap.exposed q p other root_ticket
      ];
      hidden = λ q p is is_hidden. elim (looked h name new q p is) [
        | inl same ↦ subst (λ (o : Obj). IsNodeKind m o.kind) (sym same.1) (heap.hidden q object (ap (finite.get h) same.0 ∙ there) is_hidden)
        | inr other ↦ heap.hidden q p other is_hidden
      ];
      fields = λ q p declared is kind_is. elim (looked h name new q p is) [
        | inl same ↦
            let of_kind : slice_get m.kinds object.kind ≡ Some declared = subst (λ (o : Obj). slice_get m.kinds o.kind ≡ Some declared) same.1 kind_is in
            let old = heap.fields name object declared there of_kind in
            subst (λ (o : Obj). HasFields (finite.insert h name new) declared.fields o.fields) (sym same.1) (record {
              one_each = length-set object.fields f value ∙ old.one_each;
              typed = λ at field v field_is v_is. elim (set_place object.fields f at value v v_is) [
                | inl pair ↦
                    let field_is_it : slice_get declared.fields f ≡ Some field = ap (slice_get declared.fields) (sym pair.0) ∙ field_is in
                    subst (λ w. HasType (finite.insert h name new) field.ty w) (sym pair.1) (type_stays stays field.ty value (right declared field of_kind field_is_it))
                | inr rest ↦ type_stays stays field.ty v (old.typed at field v field_is rest)
              ];
            })
        | inr other ↦ fields_stay stays declared.fields p.fields (heap.fields q p declared other kind_is)
      ];
    }

-- what a field begins with is of its type
has_blank : (g : Objects) (t : Ty) → HasType g t (blank t)
has_blank g types.Int = tt
has_blank g (types.Of kind) = tt

blanks : (g : Objects) (fields : List FieldDecl) → HasFields g fields (blank_fields fields)
blanks g fields = record {
  one_each = length-map fields (λ (f : FieldDecl). blank f.ty);
  typed = λ at field value field_is value_is.
      let image = slice_get-map (λ (f : FieldDecl). blank f.ty) fields at in
      let is_blank : value ≡ blank field.ty = cc in
      subst (λ v. HasType g field.ty v) (sym is_blank) (has_blank g field.ty);
}

pub stays_made : (h : Objects) (k : Name) (v : Obj) → finite.get h k ≡ None → Stays h (finite.insert h k v)
stays_made h k v none = record {
  object = λ q kind has. elim (kept h k v q) [
    | inl same ↦ let there = has.is_there in let gone : finite.get h q ≡ None = ap (finite.get h) same ∙ none in cc
    | inr other ↦ record { object = has.object; is_there = other ∙ has.is_there; of_kind = has.of_kind }
  ];
}

-- a node is made under a name that is hidden and new
pub made : (m : Module) (h : Objects) (k : Name) (kind : ℕ) (node : IsNodeKind m kind) → IsHeapOf m h → finite.get h k ≡ None → 0 < k.ticket
    → IsHeapOf m (finite.insert h k (blank_object kind node.declared))
made m h k kind node heap none is_hidden =
    let v = blank_object kind node.declared in
    let stays = stays_made h k v none in
    record {
      roots = λ other_kind q is_root.
          let old = heap.roots other_kind q is_root in
          elim (kept h k v q) [
            | inl same ↦ let there = old.1 in let gone : finite.get h q ≡ None = ap (finite.get h) same ∙ none in cc
            | inr other ↦ (old.0, other ∙ old.1, old.2, old.3)
          ];
      exposed = λ q p is root_ticket. elim (looked h k v q p is) [
        | inl same ↦ absurd (omega (arith, ap (λ (n : Name). n.ticket) same.0))
        | inr other ↦ heap.exposed q p other root_ticket
      ];
      hidden = λ q p is hidden_q. elim (looked h k v q p is) [
        | inl same ↦ subst (λ (o : Obj). IsNodeKind m o.kind) (sym same.1) node
        | inr other ↦ heap.hidden q p other hidden_q
      ];
      fields = λ q p declared is kind_is. elim (looked h k v q p is) [
        | inl same ↦
            let of_kind : slice_get m.kinds kind ≡ Some declared = subst (λ (o : Obj). slice_get m.kinds o.kind ≡ Some declared) same.1 kind_is in
            let node_is = node.is_there in
            let one : node.declared ≡ declared = cc in
            subst (λ (o : Obj). HasFields (finite.insert h k v) declared.fields o.fields) (sym same.1)
            (subst (λ (d : KindDecl). HasFields (finite.insert h k v) d.fields (blank_fields node.declared.fields)) one (blanks (finite.insert h k v) node.declared.fields))
        | inr other ↦ fields_stay stays declared.fields p.fields (heap.fields q p declared other kind_is)
      ];
    }
