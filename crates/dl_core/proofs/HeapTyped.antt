-- Changes of one object after which the heap is one of the module still.
use Rattle.std.proofs.Common.{◌≡◌, ◌≢◌, ◌⊎◌, inl, inr, ℕ, false, List, Option, Some, None, refl, sym, ap, subst, ◌∙◌, arith}
use Rattle.std.specs.Prelude.{slice_get}
use Rattle.std.specs.Option.{option_map}
use Rattle.std.specs.FinMap as finite
use Rattle.std.proofs.lemmas.Option.{get_or_from_slice_get}
use Rattle.dl_ir.specs.declared.modules.KindDecl.{KindDecl}
use Rattle.dl_ir.specs.declared.modules.FieldDecl.{FieldDecl}
use Rattle.dl_ir.specs.declared.modules.Module.{Module}
use Rattle.dl_ir.specs.declared.modules.Ty.{Ty}
use Rattle.dl_ir.specs.declared.modules.Ty.TheVariants as types
use Rattle.dl_ir.specs.declared.names.Name.{Name}
use Rattle.dl_ir.specs.declared.names.Value.{Value}
use Rattle.dl_ir.specs.declared.names.Value.TheVariants.{Int, Ref}
use Rattle.dl_ir.specs.declared.objects.Obj.{Obj}
use Rattle.dl_ir.specs.Heap.{IsHeapOf, IsHidden, IsNodeKind, IsRootOf, HasObject, HasType, HasFields}
use Rattle.dl_core.specs.declared.objects.Object.{Object}
use Rattle.dl_core.specs.Heaps.{Heap, put_at, refs, plain, plain_object, is_sealed}
use Rattle.dl_shape.proofs.Names.{names}
use Rattle.dl_core.proofs.Maps.{get_here, get_there}
use Rattle.dl_core.proofs.Names.{same_name, same_some, no_some}
use Rattle.dl_core.proofs.Plain.{get_plain}
use Rattle.dl_core.proofs.Rows.{link_refs, field_links}
use Rattle.dl_core.proofs.Typing.{plain_there}

-- what is in the plain heap is in the heap
pub from_plain : (heap : Heap) (name : Name) (object : Obj) → finite.get (plain heap) name ≡ Some object → (o : Object) × (finite.get heap name ≡ Some o) × (plain_object o ≡ object)
from_plain heap name object e = by (finite.get heap name) refl (sym (get_plain heap name) ∙ e)
  where
    by : (o : Option Object) → finite.get heap name ≡ o → option_map plain_object (finite.get heap name) ≡ Some object → (o : Object) × (finite.get heap name ≡ Some o) × (plain_object o ≡ object)
    by None p q = absurd (no_some (sym (ap (option_map plain_object) p) ∙ q))
    by (Some o) p q = (o, p, same_some (sym (ap (option_map plain_object) p) ∙ q))

module _ (source : Module) (heap : Heap) (name : Name) where
  -- how an object may change
  pub data MayChange : Option Object → Option Object → Type 0 where
    changes : (a b : Object) → b.kind ≡ a.kind → (name.ticket ≡ 0 → is_sealed b.mark ≡ is_sealed a.mark)
        → ((declared : KindDecl) → slice_get source.kinds a.kind ≡ Some declared → HasFields (plain heap) declared.fields a.fields → HasFields (plain heap) declared.fields b.fields) → MayChange (Some a) (Some b)
    goes : (a : Object) → IsHidden name → refs heap name ≡ 0 → MayChange (Some a) None
    comes : (b : Object) → IsHidden name → IsNodeKind source b.kind → ((declared : KindDecl) → slice_get source.kinds b.kind ≡ Some declared → HasFields (plain heap) declared.fields b.fields) → MayChange None (Some b)

  module _ (is : IsHeapOf source (plain heap)) (new : Option Object) where
    abbrev after : Heap
    after = put_at heap name new

    -- an object after the change, elsewhere or here
    look : (q : Name) (object : Obj) → finite.get (plain after) q ≡ Some object → ((q ≢ name) × (finite.get (plain heap) q ≡ Some object)) ⊎ ((q ≡ name) × ((o : Object) × (new ≡ Some o) × (plain_object o ≡ object)))
    look q object e =
        let o = from_plain after q object e in
        elim (same_name q name) [
          | inl same ↦ inr (same, (o.0, sym (get_here names heap name new) ∙ ap (finite.get after) (sym same) ∙ o.1, o.2))
          | inr other ↦ inl (other, plain_there heap q o.0 (sym (get_there names heap name new q other) ∙ o.1) ∙ ap Some o.2)
        ]

    there_after : (q : Name) (object : Obj) → q ≢ name → finite.get (plain heap) q ≡ Some object → finite.get (plain after) q ≡ Some object
    there_after q object other e = let o = from_plain heap q object e in plain_there after q o.0 (get_there names heap name new q other ∙ o.1) ∙ ap Some o.2

    here_after : (b : Object) → new ≡ Some b → finite.get (plain after) name ≡ Some (plain_object b)
    here_after b e = plain_there after name b (get_here names heap name new ∙ e)

    -- objects that are there still have their kinds
    abbrev Stays : Type 0
    Stays = (q : Name) (kind : ℕ) → HasObject (plain heap) q kind → HasObject (plain after) q kind

    stays_if : ((kind : ℕ) → HasObject (plain heap) name kind → HasObject (plain after) name kind) → Stays
    stays_if here q kind has = elim (same_name q name) [
      | inl same ↦ subst (λ n. HasObject (plain after) n kind) (sym same) (here kind (subst (λ n. HasObject (plain heap) n kind) same has))
      | inr other ↦ record { object = has.object; is_there = there_after q has.object other has.is_there; of_kind = has.of_kind }
    ]

    type_stays : Stays → (ty : Ty) (value : Value) → HasType (plain heap) ty value → HasType (plain after) ty value
    type_stays stays types.Int (Int n) h = tt
    type_stays stays types.Int (Ref t) h = h
    type_stays stays (types.Of kind) (Int n) h = h
    type_stays stays (types.Of kind) (Ref None) h = tt
    type_stays stays (types.Of kind) (Ref (Some q)) h = (h.0, stays q kind h.1)

    fields_stay : Stays → (fields : List FieldDecl) (values : List Value) → HasFields (plain heap) fields values → HasFields (plain after) fields values
    fields_stay stays fields values h = record { one_each = h.one_each; typed = λ at field value a b. type_stays stays field.ty value (h.typed at field value a b) }

    heap_is : Stays → ((kind : ℕ) → IsRootOf source kind name → (object : Obj) × (finite.get (plain after) name ≡ Some object) × (object.kind ≡ kind) × (object.sealed ≡ false))
        → ((b : Object) → new ≡ Some b → name.ticket ≡ 0 → IsRootOf source b.kind name) → ((b : Object) → new ≡ Some b → IsHidden name → IsNodeKind source b.kind)
        → ((b : Object) → new ≡ Some b → (declared : KindDecl) → slice_get source.kinds b.kind ≡ Some declared → HasFields (plain heap) declared.fields b.fields) → IsHeapOf source (plain after)
    heap_is stays root exposed hidden fields = record {
      roots = λ kind q root_is. elim (same_name q name) [
        | inl same ↦ subst (λ n. (object : Obj) × (finite.get (plain after) n ≡ Some object) × (object.kind ≡ kind) × (object.sealed ≡ false)) (sym same) (root kind (subst (IsRootOf source kind) same root_is))
        | inr other ↦ let old = is.roots kind q root_is in (old.0, there_after q old.0 other old.1, old.2, old.3)
      ];
      exposed = λ q object e z. elim (look q object e) [
        | inl old ↦ is.exposed q object old.1 z
        | inr now ↦ subst (λ n. IsRootOf source object.kind n) (sym now.0) (subst (λ (o : Obj). IsRootOf source o.kind name) now.1.2 (exposed now.1.0 now.1.1 (ap (λ (n : Name). n.ticket) (sym now.0) ∙ z)))
      ];
      hidden = λ q object e z. elim (look q object e) [
        | inl old ↦ is.hidden q object old.1 z
        | inr now ↦ subst (λ (o : Obj). IsNodeKind source o.kind) now.1.2 (hidden now.1.0 now.1.1 (subst IsHidden now.0 z))
      ];
      fields = λ q object declared e kind_is. elim (look q object e) [
        | inl old ↦ fields_stay stays declared.fields object.fields (is.fields q object declared old.1 kind_is)
        | inr now ↦
            subst (λ (o : Obj). HasFields (plain after) declared.fields o.fields) now.1.2
            (fields_stay stays declared.fields now.1.0.fields (fields now.1.0 now.1.1 declared (ap (λ (o : Obj). slice_get source.kinds o.kind) now.1.2 ∙ kind_is)))
      ];
    }

    -- what is given up is referred to by nothing
    unreferred : (a : Object) → finite.get heap name ≡ Some a → IsHidden name → refs heap name ≡ 0 → new ≡ None → IsHeapOf source (plain after)
    unreferred a there hidden none e = record {
      roots = λ kind q root_is.
          let old = is.roots kind q root_is in
          (old.0, there_after q old.0 (λ same. omega (arith, hidden, root_is.ticket, ap (λ (n : Name). n.ticket) same)) old.1, old.2, old.3);
      exposed = λ q object f z. is.exposed q object (was q object f) z;
      hidden = λ q object f z. is.hidden q object (was q object f) z;
      fields = λ q object declared f kind_is.
          let old = is.fields q object declared (was q object f) kind_is in
          let o = from_plain heap q object (was q object f) in
          record {
            one_each = old.one_each;
            typed = λ at field value a' b'. type_left field.ty value (λ same. absurd (omega (arith, none, link_refs heap q name (field_links heap q name o.0 at o.1 (get_or_from_slice_get o.0.fields at value (Ref None) (ap (λ (x : Obj). slice_get x.fields at) o.2 ∙ b') ∙ same))))) (old.typed at field value a' b');
          };
    }
      where
        was : (q : Name) (object : Obj) → finite.get (plain after) q ≡ Some object → finite.get (plain heap) q ≡ Some object
        was q object f = elim (look q object f) [
          | inl old ↦ old.1
          | inr now ↦ absurd (no_some (sym e ∙ now.1.1))
        ]

        type_left : (ty : Ty) (value : Value) → (value ≡ Ref (Some name) → ⊥) → HasType (plain heap) ty value → HasType (plain after) ty value
        type_left types.Int (Int n) other h = tt
        type_left types.Int (Ref t) other h = h
        type_left (types.Of kind) (Int n) other h = h
        type_left (types.Of kind) (Ref None) other h = tt
        type_left (types.Of kind) (Ref (Some q)) other h = (h.0, record { object = h.1.object; is_there = there_after q h.1.object (λ same. other (ap (λ n. Ref (Some n)) same)) h.1.is_there; of_kind = h.1.of_kind })

    -- after such a change the heap is one of the module
    pub heap_kept : (old : Option Object) → finite.get heap name ≡ old → MayChange old new → IsHeapOf source (plain after)
    heap_kept old there m = by old new there m refl
      where
        by : (o o' : Option Object) → finite.get heap name ≡ o → MayChange o o' → new ≡ o' → IsHeapOf source (plain after)
        by o o' p (goes a hidden none) e = unreferred a p hidden none e
        by o o' p (changes a b kind sealed fields) e =
            let of_new = λ (P : Object → Type 0) (b' : Object) (f : new ≡ Some b') (h : P b). subst P (same_some (sym e ∙ f)) h in
            heap_is
            (stays_if (λ k has. record { object = plain_object b; is_there = here_after b e; of_kind = kind ∙ ap (λ (x : Obj). x.kind) (same_some (sym (plain_there heap name a p) ∙ has.is_there)) ∙ has.of_kind }))
            (λ k root.
            let was = is.roots k name root in
            let same : plain_object a ≡ was.0 = same_some (sym (plain_there heap name a p) ∙ was.1) in
            (plain_object b, here_after b e, kind ∙ ap (λ (x : Obj). x.kind) same ∙ was.2, sealed root.ticket ∙ ap (λ (x : Obj). x.sealed) same ∙ was.3))
            (λ b' f z. of_new (λ x. IsRootOf source x.kind name) b' f (subst (λ k. IsRootOf source k name) (sym kind) (is.exposed name (plain_object a) (plain_there heap name a p) z)))
            (λ b' f z. of_new (λ x. IsNodeKind source x.kind) b' f (subst (IsNodeKind source) (sym kind) (is.hidden name (plain_object a) (plain_there heap name a p) z)))
            (λ b' f declared g.
            let b_is : b' ≡ b = same_some (sym f ∙ e) in
            let declared_is : slice_get source.kinds a.kind ≡ Some declared = ap (slice_get source.kinds) (sym kind) ∙ ap (λ (x : Object). slice_get source.kinds x.kind) (sym b_is) ∙ g in
            subst (λ (x : Object). HasFields (plain heap) declared.fields x.fields) (sym b_is) (fields declared declared_is (is.fields name (plain_object a) declared (plain_there heap name a p) declared_is)))
        by o o' p (comes b hidden node fields) e =
            let none_there = λ (k : ℕ) (has : HasObject (plain heap) name k). no_some (sym (get_plain heap name ∙ ap (option_map plain_object) p) ∙ has.is_there) in
            heap_is (stays_if (λ k has. absurd (none_there k has)))
            (λ k root. absurd (omega (arith, hidden, root.ticket)))
            (λ b' f z. absurd (omega (arith, hidden, z)))
            (λ b' f z. subst (λ (x : Object). IsNodeKind source x.kind) (same_some (sym e ∙ f)) node)
            (λ b' f declared g. let b_is : b' ≡ b = same_some (sym f ∙ e) in subst (λ (x : Object). HasFields (plain heap) declared.fields x.fields) (sym b_is) (fields declared (ap (λ (x : Object). slice_get source.kinds x.kind) (sym b_is) ∙ g)))
