-- What a state that fits has at each place, and which changes keep it fitting.
use Rattle.std.proofs.Common.{◌≡◌, ℕ, ◌+◌, ◌≤◌, ℤ, Bool, true, false, List, refl, sym, ap, subst, ◌∙◌, Option, Some, None, arith, inl, inr, slice_get, slice_set, length-set}
use Rattle.std.specs.FinMap as finite
use Rattle.std.proofs.lemmas.Bool.{cases_eq}
use Rattle.dl_ir.specs.declared.modules.KindDecl.{KindDecl}
use Rattle.dl_ir.specs.declared.modules.Module.{Module}
use Rattle.dl_ir.specs.declared.modules.Ty.{Ty}
use Rattle.dl_ir.specs.declared.modules.Ty.TheVariants as types
use Rattle.dl_ir.specs.declared.names.Name.{Name}
use Rattle.dl_ir.specs.declared.names.Value.{Value}
use Rattle.dl_ir.specs.declared.names.Value.TheVariants as values
use Rattle.dl_ir.specs.declared.objects.Obj.{Obj}
use Rattle.dl_ir.specs.Heap.{Objects, HasObject, HasType, IsHeapOf, IsNodeKind, blank_object, with_field_of}
use Rattle.dl_ir.specs.Meaning.{Context, State, set_local, set_field, take_turn, add_emitted, make, next_name, object_of}
use Rattle.dl_ir.specs.Relation as relation
use Rattle.dl_ir.specs.Relation.{RefersTo, HasField, IsOpen, IsSealed}
use Rattle.dl_meaning.specs.Fitting.{Fits, HoldsType}
use Rattle.dl_ir.specs.Typed.{HasFieldOf, IsLocalOf}
use Rattle.dl_meaning.proofs.Heaps.{local_stays, changed, stays_written, written, stays_made, made, looked, inserted}
use Rattle.dl_lemmas.proofs.Places.{same_place, set_place}

-- what is of a reference's type is a reference
record IsReference (h : Objects) (kind : ℕ) (value : Value) : Type 0 where
  target : Option Name
  is : value ≡ values.Ref target
  holds : HoldsType h (types.Of kind) (values.Ref target)

reference_of : (h : Objects) (kind : ℕ) (value : Value) → HoldsType h (types.Of kind) value → IsReference h kind value
reference_of h kind (values.Int n) has = absurd has
reference_of h kind (values.Ref target) has = record { target = target; is = refl; holds = has }

-- what a local refers to
pub record Refers (s : State) (p kind : ℕ) : Type 0 where
  pub target : Option Name
  pub refers : RefersTo s p target
  pub holds : HoldsType s.objects (types.Of kind) (values.Ref target)

pub reference_at : {cx : Context} {locals : List Ty} {s : State} {p kind : ℕ} → Fits cx locals s → IsLocalOf locals p kind → Refers s p kind
reference_at {locals = locals} {s = s} {p = p} {kind = kind} fits is =
    let place = same_place locals s.locals p (types.Of kind) (sym fits.one_each) is in
    let found = reference_of s.objects kind place.0 (fits.typed p (types.Of kind) place.0 is place.1) in
    record { target = found.target; refers = place.1 ∙ ap Some found.is; holds = found.holds }

-- a local is null or names an object
by_target : {P : Type 0} (s : State) (p kind : ℕ) (target : Option Name) → RefersTo s p target → HoldsType s.objects (types.Of kind) (values.Ref target)
    → (RefersTo s p None → P) → ((name : Name) → RefersTo s p (Some name) → HasObject s.objects name kind → P) → P
by_target s p kind None refers holds at_null at_name = at_null refers
by_target s p kind (Some name) refers holds at_null at_name = at_name name refers holds

pub at_reference : {P : Type 0} {cx : Context} {locals : List Ty} {s : State} {kind : ℕ} (p : ℕ) → Fits cx locals s → IsLocalOf locals p kind
    → (RefersTo s p None → P) → ((name : Name) → RefersTo s p (Some name) → HasObject s.objects name kind → P) → P
at_reference {s = s} {kind = kind} p fits is at_null at_name =
    let found : Refers s p kind = reference_at fits is in by_target s p kind found.target found.refers found.holds at_null at_name

-- what a field holds
record Holds (s : State) (name : Name) (f : ℕ) (t : Ty) : Type 0 where
  value : Value
  has : HasField s name f value
  of_type : HasType s.objects t value

field_at : {cx : Context} {locals : List Ty} {s : State} {name : Name} {kind f : ℕ} {t : Ty} → Fits cx locals s → HasObject s.objects name kind → HasFieldOf cx.source kind f t
    → Holds s name f t
field_at {cx = cx} {s = s} {name = name} {kind = kind} {f = f} {t = t} fits there has =
    let kind_is : slice_get cx.source.kinds there.object.kind ≡ Some has.declared = ap (slice_get cx.source.kinds) there.of_kind ∙ has.is_there in
    let fields = fits.heap.fields name there.object has.declared there.is_there kind_is in
    let place = same_place has.declared.fields there.object.fields f has.field (sym fields.one_each) has.is_its_field in
    record {
      value = place.0;
      has = rw there.is_there place.1;
      of_type = subst (λ k. HasType s.objects k place.0) has.of_type (fields.typed f has.field place.0 has.is_its_field place.1);
    }

-- a field that is a number
pub record HoldsNumber (s : State) (name : Name) (f : ℕ) : Type 0 where
  pub number : ℤ
  pub has : HasField s name f (values.Int number)

number_from : (s : State) (name : Name) (f : ℕ) (value : Value) → HasField s name f value → HasType s.objects types.Int value → HoldsNumber s name f
number_from s name f (values.Int n) has of_type = record { number = n; has = has }
number_from s name f (values.Ref target) has of_type = absurd of_type

pub number_at : {cx : Context} {locals : List Ty} {s : State} {name : Name} {kind f : ℕ} → Fits cx locals s → HasObject s.objects name kind
    → HasFieldOf cx.source kind f types.Int → HoldsNumber s name f
number_at {s = s} {name = name} {f = f} fits there has = let found = field_at fits there has in number_from s name f found.value found.has found.of_type

-- a field that is a reference
pub record HoldsReference (s : State) (name : Name) (f kind : ℕ) : Type 0 where
  pub target : Option Name
  pub has : HasField s name f (values.Ref target)
  pub of_type : HasType s.objects (types.Of kind) (values.Ref target)

reference_from : (s : State) (name : Name) (f kind : ℕ) (value : Value) → HasField s name f value → HasType s.objects (types.Of kind) value → HoldsReference s name f kind
reference_from s name f kind (values.Int n) has of_type = absurd of_type
reference_from s name f kind (values.Ref target) has of_type = record { target = target; has = has; of_type = of_type }

pub target_at : {cx : Context} {locals : List Ty} {s : State} {name : Name} {other kind f : ℕ} → Fits cx locals s → HasObject s.objects name other
    → HasFieldOf cx.source other f (types.Of kind) → HoldsReference s name f kind
target_at {s = s} {name = name} {kind = kind} {f = f} fits there has = let found = field_at fits there has in reference_from s name f kind found.value found.has found.of_type

-- what a field refers to, a local may hold
pub to_local : (h : Objects) (kind : ℕ) (target : Option Name) → HasType h (types.Of kind) (values.Ref target) → HoldsType h (types.Of kind) (values.Ref target)
to_local h kind None has = tt
to_local h kind (Some name) has = has.1

-- what a local of a node kind refers to, a field may hold
pub to_field : (m : Module) (h : Objects) (kind : ℕ) (target : Option Name) → IsHeapOf m h → IsNodeKind m kind → HoldsType h (types.Of kind) (values.Ref target)
    → HasType h (types.Of kind) (values.Ref target)
to_field m h kind None heap node has = tt
to_field m h kind (Some name) heap node has = elim (cases_eq name.ticket 0) [
  | inl zero_ticket ↦
      let root = heap.exposed name has.object has.is_there zero_ticket in
      let declared : slice_get m.kinds kind ≡ Some root.declared = ap (slice_get m.kinds) (sym has.of_kind) ∙ root.is_there in
      let node_is = node.is_there in
      let one : root.declared ≡ node.declared = cc in
      let root_is : node.declared.is_root ≡ true = ap (λ (d : KindDecl). d.is_root) (sym one) ∙ root.is_root in
      let node_not = node.is_node in
      cc
  | inr hidden ↦ (omega (arith, hidden), has)
]

-- a target is null, or unsealed, or sealed
by_mark : {P : Type 0} (s : State) (name : Name) (object : Obj) (mark : Bool) → finite.get s.objects name ≡ Some object → object.sealed ≡ mark
    → (IsOpen s (Some name) → P) → (IsSealed s name → P) → P
by_mark s name object false there is at_open at_marked = at_open (relation.unsealed there is)
by_mark s name object true there is at_open at_marked = at_marked (record { object = object; there = there; sealed = is })

pub by_open : {P : Type 0} (s : State) (holder : Name) (f kind : ℕ) (target : Option Name) → HasField s holder f (values.Ref target) → HasType s.objects (types.Of kind) (values.Ref target)
    → (IsOpen s target → P) → ((name : Name) → HasField s holder f (values.Ref (Some name)) → IsSealed s name → P) → P
by_open s holder f kind None has of_type at_open at_marked = at_open relation.nothing
by_open s holder f kind (Some name) has of_type at_open at_marked =
    by_mark s name of_type.1.object of_type.1.object.sealed of_type.1.is_there refl at_open (at_marked name has)

-- a local gets a value of its type
pub fits_local : {cx : Context} {locals : List Ty} {s : State} (x : ℕ) (t : Ty) (value : Value) → Fits cx locals s → slice_get locals x ≡ Some t → HoldsType s.objects t value
    → Fits cx locals (set_local x value s)
fits_local {locals = locals} {s = s} x t value fits is has = record {
  one_each = length-set s.locals x value ∙ fits.one_each;
  typed = λ y u v u_is v_is. elim (set_place s.locals x y value v v_is) [
    | inl same ↦
        let again : slice_get locals x ≡ Some u = ap (slice_get locals) (sym same.0) ∙ u_is in
        let one : t ≡ u = cc in
        subst (λ k. HoldsType s.objects k v) one (subst (λ w. HoldsType s.objects t w) (sym same.1) has)
    | inr other ↦ fits.typed y u v u_is other
  ];
  heap = fits.heap;
  ticket = fits.ticket;
  not_later = fits.not_later;
  fresh = fits.fresh;
}

-- a turn is taken
pub fits_turn : {cx : Context} {locals : List Ty} {s : State} → Fits cx locals s → Fits cx locals (take_turn s)
fits_turn fits = record { one_each = fits.one_each; typed = fits.typed; heap = fits.heap; ticket = fits.ticket; not_later = fits.not_later; fresh = fits.fresh }

-- a number is emitted
pub fits_emitted : {cx : Context} {locals : List Ty} {s : State} (number : ℤ) → Fits cx locals s → Fits cx locals (add_emitted number s)
fits_emitted number fits = record { one_each = fits.one_each; typed = fits.typed; heap = fits.heap; ticket = fits.ticket; not_later = fits.not_later; fresh = fits.fresh }

-- a field gets a value of its type
pub fits_field : {cx : Context} {locals : List Ty} {s : State} {name : Name} {kind f : ℕ} {t : Ty} (value : Value) → Fits cx locals s → HasObject s.objects name kind
    → HasFieldOf cx.source kind f t → HasType s.objects t value → Fits cx locals (set_field name f value s)
fits_field {cx = cx} {locals = locals} {s = s} {name = name} {kind = kind} {f = f} {t = t} value fits there has of_type =
    let new = changed there.object f value in
    let stays = stays_written s.objects name there.object f value there.is_there in
    let kind_is : slice_get cx.source.kinds there.object.kind ≡ Some has.declared = ap (slice_get cx.source.kinds) there.of_kind ∙ has.is_there in
    let after : Fits cx locals (record s { objects = finite.insert s.objects name new }) = record {
      one_each = fits.one_each;
      typed = λ x u v u_is v_is. local_stays stays u v (fits.typed x u v u_is v_is);
      heap = written cx.source s.objects name there.object f value fits.heap there.is_there (λ declared field declared_is field_is.
          let its_field = has.is_its_field in
          let one : has.declared ≡ declared = cc in
          let same_fields : slice_get declared.fields f ≡ Some has.field = ap (λ (d : KindDecl). slice_get d.fields f) (sym one) ∙ its_field in
          let one_field : has.field ≡ field = cc in
          subst (λ k. HasType s.objects k value) (sym has.of_type ∙ ap (λ d. d.ty) one_field) of_type);
      ticket = fits.ticket;
      not_later = λ q p is. elim (looked s.objects name new q p is) [
        | inl same ↦ fits.not_later q there.object (ap (finite.get s.objects) same.0 ∙ there.is_there)
        | inr other ↦ fits.not_later q p other
      ];
      fresh = λ q p is own. elim (looked s.objects name new q p is) [
        | inl same ↦ fits.fresh q there.object (ap (finite.get s.objects) same.0 ∙ there.is_there) own
        | inr other ↦ fits.fresh q p other own
      ];
    } in
    subst (λ h. Fits cx locals (record s { objects = h })) (sym (ap (with_field_of s.objects name f value) there.is_there)) after

-- a name that is not there has no object
not_there : (r : Option Obj) → ((object : Obj) → r ≡ Some object → ⊥) → r ≡ None
not_there None none = refl
not_there (Some object) none = absurd (none object refl)

-- a node is made
pub fits_new : {cx : Context} {locals : List Ty} {s : State} {kind : ℕ} (p : ℕ) → Fits cx locals s → IsLocalOf locals p kind → IsNodeKind cx.source kind → Fits cx locals (make cx p kind s)
fits_new {cx = cx} {locals = locals} {s = s} {kind = kind} p fits is node =
    let name = next_name cx s in
    let new = blank_object kind node.declared in
    let none : finite.get s.objects name ≡ None = not_there (finite.get s.objects name) (λ object there.
    let early : s.made + 1 ≤ s.made = fits.fresh name object there refl in omega (arith, early)) in
    let stays = stays_made s.objects name new none in
    let grown : Fits cx locals (record { locals = s.locals; objects = finite.insert s.objects name new; turns = s.turns; made = s.made + 1; emitted = s.emitted }) = record {
      one_each = fits.one_each;
      typed = λ x u v u_is v_is. local_stays stays u v (fits.typed x u v u_is v_is);
      heap = made cx.source s.objects name kind node fits.heap none fits.ticket;
      ticket = fits.ticket;
      not_later = λ q o there. elim (looked s.objects name new q o there) [
        | inl same ↦ let own = ap (λ (n : Name). n.ticket) same.0 in omega (arith, own)
        | inr other ↦ fits.not_later q o other
      ];
      fresh = λ q o there own. elim (looked s.objects name new q o there) [
        | inl same ↦ omega (arith, ap (λ (n : Name). n.index) same.0)
        | inr other ↦ omega (arith, fits.fresh q o other own)
      ];
    } in
    let after = fits_local p (types.Of kind) (values.Ref (Some name)) grown is (record { object = new; is_there = inserted s.objects name new; of_kind = refl }) in
    subst (λ r. Fits cx locals (record { locals = slice_set s.locals p (values.Ref (Some name)); objects = finite.insert s.objects name (object_of kind r); turns = s.turns; made = s.made + 1; emitted = s.emitted }))
    (sym node.is_there) after
