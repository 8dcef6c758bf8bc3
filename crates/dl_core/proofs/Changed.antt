-- What holds of a caller, carried over a change of one object.
use Rattle.std.proofs.Common.{◌≡◌, ◌≢◌, ◌⊎◌, inl, inr, ℕ, ◌≤◌, length, Option, Some, None, sym, ap, subst, ◌∙◌, arith}
use Rattle.std.specs.Prelude.{slice_get, Contains}
use Rattle.std.specs.FinMap as finite
use Rattle.dl_ir.specs.declared.modules.OpDecl.{OpDecl}
use Rattle.dl_ir.specs.declared.modules.Ty.{Ty}
use Rattle.dl_ir.specs.declared.modules.Ty.TheVariants as types
use Rattle.dl_ir.specs.declared.names.Name.{Name}
use Rattle.dl_ir.specs.declared.names.Value.{Value}
use Rattle.dl_ir.specs.declared.names.Value.TheVariants.{Int, Ref}
use Rattle.dl_ir.specs.Evaluation.{target_of}
use Rattle.dl_ir.specs.Heap.{HasObject}
use Rattle.dl_meaning.specs.Fitting.{HoldsType}
use Rattle.dl_core.specs.declared.objects.Mark.TheVariants.{Held, Sealed}
use Rattle.dl_core.specs.declared.objects.Object.{Object}
use Rattle.dl_core.specs.declared.stages.Booked.{Booked}
use Rattle.dl_core.specs.Heaps.{Heap, put_at, refs, plain, plain_object, IsHeld, IsSealed}
use Rattle.dl_core.specs.Plans.{Plan, reference_from}
use Rattle.dl_core.specs.Frames.{Book, Frame, locals_to}
use Rattle.dl_core.specs.Lawful.{HasReason, for_a_local, for_fields, for_the_list, for_the_hand}
use Rattle.dl_core.specs.Sound.{IsBooked, HasBook, IsLoose, HasLocals, IsFieldInHand, HasCleared, clears, lets_go}
use Rattle.dl_shape.proofs.Names.{names}
use Rattle.dl_core.proofs.Maps.{get_here, get_there}
use Rattle.dl_core.proofs.Names.{same_name, same_some, no_some}
use Rattle.dl_core.proofs.Typing.{plain_there}
use Rattle.dl_core.proofs.HeapTyped.{from_plain}

module _ (heap : Heap) (x : Name) (new : Option Object) (c : ℕ) where
  abbrev pub after : Heap
  after = put_at heap x new

  -- an object after the change
  pub looked : (n : Name) (object : Object) → finite.get after n ≡ Some object → ((n ≢ x) × (finite.get heap n ≡ Some object)) ⊎ ((n ≡ x) × (new ≡ Some object))
  looked n object e = elim (same_name n x) [
    | inl same ↦ inr (same, sym (get_here names heap x new) ∙ ap (finite.get after) (sym same) ∙ e)
    | inr other ↦ inl (other, sym (get_there names heap x new n other) ∙ e)
  ]

  pub names_kept : (t m : ℕ) → ((n : Name) (object : Object) → finite.get heap n ≡ Some object → n.ticket ≡ t → n.index ≤ m) → (x.ticket ≡ t → x.index ≤ m)
      → (n : Name) (object : Object) → finite.get after n ≡ Some object → n.ticket ≡ t → n.index ≤ m
  names_kept t m old here n object e z = elim (looked n object e) [
    | inl l ↦ old n object l.1 z
    | inr l ↦ omega (arith, here (ap (λ (k : Name). k.ticket) (sym l.0) ∙ z), ap (λ (k : Name). k.index) l.0)
  ]

  pub seals_kept : (t : ℕ) (P : Type 0) → ((n : Name) (object : Object) → finite.get heap n ≡ Some object → object.mark ≡ Sealed t → P) → ((b : Object) → new ≡ Some b → b.mark ≡ Sealed t → P)
      → (n : Name) (object : Object) → finite.get after n ≡ Some object → object.mark ≡ Sealed t → P
  seals_kept t P old here n object e z = elim (looked n object e) [
    | inl l ↦ old n object l.1 z
    | inr l ↦ here object l.1 z
  ]

  pub held_looked : (n : Name) → IsHeld after c n → ((n ≢ x) × IsHeld heap c n) ⊎ ((n ≡ x) × ((b : Object) × (new ≡ Some b) × (b.mark ≡ Held c)))
  held_looked n h = elim (looked n h.object h.there) [
    | inl l ↦ inl (l.0, record { object = h.object; there = l.1; held = h.held })
    | inr l ↦ inr (l.0, (h.object, l.1, h.held))
  ]

  pub held_on : (n : Name) → n ≢ x → IsHeld heap c n → IsHeld after c n
  held_on n other h = record { object = h.object; there = get_there names heap x new n other ∙ h.there; held = h.held }

  pub held_here : (b : Object) → new ≡ Some b → b.mark ≡ Held c → IsHeld after c x
  held_here b e m = record { object = b; there = get_here names heap x new ∙ e; held = m }

  pub sealed_on : (n : Name) → n ≢ x → IsSealed heap n → IsSealed after n
  sealed_on n other s = record { object = s.object; there = get_there names heap x new n other ∙ s.there; ticket = s.ticket; sealed = s.sealed }

  -- objects elsewhere keep their kinds
  pub object_on : (n : Name) (kind : ℕ) → n ≢ x → HasObject (plain heap) n kind → HasObject (plain after) n kind
  object_on n kind other h =
      let o = from_plain heap n h.object h.is_there in
      record { object = h.object; is_there = plain_there after n o.0 (get_there names heap x new n other ∙ o.1) ∙ ap Some o.2; of_kind = h.of_kind }

  -- and so does this one, where it stays
  pub object_here : (a b : Object) → finite.get heap x ≡ Some a → new ≡ Some b → b.kind ≡ a.kind → (n : Name) (kind : ℕ) → HasObject (plain heap) n kind → HasObject (plain after) n kind
  object_here a b there e same n kind h = elim (same_name n x) [
    | inr other ↦ object_on n kind other h
    | inl is ↦
        let o = from_plain heap n h.object h.is_there in
        let a_is : a ≡ o.0 = same_some (sym there ∙ ap (finite.get heap) (sym is) ∙ o.1) in
        record {
          object = plain_object b;
          is_there = plain_there after n b (ap (finite.get after) is ∙ get_here names heap x new ∙ e);
          of_kind = same ∙ ap (λ (w : Object). w.kind) a_is ∙ ap (λ w. w.kind) o.2 ∙ h.of_kind;
        }
  ]

  module _ (plan : Plan) (frame next : Frame) (same_locals : next.locals ≡ frame.locals) where
    pub locals_moved : (op : OpDecl) → HasLocals plan heap frame op → ((local : ℕ) (n : Name) (kind : ℕ) → slice_get frame.locals local ≡ Some (Ref (Some n)) → HasObject (plain heap) n kind → HasObject (plain after) n kind) → HasLocals plan after next op
    locals_moved op l stay = record {
      one_each = ap length same_locals ∙ l.one_each;
      typed = λ local ty value a b. let old : slice_get frame.locals local ≡ Some value = ap (λ ls. slice_get ls local) (sym same_locals) ∙ b in by ty value local old (l.typed local ty value a old);
    }
      where
        by : (ty : Ty) (value : Value) (local : ℕ) → slice_get frame.locals local ≡ Some value → HoldsType (plain heap) ty value → HoldsType (plain after) ty value
        by types.Int (Int n) local e h = tt
        by types.Int (Ref target) local e h = h
        by (types.Of kind) (Int n) local e h = h
        by (types.Of kind) (Ref None) local e h = tt
        by (types.Of kind) (Ref (Some n)) local e h = stay local n kind e h

    pub held_moved : ((local : ℕ) (n : Name) → slice_get frame.locals local ≡ Some (Ref (Some n)) → IsHeld heap c n) → ((local : ℕ) (n : Name) → slice_get frame.locals local ≡ Some (Ref (Some n)) → n ≢ x)
        → (local : ℕ) (n : Name) → slice_get next.locals local ≡ Some (Ref (Some n)) → IsHeld after c n
    held_moved old other local n e = let was : slice_get frame.locals local ≡ Some (Ref (Some n)) = ap (λ ls. slice_get ls local) (sym same_locals) ∙ e in held_on n (other local n was) (old local n was)

    same_count : (n : Name) → locals_to next n ≡ locals_to frame n
    same_count n = ap (λ ls. locals_to (record frame { locals = ls }) n) same_locals

    pub loose_moved : (n : Name) → n ≢ x → refs after n ≤ refs heap n → IsLoose heap c frame n → IsLoose after c next n
    loose_moved n other fewer l = record { held = held_on n other l.held; no_local = same_count n ∙ l.no_local; few_fields = omega (arith, fewer, l.few_fields) }

    pub field_moved : (local field : ℕ) → (f : IsFieldInHand heap c frame local field) → f.name ≢ x → next.hand ≡ frame.hand → IsFieldInHand after c next local field
    field_moved local field f other same_hand = record {
      name = f.name;
      is_local = ap (λ ls. target_of (slice_get ls local)) same_locals ∙ f.is_local;
      object = f.object;
      there = get_there names heap x new f.name other ∙ f.there;
      held = f.held;
      in_hand = same_hand ∙ f.in_hand;
    }

    -- a reason stays, where as many fields refer to the object
    pub reason_moved : (n : Name) → refs heap n ≤ refs after n → (Contains frame.loose n → Contains next.loose n) → (target_of frame.hand ≡ Some n → HasReason after next n) → HasReason heap frame n → HasReason after next n
    reason_moved n more list hand (for_a_local some) = for_a_local (omega (arith, some, same_count n))
    reason_moved n more list hand (for_fields several) = for_fields (omega (arith, several, more))
    reason_moved n more list hand (for_the_list has) = for_the_list (list has)
    reason_moved n more list hand (for_the_hand e) = hand e

  -- an object is cleared still
  pub cleared_moved : (plan : Plan) (frame next : Frame) (n : Name) → n ≢ x → refs after n ≡ refs heap n → next.cursor ≡ frame.cursor → next.hand ≡ frame.hand → next.seen ≡ frame.seen
      → ((m : Name) → IsSealed heap m → IsSealed after m) → HasCleared plan heap frame n → HasCleared plan after next n
  cleared_moved plan frame next n other same k h s sealed (clears object there hidden none clearing) =
      clears object (get_there names heap x new n other ∙ there) hidden (same ∙ none)
      (record {
        before = λ field less. clearing.before field (omega (arith, less, k));
        in_hand = λ value e. let got = clearing.in_hand value (sym h ∙ e) in (got.0, ap (reference_from plan object.kind) k ∙ got.1, got.2);
        seen = λ e. let got = clearing.seen (sym s ∙ e) in (got.0, h ∙ got.1, sealed got.0 got.2);
      })
  cleared_moved plan frame next n other same k h s sealed (lets_go (inl z) not_now none) = lets_go (inl z) (record { cursor = k ∙ not_now.cursor; seen = s ∙ not_now.seen }) (h ∙ none)
  cleared_moved plan frame next n other same k h s sealed (lets_go (inr z) not_now none) = lets_go (inr (same ∙ z)) (record { cursor = k ∙ not_now.cursor; seen = s ∙ not_now.seen }) (h ∙ none)

  -- ---- books

  -- the book of a caller that holds the object from now on
  pub book_with : (frame next : Frame) (b : Object) (fields : ℕ) → new ≡ Some b → b.mark ≡ Held c → next.book ≡ finite.insert frame.book x (record { kind = b.kind; fields = fields }) → fields ≡ refs after x
      → ((n : Name) → n ≢ x → refs after n ≡ refs heap n) → HasBook heap c frame → HasBook after c next
  unfolding put_at
  book_with frame next b fields e m book right same old = record {
    booked = λ n k f. elim (same_name n x) [
      | inl is ↦
          let k_is : record { kind = b.kind; fields = fields } ≡ k = same_some (sym (get_here names frame.book x (Some (record { kind = b.kind; fields = fields }))) ∙ ap (λ (bk : Book). finite.get bk x) (sym book) ∙ ap (finite.get next.book) (sym is) ∙ f) in
          subst (λ (q : Name). IsBooked after c q k) (sym is) (record {
            object = b;
            there = get_here names heap x new ∙ e;
            held = m;
            kind = ap (λ (w : Booked). w.kind) (sym k_is);
            fields = ap (λ (w : Booked). w.fields) (sym k_is) ∙ right;
          })
      | inr other ↦
          let was = old.booked n k (sym (get_there names frame.book x (Some (record { kind = b.kind; fields = fields })) n other) ∙ ap (λ (bk : Book). finite.get bk n) (sym book) ∙ f) in
          record { object = was.object; there = get_there names heap x new n other ∙ was.there; held = was.held; kind = was.kind; fields = was.fields ∙ sym (same n other) }
    ];
    all = λ n h. elim (held_looked n h) [
      | inl l ↦ let was = old.all n l.1 in (was.0, ap (λ (bk : Book). finite.get bk n) book ∙ get_there names frame.book x (Some (record { kind = b.kind; fields = fields })) n l.0 ∙ was.1)
      | inr l ↦ (record { kind = b.kind; fields = fields }, ap (finite.get next.book) l.0 ∙ ap (λ (bk : Book). finite.get bk x) book ∙ get_here names frame.book x (Some (record { kind = b.kind; fields = fields })))
    ];
  }

  -- the book of a caller that holds the object no longer
  pub book_without : (frame next : Frame) → ((b : Object) → new ≡ Some b → b.mark ≢ Held c) → next.book ≡ finite.remove frame.book x → ((n : Name) → n ≢ x → refs after n ≡ refs heap n) → HasBook heap c frame → HasBook after c next
  unfolding put_at
  book_without frame next free book same old = record {
    booked = λ n k f. elim (same_name n x) [
      | inl is ↦ absurd (no_some (sym (get_here names frame.book x None) ∙ ap (λ (bk : Book). finite.get bk x) (sym book) ∙ ap (finite.get next.book) (sym is) ∙ f))
      | inr other ↦
          let was = old.booked n k (sym (get_there names frame.book x None n other) ∙ ap (λ (bk : Book). finite.get bk n) (sym book) ∙ f) in
          record { object = was.object; there = get_there names heap x new n other ∙ was.there; held = was.held; kind = was.kind; fields = was.fields ∙ sym (same n other) }
    ];
    all = λ n h. elim (held_looked n h) [
      | inl l ↦ let was = old.all n l.1 in (was.0, ap (λ (bk : Book). finite.get bk n) book ∙ get_there names frame.book x None n l.0 ∙ was.1)
      | inr l ↦ absurd (free l.1.0 l.1.1 l.1.2)
    ];
  }
