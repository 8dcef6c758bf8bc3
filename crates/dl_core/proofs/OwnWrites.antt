-- Each write of a caller that has entered keeps what holds of that caller.
use Rattle.std.proofs.Common.{◌≡◌, ◌≢◌, ◌⊎◌, inl, inr, ℕ, ◌+◌, ◌-◌, ◌<◌, ◌≤◌, Bool, true, false, cond, List, [], ◌∷◌, length, get_or, Option, Some, None, refl, sym, ap, subst, ◌∙◌, arith}
use Rattle.std.specs.Prelude.{slice_get, slice_set}
use Rattle.std.specs.Option.{option_map}
use Rattle.std.specs.FinMap as finite
use Rattle.std.proofs.lemmas.Bool.{cases_lt, cases_Bool}
use Rattle.std.proofs.lemmas.List.{length-set, get_or-set_same, get_or-set_other}
use Rattle.std.proofs.lemmas.Option.{slice_get-get_or, slice_get_within}
use Rattle.dl_ir.specs.declared.modules.FieldDecl.{FieldDecl}
use Rattle.dl_ir.specs.declared.modules.KindDecl.{KindDecl}
use Rattle.dl_ir.specs.declared.modules.Ty.{Ty}
use Rattle.dl_ir.specs.declared.modules.Ty.TheVariants as types
use Rattle.dl_ir.specs.declared.names.Name.{Name}
use Rattle.dl_ir.specs.declared.names.Value.{Value}
use Rattle.dl_ir.specs.declared.names.Value.TheVariants.{Int, Ref}
use Rattle.dl_ir.specs.Evaluation.{target_of}
use Rattle.dl_ir.specs.Heap.{IsHeapOf, HasType, HasFields}
use Rattle.dl_ir.specs.References.{refers_to, target_in}
use Rattle.dl_ir.specs.Typed.{IsLocalOf, HasFieldOf, types_of}
use Rattle.dl_instr.specs.declared.steps.Step.TheVariants.{Write}
use Rattle.dl_instr.specs.declared.steps.Content.{Content}
use Rattle.dl_core.specs.declared.objects.Mark.TheVariants.{Held, Sealed}
use Rattle.dl_core.specs.declared.objects.Object.{Object}
use Rattle.dl_core.specs.declared.stages.Booked.{Booked}
use Rattle.dl_core.specs.declared.stages.Stage.TheVariants as stages
use Rattle.dl_core.specs.Codes as codes
use Rattle.dl_core.specs.Codes.{FitsContent}
use Rattle.dl_core.specs.Heaps.{Heap, put_at, refs, field_of, plain, plain_object, IsHeld}
use Rattle.dl_core.specs.Plans.{Plan, IsPlan, source_of, steps_of, reference_from}
use Rattle.dl_core.specs.Frames.{Book, Frame, recounted, raised, lowered, loosened, target_at, target_in_hand, value_in_hand}
use Rattle.dl_core.specs.LocalSteps.{content_of}
use Rattle.dl_core.specs.Core.{Core, frame_of}
use Rattle.dl_core.specs.Reached.{Calls}
use Rattle.dl_core.specs.Lawful.{IsLawful, HasReason, for_a_local, for_fields, for_the_list, for_the_hand}
use Rattle.dl_core.specs.Sound.{IsSound, IsBooked, HasBook, IsFieldInHand, HandBefore, HandAt, HasCleared, clears, IsNotClearing, StandsOpen}
use Rattle.dl_shape.proofs.Names.{names}
use Rattle.dl_core.proofs.Maps.{get_here, get_there}
use Rattle.dl_core.proofs.Names.{same_name, same_named, name_itself, same_some, no_some}
use Rattle.dl_core.proofs.Counts.{refs_write}
use Rattle.dl_core.proofs.Kept.{same_loosened}
use Rattle.dl_core.proofs.Why.{IsAtStep, IsGivenUp}
use Rattle.dl_core.proofs.Rows.{target_held, target_value, link_refs, field_links}
use Rattle.dl_core.proofs.Typing.{plain_there, no_reference_before}
use Rattle.dl_core.proofs.Course.{IsGoing, loosen}
use Rattle.dl_core.proofs.GoesOn.{tidy_hand, next_open, kind_of_local}
use Rattle.dl_core.proofs.HeapTyped.{changes, heap_kept}
use Rattle.dl_core.proofs.HiddenCount.{hidden_same}
use Rattle.dl_core.proofs.Events.{Works, local_hidden, hand_before, cleared, cleared_hand, IsCleared, WriteFits, write_fits}
use Rattle.dl_core.proofs.Own.{Keeps, going_now}
use Rattle.dl_core.proofs.Changed as changed
use Rattle.dl_lemmas.proofs.Places.{set_place}
use Rattle.std.proofs.Math.ListN.{get_or-eq_default}

held_sealed : {c t : ℕ} → Held c ≡ Sealed t → ⊥
held_sealed e = cc

-- ---- books counted anew

target_is : (o : Option Name) (n : Name) → (o ≡ Some n) ⊎ (o ≡ Some n → ⊥)
target_is None n = inr (λ e. no_some e)
target_is (Some m) n = elim (same_name m n) [
  | inl same ↦ inl (ap Some same)
  | inr other ↦ inr (λ e. other (same_some e))
]

-- an entry of a book after a change of its count
record Recounted (change : ℕ → ℕ) (target : Option Name) (n : Name) (before after : Booked) : Type 0 where
  pub kind : after.kind ≡ before.kind
  pub here : target ≡ Some n → after.fields ≡ change before.fields
  pub elsewhere : (target ≡ Some n → ⊥) → after.fields ≡ before.fields

itself : (change : ℕ → ℕ) (target : Option Name) (n : Name) (k : Booked) → (target ≡ Some n → ⊥) → Recounted change target n k k
itself change target n k other = record { kind = refl; here = λ e. absurd (other e); elsewhere = λ f. refl }

recounted_back : (change : ℕ → ℕ) (target : Option Name) (book : Book) (n : Name) (k' : Booked) → finite.get (recounted change target book) n ≡ Some k'
    → (k : Booked) × (finite.get book n ≡ Some k) × Recounted change target n k k'
recounted_back change None book n k' e = (k', e, itself change None n k' (λ f. no_some f))
recounted_back change (Some m) book n k' e = elim (same_name n m) [
  | inr other ↦ (k', sym (get_there names book m (option_map (λ (b : Booked). record b { fields = change b.fields }) (finite.get book m)) n other) ∙ e, itself change (Some m) n k' (λ f. other (sym (same_some f))))
  | inl same ↦ by same (finite.get book m) refl (sym (get_here names book m (option_map (λ (b : Booked). record b { fields = change b.fields }) (finite.get book m))) ∙ ap (finite.get (recounted change (Some m) book)) (sym same) ∙ e)
]
  where
    by : n ≡ m → (o : Option Booked) → finite.get book m ≡ o → option_map (λ (b : Booked). record b { fields = change b.fields }) o ≡ Some k' → (k : Booked) × (finite.get book n ≡ Some k) × Recounted change (Some m) n k k'
    by same None p q = absurd (no_some q)
    by same (Some k) p q = (
      k,
      ap (finite.get book) same ∙ p,
      record {
        kind = ap (λ (b : Booked). b.kind) (sym (same_some q));
        here = λ e'. ap (λ (b : Booked). b.fields) (sym (same_some q));
        elsewhere = λ other. absurd (other (ap Some (sym same)));
      },
    )

recounted_on : (change : ℕ → ℕ) (target : Option Name) (book : Book) (n : Name) (k : Booked) → finite.get book n ≡ Some k → (k' : Booked) × (finite.get (recounted change target book) n ≡ Some k')
recounted_on change None book n k e = (k, e)
recounted_on change (Some m) book n k e = elim (same_name n m) [
  | inr other ↦ (k, get_there names book m (option_map (λ (b : Booked). record b { fields = change b.fields }) (finite.get book m)) n other ∙ e)
  | inl same ↦ (
    record k { fields = change k.fields },
    ap (finite.get (recounted change (Some m) book)) same ∙ get_here names book m (option_map (λ (b : Booked). record b { fields = change b.fields }) (finite.get book m))
        ∙ ap (option_map (λ (b : Booked). record b { fields = change b.fields })) (ap (finite.get book) (sym same) ∙ e),
  )
]

-- 1 where a value refers to a name
count_yes : (v : Value) (n : Name) → target_in v ≡ Some n → ◌≡◌ {A = ℕ} (cond (refers_to n v) 1 0) 1
count_yes v n e = ap {B = ℕ} (λ b. cond b 1 0) (ap (refers_to n) (target_value v n e) ∙ name_itself n)

count_no : (v : Value) (n : Name) → (target_in v ≡ Some n → ⊥) → ◌≡◌ {A = ℕ} (cond (refers_to n v) 1 0) 0
count_no (Int k) n other = refl
count_no (Ref None) n other = refl
count_no (Ref (Some m)) n other = elim (cases_Bool (refers_to n (Ref (Some m)))) [
  | inr f ↦ ap {B = ℕ} (λ b. cond b 1 0) f
  | inl t ↦ absurd (other (ap Some (sym (same_named n m t))))
]

module _ (plan : Plan) (core : Core) (calls : Calls) (caller : ℕ) (is : IsPlan plan) (lawful : IsLawful plan core calls) (sound : IsSound plan core calls) where
  abbrev heap : Heap
  heap = core.world.heap

  abbrev frame : Frame
  frame = frame_of core.world caller

  abbrev Entered : Type 0
  Entered = Works plan core calls caller is lawful sound

  going : (w : Entered) → IsGoing plan heap caller w.0.op frame
  going w = going_now plan core calls caller is lawful sound w

  -- a field of a held object gets a value, and the hand has held what stood there
  module _ (w : Entered) (x : Name) (object : Object) (there : finite.get heap x ≡ Some object) (held : object.mark ≡ Held caller) (field : ℕ) (value : Value) (within : field < length object.fields)
      (typed : (declared : KindDecl) (f : FieldDecl) → slice_get (source_of plan).kinds object.kind ≡ Some declared → slice_get declared.fields field ≡ Some f → HasType (plain heap) f.ty value)
      (hand_is : target_in_hand frame ≡ target_in (field_of object field)) where
    abbrev old : Value
    old = field_of object field

    abbrev written : Object
    written = record object { fields = slice_set object.fields field value }

    abbrev after : Heap
    after = put_at heap x (Some written)

    abbrev book_now : Book
    book_now = raised (target_in value) (lowered (target_in_hand frame) frame.book)

    -- the frame but for loosening
    abbrev next : ℕ → ℕ → Bool → Frame
    next place cursor seen = record frame { hand = None; book = book_now; place = place; cursor = cursor; seen = seen }

    counts : (n : Name) → refs after n + cond (refers_to n old) 1 0 ≡ refs heap n + cond (refers_to n value) 1 0
    counts n = refs_write heap x object field value there within n

    written_heap : IsHeapOf (source_of plan) (plain after)
    written_heap =
        heap_kept (source_of plan) heap x sound.heap (Some written) (Some object) there
        (changes object written refl (λ z. refl) (λ declared e f. record {
          one_each = length-set object.fields field value ∙ f.one_each;
          typed = λ at d v a b. elim (set_place object.fields field at value v b) [
            | inl new ↦ subst (HasType (plain heap) d.ty) (sym new.1) (typed declared d e (ap (slice_get declared.fields) (sym new.0) ∙ a))
            | inr kept ↦ f.typed at d v a kept
          ];
        }))

    held_all : (n : Name) → IsHeld heap caller n → IsHeld after caller n
    held_all n h = elim (same_name n x) [
      | inl same ↦ subst (IsHeld after caller) (sym same) (changed.held_here heap x (Some written) caller written refl held)
      | inr other ↦ changed.held_on heap x (Some written) caller n other h
    ]

    held_before : (n : Name) → IsHeld after caller n → IsHeld heap caller n
    held_before n h = elim (changed.held_looked heap x (Some written) caller n h) [
      | inl l ↦ l.1
      | inr l ↦ subst (IsHeld heap caller) (sym l.0) (record { object = object; there = there; held = held })
    ]

    book_written : (place cursor : ℕ) (seen : Bool) → HasBook after caller (next place cursor seen)
    book_written place cursor seen = record {
      booked = λ n k' e.
          let up = recounted_back (λ fields. fields + 1) (target_in value) (lowered (target_in_hand frame) frame.book) n k' e in
          let down = recounted_back (λ fields. fields - 1) (target_in_hand frame) frame.book n up.0 up.1 in
          let was = (going w).book.booked n down.0 down.1 in
          by n k' up.0 down.0 up.2 down.2 was;
      all = λ n h.
          let was = (going w).book.all n (held_before n h) in
          let down = recounted_on (λ fields. fields - 1) (target_in_hand frame) frame.book n was.0 was.1 in
          recounted_on (λ fields. fields + 1) (target_in value) (lowered (target_in_hand frame) frame.book) n down.0 down.1;
    }
      where
        right : (n : Name) (k' k1 k : Booked) → Recounted (λ fields. fields + 1) (target_in value) n k1 k' → Recounted (λ fields. fields - 1) (target_in_hand frame) n k k1 → k.fields ≡ refs heap n → k'.fields ≡ refs after n
        right n k' k1 k up down e = case (target_is (target_in value) n) (target_is (target_in_hand frame) n)
          where
            referred : target_in_hand frame ≡ Some n → 0 < refs heap n
            referred b = link_refs heap x n (field_links heap x n object field there (target_value old n (sym hand_is ∙ b)))

            case : (target_in value ≡ Some n) ⊎ (target_in value ≡ Some n → ⊥) → (target_in_hand frame ≡ Some n) ⊎ (target_in_hand frame ≡ Some n → ⊥) → k'.fields ≡ refs after n
            case (inl a) (inl b) = omega (arith, counts n, e, up.here a, down.here b, count_yes value n a, count_yes old n (sym hand_is ∙ b), referred b)
            case (inl a) (inr b) = omega (arith, counts n, e, up.here a, down.elsewhere b, count_yes value n a, count_no old n (λ c. b (hand_is ∙ c)))
            case (inr a) (inl b) = omega (arith, counts n, e, up.elsewhere a, down.here b, count_no value n a, count_yes old n (sym hand_is ∙ b), referred b)
            case (inr a) (inr b) = omega (arith, counts n, e, up.elsewhere a, down.elsewhere b, count_no value n a, count_no old n (λ c. b (hand_is ∙ c)))

        by : (n : Name) (k' k1 k : Booked) → Recounted (λ fields. fields + 1) (target_in value) n k1 k' → Recounted (λ fields. fields - 1) (target_in_hand frame) n k k1 → IsBooked heap caller n k → IsBooked after caller n k'
        by n k' k1 k up down was =
            let h = held_all n (record { object = was.object; there = was.there; held = was.held }) in
            record {
              object = h.object;
              there = h.there;
              held = h.held;
              kind = up.kind ∙ down.kind ∙ was.kind ∙ kind_kept n was.object h.object was.there h.there;
              fields = right n k' k1 k up down was.fields;
            }
          where
            kind_kept : (n : Name) (a b : Object) → finite.get heap n ≡ Some a → finite.get after n ≡ Some b → a.kind ≡ b.kind
            kind_kept n a b p q = elim (changed.looked heap x (Some written) caller n b q) [
              | inl l ↦ ap (λ (o : Object). o.kind) (same_some (sym p ∙ l.1))
              | inr l ↦ ap (λ (o : Object). o.kind) (same_some (sym p ∙ ap (finite.get heap) l.0 ∙ there)) ∙ ap (λ (o : Object). o.kind) (same_some l.1)
            ]

    writes : (place cursor : ℕ) (seen : Bool) → StandsOpen plan (next place cursor seen) frame.stage → (frame.loose ≡ [] → IsNotClearing (next place cursor seen)) → ((n : Name) (rest : List Name) → frame.loose ≡ n ∷ rest → target_in value ≡ None)
        → ((n : Name) (rest : List Name) → frame.loose ≡ n ∷ rest → HasCleared plan after (next place cursor seen) n) → Keeps plan core calls caller is lawful sound w.0.op x (Some written) (loosened (target_in_hand frame) (next place cursor seen))
    writes place cursor seen stands not_now less clearing = record {
      heap_is = written_heap;
      going = loosen plan after caller w.0.op (target_in_hand frame) (next place cursor seen) (record {
        code = (going w).code;
        book = book_written place cursor seen;
        stage = w.2.stage;
        locals = changed.locals_moved heap x (Some written) caller plan frame (next place cursor seen) refl w.0.op w.2.locals (λ local n kind e h. changed.object_here heap x (Some written) caller object written there refl refl n kind h);
        loose = record {
          each = λ k d lt. let l = w.2.loose.each k d lt in record { held = held_all (get_or frame.loose k d) l.held; no_local = l.no_local; few_fields = fewer (get_or frame.loose k d) (some_loose k lt) l.few_fields };
          once = w.2.loose.once;
        };
        few_made = w.2.few_made;
        own_names = changed.names_kept heap x (Some written) caller frame.ticket frame.made w.2.own_names (λ z. w.2.own_names x object there z);
        own_seals = changed.seals_kept heap x (Some written) caller frame.ticket (frame.stage ≢ stages.Running) w.2.own_seals (λ b e m. absurd (held_sealed (sym held ∙ ap (λ (o : Object). o.mark) (same_some e) ∙ m)));
        no_breach = w.2.no_breach;
        held = λ local n e. held_all n ((going w).held local n e);
        why = λ n h other. reason n other ((going w).why n (held_before n h));
        stands = stands;
        none_loose = λ e. (not_now e, refl);
        some_loose = clearing;
      });
      places = omega (arith, hidden_same heap x object written there, (same_loosened (target_in_hand frame) (next place cursor seen)).6);
      enough = omega (arith, (same_loosened (target_in_hand frame) (next place cursor seen)).6, (same_loosened (target_in_hand frame) (next place cursor seen)).4);
      same = let l = same_loosened (target_in_hand frame) (next place cursor seen) in (l.0, l.1, l.3, l.9);
    }
      where
        some_loose : (k : ℕ) → k < length frame.loose → target_in value ≡ None
        some_loose k lt = by frame.loose refl
          where
            by : (l : List Name) → frame.loose ≡ l → target_in value ≡ None
            by [] e = absurd (omega (arith, lt, ap length e))
            by (n ∷ rest) e = less n rest e

        fewer : (n : Name) → target_in value ≡ None → refs heap n ≤ 1 → refs after n ≤ 1
        fewer n null few = omega (arith, few, counts n, count_no value n (λ e. no_some (sym null ∙ e)))

        reason : (n : Name) → (target_in_hand frame ≡ Some n → ⊥) → HasReason heap frame n → HasReason after (next place cursor seen) n
        reason n other (for_a_local some) = for_a_local some
        reason n other (for_fields several) = for_fields (omega (arith, several, counts n, count_no old n (λ c. other (hand_is ∙ c))))
        reason n other (for_the_list has) = for_the_list has
        reason n other (for_the_hand e) = absurd (other e)

  -- ---- a write of the code

  hand_of_field : (o : Option Value) (v : Value) → o ≡ Some v → target_of o ≡ target_in v
  hand_of_field o (Int n) e = ap target_of e
  hand_of_field o (Ref t) e = ap target_of e

  none_of_number : (v : Value) (h : Heap) → HasType (plain h) types.Int v → target_in v ≡ None
  none_of_number (Int n) h t = refl
  none_of_number (Ref t) h e = absurd e

  pub writes_code : (w : Entered) (local field : ℕ) (content : Content) (x : Name) → IsAtStep plan frame (Write local field content) → target_at frame local ≡ Some x → (object : Object) → finite.get heap x ≡ Some object → object.mark ≡ Held caller
      → Keeps plan core calls caller is lawful sound w.0.op x (Some (record object { fields = slice_set object.fields field (content_of content frame) }))
      (loosened (target_in_hand frame) (record frame { hand = None; book = raised (target_in (content_of content frame)) (lowered (target_in_hand frame) frame.book); place = frame.place + 1 }))
  writes_code w local field content x at to object there held =
      writes w x object there held field (content_of content frame) within typed hand_is (frame.place + 1) frame.cursor frame.seen
      (subst (StandsOpen plan (next w x object there held field (content_of content frame) within typed hand_is (frame.place + 1) frame.cursor frame.seen)) (sym at.running)
      (next_open plan (types_of w.0.op) (steps_of plan frame.call) (going w).code frame.place (Write local field content) at.there refl))
      (λ e. let t = (tidy_hand plan heap caller w.0.op sound.heap frame (going w) at.tidy).0 in record { cursor = t.cursor; seen = t.seen })
      (λ n rest e. absurd (not_loose (sym at.tidy ∙ e)))
      (λ n rest e. absurd (not_loose (sym at.tidy ∙ e)))
    where
      not_loose : {n : Name} {rest : List Name} → [] ≡ n ∷ rest → ⊥
      not_loose e = cc

      fits : WriteFits (source_of plan) (types_of w.0.op) local field content
      fits = write_fits (source_of plan) (types_of w.0.op) (Write local field content) ((going w).code.typed frame.place (Write local field content) at.there) local field content refl

      kind : object.kind ≡ fits.kind
      kind = kind_of_local plan heap caller w.0.op sound.heap frame w.2.locals local fits.kind x object fits.is_local to there

      declared_is : slice_get (source_of plan).kinds object.kind ≡ Some fits.has_field.declared
      declared_is = ap (slice_get (source_of plan).kinds) kind ∙ fits.has_field.is_there

      its_fields : HasFields (plain heap) fits.has_field.declared.fields object.fields
      its_fields = sound.heap.fields x (plain_object object) fits.has_field.declared (plain_there heap x object there) declared_is

      within : field < length object.fields
      within = omega (arith, slice_get_within fits.has_field.declared.fields field fits.has_field.field fits.has_field.is_its_field, its_fields.one_each)

      old_type : HasType (plain heap) fits.ty (field_of object field)
      old_type = subst (λ t. HasType (plain heap) t (field_of object field)) fits.has_field.of_type (its_fields.typed field fits.has_field.field (field_of object field) fits.has_field.is_its_field (slice_get-get_or object.fields field (Ref None) within))

      now : HandBefore plan heap caller frame w.0.op (Some (Write local field content))
      now = hand_before plan core calls caller is lawful sound w (Write local field content) at

      in_hand : (f : IsFieldInHand heap caller frame local field) → target_in_hand frame ≡ target_in (field_of object field)
      in_hand f =
          let same : f.object ≡ object = same_some (sym f.there ∙ ap (finite.get heap) (same_some (sym f.is_local ∙ to)) ∙ there) in
          hand_of_field frame.hand (field_of object field) (f.in_hand ∙ ap (λ (o : Object). Some (field_of o field)) same)

      hand_by : (ty : Ty) (c : Content) → FitsContent (source_of plan) (types_of w.0.op) ty c → HandBefore plan heap caller frame w.0.op (Some (Write local field c)) → HasType (plain heap) ty (field_of object field) → target_in_hand frame ≡ target_in (field_of object field)
      hand_by ty c codes.a_number h t = ap target_of h.1 ∙ sym (none_of_number (field_of object field) heap t)
      hand_by ty c (codes.a_local of) h t = in_hand h.0
      hand_by ty c codes.a_null h t = in_hand h.0

      hand_is : target_in_hand frame ≡ target_in (field_of object field)
      hand_is = hand_by fits.ty content fits.fits now old_type

      local_type : (other target : ℕ) → IsLocalOf (types_of w.0.op) other target → HasFieldOf (source_of plan) fits.kind field (types.Of target) → HasType (plain heap) (types.Of target) (Ref (target_at frame other))
      local_type other target of has = by (target_at frame other) refl
        where
          by : (t : Option Name) → target_at frame other ≡ t → HasType (plain heap) (types.Of target) (Ref t)
          by None e = tt
          by (Some n) e = (
            local_hidden plan core calls caller is lawful sound w other target n of (is.checked.fields fits.kind field target has) e,
            w.2.locals.typed other (types.Of target) (Ref (Some n)) of (target_held (slice_get frame.locals other) n e),
          )

      content_type : (ty : Ty) (c : Content) → FitsContent (source_of plan) (types_of w.0.op) ty c → HandBefore plan heap caller frame w.0.op (Some (Write local field c)) → HasFieldOf (source_of plan) fits.kind field ty → HasType (plain heap) ty (content_of c frame)
      content_type ty c codes.a_number h has = subst (HasType (plain heap) types.Int) (sym (ap value_in_hand h.1)) tt
      content_type ty c (codes.a_local {kind = target} {other = other} of) h has = local_type other target of has
      content_type ty c codes.a_null h has = tt

      typed : (declared : KindDecl) (f : FieldDecl) → slice_get (source_of plan).kinds object.kind ≡ Some declared → slice_get declared.fields field ≡ Some f → HasType (plain heap) f.ty (content_of content frame)
      typed declared f a b =
          let same : declared ≡ fits.has_field.declared = same_some (sym a ∙ declared_is) in
          let f_is : f ≡ fits.has_field.field = same_some (sym b ∙ ap (λ (d : KindDecl). slice_get d.fields field) same ∙ fits.has_field.is_its_field) in
          subst (λ t. HasType (plain heap) t (content_of content frame)) (sym fits.has_field.of_type ∙ ap (λ (d : FieldDecl). d.ty) (sym f_is)) (content_type fits.ty content fits.fits now fits.has_field)

  -- ---- the field of an object that is being given up becomes null

  pub writes_first : (w : Entered) (field : ℕ) (x target : Name) (value : Value) (booked : Booked) (given : IsGivenUp frame x booked) → reference_from plan booked.kind frame.cursor ≡ Some field → frame.hand ≡ Some value → target_in value ≡ Some target
      → (object : Object) → finite.get heap x ≡ Some object → object.mark ≡ Held caller
      → Keeps plan core calls caller is lawful sound w.0.op x (Some (record object { fields = slice_set object.fields field (Ref None) }))
      (loosened (target_in_hand frame) (record frame { hand = None; book = raised None (lowered (target_in_hand frame) frame.book); cursor = field + 1; seen = false }))
  writes_first w field x target value booked given at hand to object there held =
      writes w x object there held field (Ref None) within typed hand_is frame.place (field + 1) false now.1 (λ e. absurd (not_loose (sym e ∙ given.first))) (λ n rest e. refl)
      (λ n rest e. subst (HasCleared plan (after w x object there held field (Ref None) within typed hand_is) (next w x object there held field (Ref None) within typed hand_is frame.place (field + 1) false)) (same_first (sym given.first ∙ e)) cleared_now)
    where
      not_loose : {n : Name} {rest : List Name} → [] ≡ n ∷ rest → ⊥
      not_loose e = cc

      same_first : {a b : Name} {xs ys : List Name} → a ∷ xs ≡ b ∷ ys → a ≡ b
      same_first e = cc

      now : HasCleared plan heap frame x × StandsOpen plan frame frame.stage
      now = subst (HandAt plan heap caller frame w.0.op) given.first w.2.hand

      c : IsCleared plan core calls caller is lawful sound x booked
      c = cleared plan core calls caller is lawful sound w x booked given

      same : c.object ≡ object
      same = same_some (sym c.there ∙ there)

      holds : value ≡ field_of object field
      holds = cleared_hand plan core calls caller is lawful sound x booked c value field hand at ∙ ap (λ (o : Object). field_of o field) same

      hand_is : target_in_hand frame ≡ target_in (field_of object field)
      hand_is = hand_of_field frame.hand (field_of object field) (hand ∙ ap Some holds)

      old_is : field_of object field ≡ Ref (Some target)
      old_is = sym holds ∙ target_value value target to

      within : field < length object.fields
      within = elim (cases_lt field (length object.fields)) [
        | inl less ↦ less
        | inr past ↦ absurd (null_there (sym (get_or-eq_default object.fields (Ref None) past) ∙ old_is))
      ]
        where
          null_there : Ref None ≡ Ref (Some target) → ⊥
          null_there e = cc

      null_type : (ty : Ty) (v : Value) → v ≡ Ref (Some target) → HasType (plain heap) ty v → HasType (plain heap) ty (Ref None)
      null_type types.Int (Int n) e h = absurd (let clash : Int n ≡ Ref (Some target) = e in cc)
      null_type types.Int (Ref t) e h = absurd h
      null_type (types.Of kind) v e h = tt

      typed : (declared : KindDecl) (f : FieldDecl) → slice_get (source_of plan).kinds object.kind ≡ Some declared → slice_get declared.fields field ≡ Some f → HasType (plain heap) f.ty (Ref None)
      typed declared f a b =
          let fields = sound.heap.fields x (plain_object object) declared (plain_there heap x object there) a in
          null_type f.ty (field_of object field) old_is (fields.typed field f (field_of object field) b (slice_get-get_or object.fields field (Ref None) within))

      reference : reference_from plan object.kind frame.cursor ≡ Some field
      reference = ap (λ k. reference_from plan k frame.cursor) (sym (c.kind ∙ ap (λ (o : Object). o.kind) same)) ∙ at

      before_null : (f : ℕ) → f < field → target_in (field_of object f) ≡ None
      before_null f less = elim (cases_lt f frame.cursor) [
        | inl early ↦ ap (λ (o : Object). target_in (field_of o f)) (sym same) ∙ c.clearing.before f early
        | inr late ↦ no_reference_before plan heap sound.heap x object there frame.cursor field reference f late less
      ]

      set_null : (f : ℕ) → f < field + 1 → target_in (get_or (slice_set object.fields field (Ref None)) f (Ref None)) ≡ None
      set_null f less = elim (cases_lt f field) [
        | inl below ↦ ap target_in (get_or-set_other object.fields field f (Ref None) (Ref None) (λ e. omega (arith, below, e))) ∙ before_null f below
        | inr not_below ↦
            let here : f ≡ field = omega (arith, less, not_below) in
            ap (λ g. target_in (get_or (slice_set object.fields field (Ref None)) g (Ref None))) here ∙ ap target_in (get_or-set_same object.fields field (Ref None) (Ref None) within)
      ]

      cleared_now : HasCleared plan (after w x object there held field (Ref None) within typed hand_is) (next w x object there held field (Ref None) within typed hand_is frame.place (field + 1) false) x
      cleared_now =
          clears (record object { fields = slice_set object.fields field (Ref None) }) (get_here names heap x (Some (record object { fields = slice_set object.fields field (Ref None) }))) given.hidden
          (let counted = counts w x object there held field (Ref None) within typed hand_is x in omega (arith, counted, c.unreferred))
          (record {
            before = set_null;
            in_hand = λ v e. absurd (no_some e);
            seen = λ e. absurd (let clash : false ≡ true = e in cc);
          })
