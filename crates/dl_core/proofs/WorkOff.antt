-- Working off the loose objects of a lone run removes loose objects of the serial heap.
use Rattle.std.proofs.Common.{◌≡◌, ◌≢◌, ◌⊎◌, inl, inr, ℕ, zero, suc, ◌+◌, ◌<◌, ◌≤◌, Bool, true, false, List, [], ◌∷◌, ◌++◌, length, drop, Option, Some, None, refl, sym, ap, subst, ◌∙◌, arith}
use Rattle.std.specs.Prelude.{slice_set, nat_lt, ◌==◌, ◌&&◌, ◌||◌, if◌then◌else◌, is_some}
use Rattle.std.specs.Option.{option_map}
use Rattle.std.specs.FinMap as finite
use Rattle.std.proofs.lemmas.Bool.{lt-ltb, ltb-true, eqb-true, cases_Bool}
use Rattle.dl_ir.specs.declared.modules.FieldDecl.{FieldDecl}
use Rattle.dl_ir.specs.declared.modules.Ty.{Ty}
use Rattle.dl_ir.specs.declared.modules.Ty.TheVariants as types
use Rattle.dl_ir.specs.declared.names.Name.{Name}
use Rattle.dl_ir.specs.declared.names.Value.{Value}
use Rattle.dl_ir.specs.declared.names.Value.TheVariants.{Int, Ref}
use Rattle.dl_ir.specs.Heap.{Objects, IsHidden}
use Rattle.dl_ir.specs.References.{target_in}
use Rattle.dl_shape.specs.Settling.{IsLoose}
use Rattle.dl_shape.proofs.Order.{len_removed}
use Rattle.dl_core.specs.declared.objects.Mark.{Mark}
use Rattle.dl_core.specs.declared.objects.Mark.TheVariants.{Free, Held, Sealed}
use Rattle.dl_core.specs.declared.objects.Object.{Object}
use Rattle.dl_core.specs.declared.stages.Booked.{Booked}
use Rattle.dl_core.specs.Heaps.{Heap, put_at, refs, refs_in, field_of, is_sealed, plain, plain_object}
use Rattle.dl_core.specs.Plans.{Plan, fields_of, first_reference, or_later, reference_from}
use Rattle.dl_core.specs.Frames.{Book, Frame, has_booked, is_to_loosen, loosened, lowered}
use Rattle.dl_core.specs.declared.dues.Due.TheVariants.{Reads, Writes, Takes, LetsGo, GivesUp}
use Rattle.dl_core.specs.LocalSteps.{Stops, next, next_field, next_target, next_loose}
use Rattle.dl_core.specs.Events.{act, take, with_mark}
use Rattle.dl_core.specs.Sound.{HasBook}
use Rattle.dl_shape.proofs.Names.{names}
use Rattle.dl_core.proofs.Maps.{weight, get_here, get_there, put_at_same, total-put_at}
use Rattle.dl_core.proofs.Names.{same_name, same_some, no_some}
use Rattle.dl_core.proofs.Plain.{plain_put, plain_refs}
use Rattle.dl_core.proofs.Typing.{plain_there}
use Rattle.dl_core.proofs.Counts.{set_less}
use Rattle.dl_core.proofs.Prunes.{Prunes, prunes_more}
use Rattle.dl_core.proofs.Lone.{Lone, Ends, local_on, event_on, by_book, IsToTake}
use Rattle.dl_lemmas.proofs.Tests.{and_parts}
use Rattle.std.proofs.Math.Bool.{or-true}

-- ---- marks aside

plain_object_same : (object : Object) (mark : Mark) → is_sealed mark ≡ is_sealed object.mark → plain_object (with_mark mark object) ≡ plain_object object
plain_object_same object mark same = λ i. record { kind = object.kind; sealed = same i; fields = object.fields }

-- a change of a mark, to one that is as sealed, leaves the plain heap
pub plain_mark : (heap : Heap) (name : Name) (object : Object) (mark : Mark) → finite.get heap name ≡ Some object → is_sealed mark ≡ is_sealed object.mark → plain (put_at heap name (Some (with_mark mark object))) ≡ plain heap
plain_mark heap name object mark there same =
    plain_put heap name (Some (with_mark mark object))
    ∙ ap (λ o. put_at (plain heap) name (Some o)) (plain_object_same object mark same)
    ∙ ap (put_at (plain heap) name) (sym (plain_there heap name object there))
    ∙ put_at_same names (plain heap) name

held_unsealed : (object : Object) (caller : ℕ) → object.mark ≡ Held caller → is_sealed object.mark ≡ false
held_unsealed object caller held = ap is_sealed held

-- the plain heap without an object, whatever becomes of the object
pub without_same : (heap : Heap) (name : Name) (found : Option Object) → finite.remove (plain (put_at heap name found)) name ≡ finite.remove (plain heap) name
unfolding put_at
without_same heap name found = ap (λ p. finite.remove p name) (plain_put heap name found) ∙ finite.same_map names.total names.same _ _ (λ q. elim (same_name q name) [
  | inl same ↦ ap (finite.get (put_at (put_at (plain heap) name (option_map plain_object found)) name None)) same ∙ get_here names (put_at (plain heap) name (option_map plain_object found)) name None
      ∙ sym (ap (finite.get (put_at (plain heap) name None)) same ∙ get_here names (plain heap) name None)
  | inr apart ↦ get_there names (put_at (plain heap) name (option_map plain_object found)) name None q apart ∙ get_there names (plain heap) name (option_map plain_object found) q apart
      ∙ sym (get_there names (plain heap) name None q apart)
])

-- ---- fields that hold references come in order

first_reference_within : (at : ℕ) (fields : List FieldDecl) (i : ℕ) → first_reference at fields ≡ Some i → (at ≤ i) × (i < at + length fields)
first_reference_within at [] i e = absurd (no_some e)
first_reference_within at (f ∷ rest) i e = by (λ e'. first_reference_within (at + 1) rest i e') f.ty e
  where
    by : (first_reference (at + 1) rest ≡ Some i → (at + 1 ≤ i) × (i < at + 1 + length rest)) → (ty : Ty) → or_later ty at (first_reference (at + 1) rest) ≡ Some i → (at ≤ i) × (i < at + length (f ∷ rest))
    by on types.Int e' = let r = on e' in (omega (arith, r.0), omega (arith, r.1))
    by on (types.Of kind) e' = let same : at ≡ i = same_some e' in (omega (arith, same), omega (arith, same))

dropped_length : {X : Type 0} (k : ℕ) (xs : List X) → length (drop k xs) + k ≤ length xs ⊎ (length (drop k xs) ≡ 0)
dropped_length zero xs = inl (omega arith)
dropped_length (suc k) [] = inr refl
dropped_length (suc k) (x ∷ xs) = elim (dropped_length k xs) [ inl le ↦ inl (omega (arith, le)) | inr none ↦ inr none ]

-- a field that comes is one of the kind's, and not before
pub reference_within : (plan : Plan) (kind from field : ℕ) → reference_from plan kind from ≡ Some field → (from ≤ field) × (field < length (fields_of plan kind))
reference_within plan kind from field e =
    let r = first_reference_within from (drop from (fields_of plan kind)) field e in
    (r.0, elim (dropped_length from (fields_of plan kind)) [ inl le ↦ omega (arith, r.1, le) | inr none ↦ absurd (omega (arith, r.0, r.1, none)) ])

now_booked : (book : Book) (target : Name) (b : Booked) → is_some (finite.get (finite.insert book target b) target) ≡ true
unfolding put_at
now_booked book target b = ap is_some (get_here names book target (Some b))

-- ---- working off

-- the frame with these, and else as it is
abbrev pub with_list : Frame → Book → ℕ → List Name → Option Value → ℕ → Bool → Frame
with_list frame book spares loose hand cursor seen = record frame { book = book; spares = spares; loose = loose; hand = hand; cursor = cursor; seen = seen }

free_held : {d : ℕ} → Free ≡ Held d → ⊥
free_held e = cc

sealed_held : {c d : ℕ} → Sealed c ≡ Held d → ⊥
sealed_held e = cc

module _ (l : Lone) (frame : Frame) (serial : Objects) where
  abbrev State : Book → ℕ → List Name → Option Value → ℕ → Bool → Frame
  State book spares loose hand cursor seen = with_list frame book spares loose hand cursor seen

  -- how the run goes on from a loose list
  abbrev FromList : List Name → Book → ℕ → Heap → Type 0
  FromList loose book spares heap = Ends l heap (State book spares loose None 0 false)

  module _ (name : Name) (hidden : IsHidden name) (kind : ℕ) (left : Objects) (pruned : Prunes serial left)
      (then_on : (rest : List Name) (book : Book) (spares : ℕ) (heap : Heap) → plain heap ≡ left → FromList rest book spares heap) where
    -- the object that is being given up
    record IsBeingCleared (heap : Heap) : Type 0 where
      object : Object
      there : finite.get heap name ≡ Some object
      held : object.mark ≡ Held l.caller
      of_kind : object.kind ≡ kind
      alone : refs heap name ≡ 0
      rest : finite.remove (plain heap) name ≡ left

    -- what the book says of it
    booked_so : (heap : Heap) (f : Frame) → HasBook heap l.caller f → (is : IsBeingCleared heap) → (b : Booked) × (finite.get f.book name ≡ Some b) × (b.kind ≡ kind) × (b.fields ≡ 0)
    booked_so heap f book is =
        let found = book.all name (record { object = is.object; there = is.there; held = is.held }) in
        let says = book.booked name found.0 found.1 in
        (found.0, found.1, says.kind ∙ ap (λ (o : Object). o.kind) (same_some (sym says.there ∙ is.there)) ∙ is.of_kind, says.fields ∙ is.alone)

    -- its next field comes
    next_is : (book : Book) (spares : ℕ) (rest : List Name) (hand : Option Value) (k : ℕ) (seen : Bool) (b : Booked) → finite.get book name ≡ Some b → b.kind ≡ kind → b.fields ≡ 0
        → next l.plan (State book spares (name ∷ rest) hand k seen) ≡ next_field (State book spares (name ∷ rest) hand k seen) name (reference_from l.plan kind k)
    next_is book spares rest hand k seen b found of_kind none =
        ap (next_loose l.plan (State book spares (name ∷ rest) hand k seen) name) found
        ∙ ap (λ c. if c && (b.fields == 0) then next_field (State book spares (name ∷ rest) hand k seen) name (reference_from l.plan b.kind k) else Stops (LetsGo name)) (lt-ltb 0 name.ticket hidden)
        ∙ ap (λ n. if n == 0 then next_field (State book spares (name ∷ rest) hand k seen) name (reference_from l.plan b.kind k) else Stops (LetsGo name)) none
        ∙ ap (λ q. next_field (State book spares (name ∷ rest) hand k seen) name (reference_from l.plan q k)) of_kind

    -- it is given up
    give_up : (rest : List Name) (book : Book) (spares k : ℕ) (heap : Heap) → IsBeingCleared heap → reference_from l.plan kind k ≡ None → Ends l heap (State book spares (name ∷ rest) None k false)
    unfolding put_at
    give_up rest book spares k heap is none =
        let f = State book spares (name ∷ rest) None k false in
        by_book l heap f (λ has.
        let b = booked_so heap f has is in
        event_on l heap f (GivesUp name) name (next_is book spares rest None k false b.0 b.1 b.2 b.3 ∙ ap (next_field f name) none) refl (λ finds. record {
          after = State (finite.remove book name) (spares + 1) rest None 0 false;
          left = None;
          acts = ap (act l.plan l.caller f (GivesUp name)) is.there;
          on = then_on rest (finite.remove book name) (spares + 1) (put_at heap name None) (plain_put heap name None ∙ is.rest);
        }))

    -- another object's mark is changed, and it is cleared still
    other_mark : (heap : Heap) (other : Name) (object : Object) (mark : Mark) → finite.get heap other ≡ Some object → is_sealed mark ≡ is_sealed object.mark → other ≢ name → IsBeingCleared heap
        → IsBeingCleared (put_at heap other (Some (with_mark mark object)))
    other_mark heap other object mark there same apart is = record {
      object = is.object;
      there = get_there names heap other (Some (with_mark mark object)) name (λ e. apart (sym e)) ∙ is.there;
      held = is.held;
      of_kind = is.of_kind;
      alone = omega (arith, total-put_at names (refs_in name) heap other (Some (with_mark mark object)), ap (weight (refs_in name)) there, is.alone);
      rest = ap (λ p. finite.remove p name) (plain_mark heap other object mark there same) ∙ is.rest;
    }

    -- one of its fields is written null, and it is cleared still
    nulled : (heap : Heap) (field : ℕ) (is : IsBeingCleared heap) → IsBeingCleared (put_at heap name (Some (record is.object { fields = slice_set is.object.fields field (Ref None) })))
    nulled heap field is =
        let written : Object = record is.object { fields = slice_set is.object.fields field (Ref None) } in
        record {
          object = written;
          there = get_here names heap name (Some written);
          held = is.held;
          of_kind = is.of_kind;
          alone = omega (arith, total-put_at names (refs_in name) heap name (Some written), ap (weight (refs_in name)) is.there, set_less name is.object.fields field (Ref None) refl, is.alone);
          rest = without_same heap name (Some written) ∙ is.rest;
        }

    -- how the run goes on from a field on
    abbrev FromField : ℕ → Type 0
    FromField k = (rest : List Name) (book : Book) (spares : ℕ) (heap : Heap) → IsBeingCleared heap → Ends l heap (State book spares (name ∷ rest) None k false)

    -- its field is written
    write_on : (k field : ℕ) → reference_from l.plan kind k ≡ Some field → FromField (field + 1) → (rest : List Name) (book : Book) (spares : ℕ) (target : Name) (seen : Bool) (heap : Heap) → IsBeingCleared heap
        → (has_booked (State book spares (name ∷ rest) (Some (Ref (Some target))) k seen) target || seen) ≡ true → Ends l heap (State book spares (name ∷ rest) (Some (Ref (Some target))) k seen)
    write_on k field comes then_from rest book spares target seen heap is may =
        let f = State book spares (name ∷ rest) (Some (Ref (Some target))) k seen in
        let raw = State (lowered (Some target) book) spares (name ∷ rest) None (field + 1) false in
        by_book l heap f (λ has.
        let b = booked_so heap f has is in
        event_on l heap f (Writes name field (Ref None)) name
        (next_is book spares rest (Some (Ref (Some target))) k seen b.0 b.1 b.2 b.3 ∙ ap (next_field f name) comes ∙ ap (λ c. if c then Stops (Writes name field (Ref None)) else Stops (Takes target)) may)
        refl (λ finds. record {
          after = loosened (Some target) raw;
          left = Some (record is.object { fields = slice_set is.object.fields field (Ref None) });
          acts = ap (act l.plan l.caller f (Writes name field (Ref None))) is.there;
          on = elim (is_to_loosen raw target) as (λ c. Ends l (put_at heap name (Some (record is.object { fields = slice_set is.object.fields field (Ref None) }))) (if c then record raw { loose = raw.loose ++ target ∷ [] } else raw)) [
            | true ↦ then_from (rest ++ target ∷ []) (lowered (Some target) book) spares _ (nulled heap field is)
            | false ↦ then_from rest (lowered (Some target) book) spares _ (nulled heap field is)
          ];
        }))

    -- the target of its field was read
    target_on : (k field : ℕ) → reference_from l.plan kind k ≡ Some field → FromField (field + 1) → (rest : List Name) (book : Book) (spares : ℕ) (target : Name) (heap : Heap) → IsBeingCleared heap
        → Ends l heap (State book spares (name ∷ rest) (Some (Ref (Some target))) k false)
    target_on k field comes then_from rest book spares target heap is =
        let f = State book spares (name ∷ rest) (Some (Ref (Some target))) k false in
        elim (cases_Bool (has_booked f target || false)) [
          | inl t ↦ write_on k field comes then_from rest book spares target false heap is t
          | inr n ↦ by_book l heap f (λ has.
              let b = booked_so heap f has is in
              event_on l heap f (Takes target) target
              (next_is book spares rest (Some (Ref (Some target))) k false b.0 b.1 b.2 b.3 ∙ ap (next_field f name) comes ∙ ap (λ c. if c then Stops (Writes name field (Ref None)) else Stops (Takes target)) n)
              refl (λ finds.
              let apart : target ≢ name = λ e. differ finds (ap (λ (o : Object). o.mark) (same_some (sym is.there ∙ ap (finite.get heap) (sym e) ∙ finds.there))) is.held in
              elim finds.mark [
                | inl free ↦ record {
                  after = State (finite.insert book target (record { kind = finds.object.kind; fields = 1 })) spares (name ∷ rest) (Some (Ref (Some target))) k false;
                  left = Some (with_mark (Held l.caller) finds.object);
                  acts = ap (act l.plan l.caller f (Takes target)) finds.there ∙ ap (take l.plan l.caller target f finds.object) free;
                  on = write_on k field comes then_from rest (finite.insert book target (record { kind = finds.object.kind; fields = 1 })) spares target false _
                      (other_mark heap target finds.object (Held l.caller) finds.there (sym (ap is_sealed free)) apart is)
                      (ap (λ c. c || false) (now_booked book target (record { kind = finds.object.kind; fields = 1 })));
                }
                | inr shut ↦ record {
                  after = State book spares (name ∷ rest) (Some (Ref (Some target))) k true;
                  left = Some finds.object;
                  acts = ap (act l.plan l.caller f (Takes target)) finds.there ∙ ap (take l.plan l.caller target f finds.object) shut.1;
                  on = subst (λ h. Ends l h (State book spares (name ∷ rest) (Some (Ref (Some target))) k true)) (sym (ap (put_at heap target) (sym finds.there) ∙ put_at_same names heap target))
                      (write_on k field comes then_from rest book spares target true heap is (or-true (has_booked f target)));
                }
              ]))
        ]
      where
        differ : (finds : IsToTake heap target) → is.object.mark ≡ finds.object.mark → is.object.mark ≡ Held l.caller → ⊥
        differ finds same held = elim finds.mark [ inl free ↦ free_held (sym free ∙ sym same ∙ held) | inr shut ↦ sealed_held (sym shut.1 ∙ sym same ∙ held) ]

    -- its field was read
    value_on : (k field : ℕ) → reference_from l.plan kind k ≡ Some field → FromField (field + 1) → (rest : List Name) (book : Book) (spares : ℕ) (value : Value) (heap : Heap) → IsBeingCleared heap
        → (target : Option Name) → target_in value ≡ target → Ends l heap (State book spares (name ∷ rest) (Some value) k false)
    value_on k field comes then_from rest book spares value heap is None e =
        let f = State book spares (name ∷ rest) (Some value) k false in
        by_book l heap f (λ has.
        let b = booked_so heap f has is in
        local_on l heap f (State book spares (name ∷ rest) None (field + 1) false)
        (next_is book spares rest (Some value) k false b.0 b.1 b.2 b.3 ∙ ap (next_field f name) comes ∙ ap (next_target f name field) e)
        (then_from rest book spares heap is))
    value_on k field comes then_from rest book spares (Int n) heap is (Some target) e = absurd (no_some e)
    value_on k field comes then_from rest book spares (Ref t) heap is (Some target) e =
        subst (λ o. Ends l heap (State book spares (name ∷ rest) (Some (Ref o)) k false)) (sym e) (target_on k field comes then_from rest book spares target heap is)

    read_on : (k field : ℕ) → reference_from l.plan kind k ≡ Some field → FromField (field + 1) → FromField k
    read_on k field comes then_from rest book spares heap is =
        let f = State book spares (name ∷ rest) None k false in
        by_book l heap f (λ has.
        let b = booked_so heap f has is in
        event_on l heap f (Reads name field) name (next_is book spares rest None k false b.0 b.1 b.2 b.3 ∙ ap (next_field f name) comes) refl (λ finds. record {
          after = State book spares (name ∷ rest) (Some (field_of is.object field)) k false;
          left = Some is.object;
          acts = ap (act l.plan l.caller f (Reads name field)) is.there;
          on = subst (λ h. Ends l h (State book spares (name ∷ rest) (Some (field_of is.object field)) k false)) (sym (ap (put_at heap name) (sym is.there) ∙ put_at_same names heap name))
              (value_on k field comes then_from rest book spares (field_of is.object field) heap is (target_in (field_of is.object field)) refl);
        }))

    -- it is cleared from a field on, and given up
    clear_on : (more k : ℕ) → length (fields_of l.plan kind) ≤ k + more → FromField k
    clear_on zero k all rest book spares heap is = elim (reference_from l.plan kind k) as (λ o. reference_from l.plan kind k ≡ o → Ends l heap (State book spares (name ∷ rest) None k false)) [
      | None ↦ λ e. give_up rest book spares k heap is e
      | Some field ↦ λ e. absurd (let w = reference_within l.plan kind k field e in omega (arith, w.0, w.1, all))
    ] refl
    clear_on (suc more) k all rest book spares heap is = elim (reference_from l.plan kind k) as (λ o. reference_from l.plan kind k ≡ o → Ends l heap (State book spares (name ∷ rest) None k false)) [
      | None ↦ λ e. give_up rest book spares k heap is e
      | Some field ↦ λ e. read_on k field e (clear_on more (field + 1) (let w = reference_within l.plan kind k field e in omega (arith, w.0, all))) rest book spares heap is
    ] refl

  -- a list of loose objects is worked off; where one is given up, fewer objects are left
  list_on : (count : ℕ) → ((loose : List Name) (book : Book) (spares : ℕ) (heap : Heap) → Prunes serial (plain heap) → finite.len (plain heap) + 1 ≤ count → FromList loose book spares heap)
      → ((book : Book) (spares : ℕ) (heap : Heap) → Prunes serial (plain heap) → FromList [] book spares heap)
      → (loose : List Name) (book : Book) (spares : ℕ) (heap : Heap) → Prunes serial (plain heap) → finite.len (plain heap) ≤ count → FromList loose book spares heap
  list_on count again then_on [] book spares heap pruned few = then_on book spares heap pruned
  list_on count again then_on (name ∷ rest) book spares heap pruned few = by_found (finite.get book name) refl (list_on count again then_on rest)
    where
      let_go : next l.plan (State book spares (name ∷ rest) None 0 false) ≡ Stops (LetsGo name) → ((book : Book) (spares : ℕ) (heap : Heap) → Prunes serial (plain heap) → finite.len (plain heap) ≤ count → FromList rest book spares heap) → Ends l heap (State book spares (name ∷ rest) None 0 false)
      let_go comes more = event_on l heap (State book spares (name ∷ rest) None 0 false) (LetsGo name) name comes refl (λ finds.
          let same = plain_mark heap name finds.object Free finds.there (sym (held_unsealed finds.object l.caller finds.held)) in
          record {
            after = State (finite.remove book name) spares rest None 0 false;
            left = Some (with_mark Free finds.object);
            acts = ap (act l.plan l.caller (State book spares (name ∷ rest) None 0 false) (LetsGo name)) finds.there;
            on = more (finite.remove book name) spares (put_at heap name (Some (with_mark Free finds.object))) (subst (Prunes serial) (sym same) pruned) (subst (λ p. finite.len p ≤ count) (sym same) few);
          })

      give_up : (b : Booked) → finite.get book name ≡ Some b → (nat_lt 0 name.ticket && (b.fields == 0)) ≡ true → Ends l heap (State book spares (name ∷ rest) None 0 false)
      give_up b found t = by_book l heap (State book spares (name ∷ rest) None 0 false) (λ has.
          let parts = and_parts (nat_lt 0 name.ticket) (b.fields == 0) t in
          let hidden : IsHidden name = ltb-true 0 name.ticket parts.0 in
          let says = has.booked name b found in
          let none : refs heap name ≡ 0 = sym says.fields ∙ eqb-true b.fields 0 parts.1 in
          let there = plain_there heap name says.object says.there in
          let loose : IsLoose (plain heap) name = record { object = plain_object says.object; there = there; hidden = hidden; unsealed = held_unsealed says.object l.caller says.held; alone = plain_refs heap name ∙ none } in
          clear_on name hidden says.object.kind (finite.remove (plain heap) name) (prunes_more pruned name loose)
          (λ rest' book' spares' heap' same. again rest' book' spares' heap' (subst (Prunes serial) (sym same) (prunes_more pruned name loose)) (subst (λ p. finite.len p + 1 ≤ count) (sym same) (omega (arith, len_removed (plain heap) name (plain_object says.object) there, few))))
          (length (fields_of l.plan says.object.kind)) 0 (omega arith) rest book spares heap
          (record { object = says.object; there = says.there; held = says.held; of_kind = refl; alone = none; rest = refl }))

      by_found : (o : Option Booked) → finite.get book name ≡ o → ((book : Book) (spares : ℕ) (heap : Heap) → Prunes serial (plain heap) → finite.len (plain heap) ≤ count → FromList rest book spares heap) → Ends l heap (State book spares (name ∷ rest) None 0 false)
      by_found None e more = let_go (ap (next_loose l.plan (State book spares (name ∷ rest) None 0 false) name) e) more
      by_found (Some b) e more = elim (cases_Bool (nat_lt 0 name.ticket && (b.fields == 0))) [
        | inl t ↦ give_up b e t
        | inr n ↦ let_go (ap (next_loose l.plan (State book spares (name ∷ rest) None 0 false) name) e ∙ ap (λ c. if c then next_field (State book spares (name ∷ rest) None 0 false) name (reference_from l.plan b.kind 0) else Stops (LetsGo name)) n) more
      ]

  work_by : (count : ℕ) → ((book : Book) (spares : ℕ) (heap : Heap) → Prunes serial (plain heap) → FromList [] book spares heap)
      → (loose : List Name) (book : Book) (spares : ℕ) (heap : Heap) → Prunes serial (plain heap) → finite.len (plain heap) ≤ count → FromList loose book spares heap
  work_by zero then_on = list_on zero (λ loose book spares heap pruned few. absurd (omega (arith, few))) then_on
  work_by (suc count) then_on = list_on (suc count) (λ loose book spares heap pruned few. work_by count then_on loose book spares heap pruned (omega (arith, few))) then_on

  -- the loose objects are worked off: those given up are removals of loose objects of the serial heap
  pub work_off : ((book : Book) (spares : ℕ) (heap : Heap) → Prunes serial (plain heap) → FromList [] book spares heap) → (loose : List Name) (book : Book) (spares : ℕ) (heap : Heap) → Prunes serial (plain heap)
      → FromList loose book spares heap
  work_off then_on loose book spares heap pruned = work_by (finite.len (plain heap)) then_on loose book spares heap pruned (omega arith)
