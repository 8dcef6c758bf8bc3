-- Each event of a caller that has entered keeps what holds of that caller: takes, letting go, giving up, sealing and making.
use Rattle.std.proofs.Common.{◌≡◌, ◌≢◌, ◌⊎◌, inl, inr, ℕ, zero, suc, ◌+◌, ◌-◌, ◌<◌, Bool, true, false, List, [], ◌∷◌, length, get_or, Option, Some, None, refl, sym, ap, subst, ◌∙◌, arith}
use Rattle.std.specs.Prelude.{slice_get, nat_lt, ◌==◌, ◌&&◌, All, AllPairs, Contains}
use Rattle.std.specs.Option.{option_map, option_map_or}
use Rattle.std.specs.FinMap as finite
use Rattle.std.proofs.lemmas.Bool.Decides.{nat_tests}
use Rattle.std.proofs.lemmas.List.{length-map}
use Rattle.std.proofs.lemmas.Option.{slice_get-map, get_or_from_slice_get}
use Rattle.dl_ir.specs.declared.answers.End.{End}
use Rattle.dl_ir.specs.declared.expressions.Expr.{Expr}
use Rattle.dl_ir.specs.declared.modules.FieldDecl.{FieldDecl}
use Rattle.dl_ir.specs.declared.modules.OpDecl.{OpDecl}
use Rattle.dl_ir.specs.declared.modules.Ty.{Ty}
use Rattle.dl_ir.specs.declared.modules.Ty.TheVariants as types
use Rattle.dl_ir.specs.declared.names.Name.{Name}
use Rattle.dl_ir.specs.declared.names.Value.{Value}
use Rattle.dl_ir.specs.declared.names.Value.TheVariants.{Ref}
use Rattle.dl_ir.specs.Evaluation.{target_of}
use Rattle.dl_ir.specs.Heap.{IsHeapOf, IsHidden, IsNodeKind, HasObject, HasType, HasFields, blank, blank_fields}
use Rattle.dl_ir.specs.Meaning.{object_of}
use Rattle.dl_ir.specs.References.{target_in}
use Rattle.dl_ir.specs.Typed.{types_of}
use Rattle.dl_instr.specs.declared.steps.Step.{Step}
use Rattle.dl_instr.specs.declared.steps.Step.TheVariants.{Read, Want, Make, Eval}
use Rattle.dl_instr.specs.Jumps.{jump_of}
use Rattle.dl_core.specs.declared.objects.Mark.TheVariants.{Free, Held, Sealed}
use Rattle.dl_core.specs.declared.objects.Object.{Object}
use Rattle.dl_core.specs.declared.stages.Booked.{Booked}
use Rattle.dl_core.specs.declared.stages.Stage.TheVariants as stages
use Rattle.dl_core.specs.Codes as codes
use Rattle.dl_core.specs.Codes.{IsGoodCode, IsFilledFor, IsTypedStep}
use Rattle.dl_core.specs.Heaps.{Heap, put_at, refs, field_of, plain, plain_object, is_sealed, IsHeld, IsSealed}
use Rattle.dl_core.specs.Plans.{Plan, IsPlan, source_of, steps_of, allocs_of, reference_from}
use Rattle.dl_core.specs.Frames.{Frame, advanced, behind, with_hand, with_booked, without_booked, locals_to, target_in_hand}
use Rattle.dl_core.specs.LocalSteps.{first_referring, next_name}
use Rattle.dl_core.specs.Events.{with_mark, or_first, made_object}
use Rattle.dl_core.specs.Core.{Core, frame_of}
use Rattle.dl_core.specs.Reached.{Calls}
use Rattle.dl_core.specs.Reach.{ticket_in}
use Rattle.dl_core.specs.Lawful.{IsLawful, for_the_hand}
use Rattle.dl_core.specs.Sound.{IsSound, IsLoose, IsAfterRead, HandBefore, HandWhile, HandAt, HasCleared, clears, lets_go, IsNotClearing, StandsOpen}
use Rattle.std.proofs.lemmas.Bool.{cases_lt}
use Rattle.dl_shape.proofs.Names.{names}
use Rattle.dl_core.proofs.Maps.{get_here}
use Rattle.dl_core.proofs.Names.{same_some, no_some}
use Rattle.dl_core.proofs.Counts.{same_refs}
use Rattle.dl_core.proofs.Why.{IsAtStep, IsGivenUp}
use Rattle.dl_core.proofs.Rows.{none_refers, first_of_all, field_refers}
use Rattle.dl_core.proofs.Typing.{plain_there, no_dangling, no_reference_from}
use Rattle.dl_core.proofs.Course.{IsGoing, open_while, fresh_loose}
use Rattle.dl_core.proofs.GoesOn.{tidy_hand, after_want}
use Rattle.dl_core.proofs.HeapTyped.{changes, goes, comes, heap_kept}
use Rattle.dl_core.proofs.HiddenCount.{hidden_same, hidden_gone, hidden_come}
use Rattle.dl_core.proofs.Events.{Works, hand_before, cleared, IsCleared, loose_held, all_null, made_null}
use Rattle.dl_core.proofs.Own.{Keeps, going_now}
use Rattle.dl_core.proofs.Changed as changed

free_held : {c : ℕ} → Free ≡ Held c → ⊥
free_held e = cc

free_sealed : {t : ℕ} → Free ≡ Sealed t → ⊥
free_sealed e = cc

held_sealed : {c t : ℕ} → Held c ≡ Sealed t → ⊥
held_sealed e = cc

module _ (plan : Plan) (core : Core) (calls : Calls) (caller : ℕ) (is : IsPlan plan) (lawful : IsLawful plan core calls) (sound : IsSound plan core calls) where
  abbrev heap : Heap
  heap = core.world.heap

  abbrev frame : Frame
  frame = frame_of core.world caller

  abbrev Entered : Type 0
  Entered = Works plan core calls caller is lawful sound

  abbrev Kept : OpDecl → Name → Option Object → Frame → Type 0
  Kept op name left next = Keeps plan core calls caller is lawful sound op name left next

  going : (w : Entered) → IsGoing plan heap caller w.0.op frame
  going w = going_now plan core calls caller is lawful sound w

  -- ---- takes

  module _ (w : Entered) (x : Name) (object : Object) (there : finite.get heap x ≡ Some object) (free : object.mark ≡ Free) (hidden : IsHidden x) (in_hand : target_in_hand frame ≡ Some x) where
    abbrev new : Option Object
    new = Some (with_mark (Held caller) object)

    abbrev taken : Heap
    taken = put_at heap x new

    not_held : (n : Name) → IsHeld heap caller n → n ≢ x
    not_held n h same = free_held (sym free ∙ ap (λ (o : Object). o.mark) (same_some (sym there ∙ ap (finite.get heap) (sym same) ∙ h.there)) ∙ h.held)

    not_sealed : (n : Name) → IsSealed heap n → n ≢ x
    not_sealed n s same = free_sealed (sym free ∙ ap (λ (o : Object). o.mark) (same_some (sym there ∙ ap (finite.get heap) (sym same) ∙ s.there)) ∙ s.sealed)

    refs_as : (n : Name) → refs taken n ≡ refs heap n
    refs_as n = same_refs heap (ticket_in core.world) caller x n (Some object) new there refl

    taken_heap : IsHeapOf (source_of plan) (plain taken)
    taken_heap = heap_kept (source_of plan) heap x sound.heap new (Some object) there (changes object (with_mark (Held caller) object) refl (λ z. absurd (omega (arith, hidden, z))) (λ declared e f. f))

    take_going : (place : ℕ) → HandAt plan taken caller (with_booked x object.kind 1 (record frame { place = place })) w.0.op frame.loose → Kept w.0.op x new (with_booked x object.kind 1 (record frame { place = place }))
    take_going place hand = record {
      heap_is = taken_heap;
      going = record {
        code = (going w).code;
        book = changed.book_with heap x new caller frame next (with_mark (Held caller) object) 1 refl refl refl (sym (refs_as x ∙ lawful.free_refs.one x object there free hidden)) (λ n other. refs_as n) (going w).book;
        works = record {
          stage = w.2.stage;
          locals = changed.locals_moved heap x new caller plan frame next refl w.0.op w.2.locals (λ local n kind e h. changed.object_here heap x new caller object (with_mark (Held caller) object) there refl refl n kind h);
          loose = record {
            each = λ k d lt. let l = w.2.loose.each k d lt in changed.loose_moved heap x new caller plan frame next refl (get_or frame.loose k d) (not_held (get_or frame.loose k d) l.held) (omega (arith, refs_as (get_or frame.loose k d))) l;
            once = w.2.loose.once;
          };
          hand = hand;
          few_made = w.2.few_made;
          own_names = changed.names_kept heap x new caller frame.ticket frame.made w.2.own_names (λ z. w.2.own_names x object there z);
          own_seals = changed.seals_kept heap x new caller frame.ticket (frame.stage ≢ stages.Running) w.2.own_seals (λ b e m. absurd (held_sealed (ap (λ (o : Object). o.mark) (same_some e) ∙ m)));
          no_breach = w.2.no_breach;
        };
        held = changed.held_moved heap x new caller plan frame next refl (going w).held (λ local n e. not_held n ((going w).held local n e));
        why = λ n h. elim (changed.held_looked heap x new caller n h) [
          | inl l ↦ changed.reason_moved heap x new caller plan frame next refl n (omega (arith, refs_as n)) (λ has. has) (λ e. for_the_hand e) ((going w).why n l.1)
          | inr l ↦ for_the_hand (in_hand ∙ ap Some (sym l.0))
        ];
      };
      places = omega (arith, hidden_same heap x object (with_mark (Held caller) object) there);
      enough = omega arith;
      same = (refl, refl, refl, refl);
    }
      where
        next : Frame
        next = with_booked x object.kind 1 (record frame { place = place })

    pub takes_code : IsAtStep plan frame Want → Kept w.0.op x new (with_booked x object.kind 1 (advanced frame))
    takes_code at =
        take_going (frame.place + 1)
        (subst (HandAt plan taken caller next w.0.op) (sym at.tidy) (
          record { cursor = (tidy_hand plan heap caller w.0.op sound.heap frame (going w) at.tidy).0.cursor; seen = (tidy_hand plan heap caller w.0.op sound.heap frame (going w) at.tidy).0.seen },
          subst (HandWhile plan taken caller next w.0.op) (sym at.running)
              (after_want plan taken caller w.0.op taken_heap frame next (going w).code
              (changed.locals_moved heap x new caller plan frame frame refl w.0.op w.2.locals (λ local n kind e h. changed.object_here heap x new caller object (with_mark (Held caller) object) there refl refl n kind h))
              at.there
              (record {
                at = before.at;
                place = before.place;
                local = before.local;
                field = before.field;
                step = before.step;
                read = changed.field_moved heap x new caller plan frame frame refl before.local before.field before.read (not_held before.read.name (record { object = before.read.object; there = before.read.there; held = before.read.held })) refl;
              })
              refl refl
              (λ n e. subst (IsHeld taken caller) (same_some (sym in_hand ∙ ap target_of e)) (changed.held_here heap x new caller (with_mark (Held caller) object) refl refl))),
        ))
      where
        next : Frame
        next = with_booked x object.kind 1 (advanced frame)

        before : IsAfterRead plan heap caller frame
        before = hand_before plan core calls caller is lawful sound w Want at

    pub takes_first : (name : Name) (booked : Booked) → IsGivenUp frame name booked → Kept w.0.op x new (with_booked x object.kind 1 frame)
    takes_first name booked given =
        take_going frame.place
        (subst (HandAt plan taken caller next w.0.op) (sym given.first) (
          changed.cleared_moved heap x new caller plan frame next name (not_held name (loose_held plan core calls caller is lawful sound w name given.rest given.first).held) (refs_as name) refl refl refl
              (λ m s. changed.sealed_on heap x new caller m (not_sealed m s) s) now.0,
          now.1,
        ))
      where
        next : Frame
        next = with_booked x object.kind 1 frame

        now : HasCleared plan heap frame name × StandsOpen plan frame frame.stage
        now = subst (HandAt plan heap caller frame w.0.op) given.first w.2.hand

  -- ---- letting go, giving up

  module _ (w : Entered) (x : Name) (rest : List Name) (first : frame.loose ≡ x ∷ rest) (new : Option Object) where
    abbrev left : Heap
    left = put_at heap x new

    -- the first loose object is held no longer
    let_off : (cursor spares : ℕ) → cursor ≡ 0 → frame.hand ≡ None → frame.seen ≡ false → ((b : Object) → new ≡ Some b → b.mark ≢ Held caller) → ((b : Object) → new ≡ Some b → b.mark ≡ Sealed frame.ticket → ⊥)
        → ((n : Name) → n ≢ x → refs left n ≡ refs heap n) → (object : Object) → finite.get heap x ≡ Some object → IsGoing plan left caller w.0.op (without_booked x (record frame { loose = behind frame.loose; cursor = cursor; spares = spares }))
    let_off cursor spares k none seen unheld unsealed refs_as object there = record {
      code = (going w).code;
      book = changed.book_without heap x new caller frame next unheld refl refs_as (going w).book;
      works = record {
        stage = w.2.stage;
        locals = changed.locals_moved heap x new caller plan frame next refl w.0.op w.2.locals (λ local n kind e h. changed.object_on heap x new caller n kind (not_local local n e) h);
        loose = record { each = subst (All (IsLoose left caller next)) (sym (ap behind first)) loose; once = subst (AllPairs (λ (a b : Name). a ≢ b)) (sym (ap behind first)) (λ i j d lt lt'. once (suc i) (suc j) d (omega (arith, lt)) (omega (arith, lt'))) };
        hand = subst (HandAt plan left caller next w.0.op) (sym (ap behind first)) (hand_at rest loose);
        few_made = w.2.few_made;
        own_names = changed.names_kept heap x new caller frame.ticket frame.made w.2.own_names (λ z. w.2.own_names x object there z);
        own_seals = changed.seals_kept heap x new caller frame.ticket (frame.stage ≢ stages.Running) w.2.own_seals (λ b e m. absurd (unsealed b e m));
        no_breach = w.2.no_breach;
      };
      held = changed.held_moved heap x new caller plan frame next refl (going w).held not_local;
      why = λ n h. elim (changed.held_looked heap x new caller n h) [
        | inl l ↦ changed.reason_moved heap x new caller plan frame next refl n (omega (arith, refs_as n l.0)) (λ has. in_rest n l.0 has) (λ e. absurd (no_some (sym (ap target_of none) ∙ e))) ((going w).why n l.1)
        | inr l ↦ absurd (unheld l.1.0 l.1.1 l.1.2)
      ];
    }
      where
        next : Frame
        next = without_booked x (record frame { loose = behind frame.loose; cursor = cursor; spares = spares })

        each : All (IsLoose heap caller frame) (x ∷ rest)
        each = subst (All (IsLoose heap caller frame)) first w.2.loose.each

        once : AllPairs (λ (a b : Name). a ≢ b) (x ∷ rest)
        once = subst (AllPairs (λ (a b : Name). a ≢ b)) first w.2.loose.once

        not_first : (k : ℕ) (d : Name) → k < length rest → get_or rest k d ≢ x
        not_first k d lt same = once 0 (suc k) d (omega arith) (omega (arith, lt)) (sym same)

        loose : All (IsLoose left caller next) rest
        loose k d lt = changed.loose_moved heap x new caller plan frame next refl (get_or rest k d) (not_first k d lt) (omega (arith, refs_as (get_or rest k d) (not_first k d lt))) (each (suc k) d (omega (arith, lt)))

        not_local : (local : ℕ) (n : Name) → slice_get frame.locals local ≡ Some (Ref (Some n)) → n ≢ x
        not_local local n e same =
            let some = field_refers frame.locals local n (get_or_from_slice_get frame.locals local (Ref (Some n)) (Ref None) e) in
            let zero_at : locals_to frame x ≡ 0 = (first_of_all (IsLoose heap caller frame) x rest each).no_local in
            absurd (omega (arith, some, zero_at, ap (locals_to frame) same))

        in_rest : (n : Name) → n ≢ x → Contains frame.loose n → Contains (behind frame.loose) n
        in_rest n other has = subst (λ l. Contains l n) (sym (ap behind first)) (by (subst (λ l. Contains l n) first has))
          where
            by : Contains (x ∷ rest) n → Contains rest n
            by (zero, lt, e) = absurd (other (sym e))
            by (suc k, lt, e) = (k, omega (arith, lt), e)

        stands : StandsOpen plan frame frame.stage
        stands = (subst (HandAt plan heap caller frame w.0.op) first w.2.hand).1

        hand_at : (names : List Name) → All (IsLoose left caller next) names → HandAt plan left caller next w.0.op names
        hand_at [] all = (record { cursor = k; seen = seen }, open_while plan left caller w.0.op next frame.stage stands none)
        hand_at (n ∷ names) all = (fresh_loose plan left caller w.0.op next n (first_of_all (IsLoose left caller next) n names all) (record { cursor = k; seen = seen }) none, stands)

  pub lets_go_first : (w : Entered) (x : Name) (rest : List Name) (first : frame.loose ≡ x ∷ rest)
      → (finite.get frame.book x ≡ None) ⊎ ((booked : Booked) × (finite.get frame.book x ≡ Some booked) × ((nat_lt 0 x.ticket && (booked.fields == 0)) ≡ false))
      → (object : Object) → finite.get heap x ≡ Some object → object.mark ≡ Held caller → Kept w.0.op x (Some (with_mark Free object)) (without_booked x (record frame { loose = behind frame.loose }))
  lets_go_first w x rest first what object there held = by (subst (HandAt plan heap caller frame w.0.op) first w.2.hand).0
    where
      new : Option Object
      new = Some (with_mark Free object)

      held_x : IsHeld heap caller x
      held_x = record { object = object; there = there; held = held }

      unheld : (b : Object) → Some (with_mark Free object) ≡ Some b → b.mark ≢ Held caller
      unheld b e m = free_held (ap (λ (o : Object). o.mark) (same_some e) ∙ m)

      unsealed : (b : Object) → Some (with_mark Free object) ≡ Some b → b.mark ≡ Sealed frame.ticket → ⊥
      unsealed b e m = free_sealed (ap (λ (o : Object). o.mark) (same_some e) ∙ m)

      refs_as : (n : Name) → refs (put_at heap x (Some (with_mark Free object))) n ≡ refs heap n
      refs_as n = same_refs heap (ticket_in core.world) caller x n (Some object) (Some (with_mark Free object)) there refl

      is_open : is_sealed object.mark ≡ false
      is_open = ap is_sealed held

      not_given_up : IsHidden x → refs heap x ≡ 0 → ⊥
      not_given_up hidden none = case what
        where
          case : (finite.get frame.book x ≡ None) ⊎ ((booked : Booked) × (finite.get frame.book x ≡ Some booked) × ((nat_lt 0 x.ticket && (booked.fields == 0)) ≡ false)) → ⊥
          case (inl e) = let at = (sound.each caller).book.all x held_x in no_some (sym e ∙ at.1)
          case (inr some) =
              let at = (sound.each caller).book.booked x some.0 some.1 in
              let zero_fields : some.0.fields ≡ 0 = omega (arith, at.fields, none) in
              let more : some.0.fields ≢ 0 = grind (arith, nat_tests, some.2, hidden) in
              more zero_fields

      by : HasCleared plan heap frame x → Kept w.0.op x (Some (with_mark Free object)) (without_booked x (record frame { loose = behind frame.loose }))
      by (clears o found hidden none clearing) = absurd (not_given_up hidden none)
      by (lets_go how not_now none) = record {
        heap_is = heap_kept (source_of plan) heap x sound.heap new (Some object) there (changes object (with_mark Free object) refl (λ z. sym is_open) (λ declared e f. f));
        going = let_off w x rest first new frame.cursor frame.spares not_now.cursor none not_now.seen unheld unsealed (λ n other. refs_as n) object there;
        places = omega (arith, hidden_same heap x object (with_mark Free object) there);
        enough = omega arith;
        same = (refl, refl, refl, refl);
      }

  pub gives_up_first : (w : Entered) (x : Name) (booked : Booked) (given : IsGivenUp frame x booked) → reference_from plan booked.kind frame.cursor ≡ None
      → Kept w.0.op x None (without_booked x (record frame { loose = behind frame.loose; cursor = 0; spares = frame.spares + 1 }))
  gives_up_first w x booked given no_more = record {
    heap_is = heap_kept (source_of plan) heap x sound.heap None (Some c.object) c.there (goes c.object given.hidden c.unreferred);
    going = let_off w x given.rest given.first None 0 (frame.spares + 1) refl none seen (λ b e m. no_some e) (λ b e m. no_some e) (λ n other. same_refs heap (ticket_in core.world) caller x n (Some c.object) None c.there (none_refers n c.object.fields null)) c.object c.there;
    places = omega (arith, hidden_gone heap x c.object c.there given.hidden);
    enough = omega arith;
    same = (refl, refl, refl, refl);
  }
    where
      c : IsCleared plan core calls caller is lawful sound x booked
      c = cleared plan core calls caller is lawful sound w x booked given

      no_reference : reference_from plan c.object.kind frame.cursor ≡ None
      no_reference = ap (λ k. reference_from plan k frame.cursor) (sym c.kind) ∙ no_more

      none : frame.hand ≡ None
      none = by frame.hand refl
        where
          by : (h : Option Value) → frame.hand ≡ h → h ≡ None
          by None e = refl
          by (Some v) e = let got = c.clearing.in_hand v e in absurd (no_some (sym no_reference ∙ got.1))

      seen : frame.seen ≡ false
      seen = by frame.seen refl
        where
          by : (b : Bool) → frame.seen ≡ b → b ≡ false
          by false e = refl
          by true e = absurd (no_some (sym none ∙ (c.clearing.seen e).1))

      null : (at : ℕ) → target_in (field_of c.object at) ≡ None
      null at = elim (cases_lt at frame.cursor) as (λ _. target_in (field_of c.object at) ≡ None) [
        | inl before ↦ c.clearing.before at before
        | inr behind_it ↦ no_reference_from plan heap sound.heap x c.object c.there frame.cursor no_reference at behind_it
      ]

  -- ---- sealing

  pub seals_one : (w : Entered) (end : End) (x : Name) (object : Object) → frame.loose ≡ [] → frame.stage ≡ stages.Ended end → first_referring 0 frame.locals ≡ None → finite.get heap x ≡ Some object → object.mark ≡ Held caller → IsHidden x
      → Kept w.0.op x (Some (with_mark (Sealed frame.ticket) object)) (without_booked x (record frame { breach = or_first frame.breach x }))
  seals_one w end x object tidy ended null there held hidden = record {
    heap_is = heap_kept (source_of plan) heap x sound.heap new (Some object) there (changes object (with_mark (Sealed frame.ticket) object) refl (λ z. absurd (omega (arith, hidden, z))) (λ declared e f. f));
    going = record {
      code = (going w).code;
      book = changed.book_without heap x new caller frame next unheld refl (λ n other. refs_as n) (going w).book;
      works = record {
        stage = w.2.stage;
        locals = changed.locals_moved heap x new caller plan frame next refl w.0.op w.2.locals (λ local n kind e h. absurd (no_local local n e));
        loose = record { each = λ k d lt. absurd (omega (arith, lt, ap length tidy)); once = w.2.loose.once };
        hand = subst (HandAt plan after caller next w.0.op) (sym tidy) (record { cursor = now.0.cursor; seen = now.0.seen }, subst (HandWhile plan after caller next w.0.op) (sym ended) none);
        few_made = w.2.few_made;
        own_names = changed.names_kept heap x new caller frame.ticket frame.made w.2.own_names (λ z. w.2.own_names x object there z);
        own_seals = λ n o e m runs. not_running runs;
        no_breach = λ runs. absurd (not_running runs);
      };
      held = changed.held_moved heap x new caller plan frame next refl (going w).held (λ local n e. absurd (no_local local n e));
      why = λ n h. elim (changed.held_looked heap x new caller n h) [
        | inl l ↦ changed.reason_moved heap x new caller plan frame next refl n (omega (arith, refs_as n)) (λ has. has) (λ e. absurd (no_some (sym (ap target_of none) ∙ e))) ((going w).why n l.1)
        | inr l ↦ absurd (unheld l.1.0 l.1.1 l.1.2)
      ];
    };
    places = omega (arith, hidden_same heap x object (with_mark (Sealed frame.ticket) object) there);
    enough = omega arith;
    same = (refl, refl, refl, refl);
  }
    where
      new : Option Object
      new = Some (with_mark (Sealed frame.ticket) object)

      after : Heap
      after = put_at heap x (Some (with_mark (Sealed frame.ticket) object))

      next : Frame
      next = without_booked x (record frame { breach = or_first frame.breach x })

      now : IsNotClearing frame × HandWhile plan heap caller frame w.0.op frame.stage
      now = tidy_hand plan heap caller w.0.op sound.heap frame (going w) tidy

      none : frame.hand ≡ None
      none = subst (HandWhile plan heap caller frame w.0.op) ended now.1

      unheld : (b : Object) → Some (with_mark (Sealed frame.ticket) object) ≡ Some b → b.mark ≢ Held caller
      unheld b e m = held_sealed (sym m ∙ ap (λ (o : Object). o.mark) (sym (same_some e)))

      refs_as : (n : Name) → refs (put_at heap x (Some (with_mark (Sealed frame.ticket) object))) n ≡ refs heap n
      refs_as n = same_refs heap (ticket_in core.world) caller x n (Some object) (Some (with_mark (Sealed frame.ticket) object)) there refl

      no_local : (local : ℕ) (n : Name) → slice_get frame.locals local ≡ Some (Ref (Some n)) → ⊥
      no_local local n e = no_some (sym (all_null 0 frame.locals null local) ∙ ap target_in (get_or_from_slice_get frame.locals local (Ref (Some n)) (Ref None) e))

      not_running : frame.stage ≡ stages.Running → ⊥
      not_running runs = let clash : stages.Ended end ≡ stages.Running = sym ended ∙ runs in cc

  -- ---- making

  has_blank : (h : Heap) (ty : Ty) → HasType (plain h) ty (blank ty)
  has_blank h types.Int = tt
  has_blank h (types.Of kind) = tt

  blanks : (h : Heap) (fields : List FieldDecl) → HasFields (plain h) fields (blank_fields fields)
  blanks h fields = record {
    one_each = length-map fields (λ (f : FieldDecl). blank f.ty);
    typed = λ at field value field_is value_is.
        let image : Some value ≡ Some (blank field.ty) = sym value_is ∙ slice_get-map (λ (f : FieldDecl). blank f.ty) fields at ∙ ap (option_map (λ (f : FieldDecl). blank f.ty)) field_is in
        subst (λ v. HasType (plain h) field.ty v) (sym (same_some image)) (has_blank h field.ty);
  }

  typed_make : (source : _) (locals : List Ty) (step : Step) → IsTypedStep source locals step → (kind : ℕ) → step ≡ Make kind → IsNodeKind source kind
  typed_make source locals step (codes.read a b) kind e = absurd (cc)
  typed_make source locals step codes.want kind e = absurd (cc)
  typed_make source locals step (codes.set a) kind e = absurd (cc)
  typed_make source locals step (codes.copy a b) kind e = absurd (cc)
  typed_make source locals step (codes.drop a) kind e = absurd (cc)
  typed_make source locals step (codes.make {kind = k} a) kind e = let same : k ≡ kind = cc in subst (IsNodeKind source) same a
  typed_make source locals step (codes.write a b c) kind e = absurd (cc)
  typed_make source locals step codes.eval kind e = absurd (cc)
  typed_make source locals step codes.emit kind e = absurd (cc)
  typed_make source locals step (codes.test leaps) kind e = absurd (no_some (sym (ap jump_of e) ∙ leaps))
  typed_make source locals step codes.give kind e = absurd (cc)

  module _ (w : Entered) (kind : ℕ) (at : IsAtStep plan frame (Make kind)) (few : frame.made < allocs_of plan frame.call) (absent : finite.get heap (next_name frame) ≡ None) where
    abbrev x : Name
    x = next_name frame

    abbrev object : Object
    object = made_object plan caller kind

    abbrev next : Frame
    next = with_booked x kind 0 (with_hand (Some (Ref (Some x))) (advanced (record frame { made = frame.made + 1; spares = frame.spares - 1 })))

    abbrev with_it : Heap
    with_it = put_at heap x (Some object)

    node : IsNodeKind (source_of plan) kind
    node = typed_make (source_of plan) (types_of w.0.op) (Make kind) ((going w).code.typed frame.place (Make kind) at.there) kind refl

    made_heap : IsHeapOf (source_of plan) (plain with_it)
    made_heap =
        heap_kept (source_of plan) heap x sound.heap (Some object) None absent
        (comes object w.1 node (λ declared e. subst (λ d. HasFields (plain heap) declared.fields (object_of kind d).fields) (sym e) (blanks heap declared.fields)))

    made_refs : (n : Name) → refs with_it n ≡ refs heap n
    made_refs n = same_refs heap (ticket_in core.world) caller x n None (Some object) absent (sym (none_refers n object.fields (made_null kind (slice_get (source_of plan).kinds kind))))

    not_there : (n : Name) (o : Object) → finite.get heap n ≡ Some o → n ≢ x
    not_there n o e same = no_some (sym absent ∙ ap (finite.get heap) (sym same) ∙ e)

    none_in_hand : frame.hand ≡ None
    none_in_hand = hand_before plan core calls caller is lawful sound w (Make kind) at

    has_it : HasObject (plain with_it) x kind
    has_it = record { object = plain_object object; is_there = plain_there with_it x object (get_here names heap x (Some object)); of_kind = refl }

    after_make : HandBefore plan with_it caller next w.0.op (slice_get (steps_of plan frame.call) (frame.place + 1))
    after_make =
        let u = (going w).code.used frame.place (Make kind) at.there refl in
        subst (HandBefore plan with_it caller next w.0.op) (sym u.1) (by u.0 (frame.place + 1) ((going w).code.filled (frame.place + 1) u.0 u.1 u.2) refl)
      where
        no_read : {b : ℕ} {local field : ℕ} → b ≡ frame.place → slice_get (steps_of plan frame.call) b ≡ Some (Read local field) → ⊥
        no_read same e = let clash' : Make kind ≡ Read _ _ = same_some (sym at.there ∙ ap (slice_get (steps_of plan frame.call)) (sym same) ∙ e) in cc

        no_want : {b : ℕ} → b ≡ frame.place → slice_get (steps_of plan frame.call) b ≡ Some Want → ⊥
        no_want same e = let clash' : Make kind ≡ Want = same_some (sym at.there ∙ ap (slice_get (steps_of plan frame.call)) (sym same) ∙ e) in cc

        no_eval : {b : ℕ} {value : Expr} → b ≡ frame.place → slice_get (steps_of plan frame.call) b ≡ Some (Eval value) → ⊥
        no_eval same e = let clash' : Make kind ≡ Eval _ = same_some (sym at.there ∙ ap (slice_get (steps_of plan frame.call)) (sym same) ∙ e) in cc

        same_kind : {b : ℕ} {k : ℕ} → b ≡ frame.place → slice_get (steps_of plan frame.call) b ≡ Some (Make k) → k ≡ kind
        same_kind same e = let same_step : Make kind ≡ Make _ = same_some (sym at.there ∙ ap (slice_get (steps_of plan frame.call)) (sym same) ∙ e) in cc

        by : (t : Step) (p : ℕ) → IsFilledFor (source_of plan) (types_of w.0.op) (steps_of plan frame.call) p t → p ≡ frame.place + 1 → HandBefore plan with_it caller next w.0.op (Some t)
        by t p (codes.evaluated b e f of) z = absurd (no_eval (omega (arith, e, z)) f)
        by t p (codes.loaded b e f of) z = absurd (no_read (omega (arith, e, z)) f.step)
        by t p (codes.followed b e f want of) z = absurd (no_want {b = b + 1} (omega (arith, e, z)) want)
        by t p (codes.made b {local = l} {kind = k} e f of) z = record {
          value = Ref (Some x);
          in_hand = refl;
          ty = types.Of kind;
          declared = of ∙ ap (λ n. Some (types.Of n)) (same_kind (omega (arith, e, z)) f);
          typed = has_it;
          held = λ n h. subst (IsHeld with_it caller) (same_some (ap target_of h)) (changed.held_here heap x (Some object) caller object refl refl);
        }
        by t p (codes.wanted b e f) z = absurd (no_read (omega (arith, e, z)) f.step)
        by t p (codes.stored b e f) z = absurd (no_eval (omega (arith, e, z)) f)
        by t p (codes.told b e f) z = absurd (no_eval (omega (arith, e, z)) f)
        by t p (codes.linked b e f want of) z = absurd (no_want {b = b + 1} (omega (arith, e, z)) want)

    pub makes_one : Kept w.0.op x (Some object) next
    makes_one = record {
      heap_is = made_heap;
      going = record {
        code = (going w).code;
        book = changed.book_with heap x (Some object) caller frame next object 0 refl refl refl (sym (made_refs x ∙ no_dangling (source_of plan) heap sound.heap x absent)) (λ n other. made_refs n) (going w).book;
        works = record {
          stage = w.2.stage;
          locals = changed.locals_moved heap x (Some object) caller plan frame next refl w.0.op w.2.locals (λ local n k e h. let o = (going w).held local n e in changed.object_on heap x (Some object) caller n k (not_there n o.object o.there) h);
          loose = record { each = λ k d lt. absurd (omega (arith, lt, ap length at.tidy)); once = w.2.loose.once };
          hand = subst (HandAt plan with_it caller next w.0.op) (sym at.tidy)
              (let t = tidy_hand plan heap caller w.0.op sound.heap frame (going w) at.tidy in (record { cursor = t.0.cursor; seen = t.0.seen }, subst (HandWhile plan with_it caller next w.0.op) (sym at.running) after_make));
          few_made = omega (arith, few, allocs);
          own_names = changed.names_kept heap x (Some object) caller frame.ticket (frame.made + 1) (λ n o e z. omega (arith, w.2.own_names n o e z)) (λ z. omega arith);
          own_seals = changed.seals_kept heap x (Some object) caller frame.ticket (frame.stage ≢ stages.Running) w.2.own_seals (λ b e m. absurd (held_sealed (ap (λ (o : Object). o.mark) (same_some e) ∙ m)));
          no_breach = w.2.no_breach;
        };
        held = changed.held_moved heap x (Some object) caller plan frame next refl (going w).held (λ local n e. let o = (going w).held local n e in not_there n o.object o.there);
        why = λ n h. elim (changed.held_looked heap x (Some object) caller n h) [
          | inl l ↦ changed.reason_moved heap x (Some object) caller plan frame next refl n (omega (arith, made_refs n)) (λ has. has) (λ e. absurd (no_some (sym (ap target_of none_in_hand) ∙ e))) ((going w).why n l.1)
          | inr l ↦ for_the_hand (ap Some (sym l.0))
        ];
      };
      places = omega (arith, hidden_come heap x object absent w.1, some_spare);
      enough = omega (arith, some_spare);
      same = (refl, refl, refl, refl);
    }
      where
        allocs : allocs_of plan frame.call ≡ w.0.op.allocs
        allocs = ap (λ d. option_map_or (λ (o : OpDecl). o.allocs) d 0) w.0.declared

        some_spare : 0 < frame.spares
        some_spare = omega (arith, lawful.totals.enough caller w.1, few)
