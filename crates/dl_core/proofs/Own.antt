-- Each event of a caller that has entered keeps what holds of that caller: reads, takes, and looks at what is sealed.
use Rattle.std.proofs.Common.{◌≡◌, inr, ℕ, ◌+◌, ◌≤◌, true, Option, Some, None, refl, sym, ap, subst, ◌∙◌, arith}
use Rattle.std.specs.Prelude.{slice_get}
use Rattle.std.specs.FinMap as finite
use Rattle.dl_ir.specs.declared.answers.End.{End}
use Rattle.dl_ir.specs.declared.answers.End.TheVariants as ends
use Rattle.dl_ir.specs.declared.expressions.Expr.{Expr}
use Rattle.dl_ir.specs.declared.modules.OpDecl.{OpDecl}
use Rattle.dl_ir.specs.declared.modules.Ty.{Ty}
use Rattle.dl_ir.specs.declared.modules.Ty.TheVariants as types
use Rattle.dl_ir.specs.declared.names.Name.{Name}
use Rattle.dl_ir.specs.declared.names.Value.{Value}
use Rattle.dl_ir.specs.declared.names.Value.TheVariants.{Int, Ref}
use Rattle.dl_ir.specs.Evaluation.{target_of}
use Rattle.dl_ir.specs.Heap.{IsHeapOf, HasType, hidden_count}
use Rattle.dl_ir.specs.References.{target_in}
use Rattle.dl_ir.specs.Typed.{IsLocalOf, HasFieldOf, types_of}
use Rattle.dl_instr.specs.declared.steps.Step.{Step}
use Rattle.dl_instr.specs.declared.steps.Step.TheVariants.{Read, Want, Make, Eval}
use Rattle.dl_core.specs.declared.objects.Mark.TheVariants.{Held, Sealed}
use Rattle.dl_core.specs.declared.objects.Object.{Object}
use Rattle.dl_core.specs.declared.stages.Booked.{Booked}
use Rattle.dl_core.specs.declared.stages.Stage.TheVariants as stages
use Rattle.dl_core.specs.Codes as codes
use Rattle.dl_core.specs.Codes.{IsGoodCode, IsFilledFor, IsReadAt}
use Rattle.dl_core.specs.Heaps.{Heap, put_at, field_of, plain, IsHeld, IsSealed}
use Rattle.dl_core.specs.Plans.{Plan, IsPlan, source_of, steps_of, reference_from}
use Rattle.dl_core.specs.Frames.{Frame, advanced, with_hand, ended, target_at, target_in_hand}
use Rattle.dl_core.specs.LocalSteps.{ready}
use Rattle.dl_core.specs.Core.{Core, frame_of}
use Rattle.dl_core.specs.Reached.{Calls}
use Rattle.dl_core.specs.Lawful.{IsLawful, HasReason, for_a_local, for_fields, for_the_list, for_the_hand}
use Rattle.dl_core.specs.Sound.{IsSound, HandBefore, HandAt, HasCleared, clears}
use Rattle.dl_shape.proofs.Names.{names}
use Rattle.dl_core.proofs.Maps.{put_at_same}
use Rattle.dl_core.proofs.Names.{same_some, no_some}
use Rattle.dl_core.proofs.Kept.{ready_same}
use Rattle.dl_core.proofs.Why.{IsAtStep, IsGivenUp}
use Rattle.dl_core.proofs.Rows.{target_value}
use Rattle.dl_core.proofs.Typing.{field_has_type}
use Rattle.dl_core.proofs.Course.{IsGoing, loose_as}
use Rattle.dl_core.proofs.GoesOn.{ready_going, onward, tidy_hand, type_of_value, kind_of_local}
use Rattle.dl_core.proofs.Events.{Works, code_now, hand_before, cleared, IsCleared}

module _ (plan : Plan) (core : Core) (calls : Calls) (caller : ℕ) (is : IsPlan plan) (lawful : IsLawful plan core calls) (sound : IsSound plan core calls) where
  abbrev heap : Heap
  heap = core.world.heap

  abbrev frame : Frame
  frame = frame_of core.world caller

  abbrev Entered : Type 0
  Entered = Works plan core calls caller is lawful sound

  -- what holds of a caller that has entered
  pub going_now : (w : Entered) → IsGoing plan heap caller w.0.op frame
  going_now w = record {
    code = code_now plan core calls caller is lawful sound w;
    book = (sound.each caller).book;
    works = w.2;
    held = λ local name e. lawful.locals_held caller local name w.1 e;
    why = λ name held. lawful.held_why caller name w.1 held;
  }

  -- the heap, the caller and the places after an event
  pub record Keeps (op : OpDecl) (name : Name) (left : Option Object) (next : Frame) : Type 0 where
    pub heap_is : IsHeapOf (source_of plan) (plain (put_at heap name left))
    pub going : IsGoing plan (put_at heap name left) caller op next
    pub places : next.spares + hidden_count (plain (put_at heap name left)) ≡ frame.spares + hidden_count (plain heap)
    pub enough : frame.spares + frame.made ≤ next.spares + next.made
    pub same : (next.call ≡ frame.call) × (next.index ≡ frame.index) × (next.ticket ≡ frame.ticket) × (next.finished ≡ frame.finished)

  -- what is made ready after it
  pub made_ready : (op : OpDecl) (name : Name) (left : Option Object) (effect : Frame) → Keeps op name left effect → Keeps op name left (ready plan effect)
  made_ready op name left effect k =
      let same = ready_same plan effect in
      record {
        heap_is = k.heap_is;
        going = ready_going plan (put_at heap name left) caller op k.heap_is effect k.going;
        places = omega (arith, k.places, same.6);
        enough = omega (arith, k.enough, same.4, same.6);
        same = (same.0 ∙ k.same.0, same.1 ∙ k.same.1, same.3 ∙ k.same.2, same.9 ∙ k.same.3);
      }

  -- where the object stays as it is
  pub looks : (op : OpDecl) (name : Name) (effect : Frame) → effect.spares ≡ frame.spares → effect.made ≡ frame.made → (effect.call ≡ frame.call) × (effect.index ≡ frame.index) × (effect.ticket ≡ frame.ticket) × (effect.finished ≡ frame.finished) → IsGoing plan heap caller op effect → Keeps op name (finite.get heap name) effect
  looks op name effect s m public going =
      let same = put_at_same names heap name in
      record {
        heap_is = subst (λ h. IsHeapOf (source_of plan) (plain h)) (sym same) sound.heap;
        going = subst (λ h. IsGoing plan h caller op effect) (sym same) going;
        places = omega (arith, s, ap (λ h. hidden_count (plain h)) same);
        enough = omega (arith, s, m);
        same = public;
      }

  -- ---- reads

  same_read : {a b c d : ℕ} → Read a b ≡ Read c d → (a ≡ c) × (b ≡ d)
  same_read e = (cc, cc)

  -- behind a read
  after_read : (w : Entered) (local field : ℕ) (name : Name) (object : Object) (next : Frame) → slice_get (steps_of plan frame.call) frame.place ≡ Some (Read local field) → target_at frame local ≡ Some name → finite.get heap name ≡ Some object → object.mark ≡ Held caller
      → next.call ≡ frame.call → next.locals ≡ frame.locals → next.hand ≡ Some (field_of object field) → next.place ≡ frame.place + 1 → HandBefore plan heap caller next w.0.op (slice_get (steps_of plan frame.call) (frame.place + 1))
  after_read w local field name object next there at found held same_call same_locals hand place =
      let u = (going_now w).code.used frame.place (Read local field) there refl in
      subst (HandBefore plan heap caller next w.0.op) (sym u.1) (by u.0 (frame.place + 1) ((going_now w).code.filled (frame.place + 1) u.0 u.1 u.2) refl)
    where
      no_eval : {b : ℕ} {value : Expr} → b ≡ frame.place → slice_get (steps_of plan frame.call) b ≡ Some (Eval value) → ⊥
      no_eval same e = let clash' : Read local field ≡ Eval _ = same_some (sym there ∙ ap (slice_get (steps_of plan frame.call)) (sym same) ∙ e) in cc

      no_want : {b : ℕ} → b ≡ frame.place → slice_get (steps_of plan frame.call) b ≡ Some Want → ⊥
      no_want same e = let clash' : Read local field ≡ Want = same_some (sym there ∙ ap (slice_get (steps_of plan frame.call)) (sym same) ∙ e) in cc

      no_make : {b : ℕ} {kind : ℕ} → b ≡ frame.place → slice_get (steps_of plan frame.call) b ≡ Some (Make kind) → ⊥
      no_make same e = let clash' : Read local field ≡ Make _ = same_some (sym there ∙ ap (slice_get (steps_of plan frame.call)) (sym same) ∙ e) in cc

      read_is : (b l f : ℕ) → b ≡ frame.place → slice_get (steps_of plan frame.call) b ≡ Some (Read l f) → (l ≡ local) × (f ≡ field)
      read_is b l f same e = same_read (same_some (sym e ∙ ap (slice_get (steps_of plan frame.call)) same ∙ there))

      field_type : (kind : ℕ) (ty : Ty) → IsLocalOf (types_of w.0.op) local kind → HasFieldOf (source_of plan) kind field ty → HasType (plain heap) ty (field_of object field)
      field_type kind ty of has =
          field_has_type (source_of plan) heap sound.heap name object kind field ty found (kind_of_local plan heap caller w.0.op sound.heap frame w.2.locals local kind name object of at found) has

      number_not_ref : (v : Value) → HasType (plain heap) types.Int v → (n : Name) → v ≡ Ref (Some n) → ⊥
      number_not_ref (Int k) h n e = let clash' : Int k ≡ Ref (Some n) = e in cc
      number_not_ref (Ref t) h n e = h

      by : (t : Step) (at : ℕ) → IsFilledFor (source_of plan) (types_of w.0.op) (steps_of plan frame.call) at t → at ≡ frame.place + 1 → HandBefore plan heap caller next w.0.op (Some t)
      by t p (codes.evaluated b e f of) z = absurd (no_eval (omega (arith, e, z)) f)
      by t p (codes.loaded b {other = l} {field = fd} e f of) z =
          let same = read_is b l fd (omega (arith, e, z)) f.step in
          let typed = field_type f.kind types.Int (subst (λ x. IsLocalOf (types_of w.0.op) x f.kind) same.0 f.is_local) (subst (λ x. HasFieldOf (source_of plan) f.kind x types.Int) same.1 f.has_field) in
          record {
            value = field_of object field;
            in_hand = hand;
            ty = types.Int;
            declared = of;
            typed = type_of_value plan heap caller w.0.op sound.heap types.Int (field_of object field) typed;
            held = λ n h. absurd (number_not_ref (field_of object field) typed n (same_some (sym hand ∙ h)));
          }
      by t p (codes.followed b e f want of) z = absurd (no_want {b = b + 1} (omega (arith, e, z)) want)
      by t p (codes.made b e f of) z = absurd (no_make (omega (arith, e, z)) f)
      by t p (codes.wanted b e f) z = record {
        at = frame.place;
        place = place;
        local = local;
        field = field;
        step = ap (λ c. slice_get (steps_of plan c) frame.place) same_call ∙ there;
        read = record { name = name; is_local = ap (λ ls. target_of (slice_get ls local)) same_locals ∙ at; object = object; there = found; held = held; in_hand = hand };
      }
      by t p (codes.stored b e f) z = absurd (no_eval (omega (arith, e, z)) f)
      by t p (codes.told b e f) z = absurd (no_eval (omega (arith, e, z)) f)
      by t p (codes.linked b e f want of) z = absurd (no_want {b = b + 1} (omega (arith, e, z)) want)

  pub reads_code : (w : Entered) (local field : ℕ) (name : Name) (object : Object) → IsAtStep plan frame (Read local field) → target_at frame local ≡ Some name → finite.get heap name ≡ Some object → object.mark ≡ Held caller
      → IsGoing plan heap caller w.0.op (with_hand (Some (field_of object field)) (advanced frame))
  reads_code w local field name object at to found held =
      onward plan heap caller w.0.op sound.heap frame (frame.place + 1) frame.turns (Some (field_of object field)) frame.emitted (going_now w) at.tidy at.running
      (after_read w local field name object (with_hand (Some (field_of object field)) (advanced frame)) at.there to found held refl refl refl refl)
      (λ n e. absurd (no_some (sym (ap target_of (hand_before plan core calls caller is lawful sound w (Read local field) at)) ∙ e)))

  -- the first loose object's field is read
  pub reads_first : (w : Entered) (field : ℕ) (name : Name) (booked : Booked) (given : IsGivenUp frame name booked) → reference_from plan booked.kind frame.cursor ≡ Some field → frame.hand ≡ None
      → (object : Object) → finite.get heap name ≡ Some object → IsGoing plan heap caller w.0.op (with_hand (Some (field_of object field)) frame)
  reads_first w field name booked given at none object there = record {
    code = (going_now w).code;
    book = record { booked = (going_now w).book.booked; all = (going_now w).book.all };
    works = record {
      stage = w.2.stage;
      locals = record { one_each = w.2.locals.one_each; typed = w.2.locals.typed };
      loose = record { each = loose_as heap caller frame next refl frame.loose w.2.loose.each; once = w.2.loose.once };
      hand = subst (HandAt plan heap caller next w.0.op) (sym given.first) (now (subst (HandAt plan heap caller frame w.0.op) given.first w.2.hand).0, (subst (HandAt plan heap caller frame w.0.op) given.first w.2.hand).1);
      few_made = w.2.few_made;
      own_names = w.2.own_names;
      own_seals = w.2.own_seals;
      no_breach = w.2.no_breach;
    };
    held = (going_now w).held;
    why = λ n held. reason n ((going_now w).why n held);
  }
    where
      next : Frame
      next = with_hand (Some (field_of object field)) frame

      c : IsCleared plan core calls caller is lawful sound name booked
      c = cleared plan core calls caller is lawful sound w name booked given

      now : HasCleared plan heap frame name → HasCleared plan heap (with_hand (Some (field_of object field)) frame) name
      now h =
          clears c.object c.there given.hidden c.unreferred (record {
            before = c.clearing.before;
            in_hand = λ value e. (field, ap (λ k. reference_from plan k frame.cursor) (sym c.kind) ∙ at, sym (same_some e) ∙ ap (λ (o : Object). field_of o field) (same_some (sym there ∙ c.there)));
            seen = λ e. absurd (no_some (sym none ∙ (c.clearing.seen e).1));
          })

      reason : (n : Name) → HasReason heap frame n → HasReason heap (with_hand (Some (field_of object field)) frame) n
      reason n (for_a_local some) = for_a_local some
      reason n (for_fields several) = for_fields several
      reason n (for_the_list has) = for_the_list has
      reason n (for_the_hand e) = absurd (no_some (sym (ap target_of none) ∙ e))

  -- ---- what is sealed

  not_running_seal : (end : End) → stages.Ended end ≡ stages.Running → ⊥
  not_running_seal end e = cc

  -- the operation ends at what is sealed
  pub sees_code : (w : Entered) (name : Name) → IsAtStep plan frame Want → target_in_hand frame ≡ Some name → IsSealed heap name → IsGoing plan heap caller w.0.op (ended (ends.Sealed name) frame)
  sees_code w name at to sealed = record {
    code = (going_now w).code;
    book = record { booked = (going_now w).book.booked; all = (going_now w).book.all };
    works = record {
      stage = inr (ends.Sealed name, refl);
      locals = record { one_each = w.2.locals.one_each; typed = w.2.locals.typed };
      loose = record { each = loose_as heap caller frame (ended (ends.Sealed name) frame) refl frame.loose w.2.loose.each; once = w.2.loose.once };
      hand = subst (HandAt plan heap caller (ended (ends.Sealed name) frame) w.0.op) (sym at.tidy)
          (let t = tidy_hand plan heap caller w.0.op sound.heap frame (going_now w) at.tidy in (record { cursor = t.0.cursor; seen = t.0.seen }, refl));
      few_made = w.2.few_made;
      own_names = w.2.own_names;
      own_seals = λ n object there mark runs. not_running_seal (ends.Sealed name) runs;
      no_breach = λ runs. absurd (not_running_seal (ends.Sealed name) runs);
    };
    held = (going_now w).held;
    why = λ n held. reason n held ((going_now w).why n held);
  }
    where
      sealed_held : {t : ℕ} → Sealed t ≡ Held caller → ⊥
      sealed_held e = cc

      reason : (n : Name) → IsHeld heap caller n → HasReason heap frame n → HasReason heap (ended (ends.Sealed name) frame) n
      reason n held (for_a_local some) = for_a_local some
      reason n held (for_fields several) = for_fields several
      reason n held (for_the_list has) = for_the_list has
      reason n held (for_the_hand e) =
          let same : n ≡ name = same_some (sym e ∙ to) in
          absurd (sealed_held (sym sealed.sealed ∙ ap (λ (o : Object). o.mark) (same_some (sym sealed.there ∙ ap (finite.get heap) (sym same) ∙ held.there)) ∙ held.held))

  -- the target of a field that is being cleared is sealed
  pub sees_first : (w : Entered) (field : ℕ) (name target : Name) (value : Value) (booked : Booked) (given : IsGivenUp frame name booked) → frame.hand ≡ Some value → target_in value ≡ Some target → IsSealed heap target
      → IsGoing plan heap caller w.0.op (record frame { seen = true })
  sees_first w field name target value booked given hand to sealed = record {
    code = (going_now w).code;
    book = record { booked = (going_now w).book.booked; all = (going_now w).book.all };
    works = record {
      stage = w.2.stage;
      locals = record { one_each = w.2.locals.one_each; typed = w.2.locals.typed };
      loose = record { each = loose_as heap caller frame next refl frame.loose w.2.loose.each; once = w.2.loose.once };
      hand = subst (HandAt plan heap caller next w.0.op) (sym given.first) (now, (subst (HandAt plan heap caller frame w.0.op) given.first w.2.hand).1);
      few_made = w.2.few_made;
      own_names = w.2.own_names;
      own_seals = w.2.own_seals;
      no_breach = w.2.no_breach;
    };
    held = (going_now w).held;
    why = λ n held. reason n ((going_now w).why n held);
  }
    where
      next : Frame
      next = record frame { seen = true }

      now : HasCleared plan heap (record frame { seen = true }) name
      now =
          let c = cleared plan core calls caller is lawful sound w name booked given in
          clears c.object c.there given.hidden c.unreferred (record {
            before = c.clearing.before;
            in_hand = c.clearing.in_hand;
            seen = λ e. (target, hand ∙ ap Some (target_value value target to), sealed);
          })

      reason : (n : Name) → HasReason heap frame n → HasReason heap (record frame { seen = true }) n
      reason n (for_a_local some) = for_a_local some
      reason n (for_fields several) = for_fields several
      reason n (for_the_list has) = for_the_list has
      reason n (for_the_hand e) = for_the_hand e
