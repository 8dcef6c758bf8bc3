-- The steps of a body's code in a lone run, against the serial meaning.
use Rattle.std.proofs.Common.{◌≡◌, ◌≢◌, inl, inr, ℕ, ℤ, ◌+◌, ◌-◌, ◌<◌, ◌≤◌, Bool, true, false, ◌||◌, List, [], ◌∷◌, ◌++◌, Option, Some, None, Ok, Err, refl, sym, ap, subst, ◌∙◌, arith, slice_get, slice_set, length}
use Rattle.std.specs.Prelude.{is_some, ◌==◌, nat_le, option_and_then, if◌then◌else◌}
use Rattle.std.specs.FinMap as finite
use Rattle.std.proofs.lemmas.Bool.Decides.{nat_tests}
use Rattle.std.proofs.lemmas.Option.{get_or_from_slice_get}
use Rattle.dl_ir.specs.declared.answers.End.{End}
use Rattle.dl_ir.specs.declared.answers.End.TheVariants as ends
use Rattle.dl_ir.specs.declared.answers.Fault.{Fault}
use Rattle.dl_ir.specs.declared.expressions.Cond.{Cond}
use Rattle.dl_ir.specs.declared.expressions.Cond.TheVariants.{Ints, Refs}
use Rattle.dl_ir.specs.declared.expressions.Expr.{Expr}
use Rattle.dl_ir.specs.declared.modules.Ty.{Ty}
use Rattle.dl_ir.specs.declared.modules.KindDecl.{KindDecl}
use Rattle.dl_ir.specs.declared.names.Name.{Name}
use Rattle.dl_ir.specs.declared.names.Value.{Value}
use Rattle.dl_ir.specs.declared.names.Value.TheVariants.{Int, Ref}
use Rattle.dl_ir.specs.declared.objects.Obj.{Obj}
use Rattle.dl_ir.specs.Evaluation.{target_of, value_of, holds_of}
use Rattle.dl_ir.specs.Heap.{Objects, with_field_of}
use Rattle.dl_ir.specs.Meaning.{State, fault_end, set_local, set_field, take_turn, add_emitted, object_of}
use Rattle.dl_ir.specs.References.{target_in}
use Rattle.dl_ir.specs.Relation as relation
use Rattle.dl_ir.specs.Relation.{RefersTo, HasField, IsSealed, IsOpen}
use Rattle.dl_ir.specs.Typed.{IsTypedExpr, IsTypedCond}
use Rattle.dl_instr.specs.declared.steps.Step.{Step}
use Rattle.dl_instr.specs.declared.steps.Step.TheVariants.{Read, Want, Set, Drop, Make, Eval, Write, Emit, Test, Jump, Give}
use Rattle.dl_instr.specs.declared.steps.Origin.TheVariants as origins
use Rattle.dl_instr.specs.declared.steps.Content.{Content}
use Rattle.dl_instr.specs.declared.steps.Content.TheVariants as contents
use Rattle.dl_instr.specs.Drops.{reads, sets, GoesOn}
use Rattle.dl_core.specs.declared.objects.Mark.TheVariants.{Held}
use Rattle.dl_core.specs.declared.objects.Object.{Object}
use Rattle.dl_core.specs.declared.stages.Stage.TheVariants as stages
use Rattle.dl_core.specs.declared.stages.Booked.{Booked}
use Rattle.dl_core.specs.Heaps.{Heap, put_at, field_of, is_sealed, plain, plain_object}
use Rattle.dl_core.specs.Plans.{source_of, steps_of, allocs_of}
use Rattle.dl_core.specs.Frames.{Book, Frame, has_booked, is_to_loosen, loosened, lowered, raised, assigned, advanced, ended, with_hand}
use Rattle.dl_core.specs.declared.dues.Due.TheVariants.{Reads, Writes, Takes, Makes}
use Rattle.dl_core.specs.LocalSteps.{given_out, Goes, Stops, next, next_step, on_number, on_object, on_truth, content_of}
use Rattle.dl_core.specs.Events.{act, take, with_mark, made_object}
use Rattle.dl_core.specs.Changes.{MayWrite}
use Rattle.dl_core.specs.Sound.{HasBook}
use Rattle.dl_shape.proofs.Names.{names}
use Rattle.dl_core.proofs.Maps.{put_at_same}
use Rattle.std.proofs.lemmas.Bool.{cases_Bool}
use Rattle.dl_core.proofs.Names.{same_some}
use Rattle.dl_core.proofs.Plain.{plain_put}
use Rattle.dl_core.proofs.Typing.{plain_there}
use Rattle.dl_core.proofs.Rows.{none_refers}
use Rattle.dl_core.proofs.Events.{made_null}
use Rattle.dl_core.proofs.Prunes.{Prunes, IsKeptIn, was_there, prunes_write, prunes_new}
use Rattle.dl_core.proofs.Lone.{Lone, Ends, local_on, event_on, by_book}
use Rattle.dl_core.proofs.WorkOff.{work_off, plain_mark}
use Rattle.dl_core.proofs.Alike.{Alike, IsDead, alike_on, alike_set, alike_drop, alike_read, alike_number, same_value, same_truth}
use Rattle.std.proofs.Math.Bool.{or-true}

-- another local is another number
pub not_set : (local x : ℕ) → x ≢ local → (local == x) ≡ false
not_set local x other = elim (cases_Bool (local == x)) [ inl t ↦ absurd (other (grind (arith, nat_tests, t))) | inr f ↦ f ]

pub is_itself : (n : ℕ) → (n == n) ≡ true
is_itself n = grind (arith, nat_tests)

open_sealed : {b : Bool} → b ≡ true → b ≡ false → ⊥
open_sealed p q = cc

module _ (l : Lone) (base : Frame) where
  abbrev pub code : List Step
  code = steps_of l.plan base.call

  -- the frame, while the code runs and no loose object is to be worked off
  abbrev pub At : ℕ → List Value → Option Value → ℕ → ℕ → List ℤ → Book → ℕ → Frame
  At place locals hand turns made emitted book spares =
      record base { stage = stages.Running; place = place; locals = locals; hand = hand; turns = turns; made = made; emitted = emitted; loose = []; cursor = 0; seen = false; book = book; spares = spares }

  -- the run stands at a place as the serial meaning in a state
  pub record Sim (place : ℕ) (s : State) (locals : List Value) (heap : Heap) : Type 0 where
    pub pruned : Prunes s.objects (plain heap)
    pub alike : Alike code place locals s.locals

  -- with this in the hand the run goes on from there
  abbrev pub FromHand : Option Value → ℕ → State → Type 0
  FromHand hand place s = (locals : List Value) (book : Book) (spares : ℕ) (heap : Heap) → Sim place s locals heap → Ends l heap (At place locals hand s.turns s.made s.emitted book spares)

  abbrev pub From : ℕ → State → Type 0
  From place s = FromHand None place s

  -- the run goes on from the end of the body
  abbrev pub Over : End → State → Type 0
  Over end s = (place : ℕ) (locals : List Value) (book : Book) (spares : ℕ) (heap : Heap) → Prunes s.objects (plain heap)
      → Ends l heap (record (At place locals None s.turns s.made s.emitted book spares) { stage = stages.Ended end })

  -- what a local or a field has lost is worked off, if it is loose
  loosen_on : (serial : Objects) (target : Option Name) (place : ℕ) (locals : List Value) (turns made : ℕ) (emitted : List ℤ) (book : Book) (spares : ℕ) (heap : Heap) → Prunes serial (plain heap)
      → ((book : Book) (spares : ℕ) (heap : Heap) → Prunes serial (plain heap) → Ends l heap (At place locals None turns made emitted book spares))
      → Ends l heap (loosened target (At place locals None turns made emitted book spares))
  loosen_on serial None place locals turns made emitted book spares heap pruned on = on book spares heap pruned
  loosen_on serial (Some name) place locals turns made emitted book spares heap pruned on =
      let raw = At place locals None turns made emitted book spares in
      elim (is_to_loosen raw name) as (λ c. Ends l heap (if c then record raw { loose = [] ++ name ∷ [] } else raw)) [
        | true ↦ work_off l raw serial on (name ∷ []) book spares heap pruned
        | false ↦ on book spares heap pruned
      ]

  -- a local is set
  set_on : (place to : ℕ) (step : Step) (local : ℕ) (value : Value) (s : State) (locals : List Value) (book : Book) (spares : ℕ) (heap : Heap) → slice_get code place ≡ Some step → GoesOn step place to → ((x : ℕ) → x ≢ local → sets x step ≡ false)
      → Sim place s locals heap → From to (set_local local value s) → Ends l heap (assigned local value (At to locals None s.turns s.made s.emitted book spares))
  set_on place to step local value s locals book spares heap is goes others sim on =
      loosen_on s.objects (target_of (slice_get locals local)) to (slice_set locals local value) s.turns s.made s.emitted book spares heap sim.pruned (λ b n h p.
      on (slice_set locals local value) b n h (record { pruned = p; alike = alike_set code place to step local value locals s.locals is goes others sim.alike }))

  -- the step sets nothing, and leaves the heap
  same_sim : (place to : ℕ) (step : Step) (s : State) (locals : List Value) (heap : Heap) → slice_get code place ≡ Some step → GoesOn step place to → ((x : ℕ) → sets x step ≡ false) → Sim place s locals heap → Sim to s locals heap
  same_sim place to step s locals heap is goes none sim = record { pruned = sim.pruned; alike = alike_on code place to step locals s.locals is goes none sim.alike }

  same_heap : (heap : Heap) (name : Name) (object : Object) → finite.get heap name ≡ Some object → put_at heap name (Some object) ≡ heap
  same_heap heap name object there = ap (put_at heap name) (sym there) ∙ put_at_same names heap name

  -- what the machine finds is what the serial heap has
  serial_there : (s : State) (heap : Heap) → Prunes s.objects (plain heap) → (name : Name) (object : Object) → finite.get heap name ≡ Some object → finite.get s.objects name ≡ Some (plain_object object)
  serial_there s heap pruned name object there = was_there pruned name (plain_object object) (plain_there heap name object there)

  -- set x from the hand
  pub hand_set : (place x : ℕ) (value : Value) (s : State) → slice_get code place ≡ Some (Set x origins.Hand) → From (place + 1) (set_local x value s) → FromHand (Some value) place s
  hand_set place x value s is on locals book spares heap sim =
      let f = At place locals (Some value) s.turns s.made s.emitted book spares in
      local_on l heap f (assigned x value (At (place + 1) locals None s.turns s.made s.emitted book spares)) (ap (next_step l.plan f) is)
      (set_on place (place + 1) (Set x origins.Hand) x value s locals book spares heap is refl (λ y other. not_set x y other) sim on)

  -- eval e
  pub eval_on : (types : List Ty) (place : ℕ) (e : Expr) (n : ℤ) (s : State) → slice_get code place ≡ Some (Eval e) → IsTypedExpr types e → value_of e s.locals ≡ Ok n → FromHand (Some (Int n)) (place + 1) s → From place s
  eval_on types place e n s is e_is value on locals book spares heap sim =
      let f = At place locals None s.turns s.made s.emitted book spares in
      local_on l heap f (At (place + 1) locals (Some (Int n)) s.turns s.made s.emitted book spares)
      (ap (next_step l.plan f) is ∙ ap (λ v. on_number v f (λ m. advanced (with_hand (Some (Int m)) f))) (same_value types locals s.locals (alike_number code place locals s.locals sim.alike) e_is ∙ value))
      (on locals book spares heap (same_sim place (place + 1) (Eval e) s locals heap is refl (λ x. refl) sim))

  pub eval_fault : (types : List Ty) (place : ℕ) (e : Expr) (fault : Fault) (s : State) → slice_get code place ≡ Some (Eval e) → IsTypedExpr types e → value_of e s.locals ≡ Err fault → Over (fault_end fault) s → From place s
  eval_fault types place e fault s is e_is value on locals book spares heap sim =
      let f = At place locals None s.turns s.made s.emitted book spares in
      local_on l heap f (ended (fault_end fault) f)
      (ap (next_step l.plan f) is ∙ ap (λ v. on_number v f (λ m. advanced (with_hand (Some (Int m)) f))) (same_value types locals s.locals (alike_number code place locals s.locals sim.alike) e_is ∙ value))
      (on place locals book spares heap sim.pruned)

  -- give e
  pub give_on : (types : List Ty) (place : ℕ) (e : Expr) (n : ℤ) (s : State) → slice_get code place ≡ Some (Give e) → IsTypedExpr types e → value_of e s.locals ≡ Ok n → Over (ends.Ok n) s → From place s
  give_on types place e n s is e_is value on locals book spares heap sim =
      let f = At place locals None s.turns s.made s.emitted book spares in
      local_on l heap f (ended (ends.Ok n) f)
      (ap (next_step l.plan f) is ∙ ap (λ v. on_number v f (λ m. ended (ends.Ok m) f)) (same_value types locals s.locals (alike_number code place locals s.locals sim.alike) e_is ∙ value))
      (on place locals book spares heap sim.pruned)

  pub give_fault : (types : List Ty) (place : ℕ) (e : Expr) (fault : Fault) (s : State) → slice_get code place ≡ Some (Give e) → IsTypedExpr types e → value_of e s.locals ≡ Err fault → Over (fault_end fault) s → From place s
  give_fault types place e fault s is e_is value on locals book spares heap sim =
      let f = At place locals None s.turns s.made s.emitted book spares in
      local_on l heap f (ended (fault_end fault) f)
      (ap (next_step l.plan f) is ∙ ap (λ v. on_number v f (λ m. ended (ends.Ok m) f)) (same_value types locals s.locals (alike_number code place locals s.locals sim.alike) e_is ∙ value))
      (on place locals book spares heap sim.pruned)

  not_full : (count : ℕ) → count < 16 → nat_le 16 count ≡ false
  not_full count room = grind (arith, nat_tests, room)

  is_full : (count : ℕ) → 16 ≤ count → nat_le 16 count ≡ true
  is_full count full = grind (arith, nat_tests, full)

  -- emit
  pub emit_on : (place : ℕ) (n : ℤ) (s : State) → slice_get code place ≡ Some Emit → length s.emitted < 16 → From (place + 1) (add_emitted n s) → FromHand (Some (Int n)) place s
  emit_on place n s is room on locals book spares heap sim =
      let f = At place locals (Some (Int n)) s.turns s.made s.emitted book spares in
      local_on l heap f (At (place + 1) locals None s.turns s.made (s.emitted ++ n ∷ []) book spares)
      (ap (next_step l.plan f) is ∙ ap (λ b. if b then Goes (ended ends.Emits f) else Goes (given_out f)) (not_full (length s.emitted) room))
      (on locals book spares heap (record { pruned = sim.pruned; alike = (same_sim place (place + 1) Emit s locals heap is refl (λ x. refl) sim).alike }))

  pub emit_full : (place : ℕ) (n : ℤ) (s : State) → slice_get code place ≡ Some Emit → 16 ≤ length s.emitted → Over ends.Emits s → FromHand (Some (Int n)) place s
  emit_full place n s is full on locals book spares heap sim =
      let f = At place locals (Some (Int n)) s.turns s.made s.emitted book spares in
      local_on l heap f (ended ends.Emits f)
      (ap (next_step l.plan f) is ∙ ap (λ b. if b then Goes (ended ends.Emits f) else Goes (given_out f)) (is_full (length s.emitted) full))
      (on place locals book spares heap sim.pruned)

  -- what a local that is read refers to
  same_target : (place p : ℕ) (step : Step) (s : State) (locals : List Value) (heap : Heap) (target : Option Name) → slice_get code place ≡ Some step → reads p step ≡ true → RefersTo s p target → Sim place s locals heap → target_of (slice_get locals p) ≡ target
  same_target place p step s locals heap target is read refers sim = ap target_of (alike_read code place p step locals s.locals is read sim.alike ∙ refers)

  -- read p.f
  pub read_on : (place p field : ℕ) (name : Name) (value : Value) (s : State) → slice_get code place ≡ Some (Read p field) → RefersTo s p (Some name) → HasField s name field value → FromHand (Some value) (place + 1) s → From place s
  read_on place p field name value s is refers has on locals book spares heap sim =
      let f = At place locals None s.turns s.made s.emitted book spares in
      event_on l heap f (Reads name field) name
      (ap (next_step l.plan f) is ∙ ap (λ t. on_object t f (λ m. Reads m field)) (same_target place p (Read p field) s locals heap (Some name) is (is_itself p) refers sim))
      refl (λ finds.
      let here = serial_there s heap sim.pruned name finds.object finds.there in
      let held : field_of finds.object field ≡ value = get_or_from_slice_get finds.object.fields field value (Ref None) (ap (option_and_then (λ (o : Obj). slice_get o.fields field)) (sym here) ∙ has) in
      record {
        after = At (place + 1) locals (Some (field_of finds.object field)) s.turns s.made s.emitted book spares;
        left = Some finds.object;
        acts = ap (act l.plan l.caller f (Reads name field)) finds.there;
        on = subst (λ h. Ends l h (At (place + 1) locals (Some (field_of finds.object field)) s.turns s.made s.emitted book spares)) (sym (same_heap heap name finds.object finds.there))
            (subst (λ v. Ends l heap (At (place + 1) locals (Some v) s.turns s.made s.emitted book spares)) (sym held)
            (on locals book spares heap (same_sim place (place + 1) (Read p field) s locals heap is refl (λ x. refl) sim)));
      })

  pub read_null : (place p field : ℕ) (s : State) → slice_get code place ≡ Some (Read p field) → RefersTo s p None → Over ends.Null s → From place s
  read_null place p field s is refers on locals book spares heap sim =
      let f = At place locals None s.turns s.made s.emitted book spares in
      local_on l heap f (ended ends.Null f)
      (ap (next_step l.plan f) is ∙ ap (λ t. on_object t f (λ m. Reads m field)) (same_target place p (Read p field) s locals heap None is (is_itself p) refers sim))
      (on place locals book spares heap sim.pruned)

  -- set p from q
  pub copy_on : (place p q : ℕ) (target : Option Name) (s : State) → slice_get code place ≡ Some (Set p (origins.Local q)) → RefersTo s q target → From (place + 1) (set_local p (Ref target) s) → From place s
  copy_on place p q target s is refers on locals book spares heap sim =
      let f = At place locals None s.turns s.made s.emitted book spares in
      local_on l heap f (assigned p (Ref target) (At (place + 1) locals None s.turns s.made s.emitted book spares))
      (ap (next_step l.plan f) is ∙ ap (λ t. Goes (assigned p (Ref t) (advanced f))) (same_target place q (Set p (origins.Local q)) s locals heap target is (is_itself q) refers sim))
      (set_on place (place + 1) (Set p (origins.Local q)) p (Ref target) s locals book spares heap is refl (λ y other. not_set p y other) sim on)

  -- drop p, where p = null stands in the body
  pub drop_on : (place p : ℕ) (s : State) → slice_get code place ≡ Some (Drop p) → From (place + 1) (set_local p (Ref None) s) → From place s
  drop_on place p s is on locals book spares heap sim =
      let f = At place locals None s.turns s.made s.emitted book spares in
      local_on l heap f (assigned p (Ref None) (At (place + 1) locals None s.turns s.made s.emitted book spares)) (ap (next_step l.plan f) is)
      (set_on place (place + 1) (Drop p) p (Ref None) s locals book spares heap is refl (λ y other. not_set p y other) sim on)

  -- jump
  pub jump_on : (place to : ℕ) (s : State) → slice_get code place ≡ Some (Jump to) → From to s → From place s
  jump_on place to s is on locals book spares heap sim =
      let f = At place locals None s.turns s.made s.emitted book spares in
      local_on l heap f (At to locals None s.turns s.made s.emitted book spares) (ap (next_step l.plan f) is) (on locals book spares heap (same_sim place to (Jump to) s locals heap is refl (λ x. refl) sim))

  -- what a test reads does not go by where it leads
  test_reads : (c : Cond) (a b : Bool) (x y local : ℕ) → reads local (Test c a x) ≡ reads local (Test c b y)
  test_reads (Ints rel left right) a b x y local = refl
  test_reads (Refs same left right) a b x y local = refl

  truth_is : (types : List Ty) (place to : ℕ) (c : Cond) (is_turn : Bool) (s : State) (locals : List Value) (heap : Heap) → slice_get code place ≡ Some (Test c is_turn to) → IsTypedCond types c → Sim place s locals heap → holds_of c locals ≡ holds_of c s.locals
  truth_is types place to c is_turn s locals heap is c_is sim =
      same_truth types locals s.locals (alike_number code place locals s.locals sim.alike) c_is (λ p r. alike_read code place p (Test c is_turn to) locals s.locals is (test_reads c is_turn false to 0 p ∙ r) sim.alike)

  -- test c, else to
  pub test_true : (types : List Ty) (place to : ℕ) (c : Cond) (s : State) → slice_get code place ≡ Some (Test c false to) → IsTypedCond types c → holds_of c s.locals ≡ Ok true → From (place + 1) s → From place s
  test_true types place to c s is c_is holds on locals book spares heap sim =
      let f = At place locals None s.turns s.made s.emitted book spares in
      local_on l heap f (At (place + 1) locals None s.turns s.made s.emitted book spares) (ap (next_step l.plan f) is ∙ ap (λ v. on_truth v to f) (truth_is types place to c false s locals heap is c_is sim ∙ holds))
      (on locals book spares heap (same_sim place (place + 1) (Test c false to) s locals heap is (inl refl) (λ x. refl) sim))

  pub test_false : (types : List Ty) (place to : ℕ) (c : Cond) (s : State) → slice_get code place ≡ Some (Test c false to) → IsTypedCond types c → holds_of c s.locals ≡ Ok false → From to s → From place s
  test_false types place to c s is c_is holds on locals book spares heap sim =
      let f = At place locals None s.turns s.made s.emitted book spares in
      local_on l heap f (At to locals None s.turns s.made s.emitted book spares) (ap (next_step l.plan f) is ∙ ap (λ v. on_truth v to f) (truth_is types place to c false s locals heap is c_is sim ∙ holds))
      (on locals book spares heap (same_sim place to (Test c false to) s locals heap is (inr refl) (λ x. refl) sim))

  pub test_fault : (types : List Ty) (place to : ℕ) (c : Cond) (fault : Fault) (s : State) → slice_get code place ≡ Some (Test c false to) → IsTypedCond types c → holds_of c s.locals ≡ Err fault → Over (fault_end fault) s → From place s
  test_fault types place to c fault s is c_is holds on locals book spares heap sim =
      let f = At place locals None s.turns s.made s.emitted book spares in
      local_on l heap f (ended (fault_end fault) f) (ap (next_step l.plan f) is ∙ ap (λ v. on_truth v to f) (truth_is types place to c false s locals heap is c_is sim ∙ holds))
      (on place locals book spares heap sim.pruned)

  -- a loop's test
  some_turns : (turns : ℕ) → 0 < turns → (turns == 0) ≡ false
  some_turns turns more = elim (cases_Bool (turns == 0)) [ inl t ↦ absurd (let none : turns ≡ 0 = grind (arith, nat_tests, t) in omega (arith, none, more)) | inr f ↦ f ]

  no_turns : (turns : ℕ) → turns ≡ 0 → (turns == 0) ≡ true
  no_turns turns none = grind (arith, nat_tests, none)

  turn_is : (place to : ℕ) (c : Cond) (s : State) (locals : List Value) (book : Book) (spares : ℕ) → slice_get code place ≡ Some (Test c true to) → 0 < s.turns
      → next l.plan (At place locals None s.turns s.made s.emitted book spares) ≡ on_truth (holds_of c locals) to (At place locals None (s.turns - 1) s.made s.emitted book spares)
  turn_is place to c s locals book spares is more =
      let f = At place locals None s.turns s.made s.emitted book spares in
      ap (next_step l.plan f) is ∙ ap (λ b. if b then Goes (ended ends.Fuel f) else on_truth (holds_of c locals) to (At place locals None (s.turns - 1) s.made s.emitted book spares)) (some_turns s.turns more)

  pub turn_none : (place to : ℕ) (c : Cond) (s : State) → slice_get code place ≡ Some (Test c true to) → s.turns ≡ 0 → Over ends.Fuel s → From place s
  turn_none place to c s is none on locals book spares heap sim =
      let f = At place locals None s.turns s.made s.emitted book spares in
      local_on l heap f (ended ends.Fuel f)
      (ap (next_step l.plan f) is ∙ ap (λ b. if b then Goes (ended ends.Fuel f) else on_truth (holds_of c locals) to (At place locals None (s.turns - 1) s.made s.emitted book spares)) (no_turns s.turns none))
      (on place locals book spares heap sim.pruned)

  pub turn_true : (types : List Ty) (place to : ℕ) (c : Cond) (s : State) → slice_get code place ≡ Some (Test c true to) → IsTypedCond types c → 0 < s.turns → holds_of c s.locals ≡ Ok true → From (place + 1) (take_turn s) → From place s
  turn_true types place to c s is c_is more holds on locals book spares heap sim =
      local_on l heap (At place locals None s.turns s.made s.emitted book spares) (At (place + 1) locals None (s.turns - 1) s.made s.emitted book spares)
      (turn_is place to c s locals book spares is more ∙ ap (λ v. on_truth v to (At place locals None (s.turns - 1) s.made s.emitted book spares)) (truth_is types place to c true s locals heap is c_is sim ∙ holds))
      (on locals book spares heap (record { pruned = sim.pruned; alike = (same_sim place (place + 1) (Test c true to) s locals heap is (inl refl) (λ x. refl) sim).alike }))

  pub turn_false : (types : List Ty) (place to : ℕ) (c : Cond) (s : State) → slice_get code place ≡ Some (Test c true to) → IsTypedCond types c → 0 < s.turns → holds_of c s.locals ≡ Ok false → From to (take_turn s) → From place s
  turn_false types place to c s is c_is more holds on locals book spares heap sim =
      local_on l heap (At place locals None s.turns s.made s.emitted book spares) (At to locals None (s.turns - 1) s.made s.emitted book spares)
      (turn_is place to c s locals book spares is more ∙ ap (λ v. on_truth v to (At place locals None (s.turns - 1) s.made s.emitted book spares)) (truth_is types place to c true s locals heap is c_is sim ∙ holds))
      (on locals book spares heap (record { pruned = sim.pruned; alike = (same_sim place to (Test c true to) s locals heap is (inr refl) (λ x. refl) sim).alike }))

  pub turn_fault : (types : List Ty) (place to : ℕ) (c : Cond) (fault : Fault) (s : State) → slice_get code place ≡ Some (Test c true to) → IsTypedCond types c → 0 < s.turns → holds_of c s.locals ≡ Err fault → Over (fault_end fault) (take_turn s) → From place s
  turn_fault types place to c fault s is c_is more holds on locals book spares heap sim =
      local_on l heap (At place locals None s.turns s.made s.emitted book spares) (ended (fault_end fault) (At place locals None (s.turns - 1) s.made s.emitted book spares))
      (turn_is place to c s locals book spares is more ∙ ap (λ v. on_truth v to (At place locals None (s.turns - 1) s.made s.emitted book spares)) (truth_is types place to c true s locals heap is c_is sim ∙ holds))
      (on place locals book spares heap sim.pruned)

  -- want: null passes, and so does what is held; what is free is taken
  marks_differ : (s : State) (heap : Heap) → Prunes s.objects (plain heap) → (name : Name) (object : Object) → finite.get heap name ≡ Some object → is_sealed object.mark ≡ true → IsOpen s (Some name) → ⊥
  marks_differ s heap pruned name object there shut (relation.unsealed found clear) =
      open_sealed shut (ap (λ (o : Obj). o.sealed) (same_some (sym (serial_there s heap pruned name object there) ∙ found)) ∙ clear)

  marks_agree : (s : State) (heap : Heap) → Prunes s.objects (plain heap) → (name : Name) (object : Object) → finite.get heap name ≡ Some object → is_sealed object.mark ≡ false → IsSealed s name → ⊥
  marks_agree s heap pruned name object there clear marked =
      open_sealed marked.sealed (ap (λ (o : Obj). o.sealed) (same_some (sym marked.there ∙ serial_there s heap pruned name object there)) ∙ clear)

  want_is : (place : ℕ) (name : Name) (s : State) (locals : List Value) (book : Book) (spares : ℕ) (b : Bool) → slice_get code place ≡ Some Want → has_booked (At place locals (Some (Ref (Some name))) s.turns s.made s.emitted book spares) name ≡ b
      → next l.plan (At place locals (Some (Ref (Some name))) s.turns s.made s.emitted book spares) ≡ (if b then Goes (At (place + 1) locals (Some (Ref (Some name))) s.turns s.made s.emitted book spares) else Stops (Takes name))
  want_is place name s locals book spares b is e =
      let f = At place locals (Some (Ref (Some name))) s.turns s.made s.emitted book spares in
      ap (next_step l.plan f) is ∙ ap (λ c. if c then Goes (advanced f) else Stops (Takes name)) e

  pub want_on : (place : ℕ) (target : Option Name) (s : State) → slice_get code place ≡ Some Want → IsOpen s target → FromHand (Some (Ref target)) (place + 1) s → FromHand (Some (Ref target)) place s
  want_on place None s is opened on locals book spares heap sim =
      local_on l heap (At place locals (Some (Ref None)) s.turns s.made s.emitted book spares) (At (place + 1) locals (Some (Ref None)) s.turns s.made s.emitted book spares)
      (ap (next_step l.plan (At place locals (Some (Ref None)) s.turns s.made s.emitted book spares)) is) (on locals book spares heap (same_sim place (place + 1) Want s locals heap is refl (λ x. refl) sim))
  want_on place (Some name) s is opened on locals book spares heap sim =
      let f = At place locals (Some (Ref (Some name))) s.turns s.made s.emitted book spares in
      let now = same_sim place (place + 1) Want s locals heap is refl (λ x. refl) sim in
      elim (cases_Bool (has_booked f name)) [
        | inl t ↦ local_on l heap f (At (place + 1) locals (Some (Ref (Some name))) s.turns s.made s.emitted book spares) (want_is place name s locals book spares true is t) (on locals book spares heap now)
        | inr n ↦ event_on l heap f (Takes name) name (want_is place name s locals book spares false is n) refl (λ finds.
            elim finds.mark [
              | inr shut ↦ absurd (marks_differ s heap sim.pruned name finds.object finds.there (ap is_sealed shut.1) opened)
              | inl free ↦ record {
                after = At (place + 1) locals (Some (Ref (Some name))) s.turns s.made s.emitted (finite.insert book name (record { kind = finds.object.kind; fields = 1 })) spares;
                left = Some (with_mark (Held l.caller) finds.object);
                acts = ap (act l.plan l.caller f (Takes name)) finds.there ∙ ap (take l.plan l.caller name f finds.object) free;
                on = on locals (finite.insert book name (record { kind = finds.object.kind; fields = 1 })) spares (put_at heap name (Some (with_mark (Held l.caller) finds.object)))
                    (record { pruned = subst (Prunes s.objects) (sym (plain_mark heap name finds.object (Held l.caller) finds.there (sym (ap is_sealed free)))) now.pruned; alike = now.alike });
              }
            ])
      ]

  -- and what is sealed ends the operation
  pub want_sealed : (place : ℕ) (name : Name) (s : State) → slice_get code place ≡ Some Want → IsSealed s name → Over (ends.Sealed name) s → FromHand (Some (Ref (Some name))) place s
  want_sealed place name s is marked on locals book spares heap sim =
      let f = At place locals (Some (Ref (Some name))) s.turns s.made s.emitted book spares in
      elim (cases_Bool (has_booked f name)) [
        | inl t ↦ by_book l heap f (λ has. absurd (by has (finite.get book name) refl t))
        | inr n ↦ event_on l heap f (Takes name) name (want_is place name s locals book spares false is n) refl (λ finds.
            elim finds.mark [
              | inl free ↦ absurd (marks_agree s heap sim.pruned name finds.object finds.there (ap is_sealed free) marked)
              | inr shut ↦ record {
                after = ended (ends.Sealed name) f;
                left = Some finds.object;
                acts = ap (act l.plan l.caller f (Takes name)) finds.there ∙ ap (take l.plan l.caller name f finds.object) shut.1;
                on = subst (λ h. Ends l h (ended (ends.Sealed name) f)) (sym (same_heap heap name finds.object finds.there)) (on place locals book spares heap sim.pruned);
              }
            ])
      ]
    where
      by : HasBook heap l.caller (At place locals (Some (Ref (Some name))) s.turns s.made s.emitted book spares) → (o : Option Booked) → finite.get book name ≡ o → has_booked (At place locals (Some (Ref (Some name))) s.turns s.made s.emitted book spares) name ≡ true → ⊥
      by has None e t = absurd (let clash : false ≡ true = sym (ap (λ q. is_some q) e) ∙ t in cc)
      by has (Some b) e t = let says = has.booked name b e in marks_agree s heap sim.pruned name says.object says.there (ap is_sealed says.held) marked

  -- what may be written is there
  kept_value : (heap : Heap) (value : Value) → MayWrite heap l.caller value → IsKeptIn (plain heap) value
  kept_value heap (Int n) may = tt
  kept_value heap (Ref None) may = tt
  kept_value heap (Ref (Some name)) may = (plain_object may.0.object, plain_there heap name may.0.object may.0.there)

  written : (s : State) (heap : Heap) (name : Name) (object : Object) (field : ℕ) (old value : Value) → Prunes s.objects (plain heap) → finite.get heap name ≡ Some object → HasField s name field old → MayWrite heap l.caller value
      → Prunes (set_field name field value s).objects (plain (put_at heap name (Some (record object { fields = slice_set object.fields field value }))))
  unfolding put_at
  written s heap name object field old value pruned there has may =
      let new : Object = record object { fields = slice_set object.fields field value } in
      let found = serial_there s heap pruned name object there in
      let held : slice_get object.fields field ≡ Some old = ap (option_and_then (λ (o : Obj). slice_get o.fields field)) (sym found) ∙ has in
      subst (λ p. Prunes p (plain (put_at heap name (Some new)))) (sym (ap (with_field_of s.objects name field value) found))
      (subst (Prunes (finite.insert s.objects name (plain_object new))) (sym (plain_put heap name (Some new)))
      (prunes_write pruned name (plain_object object) field old value (plain_there heap name object there) held (kept_value heap value may)))

  -- write q.f
  pub write_on : (place q field : ℕ) (content : Content) (name : Name) (old value hand : Value) (s : State) → slice_get code place ≡ Some (Write q field content) → reads q (Write q field content) ≡ true → RefersTo s q (Some name)
      → HasField s name field old → ((locals : List Value) (book : Book) (spares : ℕ) (heap : Heap) → Sim place s locals heap → content_of content (At place locals (Some hand) s.turns s.made s.emitted book spares) ≡ value)
      → From (place + 1) (set_field name field value s) → FromHand (Some hand) place s
  write_on place q field content name old value hand s is read refers has what on locals book spares heap sim =
      let f = At place locals (Some hand) s.turns s.made s.emitted book spares in
      event_on l heap f (Writes name field value) name
      (ap (next_step l.plan f) is ∙ ap (λ t. on_object t f (λ m. Writes m field (content_of content f))) (same_target place q (Write q field content) s locals heap (Some name) is read refers sim)
      ∙ ap (λ v. Stops (Writes name field v)) (what locals book spares heap sim))
      refl (λ finds.
      let new : Object = record finds.0.object { fields = slice_set finds.0.object.fields field value } in
      let book_then = raised (target_in value) (lowered (target_of (Some hand)) book) in
      record {
        after = loosened (target_of (Some hand)) (At (place + 1) locals None s.turns s.made s.emitted book_then spares);
        left = Some new;
        acts = ap (act l.plan l.caller f (Writes name field value)) finds.0.there;
        on = loosen_on (set_field name field value s).objects (target_of (Some hand)) (place + 1) locals s.turns s.made s.emitted book_then spares (put_at heap name (Some new))
            (written s heap name finds.0.object field old value sim.pruned finds.0.there has finds.1)
            (λ b n h p. on locals b n h (record { pruned = p; alike = (same_sim place (place + 1) (Write q field content) s locals heap is refl (λ x. refl) sim).alike }));
      })

  pub write_null : (place q field : ℕ) (content : Content) (hand : Value) (s : State) → slice_get code place ≡ Some (Write q field content) → reads q (Write q field content) ≡ true → RefersTo s q None → Over ends.Null s → FromHand (Some hand) place s
  write_null place q field content hand s is read refers on locals book spares heap sim =
      let f = At place locals (Some hand) s.turns s.made s.emitted book spares in
      local_on l heap f (ended ends.Null f)
      (ap (next_step l.plan f) is ∙ ap (λ t. on_object t f (λ m. Writes m field (content_of content f))) (same_target place q (Write q field content) s locals heap None is read refers sim))
      (on place locals book spares heap sim.pruned)

  -- what a local holds is written
  pub content_local : (place q field p : ℕ) (target : Option Name) (hand : Value) (s : State) → slice_get code place ≡ Some (Write q field (contents.Local p)) → RefersTo s p target
      → (locals : List Value) (book : Book) (spares : ℕ) (heap : Heap) → Sim place s locals heap → content_of (contents.Local p) (At place locals (Some hand) s.turns s.made s.emitted book spares) ≡ Ref target
  content_local place q field p target hand s is refers locals book spares heap sim =
      ap Ref (same_target place p (Write q field (contents.Local p)) s locals heap target is (ap (λ b. (q == p) || b) (is_itself p) ∙ or-true (q == p)) refers sim)

  -- the name of the object that is made next
  abbrev pub new_name : State → Name
  new_name s = record { ticket = base.ticket; index = s.made + 1 }

  abbrev pub new_object : ℕ → Obj
  new_object kind = object_of kind (slice_get (source_of l.plan).kinds kind)

  -- the state in which an object is made, and no local refers to it yet
  abbrev pub with_new : ℕ → State → State
  with_new kind s = record s { objects = finite.insert s.objects (new_name s) (new_object kind); made = s.made + 1 }

  made_plain : (kind : ℕ) (declared : Option KindDecl) → ◌≡◌ {A = Obj} (record { kind = kind; sealed = false; fields = (object_of kind declared).fields }) (object_of kind declared)
  made_plain kind None = refl
  made_plain kind (Some declared) = refl

  made_pruned : (s : State) (heap : Heap) (kind : ℕ) → Prunes s.objects (plain heap) → finite.get s.objects (new_name s) ≡ None → Prunes (with_new kind s).objects (plain (put_at heap (new_name s) (Some (made_object l.plan l.caller kind))))
  unfolding put_at
  made_pruned s heap kind pruned none =
      subst (Prunes (with_new kind s).objects)
      (sym (plain_put heap (new_name s) (Some (made_object l.plan l.caller kind)) ∙ ap (finite.insert (plain heap) (new_name s)) (made_plain kind (slice_get (source_of l.plan).kinds kind))))
      (prunes_new pruned (new_name s) (new_object kind) none (λ name. none_refers name (new_object kind).fields (λ i. made_null kind (slice_get (source_of l.plan).kinds kind) i)))

  may_make : (allocs count : ℕ) → count < allocs → nat_le allocs count ≡ false
  may_make allocs count room = grind (arith, nat_tests, room)

  may_not_make : (allocs count : ℕ) → allocs ≤ count → nat_le allocs count ≡ true
  may_not_make allocs count full = grind (arith, nat_tests, full)

  -- make K
  pub make_on : (place kind : ℕ) (s : State) → slice_get code place ≡ Some (Make kind) → s.made < allocs_of l.plan base.call → finite.get s.objects (new_name s) ≡ None → FromHand (Some (Ref (Some (new_name s)))) (place + 1) (with_new kind s) → From place s
  make_on place kind s is room none on locals book spares heap sim =
      let f = At place locals None s.turns s.made s.emitted book spares in
      event_on l heap f (Makes (new_name s) kind) (new_name s)
      (ap (next_step l.plan f) is ∙ ap (λ b. if b then Goes (ended ends.Quota f) else Stops (Makes (new_name s) kind)) (may_make (allocs_of l.plan base.call) s.made room))
      refl (λ finds. record {
        after = At (place + 1) locals (Some (Ref (Some (new_name s)))) s.turns (s.made + 1) s.emitted (finite.insert book (new_name s) (record { kind = kind; fields = 0 })) (spares - 1);
        left = Some (made_object l.plan l.caller kind);
        acts = ap (act l.plan l.caller f (Makes (new_name s) kind)) finds;
        on = on locals (finite.insert book (new_name s) (record { kind = kind; fields = 0 })) (spares - 1) (put_at heap (new_name s) (Some (made_object l.plan l.caller kind)))
            (record { pruned = made_pruned s heap kind sim.pruned none; alike = (same_sim place (place + 1) (Make kind) s locals heap is refl (λ x. refl) sim).alike });
      })

  pub make_quota : (place kind : ℕ) (s : State) → slice_get code place ≡ Some (Make kind) → allocs_of l.plan base.call ≤ s.made → Over ends.Quota s → From place s
  make_quota place kind s is full on locals book spares heap sim =
      let f = At place locals None s.turns s.made s.emitted book spares in
      local_on l heap f (ended ends.Quota f)
      (ap (next_step l.plan f) is ∙ ap (λ b. if b then Goes (ended ends.Quota f) else Stops (Makes (new_name s) kind)) (may_not_make (allocs_of l.plan base.call) s.made full))
      (on place locals book spares heap sim.pruned)

  -- a drop that was added, of a reference that is not read again
  pub added_on : (place p : ℕ) (target : Option Name) (s : State) → slice_get code place ≡ Some (Drop p) → IsDead code (place + 1) p → RefersTo s p target → From (place + 1) s → From place s
  added_on place p target s is dead refers on locals book spares heap sim =
      let f = At place locals None s.turns s.made s.emitted book spares in
      local_on l heap f (assigned p (Ref None) (At (place + 1) locals None s.turns s.made s.emitted book spares)) (ap (next_step l.plan f) is)
      (loosen_on s.objects (target_of (slice_get locals p)) (place + 1) (slice_set locals p (Ref None)) s.turns s.made s.emitted book spares heap sim.pruned (λ b n h q.
      on (slice_set locals p (Ref None)) b n h (record { pruned = q; alike = alike_drop code place (place + 1) (Drop p) p target locals s.locals is refl (λ y other. not_set p y other) dead refers sim.alike })))
