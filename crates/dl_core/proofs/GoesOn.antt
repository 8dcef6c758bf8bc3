-- Local steps keep what holds of their own caller.
use Rattle.std.proofs.Common.{◌≡◌, ◌++◌, inl, inr, ℕ, ℤ, ◌+◌, ◌-◌, ◌<◌, Bool, true, false, cond, List, [], ◌∷◌, length, get_or, Option, Some, None, refl, sym, ap, subst, ◌∙◌, arith}
use Rattle.std.specs.Prelude.{slice_get, slice_set, is_some, count_by, nat_le, nat_lt, ◌==◌, ◌&&◌, ◌||◌, Ok, Err, if◌then◌else◌}
use Rattle.std.specs.FinMap as finite
use Rattle.std.proofs.lemmas.Bool.{cases_lt, cases_Bool}
use Rattle.std.proofs.lemmas.List.{length-set, get_or-set_same}
use Rattle.std.proofs.lemmas.List.Sums.{sum_by-set}
use Rattle.std.proofs.lemmas.Option.{slice_get-get_or, slice_get_within}
use Rattle.dl_ir.specs.declared.answers.End.{End}
use Rattle.dl_ir.specs.declared.answers.End.TheVariants as ends
use Rattle.dl_ir.specs.declared.expressions.Expr.{Expr}
use Rattle.dl_ir.specs.declared.modules.OpDecl.{OpDecl}
use Rattle.dl_ir.specs.declared.modules.Ty.{Ty}
use Rattle.dl_ir.specs.declared.modules.Ty.TheVariants as types
use Rattle.dl_ir.specs.declared.names.Name.{Name}
use Rattle.dl_ir.specs.declared.names.Value.{Value}
use Rattle.dl_ir.specs.declared.names.Value.TheVariants.{Int, Ref}
use Rattle.dl_ir.specs.declared.objects.Obj.{Obj}
use Rattle.dl_ir.specs.Evaluation.{Number, Truth, number_of, value_of, holds_of, target_of}
use Rattle.dl_ir.specs.Heap.{IsHeapOf, HasType}
use Rattle.dl_ir.specs.References.{refers_to, target_in}
use Rattle.dl_ir.specs.Typed.{IsLocalOf, HasFieldOf, types_of}
use Rattle.dl_meaning.specs.Fitting.{HoldsType}
use Rattle.dl_instr.specs.declared.steps.Step.{Step}
use Rattle.dl_instr.specs.declared.steps.Step.TheVariants.{Read, Want, Set, Drop, Make, Eval, Write, Emit, Test, Jump, Give}
use Rattle.dl_instr.specs.declared.steps.Origin.TheVariants as origins
use Rattle.dl_instr.specs.declared.steps.Content.{Content}
use Rattle.dl_instr.specs.declared.steps.Content.TheVariants as contents
use Rattle.dl_instr.specs.Drops.{is_use}
use Rattle.dl_instr.specs.Jumps.{jump_of}
use Rattle.dl_core.specs.declared.objects.Object.{Object}
use Rattle.dl_core.specs.declared.stages.Booked.{Booked}
use Rattle.dl_core.specs.declared.stages.Stage.{Stage}
use Rattle.dl_core.specs.declared.stages.Stage.TheVariants as stages
use Rattle.dl_core.specs.Codes as codes
use Rattle.dl_core.specs.Codes.{IsGoodCode, IsFilledFor, IsReadAt, FitsContent, fills}
use Rattle.dl_core.specs.Heaps.{Heap, field_of, plain, IsHeld}
use Rattle.dl_core.specs.Plans.{Plan, source_of, steps_of, reference_from, allocs_of}
use Rattle.dl_core.specs.Frames.{Frame, assigned, advanced, with_hand, ended, target_at, target_in_hand, has_booked, value_in_hand}
use Rattle.dl_core.specs.declared.dues.Due.{Due}
use Rattle.dl_core.specs.declared.dues.Due.TheVariants.{Makes, Takes, Writes, LetsGo}
use Rattle.dl_core.specs.LocalSteps.{Next, Goes, Stops, next_name, on_number, on_object, on_truth, on_wanted, next_step, next_target, next_value, next_field, next_loose, next_local, next_stage, next_after, next, local_step, step_in, first_referring, refers, ready, given_out}
use Rattle.dl_core.specs.Lawful.{HasReason, for_a_local, for_fields, for_the_list, for_the_hand}
use Rattle.dl_core.specs.Sound.{HasBook, HasLocals, IsFieldInHand, IsAfterRead, HoldsHand, HandBefore, HandWhile, HandAt, HasCleared, clears, lets_go, IsNotClearing, StandsOpen}
use Rattle.dl_core.proofs.LocalSteps.{found_local, ready_keeps}
use Rattle.dl_core.proofs.Names.{same_some, no_some, same_named}
use Rattle.dl_core.proofs.Rows.{target_held, field_refers}
use Rattle.dl_core.proofs.Typing.{plain_there, field_has_type, no_reference_before}
use Rattle.dl_core.proofs.Course.{IsGoing, loosen, before_open, loose_as}
use Rattle.dl_lemmas.proofs.Places.{set_place}

clash : true ≡ false → ⊥
clash e = cc

-- ---- counting locals

-- a local that gets a value takes one count from what it referred to and gives one to what it refers to
count_set : (name : Name) (values : List Value) (local : ℕ) (value : Value) → local < length values
    → count_by (refers_to name) (slice_set values local value) + cond (refers_to name (get_or values local (Ref None))) 1 0 ≡ count_by (refers_to name) values + cond (refers_to name value) 1 0
count_set name values local value within = sum_by-set (λ x. cond (refers_to name x) 1 0) values local value (Ref None) within

not_target : (name : Name) (found : Option Value) (value : Value) → found ≡ Some value → (target_of found ≡ Some name → ⊥) → refers_to name value ≡ false
not_target name found (Int n) e other = refl
not_target name found (Ref None) e other = refl
not_target name found (Ref (Some m)) e other = elim (cases_Bool (refers_to name (Ref (Some m)))) [
  | inr f ↦ f
  | inl t ↦ absurd (other (ap target_of e ∙ ap Some (sym (same_named name m t))))
]

-- ---- what the code says of the next step

module _ (plan : Plan) (types : List Ty) (steps : List Step) (code : IsGoodCode (source_of plan) types steps) where
  fills_as : (b before : ℕ) (t s : Step) → b ≡ before → slice_get steps b ≡ Some t → slice_get steps before ≡ Some s → fills t ≡ true → fills s ≡ true
  fills_as b before t s same p q f = ap fills (same_some (sym q ∙ ap (slice_get steps) (sym same) ∙ p)) ∙ f

  -- a use stands only behind what fills the hand
  filled_by : (at : ℕ) (step : Step) → IsFilledFor (source_of plan) types steps at step → (before : ℕ) (s : Step) → at ≡ before + 1 → slice_get steps before ≡ Some s → fills s ≡ true
  filled_by at step (codes.evaluated b e there of) before s is found = fills_as b before _ s (omega (arith, e, is)) there found refl
  filled_by at step (codes.loaded b e there of) before s is found = fills_as b before _ s (omega (arith, e, is)) there.step found refl
  filled_by at step (codes.followed b e there want of) before s is found = fills_as (b + 1) before _ s (omega (arith, e, is)) want found refl
  filled_by at step (codes.made b e there of) before s is found = fills_as b before _ s (omega (arith, e, is)) there found refl
  filled_by at step (codes.wanted b e there) before s is found = fills_as b before _ s (omega (arith, e, is)) there.step found refl
  filled_by at step (codes.stored b e there) before s is found = fills_as b before _ s (omega (arith, e, is)) there found refl
  filled_by at step (codes.told b e there) before s is found = fills_as b before _ s (omega (arith, e, is)) there found refl
  filled_by at step (codes.linked b e there want of) before s is found = fills_as (b + 1) before _ s (omega (arith, e, is)) want found refl

  -- behind a step that does not fill the hand stands no use
  pub next_open : (at : ℕ) (s : Step) → slice_get steps at ≡ Some s → fills s ≡ false → (t : Step) → slice_get steps (at + 1) ≡ Some t → is_use t ≡ false
  next_open at s found f t there = elim (cases_Bool (is_use t)) [
    | inr not_used ↦ not_used
    | inl used ↦ absurd (clash (sym (filled_by (at + 1) t (code.filled (at + 1) t there used) at s refl found) ∙ f))
  ]

module _ (plan : Plan) (heap : Heap) (caller : ℕ) (op : OpDecl) (of_module : IsHeapOf (source_of plan) (plain heap)) where
  abbrev Going : Frame → Type 0
  Going frame = IsGoing plan heap caller op frame

  abbrev GoodCode : List Step → Type 0
  GoodCode steps = IsGoodCode (source_of plan) (types_of op) steps

  -- ---- uses behind what fills the hand

  -- behind an evaluation
  after_eval : (steps : List Step) → GoodCode steps → (place : ℕ) (value : Expr) → slice_get steps place ≡ Some (Eval value) → (n : ℤ) (frame : Frame) → frame.hand ≡ Some (Int n) → HandBefore plan heap caller frame op (slice_get steps (place + 1))
  after_eval steps code place value there n frame hand =
      let u = code.used place (Eval value) there refl in
      subst (HandBefore plan heap caller frame op) (sym u.1) (by u.0 (place + 1) (code.filled (place + 1) u.0 u.1 u.2) refl)
    where
      no_read : {b : ℕ} {local field : ℕ} → b ≡ place → slice_get steps b ≡ Some (Read local field) → ⊥
      no_read same e = let clash' : Eval value ≡ Read _ _ = same_some (sym there ∙ ap (slice_get steps) (sym same) ∙ e) in cc

      no_want : {b : ℕ} → b ≡ place → slice_get steps b ≡ Some Want → ⊥
      no_want same e = let clash' : Eval value ≡ Want = same_some (sym there ∙ ap (slice_get steps) (sym same) ∙ e) in cc

      no_make : {b : ℕ} {kind : ℕ} → b ≡ place → slice_get steps b ≡ Some (Make kind) → ⊥
      no_make same e = let clash' : Eval value ≡ Make _ = same_some (sym there ∙ ap (slice_get steps) (sym same) ∙ e) in cc

      by : (t : Step) (at : ℕ) → IsFilledFor (source_of plan) (types_of op) steps at t → at ≡ place + 1 → HandBefore plan heap caller frame op (Some t)
      by t at (codes.evaluated b e f of) is = record { value = Int n; in_hand = hand; ty = types.Int; declared = of; typed = tt; held = λ name h. let clash' : Int n ≡ Ref (Some name) = same_some (sym hand ∙ h) in absurd (cc) }
      by t at (codes.loaded b e f of) is = absurd (no_read (omega (arith, e, is)) f.step)
      by t at (codes.followed b e f want of) is = absurd (no_want {b = b + 1} (omega (arith, e, is)) want)
      by t at (codes.made b e f of) is = absurd (no_make (omega (arith, e, is)) f)
      by t at (codes.wanted b e f) is = absurd (no_read (omega (arith, e, is)) f.step)
      by t at (codes.stored b e f) is = (n, hand)
      by t at (codes.told b e f) is = (n, hand)
      by t at (codes.linked b e f want of) is = absurd (no_want {b = b + 1} (omega (arith, e, is)) want)

  -- a field's value by its type
  pub type_of_value : (ty : Ty) (value : Value) → HasType (plain heap) ty value → HoldsType (plain heap) ty value
  type_of_value types.Int (Int n) h = tt
  type_of_value types.Int (Ref t) h = h
  type_of_value (types.Of kind) (Int n) h = h
  type_of_value (types.Of kind) (Ref None) h = tt
  type_of_value (types.Of kind) (Ref (Some name)) h = h.1

  -- the kind of the object to which a local refers
  pub kind_of_local : (frame : Frame) → HasLocals plan heap frame op → (local kind : ℕ) (name : Name) (object : Object) → IsLocalOf (types_of op) local kind → target_at frame local ≡ Some name → finite.get heap name ≡ Some object → object.kind ≡ kind
  kind_of_local frame locals local kind name object of at there =
      let obj = locals.typed local (types.Of kind) (Ref (Some name)) of (target_held (slice_get frame.locals local) name at) in
      ap (λ (o : Obj). o.kind) (same_some (sym (plain_there heap name object there) ∙ obj.is_there)) ∙ obj.of_kind

  same_read : {a b c d : ℕ} → Read a b ≡ Read c d → (a ≡ c) × (b ≡ d)
  same_read e = (cc, cc)

  -- behind a want, when what is in the hand is held
  pub after_want : (frame after : Frame) → GoodCode (steps_of plan frame.call) → HasLocals plan heap frame op → slice_get (steps_of plan frame.call) frame.place ≡ Some Want → IsAfterRead plan heap caller frame
      → after.locals ≡ frame.locals → after.hand ≡ frame.hand → HoldsHand heap caller after → HandBefore plan heap caller after op (slice_get (steps_of plan frame.call) (frame.place + 1))
  after_want frame after code locals there before same_locals same_hand held =
      let u = code.used frame.place Want there refl in
      subst (HandBefore plan heap caller after op) (sym u.1) (by u.0 (frame.place + 1) (code.filled (frame.place + 1) u.0 u.1 u.2) refl)
    where
      field_in_hand : (local field : ℕ) → IsFieldInHand heap caller frame local field → IsFieldInHand heap caller after local field
      field_in_hand local field f = record {
        name = f.name;
        is_local = ap (λ ls. target_of (slice_get ls local)) same_locals ∙ f.is_local;
        object = f.object;
        there = f.there;
        held = f.held;
        in_hand = same_hand ∙ f.in_hand;
      }

      no_eval : {b : ℕ} {value : Expr} → b ≡ frame.place → slice_get (steps_of plan frame.call) b ≡ Some (Eval value) → ⊥
      no_eval same e = let clash' : Want ≡ Eval _ = same_some (sym there ∙ ap (slice_get (steps_of plan frame.call)) (sym same) ∙ e) in cc

      no_read : {b : ℕ} {local field : ℕ} → b ≡ frame.place → slice_get (steps_of plan frame.call) b ≡ Some (Read local field) → ⊥
      no_read same e = let clash' : Want ≡ Read _ _ = same_some (sym there ∙ ap (slice_get (steps_of plan frame.call)) (sym same) ∙ e) in cc

      no_make : {b : ℕ} {kind : ℕ} → b ≡ frame.place → slice_get (steps_of plan frame.call) b ≡ Some (Make kind) → ⊥
      no_make same e = let clash' : Want ≡ Make _ = same_some (sym there ∙ ap (slice_get (steps_of plan frame.call)) (sym same) ∙ e) in cc

      -- the read before, as the code has it
      read_is : (b local field : ℕ) → b ≡ before.at → slice_get (steps_of plan frame.call) b ≡ Some (Read local field) → (local ≡ before.local) × (field ≡ before.field)
      read_is b local field same e = same_read (same_some (sym e ∙ ap (slice_get (steps_of plan frame.call)) same ∙ before.step))

      content_before : (t : Ty) (local field : ℕ) (content : Content) → FitsContent (source_of plan) (types_of op) t content → (kind : ℕ) → t ≡ types.Of kind → IsFieldInHand heap caller after local field × HoldsHand heap caller after
          → HandBefore plan heap caller after op (Some (Write local field content))
      content_before t local field content codes.a_number kind e got = let clash' : types.Int ≡ types.Of kind = e in absurd (cc)
      content_before t local field content (codes.a_local of) kind e got = got
      content_before t local field content codes.a_null kind e got = got

      by : (t : Step) (at : ℕ) → IsFilledFor (source_of plan) (types_of op) (steps_of plan frame.call) at t → at ≡ frame.place + 1 → HandBefore plan heap caller after op (Some t)
      by t at (codes.evaluated b e f of) is = absurd (no_eval (omega (arith, e, is)) f)
      by t at (codes.loaded b e f of) is = absurd (no_read (omega (arith, e, is)) f.step)
      by t at (codes.followed b {other = other} {field = field} {kind = kind} e f want of) is =
          let same = read_is b other field (omega (arith, e, is, before.place)) f.step in
          let got = before.read in
          let object_kind = kind_of_local frame locals before.local f.kind got.name got.object (subst (λ l. IsLocalOf (types_of op) l f.kind) same.0 f.is_local) got.is_local got.there in
          record {
            value = field_of got.object before.field;
            in_hand = same_hand ∙ got.in_hand;
            ty = types.Of kind;
            declared = of;
            typed = type_of_value (types.Of kind) (field_of got.object before.field)
                (field_has_type (source_of plan) heap of_module got.name got.object f.kind before.field (types.Of kind) got.there object_kind (subst (λ x. HasFieldOf (source_of plan) f.kind x (types.Of kind)) same.1 f.has_field));
            held = held;
          }
      by t at (codes.made b e f of) is = absurd (no_make (omega (arith, e, is)) f)
      by t at (codes.wanted b e f) is = absurd (no_read (omega (arith, e, is)) f.step)
      by t at (codes.stored b e f) is = absurd (no_eval (omega (arith, e, is)) f)
      by t at (codes.told b e f) is = absurd (no_eval (omega (arith, e, is)) f)
      by t at (codes.linked b {local = local} {field = field} {kind = kind} {content = content} e f want fits) is =
          let same = read_is b local field (omega (arith, e, is, before.place)) f.step in
          content_before (types.Of kind) local field content fits kind refl
          (field_in_hand local field (subst (λ x. IsFieldInHand heap caller frame local x) (sym same.1) (subst (λ l. IsFieldInHand heap caller frame l before.field) (sym same.0) before.read)), held)

  -- ---- changes of the frame

  -- while nothing is loose, what the code has in hand is as the next step wants it, and nothing is being given up
  pub tidy_hand : (frame : Frame) → Going frame → frame.loose ≡ [] → IsNotClearing frame × HandWhile plan heap caller frame op frame.stage
  tidy_hand frame going tidy = subst (HandAt plan heap caller frame op) tidy going.works.hand

  -- the code goes on at a place
  pub onward : (frame : Frame) (place turns : ℕ) (hand : Option Value) (emitted : List ℤ) → Going frame → frame.loose ≡ [] → frame.stage ≡ stages.Running
      → HandBefore plan heap caller (record frame { place = place; turns = turns; hand = hand; emitted = emitted }) op (slice_get (steps_of plan frame.call) place)
      → ((name : Name) → target_in_hand frame ≡ Some name → target_of hand ≡ Some name) → Going (record frame { place = place; turns = turns; hand = hand; emitted = emitted })
  onward frame place turns hand emitted going tidy running before same = record {
    code = going.code;
    book = record { booked = going.book.booked; all = going.book.all };
    works = record {
      stage = going.works.stage;
      locals = record { one_each = going.works.locals.one_each; typed = going.works.locals.typed };
      loose = record { each = loose_as heap caller frame after refl frame.loose going.works.loose.each; once = going.works.loose.once };
      hand = subst (HandAt plan heap caller after op) (sym tidy) (record { cursor = (tidy_hand frame going tidy).0.cursor; seen = (tidy_hand frame going tidy).0.seen }, subst (HandWhile plan heap caller after op) (sym running) before);
      few_made = going.works.few_made;
      own_names = going.works.own_names;
      own_seals = going.works.own_seals;
      no_breach = going.works.no_breach;
    };
    held = going.held;
    why = λ name held. by name (going.why name held);
  }
    where
      after : Frame
      after = record frame { place = place; turns = turns; hand = hand; emitted = emitted }

      by : (name : Name) → HasReason heap frame name → HasReason heap (record frame { place = place; turns = turns; hand = hand; emitted = emitted }) name
      by name (for_a_local some) = for_a_local some
      by name (for_fields several) = for_fields several
      by name (for_the_list has) = for_the_list has
      by name (for_the_hand e) = for_the_hand (same name e)

  -- the operation ends, with nothing that the hand alone keeps
  pub over : (frame : Frame) (end : End) (turns : ℕ) → Going frame → frame.loose ≡ [] → target_in_hand frame ≡ None → Going (ended end (record frame { turns = turns }))
  over frame end turns going tidy none = record {
    code = going.code;
    book = record { booked = going.book.booked; all = going.book.all };
    works = record {
      stage = inr (end, refl);
      locals = record { one_each = going.works.locals.one_each; typed = going.works.locals.typed };
      loose = record { each = loose_as heap caller frame (ended end (record frame { turns = turns })) refl frame.loose going.works.loose.each; once = going.works.loose.once };
      hand = subst (HandAt plan heap caller (ended end (record frame { turns = turns })) op) (sym tidy) (record { cursor = (tidy_hand frame going tidy).0.cursor; seen = (tidy_hand frame going tidy).0.seen }, refl);
      few_made = going.works.few_made;
      own_names = going.works.own_names;
      own_seals = λ name object there sealed runs. not_running runs;
      no_breach = λ runs. absurd (not_running runs);
    };
    held = going.held;
    why = λ name held. by name (going.why name held);
  }
    where
      not_running : stages.Ended end ≡ stages.Running → ⊥
      not_running e = cc

      by : (name : Name) → HasReason heap frame name → HasReason heap (ended end (record frame { turns = turns })) name
      by name (for_a_local some) = for_a_local some
      by name (for_fields several) = for_fields several
      by name (for_the_list has) = for_the_list has
      by name (for_the_hand e) = absurd (no_some (sym none ∙ e))

  -- a local gets a value
  gets : (frame : Frame) (place : ℕ) (hand : Option Value) (local : ℕ) (value : Value) (ty : Ty) → Going frame → frame.loose ≡ [] → hand ≡ None → StandsOpen plan (record frame { place = place }) frame.stage
      → slice_get (types_of op) local ≡ Some ty → HoldsType (plain heap) ty value → ((name : Name) → value ≡ Ref (Some name) → IsHeld heap caller name)
      → ((name : Name) → target_in_hand frame ≡ Some name → value ≡ Ref (Some name)) → Going (assigned local value (record frame { place = place; hand = hand }))
  gets frame place hand local value ty going tidy none stands declared fits held_value same =
      loosen plan heap caller op (target_at frame local) after (record {
        code = going.code;
        book = record { booked = going.book.booked; all = going.book.all };
        stage = going.works.stage;
        locals = record {
          one_each = length-set frame.locals local value ∙ going.works.locals.one_each;
          typed = λ l t v a b. elim (set_place frame.locals local l value v b) [
            | inl new ↦ subst (λ u. HoldsType (plain heap) u v) (same_some (sym declared ∙ ap (slice_get (types_of op)) (sym new.0) ∙ a)) (subst (HoldsType (plain heap) ty) (sym new.1) fits)
            | inr old ↦ going.works.locals.typed l t v a old
          ];
        };
        loose = record { each = λ k d lt. absurd (omega (arith, lt, ap length tidy)); once = going.works.loose.once };
        few_made = going.works.few_made;
        own_names = going.works.own_names;
        own_seals = going.works.own_seals;
        no_breach = going.works.no_breach;
        held = λ l name e. elim (set_place frame.locals local l value (Ref (Some name)) e) [
          | inl new ↦ held_value name (sym new.1)
          | inr old ↦ going.held l name old
        ];
        why = λ name held other. by name other (going.why name held);
        stands = stands;
        none_loose = λ e. (record { cursor = (tidy_hand frame going tidy).0.cursor; seen = (tidy_hand frame going tidy).0.seen }, none);
        some_loose = λ name rest e. absurd (not_loose (sym tidy ∙ e));
      })
    where
      after : Frame
      after = record frame { place = place; hand = hand; locals = slice_set frame.locals local value }

      not_loose : {name : Name} {rest : List Name} → [] ≡ name ∷ rest → ⊥
      not_loose e = cc

      within : local < length frame.locals
      within = omega (arith, slice_get_within (types_of op) local ty declared, going.works.locals.one_each)

      old : slice_get frame.locals local ≡ Some (get_or frame.locals local (Ref None))
      old = slice_get-get_or frame.locals local (Ref None) within

      by : (name : Name) → (target_at frame local ≡ Some name → ⊥) → HasReason heap frame name → HasReason heap (record frame { place = place; hand = hand; locals = slice_set frame.locals local value }) name
      by name other (for_a_local some) =
          let lost : ◌≡◌ {A = ℕ} (cond (refers_to name (get_or frame.locals local (Ref None))) 1 0) 0 = ap {B = ℕ} (λ b. cond b 1 0) (not_target name (slice_get frame.locals local) (get_or frame.locals local (Ref None)) old other) in
          for_a_local (omega (arith, some, lost, count_set name frame.locals local value within))
      by name other (for_fields several) = for_fields several
      by name other (for_the_list has) = absurd (omega (arith, has.1, ap length tidy))
      by name other (for_the_hand e) =
          for_a_local (field_refers (slice_set frame.locals local value) local name (get_or-set_same frame.locals local value (Ref None) within ∙ same name e))

  -- ---- typed steps

  same_ref : (a b : Option Name) → Ref a ≡ Ref b → a ≡ b
  same_ref a b e = cc

  typed_copy : (step : Step) → codes.IsTypedStep (source_of plan) (types_of op) step → (local other : ℕ) → step ≡ Set local (origins.Local other) → (kind : ℕ) × IsLocalOf (types_of op) local kind × IsLocalOf (types_of op) other kind
  typed_copy step (codes.read a b) local other e = absurd (cc)
  typed_copy step codes.want local other e = absurd (cc)
  typed_copy step (codes.set a) local other e = absurd (cc)
  typed_copy step (codes.copy {local = l} {other = o} {kind = k} a b) local other e =
      let l_is : l ≡ local = cc in
      let o_is : o ≡ other = cc in
      (k, subst (λ x. IsLocalOf (types_of op) x k) l_is a, subst (λ x. IsLocalOf (types_of op) x k) o_is b)
  typed_copy step (codes.drop a) local other e = absurd (cc)
  typed_copy step (codes.make a) local other e = absurd (cc)
  typed_copy step (codes.write a b c) local other e = absurd (cc)
  typed_copy step codes.eval local other e = absurd (cc)
  typed_copy step codes.emit local other e = absurd (cc)
  typed_copy step (codes.test goes) local other e = absurd (no_some (sym (ap jump_of e) ∙ goes))
  typed_copy step codes.give local other e = absurd (cc)

  typed_drop : (step : Step) → codes.IsTypedStep (source_of plan) (types_of op) step → (local : ℕ) → step ≡ Drop local → (kind : ℕ) × IsLocalOf (types_of op) local kind
  typed_drop step (codes.read a b) local e = absurd (cc)
  typed_drop step codes.want local e = absurd (cc)
  typed_drop step (codes.set a) local e = absurd (cc)
  typed_drop step (codes.copy a b) local e = absurd (cc)
  typed_drop step (codes.drop {local = l} {kind = k} a) local e = let l_is : l ≡ local = cc in (k, subst (λ x. IsLocalOf (types_of op) x k) l_is a)
  typed_drop step (codes.make a) local e = absurd (cc)
  typed_drop step (codes.write a b c) local e = absurd (cc)
  typed_drop step codes.eval local e = absurd (cc)
  typed_drop step codes.emit local e = absurd (cc)
  typed_drop step (codes.test goes) local e = absurd (no_some (sym (ap jump_of e) ∙ goes))
  typed_drop step codes.give local e = absurd (cc)

  -- what the book has is held
  booked_held : (frame : Frame) → HasBook heap caller frame → (name : Name) → has_booked frame name ≡ true → IsHeld heap caller name
  booked_held frame book name e = by (finite.get frame.book name) refl e
    where
      by : (b : Option Booked) → finite.get frame.book name ≡ b → is_some b ≡ true → IsHeld heap caller name
      by None p q = absurd (clash (sym q))
      by (Some booked) p q = let at = book.booked name booked p in record { object = at.object; there = at.there; held = at.held }

  -- ---- local steps

  abbrev Keeps : Next → Type 0
  Keeps (Goes after) = Going after
  Keeps (Stops due) = Unit {0}

  module _ (frame : Frame) (going : Going frame) (tidy : frame.loose ≡ []) where
    module _ (running : frame.stage ≡ stages.Running) where
      abbrev steps : List Step
      steps = steps_of plan frame.call

      before : (step : Option Step) → slice_get steps frame.place ≡ step → HandBefore plan heap caller frame op step
      before step e = subst (HandBefore plan heap caller frame op) e (subst (HandWhile plan heap caller frame op) running (tidy_hand frame going tidy).1)

      -- from an open step the code goes on at another
      on_open : (place turns : ℕ) → frame.hand ≡ None → ((t : Step) → slice_get steps place ≡ Some t → is_use t ≡ false) → Going (record frame { place = place; turns = turns })
      on_open place turns none shut = onward frame place turns frame.hand frame.emitted going tidy running (before_open plan heap caller op (record frame { place = place; turns = turns }) (slice_get steps place) shut none) (λ name e. e)

      over_open : (end : End) → frame.hand ≡ None → Going (ended end frame)
      over_open end none = over frame end frame.turns going tidy (ap target_of none)

      next_shut : (s : Step) → slice_get steps frame.place ≡ Some s → fills s ≡ false → (t : Step) → slice_get steps (frame.place + 1) ≡ Some t → is_use t ≡ false
      next_shut s there f = next_open plan (types_of op) steps going.code frame.place s there f

      number_on : (number : Number) (goes : ℤ → Frame) → ((n : ℤ) → Going (goes n)) → frame.hand ≡ None → Keeps (on_number number frame goes)
      number_on (Ok n) goes each none = each n
      number_on (Err fault) goes each none = over_open _ none

      object_on : (target : Option Name) (due : Name → Due) → (target ≡ None → target_in_hand frame ≡ None) → Keeps (on_object target frame due)
      object_on None due none = over frame ends.Null frame.turns going tidy (none refl)
      object_on (Some name) due none = tt

      truth_on : (truth : Truth) (place turns : ℕ) → frame.hand ≡ None → ((t : Step) → slice_get steps (frame.place + 1) ≡ Some t → is_use t ≡ false) → ((t : Step) → slice_get steps place ≡ Some t → is_use t ≡ false)
          → Keeps (on_truth truth place (record frame { turns = turns }))
      truth_on (Ok true) place turns none on off = on_open (frame.place + 1) turns none on
      truth_on (Ok false) place turns none on off = on_open place turns none off
      truth_on (Err fault) place turns none on off = over frame _ turns going tidy (ap target_of none)

      copied : (other kind : ℕ) → IsLocalOf (types_of op) other kind → HoldsType (plain heap) (types.Of kind) (Ref (target_at frame other))
      copied other kind of = by (target_at frame other) refl
        where
          by : (t : Option Name) → target_at frame other ≡ t → HoldsType (plain heap) (types.Of kind) (Ref t)
          by None e = tt
          by (Some name) e = going.works.locals.typed other (types.Of kind) (Ref (Some name)) of (target_held (slice_get frame.locals other) name e)

      step_on : (step : Option Step) → slice_get steps frame.place ≡ step → Keeps (next_step plan frame step)
      step_on None e = over_open _ (before None e)
      step_on (Some (Read local field)) e = object_on (target_at frame local) _ (λ f. ap target_of (before (Some (Read local field)) e))
      step_on (Some Want) e = by (target_in_hand frame) refl
        where
          read : IsAfterRead plan heap caller frame
          read = before (Some Want) e

          on : HoldsHand heap caller frame → Going (advanced frame)
          on holds = onward frame (frame.place + 1) frame.turns frame.hand frame.emitted going tidy running (after_want frame (advanced frame) going.code going.works.locals e read refl refl holds) (λ name f. f)

          held_hand : (name : Name) → target_in_hand frame ≡ Some name → has_booked frame name ≡ true → HoldsHand heap caller frame
          held_hand name f booked n g = subst (IsHeld heap caller) (same_some (sym f ∙ ap target_of g)) (booked_held frame going.book name booked)

          by : (target : Option Name) → target_in_hand frame ≡ target → Keeps (on_wanted target frame)
          by None f = on (λ name g. absurd (no_some (sym f ∙ ap target_of g)))
          by (Some name) f = elim (has_booked frame name) as (λ b. has_booked frame name ≡ b → Keeps (if b then Goes (advanced frame) else Stops (Takes name))) [
            | true ↦ λ t. on (held_hand name f t)
            | false ↦ λ t. tt
          ] refl
      step_on (Some (Set local origins.Hand)) e =
          let h = before (Some (Set local origins.Hand)) e in
          let value_is : value_in_hand frame.hand ≡ h.value = ap value_in_hand h.in_hand in
          gets frame (frame.place + 1) None local (value_in_hand frame.hand) h.ty going tidy refl
          (subst (StandsOpen plan (record frame { place = frame.place + 1 })) (sym running) (next_shut (Set local origins.Hand) e refl)) h.declared (subst (HoldsType (plain heap) h.ty) (sym value_is) h.typed)
          (λ name f. h.held name (h.in_hand ∙ ap Some (sym value_is ∙ f))) (λ name f. value_is ∙ same_some (sym h.in_hand ∙ target_held frame.hand name f))
      step_on (Some (Set local (origins.Local other))) e =
          let typed = typed_copy (Set local (origins.Local other)) (going.code.typed frame.place (Set local (origins.Local other)) e) local other refl in
          gets frame (frame.place + 1) frame.hand local (Ref (target_at frame other)) (types.Of typed.0) going tidy (before (Some (Set local (origins.Local other))) e)
          (subst (StandsOpen plan (record frame { place = frame.place + 1 })) (sym running) (next_shut (Set local (origins.Local other)) e refl)) typed.1 (copied other typed.0 typed.2)
          (λ name f. going.held other name (target_held (slice_get frame.locals other) name (same_ref (target_at frame other) (Some name) f))) (λ name f. absurd (no_some (sym (ap target_of (before (Some (Set local (origins.Local other))) e)) ∙ f)))
      step_on (Some (Drop local)) e =
          let typed = typed_drop (Drop local) (going.code.typed frame.place (Drop local) e) local refl in
          gets frame (frame.place + 1) frame.hand local (Ref None) (types.Of typed.0) going tidy (before (Some (Drop local)) e)
          (subst (StandsOpen plan (record frame { place = frame.place + 1 })) (sym running) (next_shut (Drop local) e refl)) typed.1 tt
          (λ name f. absurd (no_some (same_ref None (Some name) f))) (λ name f. absurd (no_some (sym (ap target_of (before (Some (Drop local)) e)) ∙ f)))
      step_on (Some (Make kind)) e =
          elim (nat_le (allocs_of plan frame.call) frame.made) as (λ b. Keeps (if b then Goes (ended ends.Quota frame) else Stops (Makes (next_name frame) kind))) [
            | true ↦ over_open ends.Quota (before (Some (Make kind)) e)
            | false ↦ tt
          ]
      step_on (Some (Eval value)) e =
          number_on (value_of value frame.locals) _
          (λ n. onward frame (frame.place + 1) frame.turns (Some (Int n)) frame.emitted going tidy running (after_eval steps going.code frame.place value e n (advanced (with_hand (Some (Int n)) frame)) refl) (λ name f. absurd (no_some (sym (ap target_of (before (Some (Eval value)) e)) ∙ f))))
          (before (Some (Eval value)) e)
      step_on (Some (Write local field contents.Number)) e = object_on (target_at frame local) _ (λ f. ap target_of (before (Some (Write local field contents.Number)) e).1)
      step_on (Some (Write local field (contents.Local other))) e = object_on (target_at frame local) _ (λ f. absurd (no_some (sym f ∙ (before (Some (Write local field (contents.Local other))) e).0.is_local)))
      step_on (Some (Write local field contents.Null)) e = object_on (target_at frame local) _ (λ f. absurd (no_some (sym f ∙ (before (Some (Write local field contents.Null)) e).0.is_local)))
      step_on (Some Emit) e =
          let no_target : target_in_hand frame ≡ None = ap target_of (before (Some Emit) e).1 in
          elim (nat_le 16 (length frame.emitted)) as (λ b. Keeps (if b then Goes (ended ends.Emits frame) else Goes (given_out frame))) [
            | true ↦ over frame ends.Emits frame.turns going tidy no_target
            | false ↦ onward frame (frame.place + 1) frame.turns None (frame.emitted ++ number_of frame.hand ∷ []) going tidy running
                (before_open plan heap caller op (given_out frame) (slice_get steps (frame.place + 1)) (next_shut Emit e refl) refl) (λ name f. absurd (no_some (sym no_target ∙ f)))
          ]
      step_on (Some (Test c false place)) e = truth_on (holds_of c frame.locals) place frame.turns (before (Some (Test c false place)) e) (next_shut (Test c false place) e refl) (λ t there. going.code.passed frame.place place (Test c false place) t e refl there)
      step_on (Some (Test c true place)) e = by (frame.turns == 0)
        where
          none : frame.hand ≡ None
          none = before (Some (Test c true place)) e

          by : (b : Bool) → Keeps (if b then Goes (ended ends.Fuel frame) else on_truth (holds_of c frame.locals) place (record frame { turns = frame.turns - 1 }))
          by true = over_open ends.Fuel none
          by false = truth_on (holds_of c frame.locals) place (frame.turns - 1) none (next_shut (Test c true place) e refl) (λ t there. going.code.passed frame.place place (Test c true place) t e refl there)
      step_on (Some (Jump place)) e = on_open place frame.turns (before (Some (Jump place)) e) (λ t there. going.code.passed frame.place place (Jump place) t e refl there)
      step_on (Some (Give value)) e = number_on (value_of value frame.locals) _ (λ n. over_open _ (before (Some (Give value)) e)) (before (Some (Give value)) e)

    -- when the operation has ended a local becomes null
    null_fits : (ty : Ty) (value : Value) → HoldsType (plain heap) ty value → refers value ≡ true → HoldsType (plain heap) ty (Ref None)
    null_fits types.Int (Int n) h e = absurd (clash (sym e))
    null_fits types.Int (Ref target) h e = absurd h
    null_fits (types.Of kind) value h e = tt

    local_on : (end : End) → frame.stage ≡ stages.Ended end → (local : Option ℕ) → first_referring 0 frame.locals ≡ local → Keeps (next_local frame end local)
    local_on end ended None e = tt
    local_on end ended (Some local) e =
        let found = found_local 0 frame.locals local e in
        let at : found.0 ≡ local = omega (arith, found.1) in
        let there : slice_get frame.locals local ≡ Some found.2.0 = ap (slice_get frame.locals) (sym at) ∙ found.2.1 in
        let within : local < length (types_of op) = omega (arith, slice_get_within frame.locals local found.2.0 there, going.works.locals.one_each) in
        let ty = get_or (types_of op) local types.Int in
        let declared : slice_get (types_of op) local ≡ Some ty = slice_get-get_or (types_of op) local types.Int within in
        let none : frame.hand ≡ None = subst (HandWhile plan heap caller frame op) ended (tidy_hand frame going tidy).1 in
        gets frame frame.place frame.hand local (Ref None) ty going tidy none (subst (StandsOpen plan frame) (sym ended) tt) declared
        (null_fits ty found.2.0 (going.works.locals.typed local ty found.2.0 declared there) found.2.2) (λ name f. absurd (no_some (same_ref None (Some name) f)))
        (λ name f. absurd (no_some (sym (ap target_of none) ∙ f)))

    stage_on : (stage : Stage) → frame.stage ≡ stage → Keeps (next_stage plan frame stage)
    stage_on stages.Idle e = tt
    stage_on stages.Called e = tt
    stage_on stages.Running e = step_on e (slice_get (steps_of plan frame.call) frame.place) refl
    stage_on (stages.Ended end) e = local_on end e (first_referring 0 frame.locals) refl

  -- ---- the object that is being given up

  module _ (frame : Frame) (going : Going frame) (name : Name) (rest : List Name) (first : frame.loose ≡ name ∷ rest) (booked : Booked) (there : finite.get frame.book name ≡ Some booked) where
    first_hand : HasCleared plan heap frame name × StandsOpen plan frame frame.stage
    first_hand = subst (HandAt plan heap caller frame op) first going.works.hand

    -- a field that holds null needs no write
    passes_null : (field : ℕ) → reference_from plan booked.kind frame.cursor ≡ Some field → (value : Value) → frame.hand ≡ Some value → target_in value ≡ None → Going (record frame { hand = None; cursor = field + 1 })
    passes_null field at value hand null = record {
      code = going.code;
      book = record { booked = going.book.booked; all = going.book.all };
      works = record {
        stage = going.works.stage;
        locals = record { one_each = going.works.locals.one_each; typed = going.works.locals.typed };
        loose = record { each = loose_as heap caller frame after refl frame.loose going.works.loose.each; once = going.works.loose.once };
        hand = subst (HandAt plan heap caller after op) (sym first) (cleared_on first_hand.0, first_hand.1);
        few_made = going.works.few_made;
        own_names = going.works.own_names;
        own_seals = going.works.own_seals;
        no_breach = going.works.no_breach;
      };
      held = going.held;
      why = λ n held. reason n (going.why n held);
    }
      where
        after : Frame
        after = record frame { hand = None; cursor = field + 1 }

        no_target : (v : Value) → target_in v ≡ None → target_of (Some v) ≡ None
        no_target (Int n) e = refl
        no_target (Ref t) e = e

        in_hand : target_in_hand frame ≡ None
        in_hand = ap target_of hand ∙ no_target value null

        reason : (n : Name) → HasReason heap frame n → HasReason heap (record frame { hand = None; cursor = field + 1 }) n
        reason n (for_a_local some) = for_a_local some
        reason n (for_fields several) = for_fields several
        reason n (for_the_list has) = for_the_list has
        reason n (for_the_hand e) = absurd (no_some (sym in_hand ∙ e))

        cleared_on : HasCleared plan heap frame name → HasCleared plan heap (record frame { hand = None; cursor = field + 1 }) name
        cleared_on (lets_go what not_now none) = absurd (no_some (sym none ∙ hand))
        cleared_on (clears object is hidden none clearing) =
            let book_at = going.book.booked name booked there in
            let same : book_at.object ≡ object = same_some (sym book_at.there ∙ is) in
            let kind : booked.kind ≡ object.kind = book_at.kind ∙ ap (λ (o : Object). o.kind) same in
            let reference : reference_from plan object.kind frame.cursor ≡ Some field = ap (λ k. reference_from plan k frame.cursor) (sym kind) ∙ at in
            let got = clearing.in_hand value hand in
            let field_is : got.0 ≡ field = same_some (sym got.1 ∙ reference) in
            let holds : value ≡ field_of object field = got.2 ∙ ap (field_of object) field_is in
            clears object is hidden none
            (record {
              before = λ f less. elim (cases_lt f frame.cursor) [
                | inl early ↦ clearing.before f early
                | inr late ↦
                    elim (cases_lt f field) [
                      | inl between ↦ no_reference_before plan heap of_module name object is frame.cursor field reference f late between
                      | inr last ↦ let f_is : f ≡ field = omega (arith, less, last) in ap (λ g. target_in (field_of object g)) f_is ∙ ap target_in (sym holds) ∙ null
                    ]
              ];
              in_hand = λ v e. absurd (no_some e);
              seen = λ e. let s = clearing.seen e in absurd (no_some (sym in_hand ∙ ap target_of s.1));
            })

    target_on : (field : ℕ) → reference_from plan booked.kind frame.cursor ≡ Some field → (value : Value) → frame.hand ≡ Some value → (target : Option Name) → target_in value ≡ target → Keeps (next_target frame name field target)
    target_on field at value hand None e = passes_null field at value hand e
    target_on field at value hand (Some target) e = elim (has_booked frame target || frame.seen) as (λ b. Keeps (if b then Stops (Writes name field (Ref None)) else Stops (Takes target))) [ true ↦ tt | false ↦ tt ]

    value_on : (field : ℕ) → reference_from plan booked.kind frame.cursor ≡ Some field → (hand : Option Value) → frame.hand ≡ hand → Keeps (next_value frame name field hand)
    value_on field at None e = tt
    value_on field at (Some value) e = target_on field at value e (target_in value) refl

    field_on : (field : Option ℕ) → reference_from plan booked.kind frame.cursor ≡ field → Keeps (next_field frame name field)
    field_on None e = tt
    field_on (Some field) e = value_on field e frame.hand refl

  loose_on : (frame : Frame) → Going frame → (name : Name) (rest : List Name) → frame.loose ≡ name ∷ rest → (booked : Option Booked) → finite.get frame.book name ≡ booked → Keeps (next_loose plan frame name booked)
  loose_on frame going name rest first None e = tt
  loose_on frame going name rest first (Some booked) e =
      elim (nat_lt 0 name.ticket && (booked.fields == 0)) as (λ b. Keeps (if b then next_field frame name (reference_from plan booked.kind frame.cursor) else Stops (LetsGo name))) [
        | true ↦ field_on frame going name rest first booked e (reference_from plan booked.kind frame.cursor) refl
        | false ↦ tt
      ]

  after_on : (frame : Frame) → Going frame → (loose : List Name) → frame.loose ≡ loose → Keeps (next_after plan frame loose)
  after_on frame going [] e = stage_on frame going e frame.stage refl
  after_on frame going (name ∷ names) e = loose_on frame going name names e (finite.get frame.book name) refl

  -- a local step keeps what holds of its caller
  pub step_keeps : (frame after : Frame) → Going frame → local_step plan frame ≡ Some after → Going after
  step_keeps frame after going e = by (next plan frame) (after_on frame going frame.loose refl) e
    where
      by : (n : Next) → Keeps n → step_in n ≡ Some after → Going after
      by (Goes g) keeps f = subst Going (same_some f) keeps
      by (Stops due) keeps f = absurd (no_some f)

  -- and so does making ready
  pub ready_going : (frame : Frame) → Going frame → Going (ready plan frame)
  ready_going frame going = ready_keeps plan Going (λ a b g e. step_keeps a b g e) frame going
