-- What one caller does to an object leaves what holds of the others.
use Rattle.std.proofs.Common.{◌≡◌, ◌≢◌, ◌⊎◌, inl, inr, ℕ, ◌<◌, List, [], ◌∷◌, get_or, Option, Some, None, refl, sym, ap, subst, ◌∙◌, arith}
use Rattle.std.specs.Prelude.{slice_get, All}
use Rattle.std.specs.Option.{option_map}
use Rattle.std.specs.FinMap as finite
use Rattle.dl_ir.specs.declared.modules.OpDecl.{OpDecl}
use Rattle.dl_ir.specs.declared.modules.Ty.{Ty}
use Rattle.dl_ir.specs.declared.modules.Ty.TheVariants as types
use Rattle.dl_ir.specs.declared.names.Name.{Name}
use Rattle.dl_ir.specs.declared.names.Value.{Value}
use Rattle.dl_ir.specs.declared.names.Value.TheVariants.{Int, Ref}
use Rattle.dl_meaning.specs.Fitting.{HoldsType}
use Rattle.dl_instr.specs.declared.steps.Step.{Step}
use Rattle.dl_instr.specs.declared.steps.Step.TheVariants.{Read, Want, Set, Drop, Make, Eval, Write, Emit, Test, Jump, Give}
use Rattle.dl_instr.specs.declared.steps.Origin.TheVariants as origins
use Rattle.dl_instr.specs.declared.steps.Content.TheVariants as contents
use Rattle.dl_core.specs.declared.objects.Mark.TheVariants.{Free, Held, Sealed}
use Rattle.dl_core.specs.declared.objects.Object.{Object}
use Rattle.dl_core.specs.declared.stages.Stage.{Stage}
use Rattle.dl_core.specs.declared.stages.Stage.TheVariants as stages
use Rattle.dl_core.specs.Heaps.{Heap, put_at, refs, plain, plain_object, IsHeld, IsSealed}
use Rattle.dl_core.specs.Plans.{Plan}
use Rattle.dl_core.specs.Frames.{Frame, IsEntered}
use Rattle.dl_core.specs.Changes.{May, reads, sees, writes, takes, takes_root, lets_go, seals, gives_up, makes, IsOwn}
use Rattle.dl_core.specs.Sound.{HasBook, IsLoose, HasLoose, IsFieldInHand, HoldsHand, HandBefore, HasCleared, clears, lets_go as lets_go_first, HandWhile, HandAt, IsWorking}
use Rattle.dl_shape.proofs.Names.{names}
use Rattle.dl_core.proofs.Maps.{get_here, get_there}
use Rattle.dl_core.proofs.Names.{same_name, same_some, no_some}
use Rattle.dl_core.proofs.Counts.{refs-kept}
use Rattle.dl_core.proofs.Apart.{Kept, held, taken, made, rooted, held_after}
use Rattle.dl_core.proofs.Clear.{Stands, mine, shut, unheld, exposed, absent, stands}
use Rattle.dl_core.proofs.Plain.{get_plain}

held_held : {c d : ℕ} → Held c ≡ Held d → c ≡ d
held_held e = cc

sealed_held : {c d : ℕ} → Sealed c ≡ Held d → ⊥
sealed_held e = cc

free_held : {d : ℕ} → Free ≡ Held d → ⊥
free_held e = cc

free_sealed : {d : ℕ} → Free ≡ Sealed d → ⊥
free_sealed e = cc

sealed_sealed : {c d : ℕ} → Sealed c ≡ Sealed d → c ≡ d
sealed_sealed e = cc

module _ (heap : Heap) (tickets : ℕ → ℕ) (own : IsOwn tickets) (c : ℕ) (x : Name) (o o' : Option Object) (row : May heap tickets c x o o') (at : finite.get heap x ≡ o) (d : ℕ) (other : d ≢ c) where
  abbrev after : Heap
  after = put_at heap x o'

  both : (a b : Object) → finite.get heap x ≡ Some a → o ≡ Some b → a.mark ≡ b.mark
  both a b p q = ap (λ (w : Object). w.mark) (same_some (sym p ∙ at ∙ q))

  -- what another holds is not what the caller touches
  pub held_elsewhere : (n : Name) → IsHeld heap d n → n ≢ x
  held_elsewhere n h same = by (stands heap tickets c x o o' row)
    where
      here : finite.get heap x ≡ Some h.object
      here = ap (finite.get heap) (sym same) ∙ h.there

      by : Stands heap tickets c x o o' → ⊥
      by (mine b is m) = other (held_held (sym h.held ∙ both h.object b here is ∙ m))
      by (shut b i is m e) = sealed_held (sym m ∙ sym (both h.object b here is) ∙ h.held)
      by (unheld b q is m hid hq l) = free_held (sym m ∙ sym (both h.object b here is) ∙ h.held)
      by (exposed b is m z w) = free_held (sym m ∙ sym (both h.object b here is) ∙ h.held)
      by (absent z t) = no_some (sym (at ∙ z) ∙ here)

  pub there_kept : (n : Name) → IsHeld heap d n → finite.get after n ≡ finite.get heap n
  there_kept n h = get_there names heap x o' n (held_elsewhere n h)

  pub held_kept : (n : Name) → IsHeld heap d n → IsHeld after d n
  held_kept n h = record { object = h.object; there = there_kept n h ∙ h.there; held = h.held }

  pub held_back : (n : Name) → IsHeld after d n → IsHeld heap d n
  held_back n h =
      elim (same_name n x) [
        | inr apart ↦ record { object = h.object; there = sym (get_there names heap x o' n apart) ∙ h.there; held = h.held }
        | inl same ↦
            by same (held_after heap tickets c x o o' row at h.object (sym (get_here names heap x o') ∙ ap (finite.get after) (sym same) ∙ h.there) d h.held)
      ]
    where
      by : n ≡ x → Kept heap tickets c x o d → IsHeld heap d n
      by same (held k) = subst (IsHeld heap d) (sym same) k
      by same (taken t k) = absurd (other t)
      by same (made t k) = absurd (other t)
      by same (rooted t z) = absurd (other t)

  pub refs_same : (n : Name) → IsHeld heap d n → refs after n ≡ refs heap n
  refs_same n h =
      refs-kept heap tickets c x o o' row at n h.object h.there (λ e. other (held_held (sym h.held ∙ e))) (λ i e. sealed_held (sym e ∙ h.held))

  -- what is sealed stays so
  pub sealed_kept : (n : Name) → IsSealed heap n → IsSealed after n
  sealed_kept n s =
      elim (same_name n x) [
        | inr apart ↦ record { object = s.object; there = get_there names heap x o' n apart ∙ s.there; ticket = s.ticket; sealed = s.sealed }
        | inl same ↦ by same (ap (finite.get heap) (sym same) ∙ s.there) (stands heap tickets c x o o' row)
      ]
    where
      by : n ≡ x → finite.get heap x ≡ Some s.object → Stands heap tickets c x o o' → IsSealed after n
      by same here (mine b is m) = absurd (sealed_held (sym s.sealed ∙ both s.object b here is ∙ m))
      by same here (shut b i is m e) = record { object = s.object; there = ap (finite.get after) same ∙ get_here names heap x o' ∙ e ∙ sym at ∙ here; ticket = s.ticket; sealed = s.sealed }
      by same here (unheld b q is m hid hq l) = absurd (free_sealed (sym m ∙ sym (both s.object b here is) ∙ s.sealed))
      by same here (exposed b is m z w) = absurd (free_sealed (sym m ∙ sym (both s.object b here is) ∙ s.sealed))
      by same here (absent z t) = absurd (no_some (sym (at ∙ z) ∙ here))

  -- what refers to a held object has its type still
  type_kept : (ty : Ty) (value : Value) → ((n : Name) → value ≡ Ref (Some n) → IsHeld heap d n) → HoldsType (plain heap) ty value → HoldsType (plain after) ty value
  type_kept types.Int (Int n) hold h = tt
  type_kept types.Int (Ref target) hold h = h
  type_kept (types.Of kind) (Int n) hold h = h
  type_kept (types.Of kind) (Ref None) hold h = tt
  type_kept (types.Of kind) (Ref (Some n)) hold h =
      record { object = h.object; is_there = get_plain after n ∙ ap (option_map plain_object) (there_kept n (hold n refl)) ∙ sym (get_plain heap n) ∙ h.is_there; of_kind = h.of_kind }

  module _ (plan : Plan) (frame : Frame) where
    pub book_kept : HasBook heap d frame → HasBook after d frame
    book_kept b = record {
      booked = λ n k e.
          let was = b.booked n k e in
          let h : IsHeld heap d n = record { object = was.object; there = was.there; held = was.held } in
          record { object = was.object; there = there_kept n h ∙ was.there; held = was.held; kind = was.kind; fields = was.fields ∙ sym (refs_same n h) };
      all = λ n h. b.all n (held_back n h);
    }

    loose_one : (n : Name) → IsLoose heap d frame n → IsLoose after d frame n
    loose_one n l = record { held = held_kept n l.held; no_local = l.no_local; few_fields = omega (arith, l.few_fields, refs_same n l.held) }

    pub loose_kept : HasLoose heap d frame → HasLoose after d frame
    loose_kept l = record { each = λ k n lt. loose_one (get_or frame.loose k n) (l.each k n lt); once = l.once }

    field_kept : (local field : ℕ) → IsFieldInHand heap d frame local field → IsFieldInHand after d frame local field
    field_kept local field f = record {
      name = f.name;
      is_local = f.is_local;
      object = f.object;
      there = there_kept f.name (record { object = f.object; there = f.there; held = f.held }) ∙ f.there;
      held = f.held;
      in_hand = f.in_hand;
    }

    hand_kept : HoldsHand heap d frame → HoldsHand after d frame
    hand_kept h n e = held_kept n (h n e)

    module _ (op : OpDecl) where
      before_kept : (step : Option Step) → HandBefore plan heap d frame op step → HandBefore plan after d frame op step
      before_kept None h = h
      before_kept (Some (Read local field)) h = h
      before_kept (Some Want) h = record { at = h.at; place = h.place; local = h.local; field = h.field; step = h.step; read = field_kept h.local h.field h.read }
      before_kept (Some (Set local origins.Hand)) h = record {
        value = h.value;
        in_hand = h.in_hand;
        ty = h.ty;
        declared = h.declared;
        typed = type_kept h.ty h.value (λ n e. h.held n (h.in_hand ∙ ap Some e)) h.typed;
        held = hand_kept h.held;
      }
      before_kept (Some (Set local (origins.Local from))) h = h
      before_kept (Some (Drop local)) h = h
      before_kept (Some (Make kind)) h = h
      before_kept (Some (Eval value)) h = h
      before_kept (Some (Write local field contents.Number)) h = h
      before_kept (Some (Write local field (contents.Local from))) h = (field_kept local field h.0, hand_kept h.1)
      before_kept (Some (Write local field contents.Null)) h = (field_kept local field h.0, hand_kept h.1)
      before_kept (Some Emit) h = h
      before_kept (Some (Test q is_turn place)) h = h
      before_kept (Some (Jump place)) h = h
      before_kept (Some (Give value)) h = h

      while_kept : (stage : Stage) → HandWhile plan heap d frame op stage → HandWhile plan after d frame op stage
      while_kept stages.Idle h = h
      while_kept stages.Called h = h
      while_kept stages.Running h = before_kept _ h
      while_kept (stages.Ended end) h = h

      cleared_kept : (n : Name) → IsHeld heap d n → HasCleared plan heap frame n → HasCleared plan after frame n
      cleared_kept n h (clears object there hidden none clearing) =
          clears object (there_kept n h ∙ there) hidden (refs_same n h ∙ none)
          (record { before = clearing.before; in_hand = clearing.in_hand; seen = λ e. let s = clearing.seen e in (s.0, s.1, sealed_kept s.0 s.2) })
      cleared_kept n h (lets_go_first (inl root) not_now none) = lets_go_first (inl root) not_now none
      cleared_kept n h (lets_go_first (inr one) not_now none) = lets_go_first (inr (refs_same n h ∙ one)) not_now none

      at_kept : (loose : List Name) → ((n : Name) (rest : List Name) → loose ≡ n ∷ rest → IsHeld heap d n) → HandAt plan heap d frame op loose → HandAt plan after d frame op loose
      at_kept [] hold h = (h.0, while_kept frame.stage h.1)
      at_kept (n ∷ rest) hold h = (cleared_kept n (hold n rest refl) h.0, h.1)

      -- an object after the change was there before, unless the caller made it; and it is sealed by another only if it was
      was_there : (b : Object) → o' ≡ Some b → ((a : Object) × (o ≡ Some a) × ((i : ℕ) → b.mark ≡ Sealed i → i ≢ tickets c → a.mark ≡ Sealed i)) ⊎ ((x.ticket ≡ tickets c) × (b.mark ≡ Held c))
      was_there b is = by o o' row is
        where
          by : (p p' : Option Object) → May heap tickets c x p p' → p' ≡ Some b → ((a : Object) × (p ≡ Some a) × ((i : ℕ) → b.mark ≡ Sealed i → i ≢ tickets c → a.mark ≡ Sealed i)) ⊎ ((x.ticket ≡ tickets c) × (b.mark ≡ Held c))
          by p p' (reads {object = a} m) e = inl (a, refl, λ i s n. ap (λ (w : Object). w.mark) (same_some e) ∙ s)
          by p p' (sees {object = a} i' source m no_root holder link) e = inl (a, refl, λ i s n. ap (λ (w : Object). w.mark) (same_some e) ∙ s)
          by p p' (writes {object = a} field value m lose may) e = inl (a, refl, λ i s n. ap (λ (w : Object). w.mark) (same_some e) ∙ s)
          by p p' (takes {object = a} from m hid hq l) e = inl (a, refl, λ i s n. absurd (sealed_held (sym s ∙ sym (ap (λ (w : Object). w.mark) (same_some e)))))
          by p p' (takes_root {object = a} m z w) e = inl (a, refl, λ i s n. absurd (sealed_held (sym s ∙ sym (ap (λ (w' : Object). w'.mark) (same_some e)))))
          by p p' (lets_go {object = a} m one) e = inl (a, refl, λ i s n. absurd (free_sealed (ap (λ (w : Object). w.mark) (same_some e) ∙ s)))
          by p p' (seals {object = a} m hid several) e = inl (a, refl, λ i s n. absurd (n (sym (sealed_sealed (ap (λ (w : Object). w.mark) (same_some e) ∙ s)))))
          by p p' (gives_up m hid z none) e = absurd (no_some e)
          by p p' (makes t hid z m none) e = inr (t, ap (λ (w : Object). w.mark) (sym (same_some e)) ∙ m)

      -- a caller that works goes on to do so
      pub working_kept : IsEntered frame → frame.ticket ≡ tickets d → ((local : ℕ) (n : Name) → slice_get frame.locals local ≡ Some (Ref (Some n)) → IsHeld heap d n) → IsWorking plan heap d frame op → IsWorking plan after d frame op
      working_kept entered ticket locals w = record {
        stage = w.stage;
        locals = record { one_each = w.locals.one_each; typed = λ local ty value a b. type_kept ty value (λ n e. locals local n (b ∙ ap Some e)) (w.locals.typed local ty value a b) };
        loose = loose_kept w.loose;
        hand = at_kept frame.loose (λ n rest e. (subst (All (IsLoose heap d frame)) e w.loose.each 0 n (omega arith)).held) w.hand;
        few_made = w.few_made;
        own_names = λ n object there t. elim (same_name n x) [
          | inr apart ↦ w.own_names n object (sym (get_there names heap x o' n apart) ∙ there) t
          | inl same ↦
              elim (was_there object (sym (get_here names heap x o') ∙ ap (finite.get after) (sym same) ∙ there)) [
                | inl a ↦ w.own_names n a.0 (ap (finite.get heap) same ∙ at ∙ a.1) t
                | inr z ↦ absurd (other_ticket (sym z.0 ∙ sym (ap (λ (m : Name). m.ticket) same) ∙ t ∙ ticket))
              ]
        ];
        own_seals = λ n object there s. elim (same_name n x) [
          | inr apart ↦ w.own_seals n object (sym (get_there names heap x o' n apart) ∙ there) s
          | inl same ↦
              elim (was_there object (sym (get_here names heap x o') ∙ ap (finite.get after) (sym same) ∙ there)) [
                | inl a ↦ w.own_seals n a.0 (ap (finite.get heap) same ∙ at ∙ a.1) (a.2 frame.ticket s (λ e. other_ticket (sym e ∙ ticket)))
                | inr z ↦ absurd (sealed_held (sym s ∙ z.1))
              ]
        ];
        no_breach = w.no_breach;
      }
        where
          running : 0 < tickets d
          running = omega (arith, entered, ticket)

          other_ticket : tickets c ≡ tickets d → ⊥
          other_ticket e = other (sym (own c d running e))
