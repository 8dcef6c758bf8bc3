-- The end of a lone run settles the heap.
use Rattle.std.proofs.Common.{◌≡◌, ℕ, zero, suc, ◌+◌, ◌<◌, ◌≤◌, Bool, true, false, ◌&&◌, List, [], ◌∷◌, ◌++◌, Option, Some, None, refl, sym, ap, subst, ◌∙◌, arith, slice_get, slice_set, ℤ}
use Rattle.std.specs.Prelude.{is_some, nat_lt, nat_le, count_by, if◌then◌else◌}
use Rattle.std.specs.Option.{option_map, option_map_or}
use Rattle.std.specs.FinMap as finite
use Rattle.std.proofs.lemmas.Bool.Decides.{nat_tests}
use Rattle.dl_ir.specs.declared.answers.End.{End}
use Rattle.dl_ir.specs.declared.names.Name.{Name}
use Rattle.dl_ir.specs.declared.names.Value.{Value}
use Rattle.dl_ir.specs.declared.names.Value.TheVariants.{Ref}
use Rattle.dl_ir.specs.declared.objects.Obj.{Obj}
use Rattle.dl_ir.specs.Evaluation.{target_of}
use Rattle.dl_ir.specs.Heap.{Objects}
use Rattle.dl_ir.specs.References as references
use Rattle.dl_ir.specs.References.{is_open, is_shared, first_name, with_seal, with_seal_of}
use Rattle.dl_ir.proofs.Subsets.{first_is}
use Rattle.dl_shape.specs.Settling.{IsLoose, trim, sealed_heap, settled, breach_of}
use Rattle.dl_shape.proofs.Sealing.{unsealed, seal_step, seal_fewer, seal_end}
use Rattle.dl_core.specs.declared.objects.Mark.TheVariants.{Free, Held, Sealed}
use Rattle.dl_core.specs.declared.objects.Object.{Object}
use Rattle.dl_core.specs.declared.stages.Booked.{Booked}
use Rattle.dl_core.specs.declared.stages.Stage.TheVariants as stages
use Rattle.dl_core.specs.Heaps.{Heap, put_at, refs, is_sealed, plain, plain_object, IsHeld}
use Rattle.dl_core.specs.Frames.{Book, Frame, is_to_loosen, loosened, assigned}
use Rattle.dl_core.specs.declared.dues.Due.TheVariants.{Seals, Finishes}
use Rattle.dl_core.specs.LocalSteps.{Stops, next, next_local, next_held, first_referring, refers}
use Rattle.dl_core.specs.Events.{act, or_first, with_mark}
use Rattle.dl_core.specs.Sound.{HasBook}
use Rattle.dl_core.proofs.Names.{same_some, no_some}
use Rattle.dl_core.proofs.LocalSteps.{found_local, fewer_refer}
use Rattle.dl_core.proofs.Plain.{get_plain, plain_put, plain_refs}
use Rattle.dl_core.proofs.Typing.{plain_there}
use Rattle.dl_core.proofs.Prunes.{Prunes, pruned_trim}
use Rattle.dl_core.proofs.Lone.{Lone, Ends, IsOne, is_free, is_held, is_shut, local_on, event_on, by_inv}
use Rattle.dl_core.proofs.WorkOff.{work_off}
use Rattle.std.proofs.lemmas.Bool.{false_from_ne_true}

-- the object that was sealed first, or else the one that is sealed next
abbrev first_breach : Option Name → Option Name → Option Name
first_breach None later = later
first_breach (Some name) later = Some name

shared_parts : (hidden sealed several : Bool) → ((hidden && (if sealed then false else true)) && several) ≡ true → (hidden ≡ true) × (sealed ≡ false) × (several ≡ true)
shared_parts true true several e = cc
shared_parts true false several e = (refl, refl, e)
shared_parts false sealed several e = cc

no_free : {c : ℕ} → Free ≡ Held c → ⊥
no_free e = cc

module _ (l : Lone) (base : Frame) (serial : Objects) (end : End) (place turns made : ℕ) (emitted : List ℤ) where
  -- the frame, where the operation has ended and no loose object is to be worked off
  abbrev pub EndAt : List Value → Book → ℕ → Option Name → Frame
  EndAt locals book spares breach =
      record base { stage = stages.Ended end; place = place; locals = locals; hand = None; turns = turns; made = made; emitted = emitted; loose = []; cursor = 0; seen = false; book = book; spares = spares; breach = breach }

  -- a local becomes null, and what it referred to is worked off
  null_one : (x : ℕ) (locals : List Value) (book : Book) (spares : ℕ) (heap : Heap) → first_referring 0 locals ≡ Some x → Prunes serial (plain heap)
      → ((book : Book) (spares : ℕ) (heap : Heap) → Prunes serial (plain heap) → Ends l heap (EndAt (slice_set locals x (Ref None)) book spares base.breach)) → Ends l heap (EndAt locals book spares base.breach)
  null_one x locals book spares heap comes pruned on =
      let f = EndAt locals book spares base.breach in
      let raw = EndAt (slice_set locals x (Ref None)) book spares base.breach in
      local_on l heap f (assigned x (Ref None) f) (ap (next_local f end) comes)
      (by raw (target_of (slice_get locals x)) (on book spares heap pruned) (λ name. work_off l raw serial on (name ∷ []) book spares heap pruned) refl)
    where
      by : (raw : Frame) (target : Option Name) → Ends l heap raw → ((name : Name) → Ends l heap (record raw { loose = name ∷ [] })) → raw.loose ≡ [] → Ends l heap (loosened target raw)
      by raw None one more tidy = one
      by raw (Some name) one more tidy = elim (is_to_loosen raw name) as (λ c. Ends l heap (if c then record raw { loose = raw.loose ++ name ∷ [] } else raw)) [
        | true ↦ subst (λ ns. Ends l heap (record raw { loose = ns ++ name ∷ [] })) (sym tidy) (more name)
        | false ↦ one
      ]

  fewer : (x : ℕ) (locals : List Value) → first_referring 0 locals ≡ Some x → count_by refers (slice_set locals x (Ref None)) + 1 ≡ count_by refers locals
  fewer x locals e =
      let found = found_local 0 locals x e in
      let at : x ≡ found.0 = omega (arith, found.1) in
      ap (λ n. count_by refers (slice_set locals n (Ref None)) + 1) at ∙ fewer_refer locals found.0 found.2.0 found.2.1 found.2.2

  -- the locals become null one by one
  nulls_on : (count : ℕ) (locals : List Value) (book : Book) (spares : ℕ) (heap : Heap) → count_by refers locals ≤ count → Prunes serial (plain heap)
      → ((locals : List Value) (book : Book) (spares : ℕ) (heap : Heap) → first_referring 0 locals ≡ None → Prunes serial (plain heap) → Ends l heap (EndAt locals book spares base.breach)) → Ends l heap (EndAt locals book spares base.breach)
  nulls_on zero locals book spares heap few pruned on = elim (first_referring 0 locals) as (λ o. first_referring 0 locals ≡ o → Ends l heap (EndAt locals book spares base.breach)) [
    | None ↦ λ e. on locals book spares heap e pruned
    | Some x ↦ λ e. absurd (omega (arith, fewer x locals e, few))
  ] refl
  nulls_on (suc count) locals book spares heap few pruned on = elim (first_referring 0 locals) as (λ o. first_referring 0 locals ≡ o → Ends l heap (EndAt locals book spares base.breach)) [
    | None ↦ λ e. on locals book spares heap e pruned
    | Some x ↦ λ e. null_one x locals book spares heap e pruned (λ b n h p. nulls_on count (slice_set locals x (Ref None)) b n h (omega (arith, fewer x locals e, few)) p on)
  ] refl

  -- what the book has is what several fields refer to
  shared_are : (heap : Heap) (f : Frame) → l.Inv heap f → f.stage ≡ stages.Ended end → f.loose ≡ [] → first_referring 0 f.locals ≡ None → (name : Name)
      → finite.contains_key f.book name ≡ option_map_or (λ (o : Obj). is_shared (plain heap) (name, o)) (finite.get (plain heap) name) false
  shared_are heap f inv over tidy none name = by (finite.get f.book name) refl (finite.get heap name) refl
    where
      book : HasBook heap l.caller f
      book = l.book heap f inv

      is_it : (object : Object) → IsHeld heap l.caller name → finite.get heap name ≡ Some object → is_shared (plain heap) (name, plain_object object) ≡ true
      is_it object held there =
          let more = l.several heap f end inv over tidy none name held in
          let shut : is_sealed object.mark ≡ false = ap (λ (o : Object). is_sealed o.mark) (same_some (sym there ∙ held.there)) ∙ ap is_sealed held.held in
          let hid : nat_lt 0 name.ticket ≡ true = grind (arith, nat_tests, more.0) in
          let two : nat_le 2 (references.refs (plain heap) name) ≡ true = grind (arith, nat_tests, more.1, plain_refs heap name) in
          ap (λ b. (b && (if is_sealed object.mark then false else true)) && nat_le 2 (references.refs (plain heap) name)) hid
          ∙ ap (λ b. (if b then false else true) && nat_le 2 (references.refs (plain heap) name)) shut ∙ two

      is_not : (object : Object) → finite.get f.book name ≡ None → finite.get heap name ≡ Some object → is_shared (plain heap) (name, plain_object object) ≡ true → ⊥
      is_not object out there is =
          let parts = shared_parts (nat_lt 0 name.ticket) (is_sealed object.mark) (nat_le 2 (references.refs (plain heap) name)) is in
          let two : 2 ≤ refs heap name = grind (arith, nat_tests, parts.2, plain_refs heap name) in
          with_mark_of (l.hidden heap f inv name object there (grind (arith, nat_tests, parts.0))) two parts.1
        where
          with_mark_of : IsOne heap l.caller name object → 2 ≤ refs heap name → is_sealed object.mark ≡ false → ⊥
          with_mark_of (is_free free one) two shut = omega (arith, one, two)
          with_mark_of (is_held held) two shut = let has = book.all name (record { object = object; there = there; held = held }) in no_some (sym out ∙ has.1)
          with_mark_of (is_shut ticket sealed) two shut = let clash : true ≡ false = sym (ap is_sealed sealed) ∙ shut in cc

      by : (b : Option Booked) → finite.get f.book name ≡ b → (o : Option Object) → finite.get heap name ≡ o
          → finite.contains_key f.book name ≡ option_map_or (λ (o : Obj). is_shared (plain heap) (name, o)) (finite.get (plain heap) name) false
      by None out None there = ap is_some out ∙ sym (ap (λ o. option_map_or (λ (o : Obj). is_shared (plain heap) (name, o)) o false) (get_plain heap name ∙ ap (option_map plain_object) there))
      by None out (Some object) there = ap is_some out
          ∙ sym (ap (λ o. option_map_or (λ (o : Obj). is_shared (plain heap) (name, o)) o false) (plain_there heap name object there) ∙ false_from_ne_true (is_shared (plain heap) (name, plain_object object)) (is_not object out there))
      by (Some b) found None there = absurd (no_some (sym there ∙ (book.booked name b found).there))
      by (Some b) found (Some object) there =
          let says = book.booked name b found in
          ap is_some found
          ∙ sym (ap (λ o. option_map_or (λ (o : Obj). is_shared (plain heap) (name, o)) o false) (plain_there heap name object there)
          ∙ is_it object (record { object = says.object; there = says.there; held = says.held }) there)

  -- no object is loose
  none_loose : (heap : Heap) (f : Frame) → l.Inv heap f → f.stage ≡ stages.Ended end → f.loose ≡ [] → first_referring 0 f.locals ≡ None → (name : Name) → IsLoose (plain heap) name → ⊥
  none_loose heap f inv over tidy none name loose = by (finite.get heap name) refl
    where
      with_mark_of : (object : Object) → finite.get heap name ≡ Some object → plain_object object ≡ loose.object → IsOne heap l.caller name object → ⊥
      with_mark_of object there same (is_free free one) = omega (arith, one, loose.alone, plain_refs heap name)
      with_mark_of object there same (is_held held) =
          let more = l.several heap f end inv over tidy none name (record { object = object; there = there; held = held }) in omega (arith, more.1, loose.alone, plain_refs heap name)
      with_mark_of object there same (is_shut ticket sealed) =
          let clash : true ≡ false = sym (ap is_sealed sealed) ∙ ap (λ (o : Obj). o.sealed) same ∙ loose.unsealed in cc

      by : (o : Option Object) → finite.get heap name ≡ o → ⊥
      by None there = no_some (sym (get_plain heap name ∙ ap (option_map plain_object) there) ∙ loose.there)
      by (Some object) there = with_mark_of object there (same_some (sym (plain_there heap name object there) ∙ loose.there)) (l.hidden heap f inv name object there loose.hidden)

  module _ (trimmed : Objects) where
    -- how the run goes on where what is left is sealed
    abbrev IsSettled : Type 0
    IsSettled = (locals : List Value) (book : Book) (spares : ℕ) (breach : Option Name) (heap : Heap) → first_referring 0 locals ≡ None → finite.entries book ≡ [] → plain heap ≡ sealed_heap trimmed
        → breach ≡ first_name (is_shared trimmed) trimmed → Ends l heap (EndAt locals book spares breach)

    sealed_first : (breach : Option Name) (name : Name) (next_one later : Option Name) → Some name ≡ next_one → first_breach breach next_one ≡ first_name (is_shared trimmed) trimmed → first_breach (or_first breach name) later ≡ first_name (is_shared trimmed) trimmed
    sealed_first None name next_one later is first = is ∙ first
    sealed_first (Some earlier) name next_one later is first = first

    first_left : (breach : Option Name) → first_breach breach None ≡ breach
    first_left None = refl
    first_left (Some name) = refl

    plain_sealed : (heap : Heap) (name : Name) (object : Object) (ticket : ℕ) → finite.get heap name ≡ Some object → plain (put_at heap name (Some (with_mark (Sealed ticket) object))) ≡ with_seal (plain heap) name
    unfolding put_at
    plain_sealed heap name object ticket there = plain_put heap name (Some (with_mark (Sealed ticket) object)) ∙ sym (ap (with_seal_of (plain heap) name) (plain_there heap name object there))

    -- the first that is held is the first that several fields refer to
    first_held : (heap : Heap) (locals : List Value) (book : Book) (spares : ℕ) (breach : Option Name) → first_referring 0 locals ≡ None → l.Inv heap (EndAt locals book spares breach)
        → option_map (λ (e : Name × Booked). e.0) (slice_get (finite.entries book) 0) ≡ first_name (is_shared (plain heap)) (plain heap)
    first_held heap locals book spares breach none inv = first_is book (plain heap) (is_shared (plain heap)) (shared_are heap (EndAt locals book spares breach) inv refl refl none)

    -- it is sealed
    seal_one : (locals : List Value) (book : Book) (spares : ℕ) (breach : Option Name) (heap : Heap) (entry : Name × Booked) (rest : List (Name × Booked)) → finite.entries book ≡ entry ∷ rest → first_referring 0 locals ≡ None
        → sealed_heap (plain heap) ≡ sealed_heap trimmed → first_breach breach (first_name (is_shared (plain heap)) (plain heap)) ≡ first_name (is_shared trimmed) trimmed
        → ((book : Book) (breach : Option Name) (after : Heap) → unsealed (plain after) < unsealed (plain heap) → sealed_heap (plain after) ≡ sealed_heap trimmed
        → first_breach breach (first_name (is_shared (plain after)) (plain after)) ≡ first_name (is_shared trimmed) trimmed → Ends l after (EndAt locals book spares breach))
        → Ends l heap (EndAt locals book spares breach)
    seal_one locals book spares breach heap entry rest are none same first again =
        let f = EndAt locals book spares breach in
        let comes : next l.plan f ≡ Stops (Seals entry.0) = ap (next_local f end) none ∙ ap (λ es. Stops (next_held end es)) are in
        by_inv l heap f (Seals entry.0) comes (λ inv.
        let is : Some entry.0 ≡ first_name (is_shared (plain heap)) (plain heap) = ap (λ es. option_map (λ (e : Name × Booked). e.0) (slice_get es 0)) (sym are) ∙ first_held heap locals book spares breach none inv in
        event_on l heap f (Seals entry.0) entry.0 comes refl (λ finds.
        let after = put_at heap entry.0 (Some (with_mark (Sealed base.ticket) finds.object)) in
        let sealed_so = plain_sealed heap entry.0 finds.object base.ticket finds.there in
        record {
          after = EndAt locals (finite.remove book entry.0) spares (or_first breach entry.0);
          left = Some (with_mark (Sealed base.ticket) finds.object);
          acts = ap (act l.plan l.caller f (Seals entry.0)) finds.there;
          on = again (finite.remove book entry.0) (or_first breach entry.0) after
              (subst (λ p. unsealed p < unsealed (plain heap)) (sym sealed_so) (seal_fewer (plain heap) entry.0 is))
              (ap sealed_heap sealed_so ∙ seal_step (plain heap) entry.0 is ∙ same)
              (sealed_first breach entry.0 (first_name (is_shared (plain heap)) (plain heap)) (first_name (is_shared (plain after)) (plain after)) is first);
        }))

    -- nothing is left to be sealed
    seals_end : IsSettled → (locals : List Value) (book : Book) (spares : ℕ) (breach : Option Name) (heap : Heap) → finite.entries book ≡ [] → first_referring 0 locals ≡ None
        → sealed_heap (plain heap) ≡ sealed_heap trimmed → first_breach breach (first_name (is_shared (plain heap)) (plain heap)) ≡ first_name (is_shared trimmed) trimmed
        → Ends l heap (EndAt locals book spares breach)
    seals_end on locals book spares breach heap are none same first =
        let f = EndAt locals book spares breach in
        by_inv l heap f (Finishes end) (ap (next_local f end) none ∙ ap (λ es. Stops (next_held end es)) are) (λ inv.
        let is : None ≡ first_name (is_shared (plain heap)) (plain heap) = ap (λ es. option_map (λ (e : Name × Booked). e.0) (slice_get es 0)) (sym are) ∙ first_held heap locals book spares breach none inv in
        on locals book spares breach heap none are (seal_end (plain heap) is ∙ same) (sym (first_left breach) ∙ ap (first_breach breach) is ∙ first))

    -- what is held is sealed, in order of names
    seals_on : IsSettled → (count : ℕ) (locals : List Value) (book : Book) (spares : ℕ) (breach : Option Name) (heap : Heap) → unsealed (plain heap) ≤ count → first_referring 0 locals ≡ None
        → sealed_heap (plain heap) ≡ sealed_heap trimmed → first_breach breach (first_name (is_shared (plain heap)) (plain heap)) ≡ first_name (is_shared trimmed) trimmed
        → Ends l heap (EndAt locals book spares breach)
    seals_on on zero locals book spares breach heap few none same first = elim (finite.entries book) as (λ es. finite.entries book ≡ es → Ends l heap (EndAt locals book spares breach)) [
      | [] ↦ λ are. seals_end on locals book spares breach heap are none same first
      | ◌∷◌ entry rest ↦ λ are. seal_one locals book spares breach heap entry rest are none same first (λ b br h less s i. absurd (omega (arith, less, few)))
    ] refl
    seals_on on (suc count) locals book spares breach heap few none same first = elim (finite.entries book) as (λ es. finite.entries book ≡ es → Ends l heap (EndAt locals book spares breach)) [
      | [] ↦ λ are. seals_end on locals book spares breach heap are none same first
      | ◌∷◌ entry rest ↦ λ are. seal_one locals book spares breach heap entry rest are none same first (λ b br h less s i. seals_on on count locals b spares br h (omega (arith, less, few)) none s i)
    ] refl

  -- the end phase settles the serial heap
  pub settles : base.breach ≡ None
      → ((locals : List Value) (book : Book) (spares : ℕ) (breach : Option Name) (heap : Heap) → first_referring 0 locals ≡ None → finite.entries book ≡ [] → plain heap ≡ settled serial → breach ≡ breach_of serial → Ends l heap (EndAt locals book spares breach))
      → (locals : List Value) (book : Book) (spares : ℕ) (heap : Heap) → Prunes serial (plain heap) → Ends l heap (EndAt locals book spares base.breach)
  settles no_breach on locals book spares heap pruned = nulls_on (count_by refers locals) locals book spares heap (omega arith) pruned (λ locals book spares heap none pruned.
      let f = EndAt locals book spares base.breach in
      let comes = ap (next_local f end) none in
      by_inv l heap f (next_held end (finite.entries book)) comes (λ inv.
      let same : plain heap ≡ trim serial = pruned_trim pruned (none_loose heap f inv refl refl none) in
      seals_on (trim serial) on (unsealed (plain heap)) locals book spares base.breach heap (omega arith) none (ap sealed_heap same)
      (ap (λ b. first_breach b (first_name (is_shared (plain heap)) (plain heap))) no_breach ∙ ap (λ p. first_name (is_shared p) p) same)))
