-- What is named is there, and who has what another takes.
use Rattle.std.proofs.Common.{◌≡◌, ◌≢◌, ℕ, ℤ, true, false, Bool, ◌||◌, ap₂, List, [], ◌∷◌, Option, Some, None, refl, sym, ap, subst, ◌∙◌, arith}
use Rattle.std.specs.Prelude.{slice_get, is_some}
use Rattle.std.specs.Option.{option_map}
use Rattle.std.specs.FinMap as finite
use Rattle.dl_ir.specs.declared.names.Name.{Name}
use Rattle.dl_ir.specs.declared.names.Value.TheVariants.{Int, Ref}
use Rattle.dl_ir.specs.declared.objects.Obj.{Obj}
use Rattle.dl_ir.specs.Heap.{IsHidden, root}
use Rattle.dl_ir.specs.References.{target_in}
use Rattle.dl_instr.specs.declared.steps.Step.{Step}
use Rattle.dl_instr.specs.declared.steps.Step.TheVariants.{Read, Want, Set, Drop, Make, Eval, Write, Emit, Test, Jump, Give}
use Rattle.dl_instr.specs.declared.steps.Origin.TheVariants as origins
use Rattle.dl_instr.specs.declared.steps.Content.TheVariants as contents
use Rattle.dl_core.specs.declared.dues.Due.{Due}
use Rattle.dl_core.specs.declared.dues.Due.TheVariants.{Makes}
use Rattle.dl_core.specs.declared.objects.Object.{Object}
use Rattle.dl_core.specs.declared.stages.Stage.{Stage}
use Rattle.dl_core.specs.declared.stages.Stage.TheVariants as stages
use Rattle.dl_core.specs.declared.stages.Booked.{Booked}
use Rattle.dl_core.specs.Heaps.{Heap, field_of, refs_in, plain_object, IsHeld}
use Rattle.dl_core.specs.Plans.{Plan, IsPlan, source_of, steps_of, roots_of}
use Rattle.dl_core.specs.Frames.{Frame, has_booked, target_at, target_in_hand}
use Rattle.dl_core.specs.LocalSteps.{due}
use Rattle.dl_core.specs.Events.{act, aim, gave_up}
use Rattle.dl_core.specs.Core.{Core, frame_of}
use Rattle.dl_core.specs.Reached.{Calls}
use Rattle.dl_core.specs.Reach.{Dominates, target_of_take, ticket_in}
use Rattle.dl_core.specs.Changes.{May, reads, sees, writes, takes, takes_root, seals, gives_up, makes}
use Rattle.dl_core.specs.Changes as rows
use Rattle.dl_core.specs.Sound.{HasCall, Stands, idles, waits, works, IsLoose, HandAt, HandWhile, HandBefore, HasCleared, clears, lets_go}
use Rattle.dl_core.specs.Laws.{IsKept}
use Rattle.dl_core.proofs.Dominates.{events_dominate}
use Rattle.dl_core.proofs.Events.{events_may, made_null, Works, works_running, works_loose, local_held, booked_held, loose_held, cleared, cleared_hand, hand_before}
use Rattle.dl_core.proofs.LawfulAlways.{lawful_always}
use Rattle.dl_lemmas.proofs.Entries.{AreEntries, entries_are}
use Rattle.dl_shape.proofs.Names.{names}
use Rattle.dl_lemmas.proofs.Tests.{not_both}
use Rattle.dl_core.proofs.Names.{same_some, no_some}
use Rattle.dl_core.proofs.Plain.{get_plain}
use Rattle.dl_core.proofs.Rows.{target_held, target_value, field_refers}
use Rattle.dl_core.proofs.Typing.{field_names}
use Rattle.dl_core.proofs.Why as why
use Rattle.dl_core.proofs.Why.{Why, IsGivenUp}
use Rattle.dl_order.specs.Found.{IsThere, IsNamedBy, in_the_book, by_a_local, by_the_hand, in_the_list, AllIsThere, HoldersAreCallers, EmptyObjectsComeAndGo}
use Rattle.dl_core.proofs.Elements.{In, each_in, all_each, contains_in}
use Rattle.dl_core.proofs.CalledRoots.{root_of_call}

either : (a b : Bool) → (a || b) ≡ false → a ≡ false
either true b e = e
either false b e = refl

-- what the plain heap has is there
plainly_there : (heap : Heap) (name : Name) (found : Option Object) → finite.get heap name ≡ found → (o : Obj) → option_map plain_object found ≡ Some o → IsThere heap name
plainly_there heap name None at o e = absurd (no_some e)
plainly_there heap name (Some object) at o e = record { object = object; there = at }

held_there : (heap : Heap) (caller : ℕ) (name : Name) → IsHeld heap caller name → IsThere heap name
held_there heap caller name held = record { object = held.object; there = held.there }

module _ (plan : Plan) (core : Core) (calls : Calls) (is : IsPlan plan) (kept : IsKept plan core calls) where
  abbrev heap : Heap
  heap = core.world.heap

  -- what a field refers to is there, and hidden
  linked : (from name : Name) (object : Object) (field : ℕ) → finite.get heap from ≡ Some object → field_of object field ≡ Ref (Some name) → IsThere heap name × IsHidden name
  linked from name object field there refers =
      let named = field_names (source_of plan) heap kept.sound.heap name from object there field refers in
      (plainly_there heap name (finite.get heap name) refl named.1.0 (sym (get_plain heap name) ∙ named.1.1), named.0)

  module _ (caller : ℕ) where
    abbrev frame : Frame
    frame = frame_of core.world caller

    -- what the hand got from a field
    in_field : (name from : Name) (object : Object) (field : ℕ) → finite.get heap from ≡ Some object → frame.hand ≡ Some (field_of object field) → target_in_hand frame ≡ Some name → IsThere heap name
    in_field name from object field there hand to = (linked from name object field there (same_some (sym hand ∙ target_held frame.hand name to))).0

    of_call : (number : ℕ) → slice_get (roots_of plan frame.call) frame.taken ≡ Some number → HasCall plan calls caller frame → IsThere heap (root number)
    of_call number next call =
        let root_is = root_of_call plan frame.call frame.taken number call.fits next in
        let found = kept.sound.heap.roots root_is.0 (root number) root_is.1 in
        plainly_there heap (root number) (finite.get heap (root number)) refl found.0 (sym (get_plain heap (root number)) ∙ found.1)

    root_there : (number : ℕ) → frame.stage ≡ stages.Called → slice_get (roots_of plan frame.call) frame.taken ≡ Some number → IsThere heap (root number)
    root_there number called next = by (kept.sound.each caller).stands
      where
        clash : (s : Stage) → s ≡ stages.Called → s ≡ stages.Idle → ⊥
        clash s p q = cc

        by : Stands plan heap calls caller frame → IsThere heap (root number)
        by (idles e) = absurd (clash frame.stage called (ap (λ (f : Frame). f.stage) e))
        by (waits call w) = of_call number next call
        by (works call e w) = of_call number next call

    being_given : (name : Name) (booked : Booked) → IsGivenUp frame name booked → IsThere heap name
    being_given name booked given =
        let c = cleared plan core calls caller is kept.lawful kept.sound (works_loose plan core calls caller is kept.lawful kept.sound name given.rest given.first) name booked given in
        record { object = c.object; there = c.there }

    sealed_there : (entry : Name × Booked) (rest : List (Name × Booked)) → finite.entries frame.book ≡ entry ∷ rest → IsThere heap entry.0
    sealed_there entry rest entries =
        let are = subst (AreEntries frame.book) entries (entries_are names frame.book) in
        let at = (kept.sound.each caller).book.booked entry.0 entry.1 are.0 in
        record { object = at.object; there = at.there }

    aimed : (name : Name) → aim (due plan frame) ≡ Some name → ((kind : ℕ) → due plan frame ≢ Makes name kind) → IsThere heap name
    aimed name at other = by (due plan frame) (why.why plan frame) at other
      where
        as_aimed : (d : Name) → IsThere heap d → Some d ≡ Some name → IsThere heap name
        as_aimed d there e = subst (IsThere heap) (same_some e) there

        by : (d : Due) → Why plan frame d → aim d ≡ Some name → ((kind : ℕ) → d ≢ Makes name kind) → IsThere heap name
        by d why.idles e f = absurd (no_some e)
        by d (why.reserves tidy stage few) e f = absurd (no_some e)
        by d (why.takes_root number tidy called next) e f = as_aimed _ (root_there number called next) e
        by d (why.enters tidy stage next) e f = absurd (no_some e)
        by d (why.reads_code local field n p to) e f = as_aimed n (held_there heap caller n (local_held plan core calls caller is kept.lawful kept.sound (works_running plan core calls caller is kept.lawful kept.sound p.running) local n to)) e
        by d (why.reads_first field n booked given p hand) e f = as_aimed n (being_given n booked given) e
        by d (why.writes_code local field content n p to) e f = as_aimed n (held_there heap caller n (local_held plan core calls caller is kept.lawful kept.sound (works_running plan core calls caller is kept.lawful kept.sound p.running) local n to)) e
        by d (why.writes_first field n target value booked given p hand to may) e f = as_aimed n (being_given n booked given) e
        by d (why.takes_code n p to own) e f =
            let before = hand_before plan core calls caller is kept.lawful kept.sound (works_running plan core calls caller is kept.lawful kept.sound p.running) Want p in
            as_aimed n (in_field n before.read.name before.read.object before.field before.read.there before.read.in_hand to) e
        by d (why.takes_first field n target value booked given p hand to own) e f =
            let c = cleared plan core calls caller is kept.lawful kept.sound (works_loose plan core calls caller is kept.lawful kept.sound n given.rest given.first) n booked given in
            as_aimed target (linked n target c.object field c.there (sym (cleared_hand plan core calls caller is kept.lawful kept.sound n booked c value field hand p) ∙ target_value value target to)).0 e
        by d (why.lets_go n rest first what) e f =
            as_aimed n (held_there heap caller n (loose_held plan core calls caller is kept.lawful kept.sound (works_loose plan core calls caller is kept.lawful kept.sound n rest first) n rest first).held) e
        by d (why.gives_up n booked given gone) e f = as_aimed n (being_given n booked given) e
        by d (why.seals end entry rest tidy ended null entries) e f = as_aimed entry.0 (sealed_there entry rest entries) e
        by d (why.makes kind p few) e f = absurd (f kind (ap (λ n. Makes n kind) (same_some e)))
        by d (why.finishes end tidy stage null gone) e f = absurd (no_some e)

    -- ---- what the frame names

    hand_there : (w : Works plan core calls caller is kept.lawful kept.sound) (name : Name) → target_in_hand frame ≡ Some name → IsThere heap name
    hand_there w name to = by_list frame.loose w.2.hand
      where
        holds : frame.hand ≡ Some (Ref (Some name))
        holds = target_held frame.hand name to

        empty : frame.hand ≡ None → IsThere heap name
        empty e = absurd (no_some (sym e ∙ holds))

        number : (n : ℤ) → frame.hand ≡ Some (Int n) → IsThere heap name
        number n e = absurd (differ (same_some (sym e ∙ holds)))
          where
            differ : Int n ≡ Ref (Some name) → ⊥
            differ f = cc

        by_step : (step : Option Step) → HandBefore plan heap caller frame w.0.op step → IsThere heap name
        by_step None h = empty h
        by_step (Some Want) h = in_field name h.read.name h.read.object h.field h.read.there h.read.in_hand to
        by_step (Some (Set local origins.Hand)) h = held_there heap caller name (h.held name holds)
        by_step (Some (Set local (origins.Local other))) h = empty h
        by_step (Some (Write local field contents.Number)) h = number h.0 h.1
        by_step (Some (Write local field (contents.Local other))) h = held_there heap caller name (h.1 name holds)
        by_step (Some (Write local field contents.Null)) h = held_there heap caller name (h.1 name holds)
        by_step (Some Emit) h = number h.0 h.1
        by_step (Some (Read local field)) h = empty h
        by_step (Some (Drop local)) h = empty h
        by_step (Some (Make kind)) h = empty h
        by_step (Some (Eval value)) h = empty h
        by_step (Some (Test c is_turn place)) h = empty h
        by_step (Some (Jump place)) h = empty h
        by_step (Some (Give value)) h = empty h

        by_stage : (stage : Stage) → HandWhile plan heap caller frame w.0.op stage → IsThere heap name
        by_stage stages.Idle h = empty h
        by_stage stages.Called h = empty h
        by_stage stages.Running h = by_step (slice_get (steps_of plan frame.call) frame.place) h
        by_stage (stages.Ended end) h = empty h

        by_cleared : (first : Name) → HasCleared plan heap frame first → IsThere heap name
        by_cleared first (clears object there hidden unreferred clearing) =
            let got = clearing.in_hand (Ref (Some name)) holds in
            (linked first name object got.0 there (sym got.2)).0
        by_cleared first (lets_go what other none_now) = empty none_now

        by_list : (loose : List Name) → HandAt plan heap caller frame w.0.op loose → IsThere heap name
        by_list [] h = by_stage frame.stage h.1
        by_list (first ∷ rest) h = by_cleared first h.0

    -- who has not entered names nothing but by its book
    named : (name : Name) → IsNamedBy frame name → IsThere heap name
    named name (in_the_book has) = held_there heap caller name (booked_held plan core calls caller is kept.lawful kept.sound name has)
    named name (by_a_local local to) = by (kept.sound.each caller).stands
      where
        by : Stands plan heap calls caller frame → IsThere heap name
        by (idles e) = absurd (no_some (sym (ap (λ (f : Frame). target_at f local) e) ∙ to))
        by (waits call w) = absurd (no_some (sym (ap (λ (f : Frame). target_at f local) w.is) ∙ to))
        by (works call e w) = held_there heap caller name (local_held plan core calls caller is kept.lawful kept.sound (call, e, w) local name to)
    named name (by_the_hand to) = by (kept.sound.each caller).stands
      where
        by : Stands plan heap calls caller frame → IsThere heap name
        by (idles e) = absurd (no_some (sym (ap target_in_hand e) ∙ to))
        by (waits call w) = absurd (no_some (sym (ap target_in_hand w.is) ∙ to))
        by (works call e w) = hand_there (call, e, w) name to
    named name (in_the_list there) = by (kept.sound.each caller).stands
      where
        empty : (loose : List Name) → loose ≡ [] → In name loose → IsThere heap name
        empty loose e found = absurd (subst (In name) e found)

        by : Stands plan heap calls caller frame → IsThere heap name
        by (idles e) = empty frame.loose (ap (λ (f : Frame). f.loose) e) (contains_in name frame.loose there)
        by (waits call w) = empty frame.loose (ap (λ (f : Frame). f.loose) w.is) (contains_in name frame.loose there)
        by (works call e w) =
            held_there heap caller name (each_in (IsLoose heap caller frame) name frame.loose (all_each (IsLoose heap caller frame) frame.loose w.loose.each) (contains_in name frame.loose there)).held

    -- ---- what a caller takes it does not hold

    unheld : (name : Name) → has_booked frame name ≡ false → ¬ (IsHeld heap caller name)
    unheld name none_booked held = let booked = (kept.sound.each caller).book.all name held in not_both (ap is_some booked.1) none_booked

    others : (name : Name) → target_of_take (due plan frame) ≡ Some name → ¬ (IsHeld heap caller name)
    others name next_one held = by (due plan frame) (why.why plan frame) (events_dominate plan core calls caller is kept.lawful kept.sound) next_one
      where
        by : (d : Due) → Why plan frame d → Dominates core.world caller frame d → target_of_take d ≡ Some name → ⊥
        by d why.idles rule e = no_some e
        by d (why.reserves tidy stage few) rule e = no_some e
        by d (why.takes_root number tidy called next) rule e =
            let same : root number ≡ name = same_some e in
            let above = (rule.1 name held).1 in
            omega (arith, above, ap (λ (n : Name). n.index) same)
        by d (why.enters tidy stage next) rule e = no_some e
        by d (why.reads_code local field n at to) rule e = no_some e
        by d (why.reads_first field n booked given at hand) rule e = no_some e
        by d (why.writes_code local field content n at to) rule e = no_some e
        by d (why.writes_first field n target value booked given at hand to may) rule e = no_some e
        by d (why.takes_code n at to other) rule e = unheld n other (subst (IsHeld heap caller) (sym (same_some e)) held)
        by d (why.takes_first field n target value booked given at hand to other) rule e = unheld target (either (has_booked frame target) frame.seen other) (subst (IsHeld heap caller) (sym (same_some e)) held)
        by d (why.lets_go n rest first what) rule e = no_some e
        by d (why.gives_up n booked given gone) rule e = no_some e
        by d (why.seals end entry rest tidy ended null entries) rule e = no_some e
        by d (why.makes kind at few) rule e = no_some e
        by d (why.finishes end tidy stage null gone) rule e = no_some e

pub all_is_there : AllIsThere
all_is_there plan core calls is reached =
    let kept = lawful_always plan core calls is reached in
    record { aimed = aimed plan core calls is kept; named = named plan core calls is kept; linked = linked plan core calls is kept }

pub holders_are_callers : HoldersAreCallers
holders_are_callers plan core calls is reached =
    let kept = lawful_always plan core calls is reached in
    record { callers = kept.sound.holders; others = others plan core calls is kept }

-- ---- what is given up, and what is made, refers to nothing

-- the object that goes has no field that refers to a name
gone : (shared : Heap) (tickets : ℕ → ℕ) (caller : ℕ) (name : Name) (object : Object) (found left : Option Object) → May shared tickets caller name found left → found ≡ Some object → left ≡ None → (other : Name) → refs_in other object ≡ 0
gone shared tickets caller name object found left (reads m) e f other = absurd (no_some (sym f))
gone shared tickets caller name object found left (sees ticket from m hidden held link) e f other = absurd (no_some (sym f))
gone shared tickets caller name object found left (writes field value m lose may) e f other = absurd (no_some (sym f))
gone shared tickets caller name object found left (takes from m hidden held link) e f other = absurd (no_some (sym f))
gone shared tickets caller name object found left (takes_root m root_is unentered) e f other = absurd (no_some (sym f))
gone shared tickets caller name object found left (rows.lets_go m one) e f other = absurd (no_some (sym f))
gone shared tickets caller name object found left (seals m hidden several) e f other = absurd (no_some (sym f))
gone shared tickets caller name object found left (gives_up m hidden unreferred empty) e f other = ap (refs_in other) (sym (same_some e)) ∙ empty other
gone shared tickets caller name object found left (makes ticket hidden unreferred m empty) e f other = absurd (no_some (sym f))

no_field : (object : Object) → ((other : Name) → refs_in other object ≡ 0) → (field : ℕ) → target_in (field_of object field) ≡ None
no_field object none_refers field = by (target_in (field_of object field)) refl
  where
    by : (target : Option Name) → target_in (field_of object field) ≡ target → target_in (field_of object field) ≡ None
    by None e = e
    by (Some name) e = absurd (let refers = field_refers object.fields field name (target_value (field_of object field) name e) in omega (arith, refers, none_refers name))

pub empty_objects_come_and_go : EmptyObjectsComeAndGo
empty_objects_come_and_go plan core calls is reached = record {
  gives_up = λ caller name object field is_due there.
      let kept = lawful_always plan core calls is reached in
      let frame = frame_of core.world caller in
      let acts : act plan caller frame (due plan frame) (finite.get core.world.heap name) ≡ Some (gave_up plan name frame, None) = ap₂ (act plan caller frame) is_due there in
      no_field object (gone core.world.heap (ticket_in core.world) caller name object (finite.get core.world.heap name) None
      (events_may plan core calls caller is kept.lawful kept.sound name (ap aim is_due) (gave_up plan name frame, None) acts) there refl) field;
  makes = λ caller kind field. made_null kind (slice_get (source_of plan).kinds kind) field;
}
