-- Each event of a caller that has entered keeps what holds of that caller.
use Rattle.std.proofs.Common.{◌≡◌, ◌⊎◌, ℕ, zero, suc, ◌<◌, true, false, List, [], ◌∷◌, length, Option, Some, None, refl, sym, ap, subst, ◌∙◌, arith}
use Rattle.std.specs.Prelude.{slice_set, nat_lt, ◌==◌, ◌&&◌}
use Rattle.std.specs.FinMap as finite
use Rattle.dl_ir.specs.declared.answers.End.{End}
use Rattle.dl_ir.specs.declared.modules.OpDecl.{OpDecl}
use Rattle.dl_ir.specs.declared.names.Name.{Name}
use Rattle.dl_ir.specs.declared.names.Value.{Value}
use Rattle.dl_ir.specs.declared.names.Value.TheVariants.{Ref}
use Rattle.dl_ir.specs.Evaluation.{target_of}
use Rattle.dl_ir.specs.References.{target_in}
use Rattle.dl_instr.specs.declared.steps.Step.TheVariants.{Read, Want, Make, Write}
use Rattle.dl_core.specs.declared.objects.Mark.{Mark}
use Rattle.dl_core.specs.declared.objects.Mark.TheVariants.{Free, Held, Sealed}
use Rattle.dl_core.specs.declared.objects.Object.{Object}
use Rattle.dl_core.specs.declared.stages.Booked.{Booked}
use Rattle.dl_core.specs.declared.stages.Stage.TheVariants as stages
use Rattle.dl_core.specs.Heaps.{Heap, field_of, IsSealed}
use Rattle.dl_core.specs.Plans.{Plan, IsPlan, allocs_of, reference_from}
use Rattle.dl_core.specs.Frames.{Frame, advanced, ended, with_hand, with_booked, loosened, raised, lowered, target_in_hand, target_at}
use Rattle.dl_core.specs.declared.dues.Due.{Due}
use Rattle.dl_core.specs.declared.dues.Due.TheVariants.{Reads, Writes, Takes, LetsGo, GivesUp, Seals, Makes}
use Rattle.dl_core.specs.LocalSteps.{due, first_referring, content_of, next_name, ready, IsReady}
use Rattle.dl_core.specs.Events.{Acted, act, act_on, take, aim, moved_on, moved_past, seen_by}
use Rattle.dl_core.specs.Core.{Core, frame_of}
use Rattle.dl_core.specs.Reached.{Calls}
use Rattle.dl_core.specs.Lawful.{IsLawful, HasReason, for_a_local, for_fields, for_the_list, for_the_hand}
use Rattle.dl_core.specs.Sound.{IsSound, HandAt, HandWhile}
use Rattle.dl_lemmas.proofs.Entries.{AreEntries, entries_are}
use Rattle.dl_shape.proofs.Names.{names}
use Rattle.dl_core.proofs.Names.{same_some, no_some}
use Rattle.dl_core.proofs.Rows.{target_held, target_value, link_hidden, field_links, none_refers}
use Rattle.dl_core.proofs.Why as why
use Rattle.dl_core.proofs.Why.{Why, IsAtStep, IsGivenUp}
use Rattle.dl_core.proofs.Events.{Works, local_held, hand_before, cleared, cleared_hand, loose_held, all_null}
use Rattle.dl_core.proofs.Dominates.{called_ticket}
use Rattle.dl_core.proofs.LocalSteps.{is_ready}
use Rattle.dl_core.proofs.Own.{Keeps, made_ready, looks, reads_code, reads_first, sees_code, sees_first}
use Rattle.dl_core.proofs.OwnTakes.{takes_code, takes_first, lets_go_first, gives_up_first, seals_one, makes_one}
use Rattle.dl_core.proofs.OwnWrites.{writes_code, writes_first}

module _ (plan : Plan) (core : Core) (calls : Calls) (caller : ℕ) (is : IsPlan plan) (lawful : IsLawful plan core calls) (sound : IsSound plan core calls) where
  abbrev heap : Heap
  heap = core.world.heap

  abbrev frame : Frame
  frame = frame_of core.world caller

  abbrev Kept : OpDecl → Name → Option Object → Frame → Type 0
  Kept op name left next = Keeps plan core calls caller is lawful sound op name left next

  -- and is ready
  abbrev Done : OpDecl → Name → Option Object → Frame → Type 0
  Done op name left next = Kept op name left next × IsReady plan next

  -- what an event leaves, made ready
  settle : (op : OpDecl) (name : Name) (left : Option Object) (effect : Frame) (outcome : Acted) → Kept op name left effect → (ready plan effect, left) ≡ outcome → Done op name outcome.1 outcome.0
  settle op name left effect outcome k e = subst (λ (o : Acted). Done op name o.1 o.0) e (made_ready plan core calls caller is lawful sound op name left effect k, is_ready plan effect k.going.code.turns)

  at_there : (what : Due) (name : Name) (object : Object) (outcome : Acted) → finite.get heap name ≡ Some object → act plan caller frame what (finite.get heap name) ≡ Some outcome → act_on plan caller frame what object ≡ Some outcome
  at_there what name object outcome there acts = sym (ap (act plan caller frame what) there) ∙ acts

  module _ (w : Works plan core calls caller is lawful sound) where
    -- the object stays as it is
    look_at : (name : Name) (object : Object) (effect : Frame) → finite.get heap name ≡ Some object → Kept w.0.op name (finite.get heap name) effect → Kept w.0.op name (Some object) effect
    look_at name object effect there k = subst (λ o. Kept w.0.op name o effect) there k

    at_name : (d : Due) (n name : Name) → Some n ≡ Some name → (outcome : Acted) → (act plan caller frame d (finite.get heap n) ≡ Some outcome → Done w.0.op n outcome.1 outcome.0)
        → act plan caller frame d (finite.get heap name) ≡ Some outcome → Done w.0.op name outcome.1 outcome.0
    at_name d n name e outcome keeps = subst (λ m. act plan caller frame d (finite.get heap m) ≡ Some outcome → Done w.0.op m outcome.1 outcome.0) (same_some e) keeps

    own_reads_code : (local field : ℕ) (n : Name) → IsAtStep plan frame (Read local field) → target_at frame local ≡ Some n → (outcome : Acted) → act plan caller frame (Reads n field) (finite.get heap n) ≡ Some outcome → Done w.0.op n outcome.1 outcome.0
    own_reads_code local field n at to outcome acts =
        let held = local_held plan core calls caller is lawful sound w local n to in
        let v = field_of held.object field in
        settle w.0.op n (Some held.object) (with_hand (Some v) (moved_on frame.loose frame)) outcome
        (look_at n held.object (with_hand (Some v) (moved_on frame.loose frame)) held.there
        (subst (λ l. Kept w.0.op n (finite.get heap n) (with_hand (Some v) (moved_on l frame))) (sym at.tidy)
        (looks plan core calls caller is lawful sound w.0.op n (with_hand (Some v) (advanced frame)) refl refl (refl, refl, refl, refl) (reads_code plan core calls caller is lawful sound w local field n held.object at to held.there held.held))))
        (same_some (at_there (Reads n field) n held.object outcome held.there acts))

    own_reads_first : (field : ℕ) (n : Name) (booked : Booked) (given : IsGivenUp frame n booked) → reference_from plan booked.kind frame.cursor ≡ Some field → frame.hand ≡ None
        → (outcome : Acted) → act plan caller frame (Reads n field) (finite.get heap n) ≡ Some outcome → Done w.0.op n outcome.1 outcome.0
    own_reads_first field n booked given at none outcome acts =
        let c = cleared plan core calls caller is lawful sound w n booked given in
        let v = field_of c.object field in
        settle w.0.op n (Some c.object) (with_hand (Some v) (moved_on frame.loose frame)) outcome
        (look_at n c.object (with_hand (Some v) (moved_on frame.loose frame)) c.there
        (subst (λ l. Kept w.0.op n (finite.get heap n) (with_hand (Some v) (moved_on l frame))) (sym given.first)
        (looks plan core calls caller is lawful sound w.0.op n (with_hand (Some v) frame) refl refl (refl, refl, refl, refl) (reads_first plan core calls caller is lawful sound w field n booked given at none c.object c.there))))
        (same_some (at_there (Reads n field) n c.object outcome c.there acts))

    own_writes_code : (local field : ℕ) (content : _) (n : Name) → IsAtStep plan frame (Write local field content) → target_at frame local ≡ Some n
        → (outcome : Acted) → act plan caller frame (Writes n field (content_of content frame)) (finite.get heap n) ≡ Some outcome → Done w.0.op n outcome.1 outcome.0
    own_writes_code local field content n at to outcome acts =
        let held = local_held plan core calls caller is lawful sound w local n to in
        let gone : Frame = record frame { hand = None; book = raised (target_in (content_of content frame)) (lowered (target_in_hand frame) frame.book) } in
        settle w.0.op n _ (loosened (target_in_hand frame) (moved_past frame.loose field gone)) outcome
        (subst (λ l. Kept w.0.op n (Some (record held.object { fields = slice_set held.object.fields field (content_of content frame) })) (loosened (target_in_hand frame) (moved_past l field gone))) (sym at.tidy)
        (writes_code plan core calls caller is lawful sound w local field content n at to held.object held.there held.held))
        (same_some (at_there (Writes n field (content_of content frame)) n held.object outcome held.there acts))

    own_writes_first : (field : ℕ) (n target : Name) (value : Value) (booked : Booked) (given : IsGivenUp frame n booked) → reference_from plan booked.kind frame.cursor ≡ Some field → frame.hand ≡ Some value → target_in value ≡ Some target
        → (outcome : Acted) → act plan caller frame (Writes n field (Ref None)) (finite.get heap n) ≡ Some outcome → Done w.0.op n outcome.1 outcome.0
    own_writes_first field n target value booked given at hand to outcome acts =
        let c = cleared plan core calls caller is lawful sound w n booked given in
        let gone : Frame = record frame { hand = None; book = raised None (lowered (target_in_hand frame) frame.book) } in
        settle w.0.op n _ (loosened (target_in_hand frame) (moved_past frame.loose field gone)) outcome
        (subst (λ l. Kept w.0.op n (Some (record c.object { fields = slice_set c.object.fields field (Ref None) })) (loosened (target_in_hand frame) (moved_past l field gone))) (sym given.first)
        (writes_first plan core calls caller is lawful sound w field n target value booked given at hand to c.object c.there c.held))
        (same_some (at_there (Writes n field (Ref None)) n c.object outcome c.there acts))

    -- a take, or a look at what is sealed
    own_takes : (n : Name) → ((object : Object) → finite.get heap n ≡ Some object → object.mark ≡ Free → Kept w.0.op n (Some (record object { mark = Held caller })) (with_booked n object.kind 1 (moved_on frame.loose frame)))
        → (IsSealed heap n → Kept w.0.op n (finite.get heap n) (seen_by frame.loose n frame))
        → (outcome : Acted) → act plan caller frame (Takes n) (finite.get heap n) ≡ Some outcome → Done w.0.op n outcome.1 outcome.0
    own_takes n takes sees outcome acts = by (finite.get heap n) refl acts
      where
        by_mark : (object : Object) → finite.get heap n ≡ Some object → (mark : Mark) → object.mark ≡ mark → take plan caller n frame object mark ≡ Some outcome → Done w.0.op n outcome.1 outcome.0
        by_mark object there Free m e = settle w.0.op n (Some (record object { mark = Held caller })) (with_booked n object.kind 1 (moved_on frame.loose frame)) outcome (takes object there m) (same_some e)
        by_mark object there (Held other) m e = absurd (no_some e)
        by_mark object there (Sealed ticket) m e =
            settle w.0.op n (Some object) (seen_by frame.loose n frame) outcome (look_at n object (seen_by frame.loose n frame) there (sees (record { object = object; there = there; ticket = ticket; sealed = m }))) (same_some e)

        by : (found : Option Object) → finite.get heap n ≡ found → act plan caller frame (Takes n) found ≡ Some outcome → Done w.0.op n outcome.1 outcome.0
        by None p e = absurd (no_some e)
        by (Some object) p e = by_mark object p object.mark refl e

    own_takes_code : (n : Name) → IsAtStep plan frame Want → target_in_hand frame ≡ Some n → (outcome : Acted) → act plan caller frame (Takes n) (finite.get heap n) ≡ Some outcome → Done w.0.op n outcome.1 outcome.0
    own_takes_code n at to =
        let before = hand_before plan core calls caller is lawful sound w Want at in
        let got = before.read in
        let value : field_of got.object before.field ≡ Ref (Some n) = same_some (sym got.in_hand ∙ target_held frame.hand n to) in
        let hidden = link_hidden heap lawful.free_refs got.name n (field_links heap got.name n got.object before.field got.there value) in
        own_takes n
        (λ object there free. subst (λ l. Kept w.0.op n (Some (record object { mark = Held caller })) (with_booked n object.kind 1 (moved_on l frame))) (sym at.tidy) (takes_code plan core calls caller is lawful sound w n object there free hidden to at))
        (λ sealed. subst (λ l. Kept w.0.op n (finite.get heap n) (seen_by l n frame)) (sym at.tidy) (looks plan core calls caller is lawful sound w.0.op n (seen_by [] n frame) refl refl (refl, refl, refl, refl) (sees_code plan core calls caller is lawful sound w n at to sealed)))

    hand_target : (o : Option Value) (v : Value) (t : Name) → o ≡ Some v → target_in v ≡ Some t → target_of o ≡ Some t
    hand_target o v t e f = ap target_of (e ∙ ap Some (target_value v t f))

    own_takes_first : (field : ℕ) (n target : Name) (value : Value) (booked : Booked) (given : IsGivenUp frame n booked) → reference_from plan booked.kind frame.cursor ≡ Some field → frame.hand ≡ Some value → target_in value ≡ Some target
        → (outcome : Acted) → act plan caller frame (Takes target) (finite.get heap target) ≡ Some outcome → Done w.0.op target outcome.1 outcome.0
    own_takes_first field n target value booked given at hand to =
        let c = cleared plan core calls caller is lawful sound w n booked given in
        let in_field = cleared_hand plan core calls caller is lawful sound n booked c value field hand at in
        let hidden = link_hidden heap lawful.free_refs n target (field_links heap n target c.object field c.there (sym in_field ∙ target_value value target to)) in
        own_takes target
        (λ object there free. subst (λ l. Kept w.0.op target (Some (record object { mark = Held caller })) (with_booked target object.kind 1 (moved_on l frame))) (sym given.first)
        (takes_first plan core calls caller is lawful sound w target object there free hidden (hand_target frame.hand value target hand to) n booked given))
        (λ sealed. subst (λ l. Kept w.0.op target (finite.get heap target) (seen_by l target frame)) (sym given.first)
        (looks plan core calls caller is lawful sound w.0.op target (record frame { seen = true }) refl refl (refl, refl, refl, refl) (sees_first plan core calls caller is lawful sound w field n target value booked given hand to sealed)))

    own_lets_go : (n : Name) (rest : List Name) (first : frame.loose ≡ n ∷ rest)
        → (finite.get frame.book n ≡ None) ⊎ ((booked : Booked) × (finite.get frame.book n ≡ Some booked) × ((nat_lt 0 n.ticket && (booked.fields == 0)) ≡ false)) → (outcome : Acted) → act plan caller frame (LetsGo n) (finite.get heap n) ≡ Some outcome → Done w.0.op n outcome.1 outcome.0
    own_lets_go n rest first what outcome acts =
        let l = (loose_held plan core calls caller is lawful sound w n rest first).held in
        settle w.0.op n _ _ outcome (lets_go_first plan core calls caller is lawful sound w n rest first what l.object l.there l.held) (same_some (at_there (LetsGo n) n l.object outcome l.there acts))

    own_gives_up : (n : Name) (booked : Booked) (given : IsGivenUp frame n booked) → reference_from plan booked.kind frame.cursor ≡ None → (outcome : Acted) → act plan caller frame (GivesUp n) (finite.get heap n) ≡ Some outcome → Done w.0.op n outcome.1 outcome.0
    own_gives_up n booked given none outcome acts =
        let c = cleared plan core calls caller is lawful sound w n booked given in
        settle w.0.op n _ _ outcome (gives_up_first plan core calls caller is lawful sound w n booked given none) (same_some (at_there (GivesUp n) n c.object outcome c.there acts))

    own_seals : (end : End) (entry : Name × Booked) (rest : List (Name × Booked)) → frame.loose ≡ [] → frame.stage ≡ stages.Ended end → first_referring 0 frame.locals ≡ None → finite.entries frame.book ≡ entry ∷ rest
        → (outcome : Acted) → act plan caller frame (Seals entry.0) (finite.get heap entry.0) ≡ Some outcome → Done w.0.op entry.0 outcome.1 outcome.0
    own_seals end entry rest tidy ended null entries outcome acts =
        let are = subst (AreEntries frame.book) entries (entries_are names frame.book) in
        let at = (sound.each caller).book.booked entry.0 entry.1 are.0 in
        settle w.0.op entry.0 _ _ outcome (seals_one plan core calls caller is lawful sound w end entry.0 at.object tidy ended null at.there at.held (hidden (lawful.held_why caller entry.0 w.1 (record { object = at.object; there = at.there; held = at.held })) entry.0.ticket refl)) (same_some (at_there (Seals entry.0) entry.0 at.object outcome at.there acts))
      where
        hidden : HasReason heap frame entry.0 → (t : ℕ) → entry.0.ticket ≡ t → 0 < entry.0.ticket
        hidden reason (suc t) e = omega (arith, e)
        hidden (for_a_local some) zero e = absurd (omega (arith, some, none_refers entry.0 frame.locals (all_null 0 frame.locals null)))
        hidden (for_fields several) zero e = absurd (omega (arith, several, lawful.free_refs.roots entry.0 e))
        hidden (for_the_list has) zero e = absurd (omega (arith, has.1, ap length tidy))
        hidden (for_the_hand f) zero e =
            let none : frame.hand ≡ None = subst (λ s. HandWhile plan heap caller frame w.0.op s) ended (subst (λ l. HandAt plan heap caller frame w.0.op l) tidy w.2.hand).1 in
            absurd (no_some (sym (ap target_of none) ∙ f))

    own_makes : (kind : ℕ) (at : IsAtStep plan frame (Make kind)) → frame.made < allocs_of plan frame.call → (outcome : Acted) → act plan caller frame (Makes (next_name frame) kind) (finite.get heap (next_name frame)) ≡ Some outcome → Done w.0.op (next_name frame) outcome.1 outcome.0
    own_makes kind at few outcome acts = by (finite.get heap (next_name frame)) refl acts
      where
        by : (found : Option Object) → finite.get heap (next_name frame) ≡ found → act plan caller frame (Makes (next_name frame) kind) found ≡ Some outcome → Done w.0.op (next_name frame) outcome.1 outcome.0
        by (Some object) p e = absurd (no_some e)
        by None p e = settle w.0.op (next_name frame) _ _ outcome (makes_one plan core calls caller is lawful sound w kind at few p) (same_some e)

    by_why : (d : Due) → Why plan frame d → (name : Name) → aim d ≡ Some name → (outcome : Acted) → act plan caller frame d (finite.get heap name) ≡ Some outcome → Done w.0.op name outcome.1 outcome.0
    by_why d why.idles name e outcome acts = absurd (no_some e)
    by_why d (why.reserves tidy stage few) name e outcome acts = absurd (no_some e)
    by_why d (why.takes_root number tidy called next) name e outcome acts = absurd (omega (arith, w.1, called_ticket plan core calls caller is lawful sound called))
    by_why d (why.enters tidy stage next) name e outcome acts = absurd (no_some e)
    by_why d (why.reads_code local field n at to) name e outcome acts = at_name (Reads n field) n name e outcome (own_reads_code local field n at to outcome) acts
    by_why d (why.reads_first field n booked given at hand) name e outcome acts = at_name (Reads n field) n name e outcome (own_reads_first field n booked given at hand outcome) acts
    by_why d (why.writes_code local field content n at to) name e outcome acts = at_name (Writes n field (content_of content frame)) n name e outcome (own_writes_code local field content n at to outcome) acts
    by_why d (why.writes_first field n target value booked given at hand to may) name e outcome acts = at_name (Writes n field (Ref None)) n name e outcome (own_writes_first field n target value booked given at hand to outcome) acts
    by_why d (why.takes_code n at to other) name e outcome acts = at_name (Takes n) n name e outcome (own_takes_code n at to outcome) acts
    by_why d (why.takes_first field n target value booked given at hand to other) name e outcome acts = at_name (Takes target) target name e outcome (own_takes_first field n target value booked given at hand to outcome) acts
    by_why d (why.lets_go n rest first what) name e outcome acts = at_name (LetsGo n) n name e outcome (own_lets_go n rest first what outcome) acts
    by_why d (why.gives_up n booked given none) name e outcome acts = at_name (GivesUp n) n name e outcome (own_gives_up n booked given none outcome) acts
    by_why d (why.seals end entry rest tidy ended null entries) name e outcome acts = at_name (Seals entry.0) entry.0 name e outcome (own_seals end entry rest tidy ended null entries outcome) acts
    by_why d (why.makes kind at few) name e outcome acts = at_name (Makes (next_name frame) kind) (next_name frame) name e outcome (own_makes kind at few outcome) acts
    by_why d (why.finishes end tidy stage null none) name e outcome acts = absurd (no_some e)

    -- each event of a caller that has entered keeps what holds of it
    pub events_own : (name : Name) → aim (due plan frame) ≡ Some name → (outcome : Acted) → act plan caller frame (due plan frame) (finite.get heap name) ≡ Some outcome → Done w.0.op name outcome.1 outcome.0
    events_own name e outcome acts = by_why (due plan frame) (why.why plan frame) name e outcome acts
