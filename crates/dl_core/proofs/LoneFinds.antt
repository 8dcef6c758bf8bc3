-- What a caller finds that is the only one that has entered.
use Rattle.std.proofs.Common.{◌≡◌, ◌≢◌, inl, inr, ℕ, zero, suc, ◌+◌, ◌<◌, ◌≤◌, Bool, true, false, ◌||◌, [], length, Option, Some, None, refl, sym, ap, subst, ◌∙◌, arith}
use Rattle.std.specs.Prelude.{is_some}
use Rattle.std.specs.Option.{option_map}
use Rattle.std.specs.FinMap as finite
use Rattle.dl_ir.specs.declared.answers.End.{End}
use Rattle.dl_ir.specs.declared.names.Name.{Name}
use Rattle.dl_ir.specs.declared.objects.Obj.{Obj}
use Rattle.dl_ir.specs.Evaluation.{target_of}
use Rattle.dl_ir.specs.Heap.{IsHidden}
use Rattle.dl_ir.specs.Typed.{types_of}
use Rattle.dl_instr.specs.declared.steps.Step.TheVariants.{Want, Write}
use Rattle.dl_core.specs.declared.objects.Mark.{Mark}
use Rattle.dl_core.specs.declared.objects.Mark.TheVariants.{Free, Held, Sealed}
use Rattle.dl_core.specs.declared.objects.Object.{Object}
use Rattle.dl_core.specs.declared.stages.Stage.TheVariants as stages
use Rattle.dl_core.specs.Heaps.{Heap, refs, plain, plain_object, IsHeld}
use Rattle.dl_core.specs.Plans.{Plan, IsPlan, source_of}
use Rattle.dl_core.specs.Frames.{Frame, has_booked}
use Rattle.dl_core.specs.declared.dues.Due.{Due}
use Rattle.dl_core.specs.LocalSteps.{due, first_referring, next_name}
use Rattle.dl_core.specs.Core.{Core, frame_of}
use Rattle.dl_core.specs.Reached.{Calls}
use Rattle.dl_core.specs.Reach.{ticket_in}
use Rattle.dl_core.specs.Lawful.{IsLawful, HasReason, for_a_local, for_fields, for_the_list, for_the_hand}
use Rattle.dl_core.specs.Sound.{IsSound, HandAt, HandWhile}
use Rattle.dl_lemmas.proofs.Entries.{AreEntries, entries_are}
use Rattle.dl_shape.proofs.Names.{names}
use Rattle.dl_core.proofs.Names.{same_some, no_some, same_number}
use Rattle.dl_core.proofs.Plain.{get_plain}
use Rattle.dl_core.proofs.Rows.{target_held, target_value, none_refers}
use Rattle.dl_core.proofs.Typing.{field_names}
use Rattle.dl_core.proofs.Why as why
use Rattle.dl_core.proofs.Why.{Why}
use Rattle.dl_core.proofs.Events.{Works, works_running, works_loose, works_ended, local_held, loose_held, cleared, held_cleared, cleared_hand, hand_before, content_may, code_now, number_hand, write_fits, all_null}
use Rattle.dl_core.proofs.Lone.{Finds, IsToTake, IsOne, is_free, is_held, is_shut}

either : (a b : Bool) → (a || b) ≡ false → a ≡ false
either true b e = e
either false b e = refl

module _ (plan : Plan) (core : Core) (calls : Calls) (caller : ℕ) (is : IsPlan plan) (lawful : IsLawful plan core calls) (sound : IsSound plan core calls)
    (alone : (other : ℕ) → other ≢ caller → ticket_in core.world other ≡ 0) where
  abbrev heap : Heap
  heap = core.world.heap

  abbrev frame : Frame
  frame = frame_of core.world caller

  -- no other holds what is hidden
  held_by : (name : Name) (object : Object) (other : ℕ) → finite.get heap name ≡ Some object → IsHidden name → object.mark ≡ Held other → other ≡ caller
  held_by name object other there hidden held = elim (same_number other caller) [
    | inl same ↦ same
    | inr apart ↦ absurd (omega (arith, lawful.who_holds.hidden other name (record { object = object; there = there; held = held }) hidden, alone other apart))
  ]

  -- a hidden object is free, held or sealed
  pub one_is : (name : Name) (object : Object) → finite.get heap name ≡ Some object → IsHidden name → IsOne heap caller name object
  one_is name object there hidden = by object.mark refl
    where
      by : (mark : Mark) → object.mark ≡ mark → IsOne heap caller name object
      by Free e = is_free e (lawful.free_refs.one name object there e hidden)
      by (Held other) e = is_held (e ∙ ap Held (held_by name object other there hidden e))
      by (Sealed ticket) e = is_shut ticket e

  -- what is not held yet is free or sealed
  to_take : (name : Name) → IsHidden name → (found : Obj) → finite.get (plain heap) name ≡ Some found → has_booked frame name ≡ false → IsToTake heap name
  to_take name hidden found there out = by (finite.get heap name) refl
    where
      by_one : (object : Object) → finite.get heap name ≡ Some object → IsOne heap caller name object → IsToTake heap name
      by_one object at (is_free free one) = record { object = object; there = at; mark = inl free }
      by_one object at (is_held held) =
          let has = (sound.each caller).book.all name (record { object = object; there = at; held = held }) in
          absurd (let clash : true ≡ false = sym (ap is_some has.1) ∙ out in cc)
      by_one object at (is_shut ticket sealed) = record { object = object; there = at; mark = inr (ticket, sealed) }

      by : (o : Option Object) → finite.get heap name ≡ o → IsToTake heap name
      by None e = absurd (no_some (sym (get_plain heap name ∙ ap (option_map plain_object) e) ∙ there))
      by (Some object) e = by_one object e (one_is name object e hidden)

  -- when the operation has ended and no local refers, several fields refer to what is held
  pub several_refer : (end : End) → frame.stage ≡ stages.Ended end → frame.loose ≡ [] → first_referring 0 frame.locals ≡ None → (name : Name) → IsHeld heap caller name → IsHidden name × (1 < refs heap name)
  several_refer end ended tidy null name held =
      let w = works_ended plan core calls caller is lawful sound end ended in
      let several = by w (lawful.held_why caller name w.1 held) in
      (hidden several name.ticket refl, several)
    where
      by : Works plan core calls caller is lawful sound → HasReason heap frame name → 1 < refs heap name
      by w (for_a_local some) = absurd (omega (arith, some, none_refers name frame.locals (all_null 0 frame.locals null)))
      by w (for_fields several) = several
      by w (for_the_list has) = absurd (let none : length frame.loose ≡ 0 = ap length tidy in omega (arith, has.1, none))
      by w (for_the_hand e) =
          let none : frame.hand ≡ None = subst (λ s. HandWhile plan heap caller frame w.0.op s) ended (subst (λ l. HandAt plan heap caller frame w.0.op l) tidy w.2.hand).1 in
          absurd (no_some (sym (ap target_of none) ∙ e))

      hidden : 1 < refs heap name → (t : ℕ) → name.ticket ≡ t → 0 < name.ticket
      hidden several zero e = absurd (omega (arith, several, lawful.free_refs.roots name e))
      hidden several (suc t) e = omega (arith, e)

  by_why : (d : Due) → Why plan frame d → Finds heap caller d
  by_why d why.idles = tt
  by_why d (why.reserves tidy stage few) = tt
  by_why d (why.takes_root number tidy called next) = tt
  by_why d (why.enters tidy stage next) = tt
  by_why d (why.reads_code local field n at to) = local_held plan core calls caller is lawful sound (works_running plan core calls caller is lawful sound at.running) local n to
  by_why d (why.reads_first field n booked given at hand) =
      held_cleared plan core calls caller is lawful sound n booked (cleared plan core calls caller is lawful sound (works_loose plan core calls caller is lawful sound n given.rest given.first) n booked given)
  by_why d (why.writes_code local field content n at to) =
      let w = works_running plan core calls caller is lawful sound at.running in
      let fits = write_fits (source_of plan) (types_of w.0.op) (Write local field content) ((code_now plan core calls caller is lawful sound w).typed frame.place (Write local field content) at.there) local field content refl in (
        local_held plan core calls caller is lawful sound w local n to,
        content_may plan core calls caller is lawful sound w fits.kind fits.ty field fits.has_field content fits.fits (number_hand plan core calls caller is lawful sound w local field content at),
      )
  by_why d (why.writes_first field n target value booked given at hand to may) =
      (held_cleared plan core calls caller is lawful sound n booked (cleared plan core calls caller is lawful sound (works_loose plan core calls caller is lawful sound n given.rest given.first) n booked given), tt)
  by_why d (why.takes_code n at to other) =
      let w = works_running plan core calls caller is lawful sound at.running in
      let before = hand_before plan core calls caller is lawful sound w Want at in
      let got = before.read in
      let named = field_names (source_of plan) heap sound.heap n got.name got.object got.there before.field (same_some (sym got.in_hand ∙ target_held frame.hand n to)) in
      to_take n named.0 named.1.0 named.1.1 other
  by_why d (why.takes_first field n target value booked given at hand to other) =
      let w = works_loose plan core calls caller is lawful sound n given.rest given.first in
      let c = cleared plan core calls caller is lawful sound w n booked given in
      let named = field_names (source_of plan) heap sound.heap target n c.object c.there field (sym (cleared_hand plan core calls caller is lawful sound n booked c value field hand at) ∙ target_value value target to) in
      to_take target named.0 named.1.0 named.1.1 (either (has_booked frame target) frame.seen other)
  by_why d (why.lets_go n rest first what) = (loose_held plan core calls caller is lawful sound (works_loose plan core calls caller is lawful sound n rest first) n rest first).held
  by_why d (why.gives_up n booked given none) =
      held_cleared plan core calls caller is lawful sound n booked (cleared plan core calls caller is lawful sound (works_loose plan core calls caller is lawful sound n given.rest given.first) n booked given)
  by_why d (why.seals end entry rest tidy ended null entries) =
      let are = subst (AreEntries frame.book) entries (entries_are names frame.book) in
      let at = (sound.each caller).book.booked entry.0 entry.1 are.0 in
      record { object = at.object; there = at.there; held = at.held }
  by_why d (why.makes kind at few) = by (finite.get heap (next_name frame)) refl
    where
      by : (o : Option Object) → finite.get heap (next_name frame) ≡ o → finite.get heap (next_name frame) ≡ None
      by None e = e
      by (Some object) e =
          let w = works_running plan core calls caller is lawful sound at.running in
          let early : frame.made + 1 ≤ frame.made = w.2.own_names (next_name frame) object e refl in
          absurd (omega (arith, early))
  by_why d (why.finishes end tidy stage null none) = tt

  -- what the event finds that is due
  pub finds_due : Finds heap caller (due plan frame)
  finds_due = by_why (due plan frame) (why.why plan frame)
