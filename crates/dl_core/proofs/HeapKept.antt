-- Each event keeps what holds of the heap: free objects have one field that refers to them, and nothing of a younger operation is in reach
-- of an older one.
use Rattle.std.proofs.Common.{◌≡◌, ℕ, Option, Some, None, refl, sym, ap, subst, ◌∙◌}
use Rattle.std.specs.FinMap as finite
use Rattle.dl_ir.specs.declared.names.Name.{Name}
use Rattle.dl_ir.specs.Heap.{root}
use Rattle.dl_core.specs.declared.objects.Mark.{Mark}
use Rattle.dl_core.specs.declared.objects.Mark.TheVariants.{Free, Held, Sealed}
use Rattle.dl_core.specs.declared.objects.Object.{Object}
use Rattle.dl_core.specs.Heaps.{Heap, put_at}
use Rattle.dl_core.specs.Plans.{Plan, IsPlan}
use Rattle.dl_core.specs.Frames.{Frame, IsEntered}
use Rattle.dl_core.specs.declared.dues.Due.{Due}
use Rattle.dl_core.specs.declared.dues.Due.TheVariants.{TakesRoot}
use Rattle.dl_core.specs.LocalSteps.{due}
use Rattle.dl_core.specs.Events.{Acted, act, aim, take_root}
use Rattle.dl_core.specs.Core.{Core, frame_of}
use Rattle.dl_core.specs.Reached.{Calls}
use Rattle.dl_core.specs.Reach.{ticket_in}
use Rattle.dl_core.specs.Changes.{IsCounted, IsApart}
use Rattle.dl_core.specs.Lawful.{IsLawful}
use Rattle.dl_core.specs.Sound.{IsSound}
use Rattle.dl_core.proofs.Names.{same_some, no_some}
use Rattle.dl_core.proofs.Counts.{IsCounted-kept}
use Rattle.dl_core.proofs.Apart.{IsApart-kept}
use Rattle.dl_core.proofs.Enter.{root-IsApart}
use Rattle.dl_core.proofs.Why as why
use Rattle.dl_core.proofs.Why.{Why}
use Rattle.dl_core.proofs.Events.{works_running, works_loose, works_ended, events_may}
use Rattle.dl_core.proofs.Dominates.{called_ticket}

module _ (plan : Plan) (core : Core) (calls : Calls) (caller : ℕ) (is : IsPlan plan) (lawful : IsLawful plan core calls) (sound : IsSound plan core calls) where
  abbrev heap : Heap
  heap = core.world.heap

  abbrev frame : Frame
  frame = frame_of core.world caller

  -- who touches an object has entered, or takes a root
  pub data Toucher (d : Due) : Type 0 where
    has_entered : IsEntered frame → Toucher d
    takes_a_root : (number : ℕ) → d ≡ TakesRoot number → frame.ticket ≡ 0 → Toucher d

  toucher : (d : Due) → Why plan frame d → (name : Name) → aim d ≡ Some name → Toucher d
  toucher d why.idles name e = absurd (no_some e)
  toucher d (why.reserves tidy stage few) name e = absurd (no_some e)
  toucher d (why.takes_root number tidy called next) name e = takes_a_root number refl (called_ticket plan core calls caller is lawful sound called)
  toucher d (why.enters tidy stage next) name e = absurd (no_some e)
  toucher d (why.reads_code local field n at to) name e = has_entered (works_running plan core calls caller is lawful sound at.running).1
  toucher d (why.reads_first field n booked given at hand) name e = has_entered (works_loose plan core calls caller is lawful sound n given.rest given.first).1
  toucher d (why.writes_code local field content n at to) name e = has_entered (works_running plan core calls caller is lawful sound at.running).1
  toucher d (why.writes_first field n target value booked given at hand to may) name e = has_entered (works_loose plan core calls caller is lawful sound n given.rest given.first).1
  toucher d (why.takes_code n at to other) name e = has_entered (works_running plan core calls caller is lawful sound at.running).1
  toucher d (why.takes_first field n target value booked given at hand to other) name e = has_entered (works_loose plan core calls caller is lawful sound n given.rest given.first).1
  toucher d (why.lets_go n rest first what) name e = has_entered (works_loose plan core calls caller is lawful sound n rest first).1
  toucher d (why.gives_up n booked given none) name e = has_entered (works_loose plan core calls caller is lawful sound n given.rest given.first).1
  toucher d (why.seals end entry rest tidy ended null entries) name e = has_entered (works_ended plan core calls caller is lawful sound end ended).1
  toucher d (why.makes kind at few) name e = has_entered (works_running plan core calls caller is lawful sound at.running).1
  toucher d (why.finishes end tidy stage null none) name e = absurd (no_some e)

  -- a root that is taken
  root_apart : (number : ℕ) → frame.ticket ≡ 0 → (outcome : Acted) → act plan caller frame (TakesRoot number) (finite.get heap (root number)) ≡ Some outcome → IsApart (put_at heap (root number) outcome.1) (ticket_in core.world)
  root_apart number waits outcome acts = by (finite.get heap (root number)) refl acts
    where
      by_mark : (object : Object) → finite.get heap (root number) ≡ Some object → (mark : Mark) → take_root caller number frame object mark ≡ Some outcome → IsApart (put_at heap (root number) outcome.1) (ticket_in core.world)
      by_mark object there Free e =
          subst (λ o. IsApart (put_at heap (root number) o) (ticket_in core.world)) (ap (λ (o : Acted). o.1) (same_some e))
          (root-IsApart heap (ticket_in core.world) caller (root number) object there waits lawful.older_reach)
      by_mark object there (Held other) e = absurd (no_some e)
      by_mark object there (Sealed ticket) e = absurd (no_some e)

      by : (found : Option Object) → finite.get heap (root number) ≡ found → act plan caller frame (TakesRoot number) found ≡ Some outcome → IsApart (put_at heap (root number) outcome.1) (ticket_in core.world)
      by None p e = absurd (no_some e)
      by (Some object) p e = by_mark object p object.mark e

  module _ (name : Name) (at : aim (due plan frame) ≡ Some name) (outcome : Acted) (acts : act plan caller frame (due plan frame) (finite.get heap name) ≡ Some outcome) where
    -- after the event each free hidden object has one field that refers to it, and no field refers to a root
    pub counted_kept : IsCounted (put_at heap name outcome.1)
    counted_kept = IsCounted-kept heap (ticket_in core.world) caller name (finite.get heap name) outcome.1 (events_may plan core calls caller is lawful sound name at outcome acts) refl lawful.free_refs

    -- after the event nothing that a younger operation holds or sealed is in reach of an older one
    pub apart_kept : IsApart (put_at heap name outcome.1) (ticket_in core.world)
    apart_kept = by (toucher (due plan frame) (why.why plan frame) name at)
      where
        by : Toucher (due plan frame) → IsApart (put_at heap name outcome.1) (ticket_in core.world)
        by (has_entered entered) =
            IsApart-kept heap (ticket_in core.world) sound.tickets.own lawful.older_reach lawful.free_refs caller entered name (finite.get heap name) outcome.1
            (events_may plan core calls caller is lawful sound name at outcome acts) refl
        by (takes_a_root number d waits) =
            let same : root number ≡ name = same_some (ap aim (sym d) ∙ at) in
            subst (λ n. act plan caller frame (TakesRoot number) (finite.get heap n) ≡ Some outcome → IsApart (put_at heap n outcome.1) (ticket_in core.world)) same
            (root_apart number waits outcome) (ap (λ e. act plan caller frame e (finite.get heap name)) (sym d) ∙ acts)
