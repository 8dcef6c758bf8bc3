-- Callers never wait for one another in a circle.
use Rattle.std.proofs.Common.{◌≡◌, ◌⊎◌, inl, inr, ℕ, ◌<◌, ◌≤◌, Some, sym, ap, subst, ◌∙◌, arith}
use Rattle.std.proofs.lemmas.Bool.{cases_lt}
use Rattle.dl_ir.specs.declared.names.Name.{Name}
use Rattle.dl_ir.specs.Heap.{root}
use Rattle.dl_core.specs.Heaps.{Heap, IsHeld}
use Rattle.dl_core.specs.Plans.{Plan, IsPlan}
use Rattle.dl_core.specs.Frames.{Frame, IsEntered}
use Rattle.dl_core.specs.declared.dues.Due.{Due}
use Rattle.dl_core.specs.LocalSteps.{due}
use Rattle.dl_core.specs.Core.{Core, Shared, frame_of}
use Rattle.dl_core.specs.Reached.{Calls, IsReached}
use Rattle.dl_core.specs.Reach.{Links, WaitsFor, Waits, at_once, onward, Dominates, ticket_in, target_of_take}
use Rattle.dl_core.specs.Laws.{IsKept}
use Rattle.dl_order.specs.Serial.{NoCycle, WaitsForOlder, WaitsForHigherRoots}
use Rattle.dl_core.proofs.Dominated.{waits_down}
use Rattle.dl_core.proofs.Dominates.{events_dominate}
use Rattle.dl_core.proofs.Events.{works_running, works_loose, cleared, held_cleared, cleared_hand, hand_before}
use Rattle.dl_core.proofs.Names.{same_some, no_some}
use Rattle.dl_core.proofs.Rows.{target_held, target_value, link_hidden, field_links}
use Rattle.dl_core.proofs.Why as why
use Rattle.dl_core.proofs.Why.{Why}
use Rattle.dl_core.proofs.LawfulAlways.{lawful_always}

-- what a caller takes next: a root above all that it holds, before it enters; or what a field of a held object refers to
data TakesNext (world : Shared) (caller : ℕ) (name : Name) : Type 0 where
  a_root : name.ticket ≡ 0 → (frame_of world caller).ticket ≡ 0 → ((held : Name) → IsHeld world.heap caller held → (held.ticket ≡ 0) × (held.index < name.index)) → TakesNext world caller name
  a_target : IsEntered (frame_of world caller) → (from : Name) → IsHeld world.heap caller from → Links world.heap from name → TakesNext world caller name

module _ (plan : Plan) (core : Core) (calls : Calls) (caller : ℕ) (is : IsPlan plan) (kept : IsKept plan core calls) where
  abbrev heap : Heap
  heap = core.world.heap

  abbrev frame : Frame
  frame = frame_of core.world caller

  unentered : (IsEntered frame → ⊥) → frame.ticket ≡ 0
  unentered never = elim (cases_lt 0 frame.ticket) [ inl lt ↦ absurd (never lt) | inr le ↦ omega arith ]

  takes_next : (name : Name) → target_of_take (due plan frame) ≡ Some name → TakesNext core.world caller name
  takes_next name takes = by (due plan frame) (why.why plan frame) (events_dominate plan core calls caller is kept.lawful kept.sound) takes
    where
      by : (d : Due) → Why plan frame d → Dominates core.world caller frame d → target_of_take d ≡ Some name → TakesNext core.world caller name
      by d why.idles rule e = absurd (no_some e)
      by d (why.reserves tidy stage few) rule e = absurd (no_some e)
      by d (why.takes_root number tidy called next) rule e =
          let same : root number ≡ name = same_some e in
          a_root (ap (λ (n : Name). n.ticket) (sym same)) (unentered rule.0) (λ held h. let r = rule.1 held h in (r.0, subst (λ (n : Name). held.index < n.index) same r.1))
      by d (why.enters tidy stage next) rule e = absurd (no_some e)
      by d (why.reads_code local field n at to) rule e = absurd (no_some e)
      by d (why.reads_first field n booked given at hand) rule e = absurd (no_some e)
      by d (why.writes_code local field content n at to) rule e = absurd (no_some e)
      by d (why.writes_first field n target value booked given at hand to may) rule e = absurd (no_some e)
      by d (why.takes_code n at to other) rule e =
          let w = works_running plan core calls caller is kept.lawful kept.sound at.running in
          let before = hand_before plan core calls caller is kept.lawful kept.sound w _ at in
          let got = before.read in
          let link : Links heap got.name n = field_links heap got.name n got.object before.field got.there (same_some (sym got.in_hand ∙ target_held frame.hand n to)) in
          a_target w.1 got.name (record { object = got.object; there = got.there; held = got.held }) (subst (Links heap got.name) (same_some e) link)
      by d (why.takes_first field n target value booked given at hand to other) rule e =
          let w = works_loose plan core calls caller is kept.lawful kept.sound n given.rest given.first in
          let c = cleared plan core calls caller is kept.lawful kept.sound w n booked given in
          let link : Links heap n target = field_links heap n target c.object field c.there (sym (cleared_hand plan core calls caller is kept.lawful kept.sound n booked c value field hand at) ∙ target_value value target to) in
          a_target w.1 n (held_cleared plan core calls caller is kept.lawful kept.sound n booked c) (subst (Links heap n) (same_some e) link)
      by d (why.lets_go n rest first what) rule e = absurd (no_some e)
      by d (why.gives_up n booked given none) rule e = absurd (no_some e)
      by d (why.seals end entry rest tidy ended null entries) rule e = absurd (no_some e)
      by d (why.makes kind at few) rule e = absurd (no_some e)
      by d (why.finishes end tidy stage null none) rule e = absurd (no_some e)

  for_older : (other : ℕ) → IsEntered frame → WaitsFor plan core.world caller other → IsEntered (frame_of core.world other) × (ticket_in core.world other < ticket_in core.world caller)
  for_older other entered waits = by (takes_next waits.name waits.takes)
    where
      below : (a b : ℕ) → a ≤ b → (a ≡ b → ⊥) → a < b
      below a b le differ = omega (arith, le, differ)

      by : TakesNext core.world caller waits.name → IsEntered (frame_of core.world other) × (ticket_in core.world other < ticket_in core.world caller)
      by (a_root root_is z above) = absurd (omega (arith, z, entered))
      by (a_target e from held link) =
          let hidden = link_hidden heap kept.lawful.free_refs from waits.name link in (
            kept.lawful.who_holds.hidden other waits.name waits.held hidden,
            below (ticket_in core.world other) (ticket_in core.world caller)
                (waits_down heap (ticket_in core.world) kept.lawful.older_reach caller other waits.name entered (record { from = from; holder = held; link = link; taken = waits.held }))
                (λ same. waits.apart (sym (kept.sound.tickets.own other caller entered same))),
          )

  pub for_roots : (wanted : Name) → frame.ticket ≡ 0 → target_of_take (due plan frame) ≡ Some wanted → (wanted.ticket ≡ 0) × ((held : Name) → IsHeld heap caller held → (held.ticket ≡ 0) × (held.index < wanted.index))
  for_roots wanted z takes = by (takes_next wanted takes)
    where
      by : TakesNext core.world caller wanted → (wanted.ticket ≡ 0) × ((held : Name) → IsHeld heap caller held → (held.ticket ≡ 0) × (held.index < wanted.index))
      by (a_root root_is waits above) = (root_is, above)
      by (a_target e from holder link) = absurd (omega (arith, z, e))

-- along callers that each wait for the next
module _ (plan : Plan) (is : IsPlan plan) (core : Core) (calls : Calls) (reached : IsReached plan core calls) where
  -- a caller has entered, or has not and holds a root that is not below this name
  data Ahead (wanted : Name) (caller : ℕ) : Type 0 where
    runs_on : IsEntered (frame_of core.world caller) → Ahead wanted caller
    holds_root : (frame_of core.world caller).ticket ≡ 0 → (name : Name) → IsHeld core.world.heap caller name → wanted.index ≤ name.index → Ahead wanted caller

  either_way : (caller : ℕ) → IsEntered (frame_of core.world caller) ⊎ ((frame_of core.world caller).ticket ≡ 0)
  either_way caller = elim (cases_lt 0 (frame_of core.world caller).ticket) [ inl lt ↦ inl lt | inr le ↦ inr (omega arith) ]

  -- from who has entered
  older_on : (caller other : ℕ) → IsEntered (frame_of core.world caller) → Waits plan core.world caller other → IsEntered (frame_of core.world other) × (ticket_in core.world other < ticket_in core.world caller)
  older_on caller other entered (at_once waits) = for_older plan core calls caller is (lawful_always plan core calls is reached) other entered waits
  older_on caller other entered (onward {mid = mid} on waits) =
      let so_far = older_on caller mid entered on in
      let further = for_older plan core calls mid is (lawful_always plan core calls is reached) other so_far.0 waits in
      (further.0, omega (arith, further.1, so_far.1))

  next_ahead : (wanted : Name) (other : ℕ) (name : Name) → IsHeld core.world.heap other name → wanted.index ≤ name.index → Ahead wanted other
  next_ahead wanted other name held le = elim (either_way other) [ inl entered ↦ runs_on entered | inr z ↦ holds_root z name held le ]

  -- from who has not
  ahead_on : (caller other : ℕ) → (frame_of core.world caller).ticket ≡ 0 → Waits plan core.world caller other → (wanted : Name) × (target_of_take (due plan (frame_of core.world caller)) ≡ Some wanted) × Ahead wanted other
  ahead_on caller other z (at_once waits) = (waits.name, waits.takes, next_ahead waits.name other waits.name waits.held (omega arith))
  ahead_on caller other z (onward {mid = mid} on waits) = let so_far = ahead_on caller mid z on in (so_far.0, so_far.1, by so_far.0 so_far.2)
    where
      by : (wanted : Name) → Ahead wanted mid → Ahead wanted other
      by wanted (runs_on entered) = runs_on (for_older plan core calls mid is (lawful_always plan core calls is reached) other entered waits).0
      by wanted (holds_root w name held le) =
          let higher = for_roots plan core calls mid is (lawful_always plan core calls is reached) waits.name w waits.takes in
          next_ahead wanted other waits.name waits.held (omega (arith, (higher.1 name held).1, le))

  no_cycle_here : (caller : ℕ) → Waits plan core.world caller caller → ⊥
  no_cycle_here caller waits = elim (either_way caller) [
    | inl entered ↦ omega (arith, (older_on caller caller entered waits).1)
    | inr z ↦ let on = ahead_on caller caller z waits in by z on.0 on.1 on.2
  ]
    where
      by : (frame_of core.world caller).ticket ≡ 0 → (wanted : Name) → target_of_take (due plan (frame_of core.world caller)) ≡ Some wanted → Ahead wanted caller → ⊥
      by z wanted takes (runs_on entered) = omega (arith, z, entered)
      by z wanted takes (holds_root w name held le) =
          let higher = for_roots plan core calls caller is (lawful_always plan core calls is reached) wanted z takes in
          omega (arith, (higher.1 name held).1, le)

pub no_cycle : NoCycle
no_cycle plan core calls caller is reached waits = no_cycle_here plan is core calls reached caller waits

pub waits_for_older : WaitsForOlder
waits_for_older plan core calls caller other is reached entered waits = for_older plan core calls caller is (lawful_always plan core calls is reached) other entered waits

pub waits_for_higher_roots : WaitsForHigherRoots
waits_for_higher_roots plan core calls caller other is reached z waits = for_roots plan core calls caller is (lawful_always plan core calls is reached) waits.name z waits.takes
