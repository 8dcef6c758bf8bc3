-- Where each serial run ends every operation in a forest, nothing is sealed.
use Rattle.std.proofs.Common.{◌≡◌, ◌≢◌, ◌⊎◌, inl, inr, ℕ, zero, suc, ◌+◌, Bool, true, false, ℤ, replicate, length, List, [], ◌∷◌, ◌++◌, set, get_or, Option, Some, None, refl, sym, ap, ap₂, subst, ◌∙◌, arith}
use Rattle.std.specs.Prelude.{All, IfSome, slice_get, option_and_then, nat_lt, if◌then◌else◌}
use Rattle.std.specs.Option.{option_map}
use Rattle.std.specs.FinMap as finite
use Rattle.std.proofs.lemmas.List.Elements.{All-nil, All-cons}
use Rattle.dl_ir.specs.declared.answers.Entry.{Entry}
use Rattle.dl_ir.specs.declared.calls.Call.{Call}
use Rattle.dl_ir.specs.declared.modules.Module.{Module}
use Rattle.dl_ir.specs.declared.modules.OpDecl.{OpDecl}
use Rattle.dl_ir.specs.declared.names.Name.{Name}
use Rattle.dl_ir.specs.CallForms.{IsCallOf}
use Rattle.dl_ir.specs.Cover.{call_at}
use Rattle.dl_ir.specs.Heap.{Objects}
use Rattle.dl_shape.specs.Closed.{AllEndInForest, IsForestClosed}
use Rattle.dl_shape.specs.Operation.{operated, operated_where, begun, body_outcome}
use Rattle.dl_shape.specs.References.{IsForest}
use Rattle.dl_shape.specs.Replay.{after_call, replayed, IsLegalFrom}
use Rattle.dl_shape.specs.Settling.{trim}
use Rattle.dl_closed.proofs.Settled.{settled_unsealed}
use Rattle.dl_closed.proofs.Statements.{NoneSealed, block_keeps}
use Rattle.dl_core.specs.declared.answers.Event.{Event}
use Rattle.dl_core.specs.declared.answers.Event.TheVariants as events
use Rattle.dl_core.specs.declared.answers.Progress.{Progress}
use Rattle.dl_core.specs.declared.answers.Progress.TheVariants as progress
use Rattle.dl_core.specs.declared.objects.Mark.{Mark}
use Rattle.dl_core.specs.declared.objects.Mark.TheVariants as marks
use Rattle.dl_core.specs.declared.objects.Object.{Object}
use Rattle.dl_core.specs.Heaps.{put_at, plain, plain_object, is_sealed, IsSealed}
use Rattle.dl_core.specs.Plans.{Plan, IsPlan, source_of}
use Rattle.dl_core.specs.declared.dues.Due.{Due}
use Rattle.dl_core.specs.declared.dues.Due.TheVariants.{Nothing, Reserves, TakesRoot, Enters, Reads, Writes, Takes, LetsGo, GivesUp, Seals, Makes, Finishes}
use Rattle.dl_core.specs.LocalSteps.{due}
use Rattle.dl_core.specs.Events.{Acted, act, event_of, taken_event, mark_of, with_mark}
use Rattle.dl_core.specs.Steps.{Alone, over, then_on, InTurn, none, next}
use Rattle.dl_core.specs.Core.{Core, Shared, Stepped, frame_of, rules_of, acted, with_event, touches, refuses, reserves, enters, finishes, step_due, step}
use Rattle.dl_core.specs.Reached.{Calls, IsReached, with_begun, starts, begins, steps, no_calls}
use Rattle.dl_core.specs.Reach.{ticket_in}
use Rattle.dl_order.specs.Serial.{NoSeal}
use Rattle.dl_core.proofs.Clearance.{moved_row}
use Rattle.dl_core.proofs.Diamond.{Touch, Leaves, Puts, touched, Acts, Moves, step→moves}
use Rattle.dl_shape.proofs.Names.{names}
use Rattle.dl_core.proofs.Maps.{get_here}
use Rattle.dl_core.proofs.Names.{same_some, no_some}
use Rattle.dl_core.proofs.Others.{sealed_kept}
use Rattle.dl_core.proofs.Plain.{get_plain}
use Rattle.dl_core.proofs.LawfulAlways.{lawful_always}
use Rattle.dl_order.proofs.Always.{serial_on}
use Rattle.dl_order.proofs.Worlds.{IsWorldOf, ordered}
use Rattle.dl_order.proofs.Serial.{world_of}

-- ---- a replay of a forest-closed module

found_unsealed : (source : Module) (heap : Objects) (ticket : ℕ) (arguments : List ℤ) (found : Option OpDecl) (op : OpDecl) → found ≡ Some op → NoneSealed heap
    → IfSome found (λ (o : OpDecl). IsForest (trim (body_outcome source heap ticket arguments o).state.objects)) → NoneSealed (operated_where source heap ticket arguments found).objects
found_unsealed source heap ticket arguments None op e clean forest = absurd (no_some e)
found_unsealed source heap ticket arguments (Some found) op e clean forest =
    settled_unsealed (body_outcome source heap ticket arguments found).state.objects forest
    (block_keeps (record { source = source; ticket = ticket; allocs = found.allocs }) found.body (begun found arguments heap found.fuel) clean).unsealed

module _ (source : Module) (files : List (List Call)) (fit : (caller index : ℕ) (call : Call) → call_at files caller index ≡ Some call → IsCallOf source call) where
  pub replay_unsealed : {ticket : ℕ} {heap : Objects} {history : List Entry} → NoneSealed heap → ((calls : List Call) → All (IsCallOf source) calls → AllEndInForest source ticket heap calls)
      → IsLegalFrom source files ticket heap history → NoneSealed (replayed source files heap history)
  replay_unsealed clean runs IsLegalFrom.ends = clean
  replay_unsealed {ticket = ticket} {heap = heap} clean runs (IsLegalFrom.goes_on {entry = entry} {rest = rest} call is_ticket is_call is_answer legal) =
      let of_module = fit entry.caller entry.index call is_call in
      let forest = (runs (call ∷ []) (All-cons (IsCallOf source) call [] of_module (All-nil (IsCallOf source)))).0 in
      let here = found_unsealed source heap ticket call.args (slice_get source.ops call.op) of_module.op of_module.declared clean forest in
      let step : after_call source heap entry.ticket (call_at files entry.caller entry.index) ≡ (operated source heap ticket call).objects = ap₂ (after_call source heap) is_ticket is_call in
      subst (λ h. NoneSealed (replayed source files h rest)) (sym step)
      (replay_unsealed here (λ calls more. (runs (call ∷ calls) (All-cons (IsCallOf source) call calls of_module more)).1) legal)

-- ---- the calls begun are calls of the module

new_or_old : {X : Type 0} (xs : List X) (new x : X) (i : ℕ) → slice_get (xs ++ new ∷ []) i ≡ Some x → (slice_get xs i ≡ Some x) ⊎ (new ≡ x)
new_or_old [] new x zero e = inr (same_some e)
new_or_old [] new x (suc i) e = inl e
new_or_old (y ∷ xs) new x zero e = inl e
new_or_old (y ∷ xs) new x (suc i) e = new_or_old xs new x i e

begun_or_old : (files : List (List Call)) (place k i : ℕ) (new call : Call) → option_and_then (λ (calls : List Call). slice_get calls i) (slice_get (set files place (get_or files place [] ++ new ∷ [])) k) ≡ Some call
    → (option_and_then (λ (calls : List Call). slice_get calls i) (slice_get files k) ≡ Some call) ⊎ (new ≡ call)
begun_or_old [] place k i new call e = inl e
begun_or_old (f ∷ files) zero zero i new call e = new_or_old f new call i e
begun_or_old (f ∷ files) zero (suc k) i new call e = inl e
begun_or_old (f ∷ files) (suc place) zero i new call e = inl e
begun_or_old (f ∷ files) (suc place) (suc k) i new call e = begun_or_old files place k i new call e

call_or_old : (calls : Calls) (caller : ℕ) (new : Call) (other index : ℕ) (call : Call) → call_at (with_begun calls caller new) other index ≡ Some call → (call_at calls other index ≡ Some call) ⊎ (new ≡ call)
call_or_old calls zero new other index call e = inl e
call_or_old calls (suc place) new zero index call e = inl e
call_or_old calls (suc place) new (suc other) zero call e = inl e
call_or_old calls (suc place) new (suc other) (suc index) call e = begun_or_old calls place other index new call e

no_call_there : (count other index : ℕ) (call : Call) → option_and_then (λ (calls : List Call). slice_get calls index) (slice_get (replicate count []) other) ≡ Some call → ⊥
no_call_there zero other index call e = no_some e
no_call_there (suc count) zero index call e = no_some e
no_call_there (suc count) (suc other) index call e = no_call_there count other index call e

none_yet : (plan : Plan) (other index : ℕ) (call : Call) → call_at (no_calls plan) other index ≡ Some call → ⊥
none_yet plan zero index call e = no_some e
none_yet plan (suc other) zero call e = no_some e
none_yet plan (suc other) (suc index) call e = no_call_there (length plan.sizes) other index call e

pub calls_fit : (plan : Plan) (core : Core) (calls : Calls) → IsReached plan core calls → (caller index : ℕ) (call : Call) → call_at calls caller index ≡ Some call → IsCallOf (source_of plan) call
calls_fit plan core calls starts caller index call e = absurd (none_yet plan caller index call e)
calls_fit plan core calls (begins {core = before} {calls = so_far} who new reached may) caller index call e =
    elim (call_or_old so_far who new caller index call e) [ inl old ↦ calls_fit plan before so_far reached caller index call old | inr same ↦ subst (IsCallOf (source_of plan)) same may.fits ]
calls_fit plan core calls (steps {core = before} who answer reached s) caller index call e = calls_fit plan before calls reached caller index call e

-- ---- what is sealed stays so

other_than : (c : ℕ) → c + 1 ≢ c
other_than c e = omega (arith, e)

module _ (plan : Plan) (is : IsPlan plan) where
  seal_stays_here : (core : Core) (calls : Calls) (after : Shared) (caller : ℕ) (name : Name) → IsReached plan core calls → Moves (rules_of plan) core.world caller after → IsSealed core.world.heap name → IsSealed after.heap name
  seal_stays_here core calls after caller name reached m s = by m.touch m.acts m.is
    where
      by : (touch : Touch) → Acts (rules_of plan) core.world caller touch m.frame → after ≡ record { heap = touched core.world.heap touch; frames = set core.world.frames caller m.frame } → IsSealed after.heap name
      by Leaves acts at = subst (λ (w : Shared). IsSealed w.heap name) (sym at) s
      by (Puts x found) acts at =
          let kept = lawful_always plan core calls is reached in
          subst (λ (w : Shared). IsSealed w.heap name) (sym at)
          (sealed_kept core.world.heap (ticket_in core.world) kept.sound.tickets.own caller x (finite.get core.world.heap x) found
          (moved_row plan core calls is kept.lawful kept.sound caller x found m.frame acts) refl (caller + 1) (other_than caller) name s)

  module _ (calls : Calls) (clock : ℕ) (name : Name) where
    seal_stays : (w w' : Shared) (c : ℕ) → IsWorldOf plan calls clock w → Moves (rules_of plan) w c w' → IsSealed w.heap name → IsSealed w'.heap name
    seal_stays w w' c v m s =
        seal_stays_here v.core calls w' c name v.reached (subst (λ u. Moves (rules_of plan) u c w') (sym v.is) m) (subst (λ (u : Shared). IsSealed u.heap name) (sym v.is) s)

    alone_seal : (j : ℕ) (w d : Shared) → Alone (rules_of plan) j w d → IsWorldOf plan calls clock w → IsSealed w.heap name → IsWorldOf plan calls clock d × IsSealed d.heap name
    alone_seal j w d (over f) v s = (v, s)
    alone_seal j w d (then_on {mid = mid} st rest) v s =
        let m = step→moves (rules_of plan) w j mid st in
        alone_seal j mid d rest ((ordered plan is calls clock).kept w mid j v m) (seal_stays w mid j v m s)

    turn_seal : (js : List ℕ) (w d : Shared) → InTurn (rules_of plan) js w d → IsWorldOf plan calls clock w → IsSealed w.heap name → IsSealed d.heap name
    turn_seal js w d none v s = s
    turn_seal js w d (next {caller = j} {callers = cs} {mid = mid} a rest) v s = let on = alone_seal j w mid a v s in turn_seal cs mid d rest on.0 on.1

  -- in no state is anything sealed
  pub never_sealed : (core : Core) (calls : Calls) (name : Name) → IsReached plan core calls → IsForestClosed (source_of plan) plan.heap → IsSealed core.world.heap name → ⊥
  never_sealed core calls name reached closed s =
      let serial = serial_on plan is core calls reached in
      let at_end = turn_seal calls core.clock name serial.callers core.world serial.end serial.runs (world_of plan is core calls reached) s in
      let clean : NoneSealed (plain serial.end.heap) = subst NoneSealed (sym serial.replay.heap_is) (replay_unsealed (source_of plan) calls (calls_fit plan core calls reached) closed.unsealed closed.each_run serial.replay.legal) in
      clash at_end.object.mark at_end.ticket at_end.sealed (clean name (plain_object at_end.object) (get_plain serial.end.heap name ∙ ap (option_map plain_object) at_end.there))
    where
      clash : (mark : Mark) (ticket : ℕ) → mark ≡ marks.Sealed ticket → is_sealed mark ≡ false → ⊥
      clash mark ticket p q = no_seal (sym (ap is_sealed p) ∙ q)
        where
          no_seal : true ≡ false → ⊥
          no_seal e = cc

-- ---- the two events

module _ (plan : Plan) (core : Core) (caller : ℕ) (after : Core) where
  answer_is : (s : Stepped) (answer : Progress) → Some s ≡ Some (after, answer) → s.1 ≡ answer
  answer_is s answer e = ap (λ (t : Stepped). t.1) (same_some e)

  core_is : (s : Stepped) (answer : Progress) → Some s ≡ Some (after, answer) → s.0 ≡ after
  core_is s answer e = ap (λ (t : Stepped). t.0) (same_some e)

  moved_same : {a b : Event} → progress.Moved a ≡ progress.Moved b → a ≡ b
  moved_same e = cc

  not_seal : {need version : ℕ} {name : Name} → progress.Moved (events.Reserve need version) ≡ progress.Moved (events.Seal name) → ⊥
  not_seal e = cc

  not_see : {need version : ℕ} {name : Name} → progress.Moved (events.Reserve need version) ≡ progress.Moved (events.SeeSealed name) → ⊥
  not_see e = cc

  not_refused : {need found version : ℕ} {event : Event} → progress.Refused need found version ≡ progress.Moved event → ⊥
  not_refused e = cc

  enter_not_seal : {ticket : ℕ} {name : Name} → progress.Moved (events.Enter ticket) ≡ progress.Moved (events.Seal name) → ⊥
  enter_not_seal e = cc

  enter_not_see : {ticket : ℕ} {name : Name} → progress.Moved (events.Enter ticket) ≡ progress.Moved (events.SeeSealed name) → ⊥
  enter_not_see e = cc

  done_not : {entry : Entry} {event : Event} → progress.Done entry ≡ progress.Moved event → ⊥
  done_not e = cc

  -- the event that took place, and what it left
  record TookPlace (d : Due) (name : Name) (event : Event) : Type 0 where
    event_is : event_of d (finite.get core.world.heap name) ≡ Some event
    outcome : Acted
    acts : act plan caller (frame_of core.world caller) d (finite.get core.world.heap name) ≡ Some outcome
    after_is : after ≡ acted core caller name outcome

  took_place : (d : Due) (name : Name) (event : Event) → touches plan core caller (frame_of core.world caller) d name ≡ Some (after, progress.Moved event) → TookPlace d name event
  took_place d name event e = by (event_of d (finite.get core.world.heap name)) refl (act plan caller (frame_of core.world caller) d (finite.get core.world.heap name)) refl e
    where
      by : (was : Option Event) → event_of d (finite.get core.world.heap name) ≡ was → (out : Option Acted) → act plan caller (frame_of core.world caller) d (finite.get core.world.heap name) ≡ out
          → with_event core caller name was out ≡ Some (after, progress.Moved event) → TookPlace d name event
      by None p out q e = absurd (no_some e)
      by (Some was) p None q e = absurd (no_some e)
      by (Some was) p (Some out) q e = record {
        event_is = p ∙ ap Some (moved_same (answer_is (acted core caller name out, progress.Moved was) (progress.Moved event) e));
        outcome = out;
        acts = q;
        after_is = sym (core_is (acted core caller name out, progress.Moved was) (progress.Moved event) e);
      }

  -- an event that seals, or sees what is sealed
  pub data OfSeals (name : Name) : Event → Type 0 where
    seals_it : OfSeals name (events.Seal name)
    sees_it : OfSeals name (events.SeeSealed name)

  taken_sealed : (name n : Name) (found : Option Object) → finite.get core.world.heap n ≡ found → (event : Event) → OfSeals name event → Some (taken_event n (mark_of found)) ≡ Some event → IsSealed core.world.heap name
  taken_sealed name n None there event seals_it e = absurd (cc)
  taken_sealed name n None there event sees_it e = absurd (cc)
  taken_sealed name n (Some object) there event seals_it e = absurd (by object.mark e)
    where
      by : (mark : Mark) → Some (taken_event n mark) ≡ Some (events.Seal name) → ⊥
      by marks.Free e = cc
      by (marks.Held c) e = cc
      by (marks.Sealed t) e = cc
  taken_sealed name n (Some object) there event sees_it e = by object.mark refl e
    where
      name_is : Some (events.SeeSealed n) ≡ Some (events.SeeSealed name) → n ≡ name
      name_is e = cc

      by : (mark : Mark) → object.mark ≡ mark → Some (taken_event n mark) ≡ Some (events.SeeSealed name) → IsSealed core.world.heap name
      by marks.Free m e = absurd (cc)
      by (marks.Held c) m e = absurd (cc)
      by (marks.Sealed t) m e = record { object = object; there = ap (finite.get core.world.heap) (sym (name_is e)) ∙ there; ticket = t; sealed = m }

  sealed_now : (name n : Name) (event : Event) → OfSeals name event → Some (events.Seal n) ≡ Some event → TookPlace (Seals n) n event → IsSealed after.world.heap name
  sealed_now name n event sees_it e took = absurd (cc)
  sealed_now name n event seals_it e took = by (finite.get core.world.heap n) refl took.acts
    where
      name_is : Some (events.Seal n) ≡ Some (events.Seal name) → n ≡ name
      name_is e = cc

      by : (found : Option Object) → finite.get core.world.heap n ≡ found → act plan caller (frame_of core.world caller) (Seals n) found ≡ Some took.outcome → IsSealed after.world.heap name
      by None there a = absurd (no_some a)
      by (Some object) there a =
          subst (λ (c : Core). IsSealed c.world.heap name) (sym took.after_is) (subst (λ x. IsSealed (put_at core.world.heap n took.outcome.1) x) (name_is e) (record {
            object = with_mark (marks.Sealed (frame_of core.world caller).ticket) object;
            there = get_here names core.world.heap n took.outcome.1 ∙ sym (ap (λ (o : Acted). o.1) (same_some a));
            ticket = (frame_of core.world caller).ticket;
            sealed = refl;
          }))

  no_other : (name : Name) (other event : Event) → OfSeals name event → Some other ≡ Some event → (other ≡ events.Seal name → ⊥) → (other ≡ events.SeeSealed name → ⊥) → ⊥
  no_other name other event seals_it e p q = p (same_some e)
  no_other name other event sees_it e p q = q (same_some e)

  asked_not : (need : ℕ) (name : Name) (event : Event) → OfSeals name event → (b : Bool) → Some (if b then refuses core caller (frame_of core.world caller) need else reserves core caller (frame_of core.world caller) need) ≡ Some (after, progress.Moved event) → ⊥
  asked_not need name event of true e = not_refused (answer_is (refuses core caller (frame_of core.world caller) need) (progress.Moved event) e)
  asked_not need name event seals_it false e = not_seal (answer_is (reserves core caller (frame_of core.world caller) need) (progress.Moved (events.Seal name)) e)
  asked_not need name event sees_it false e = not_see (answer_is (reserves core caller (frame_of core.world caller) need) (progress.Moved (events.SeeSealed name)) e)

  by_due : (name : Name) (event : Event) → OfSeals name event → (d : Due) → step_due plan core caller (frame_of core.world caller) d ≡ Some (after, progress.Moved event) → IsSealed after.world.heap name ⊎ IsSealed core.world.heap name
  by_due name event of Nothing e = absurd (no_some e)
  by_due name event of (Reserves need) e = absurd (asked_not need name event of (nat_lt core.pool.free need) e)
  by_due name event of (TakesRoot number) e = absurd (no_other name _ event of (took_place (TakesRoot number) _ event e).event_is (λ p. cc) (λ p. cc))
  by_due name event seals_it Enters e = absurd (enter_not_seal (answer_is (enters plan core caller (frame_of core.world caller)) (progress.Moved (events.Seal name)) e))
  by_due name event sees_it Enters e = absurd (enter_not_see (answer_is (enters plan core caller (frame_of core.world caller)) (progress.Moved (events.SeeSealed name)) e))
  by_due name event of (Reads n field) e = absurd (no_other name _ event of (took_place (Reads n field) n event e).event_is (λ p. cc) (λ p. cc))
  by_due name event of (Writes n field value) e = absurd (no_other name _ event of (took_place (Writes n field value) n event e).event_is (λ p. cc) (λ p. cc))
  by_due name event of (Takes n) e = inr (taken_sealed name n (finite.get core.world.heap n) refl event of (took_place (Takes n) n event e).event_is)
  by_due name event of (LetsGo n) e = absurd (no_other name _ event of (took_place (LetsGo n) n event e).event_is (λ p. cc) (λ p. cc))
  by_due name event of (GivesUp n) e = absurd (no_other name _ event of (took_place (GivesUp n) n event e).event_is (λ p. cc) (λ p. cc))
  by_due name event of (Seals n) e = let took = took_place (Seals n) n event e in inl (sealed_now name n event of took.event_is took)
  by_due name event of (Makes n kind) e = absurd (no_other name _ event of (took_place (Makes n kind) n event e).event_is (λ p. cc) (λ p. cc))
  by_due name event of (Finishes end) e = absurd (done_not (answer_is (finishes core caller (frame_of core.world caller) end) (progress.Moved event) e))

  pub sealing : (name : Name) (event : Event) → OfSeals name event → step plan core caller ≡ Some (after, progress.Moved event) → IsSealed after.world.heap name ⊎ IsSealed core.world.heap name
  sealing name event of e = by_due name event of (due plan (frame_of core.world caller)) e

pub no_seal : NoSeal
no_seal plan core after calls caller name is closed reached = (λ e. never (events.Seal name) seals_it e, λ e. never (events.SeeSealed name) sees_it e)
  where
    never : (event : Event) → OfSeals plan core caller after name event → step plan core caller ≡ Some (after, progress.Moved event) → ⊥
    never event of e = elim (sealing plan core caller after name event of e) [
      | inl s ↦ never_sealed plan is after calls name (steps caller (progress.Moved event) reached e) closed s
      | inr s ↦ never_sealed plan is core calls name reached closed s
    ]
