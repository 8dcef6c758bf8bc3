-- Where one caller alone begins operations, each does what its call gives.
use Rattle.std.proofs.Common.{◌≡◌, ◌≢◌, inl, inr, ℕ, zero, suc, ◌+◌, ◌<◌, Bool, true, false, List, [], ◌∷◌, ◌++◌, map, length, set, get_or, Option, Some, None, refl, sym, ap, subst, ◌∙◌, arith}
use Rattle.std.specs.Prelude.{nat_lt, slice_get, option_and_then, if◌then◌else◌}
use Rattle.std.specs.List.{flat_map, zip}
use Rattle.std.specs.FinMap as finite
use Rattle.std.proofs.lemmas.List.{append-nil, get_or-set_same}
use Rattle.std.proofs.lemmas.List.Sums.{fold-append}
use Rattle.dl_ir.specs.declared.answers.End.{End}
use Rattle.dl_ir.specs.declared.answers.Entry.{Entry}
use Rattle.dl_ir.specs.declared.calls.Call.{Call}
use Rattle.dl_ir.specs.declared.modules.Module.{Module}
use Rattle.dl_ir.specs.declared.names.Name.{Name}
use Rattle.dl_ir.specs.Cover.{call_at}
use Rattle.dl_ir.specs.Heap.{Objects, root}
use Rattle.dl_shape.specs.Operation.{operated}
use Rattle.dl_shape.specs.Replay.{after_call, replayed, IsLegalFrom, greatest_ticket}
use Rattle.dl_shape.specs.Rising.{in_rising}
use Rattle.dl_core.specs.declared.answers.Event.{Event}
use Rattle.dl_core.specs.declared.answers.Progress.{Progress}
use Rattle.dl_core.specs.declared.answers.Progress.TheVariants as progress
use Rattle.dl_core.specs.declared.dues.Due.{Due}
use Rattle.dl_core.specs.declared.dues.Due.TheVariants.{Nothing, Reserves, TakesRoot, Enters, Reads, Writes, Takes, LetsGo, GivesUp, Seals, Makes, Finishes}
use Rattle.dl_core.specs.declared.stages.Finished.{Finished}
use Rattle.dl_core.specs.declared.stages.Stage.TheVariants as stages
use Rattle.dl_core.specs.declared.stages.Versions.{Versions}
use Rattle.dl_core.specs.Advances.{RunsTo, ends, goes_on}
use Rattle.dl_core.specs.Core.{Account, Core, Stepped, account_of, entries_of, entry_of, frame_of, no_account, refuses, reserves, step, step_due, touches, versions_made, with_call, with_event}
use Rattle.dl_core.specs.Events.{Acted, act, aim, entered, event_of, finish_of, finished, reserved}
use Rattle.dl_core.specs.Frames.{Frame, idle}
use Rattle.dl_core.specs.Heaps.{plain}
use Rattle.dl_core.specs.Laws.{IsKept}
use Rattle.dl_core.specs.LocalSteps.{due}
use Rattle.dl_core.specs.Machines.{AreAllIdle}
use Rattle.dl_core.specs.Plans.{Plan, IsPlan, IsCaller, source_of, locals_of, fuel_of}
use Rattle.dl_core.specs.Reached.{Calls, IsReached, MayBegin, begins, steps, calls_of, with_begun}
use Rattle.dl_core.specs.Sound.{callers_of, numbers_from}
use Rattle.dl_core.proofs.Elements.{Each, Up, rising_more, up_before}
use Rattle.dl_core.proofs.Kept.{ready_same}
use Rattle.dl_core.proofs.LawfulAlways.{lawful_always}
use Rattle.dl_core.proofs.Names.{no_some, same_number, same_some}
use Rattle.dl_core.proofs.Standing.{idle_due}
use Rattle.dl_core.proofs.TouchesKeep.{busy_caller, touch_own}
use Rattle.dl_order.specs.Ends.{history_in}
use Rattle.dl_order.specs.OneCaller.{IsSerialCall, OneCallerIsSerial}
use Rattle.dl_order.proofs.Ends.{runs_end}
use Rattle.dl_order.proofs.Orders.{all_in_order}
use Rattle.dl_lemmas.proofs.Places.{at_seam, in_first}
use Rattle.std.proofs.lemmas.List.{map_push}

-- ---- lists

zip_more : {X Y : Type 0} (xs : List X) (ys : List Y) (x : X) (y : Y) → length xs ≡ length ys → zip (xs ++ x ∷ []) (ys ++ y ∷ []) ≡ zip xs ys ++ (x, y) ∷ []
zip_more [] [] x y e = refl
zip_more [] (b ∷ ys) x y e = absurd (omega (arith, e))
zip_more (a ∷ xs) [] x y e = absurd (omega (arith, e))
zip_more (a ∷ xs) (b ∷ ys) x y e = ap (λ l. (a, b) ∷ l) (zip_more xs ys x y (omega (arith, e)))

-- the tickets of entries are those of the operations
tickets_below : (caller ticket : ℕ) (list : List Finished) (versions : List Versions) → Each (λ (kept : Finished). kept.ticket < ticket) list → Each (λ (entry : Entry). entry.ticket < ticket) (map (entry_of caller) (zip list versions))
tickets_below caller ticket [] versions e = tt
tickets_below caller ticket (kept ∷ list) [] e = tt
tickets_below caller ticket (kept ∷ list) (v ∷ versions) e = (e.0, tickets_below caller ticket list versions e.1)

-- ---- histories

module _ (source : Module) (files : List (List Call)) where
  -- the last entry of a legal history
  record IsLast (ticket : ℕ) (heap : Objects) (history : List Entry) (entry : Entry) : Type 0 where
    call : Call
    is_call : call_at files entry.caller entry.index ≡ Some call
    answer : entry.answer ≡ (operated source (replayed source files heap history) entry.ticket call).answer

  last_legal : {ticket : ℕ} {heap : Objects} (history : List Entry) (entry : Entry) → IsLegalFrom source files ticket heap (history ++ entry ∷ []) → IsLast ticket heap history entry
  last_legal {heap = heap} [] entry (IsLegalFrom.goes_on call is_ticket is_call is_answer legal) = record { call = call; is_call = is_call; answer = is_answer ∙ ap (λ n. (operated source heap n call).answer) (sym is_ticket) }
  last_legal {ticket = ticket} {heap = heap} (first ∷ history) entry (IsLegalFrom.goes_on call is_ticket is_call is_answer legal) =
      let rest = last_legal {ticket = ticket + 1} {heap = (operated source heap ticket call).objects} history entry legal in
      let same : (operated source heap ticket call).objects ≡ after_call source heap first.ticket (call_at files first.caller first.index) = (λ i. after_call source heap (sym is_ticket i) (sym is_call i)) in
      record { call = rest.call; is_call = rest.is_call; answer = rest.answer ∙ ap (λ h. (operated source (replayed source files h history) entry.ticket rest.call).answer) same }

  -- the replay is the same where more calls were begun
  same_replay : (more : List (List Call)) → ((caller index : ℕ) (call : Call) → call_at files caller index ≡ Some call → call_at more caller index ≡ Some call) → {ticket : ℕ} {heap : Objects} (history : List Entry)
      → IsLegalFrom source files ticket heap history → replayed source more heap history ≡ replayed source files heap history
  same_replay more still [] legal = refl
  same_replay more still {ticket = ticket} {heap = heap} (entry ∷ history) (IsLegalFrom.goes_on call is_ticket is_call is_answer legal) =
      let same : after_call source heap entry.ticket (call_at more entry.caller entry.index) ≡ after_call source heap entry.ticket (call_at files entry.caller entry.index) =
      ap (after_call source heap entry.ticket) (still entry.caller entry.index call is_call ∙ sym is_call) in
      let now : after_call source heap entry.ticket (call_at files entry.caller entry.index) ≡ _ = (λ i. after_call source heap (is_ticket i) (is_call i)) in
      ap (λ h. replayed source more h history) (same ∙ now) ∙ same_replay more still {ticket = ticket + 1} {heap = (operated source heap ticket call).objects} history legal ∙ ap (λ h. replayed source files h history) (sym now)

-- the calls begun before stay where they are
still_called : (calls : Calls) (caller : ℕ) (call : Call) (other index : ℕ) (found : Call) → call_at calls other index ≡ Some found → call_at (with_begun calls caller call) other index ≡ Some found
still_called calls zero call other index found e = e
still_called calls (suc place) call zero index found e = e
still_called calls (suc place) call (suc other) zero found e = e
still_called calls (suc place) call (suc other) (suc index) found e = by calls place other e
  where
    by : (lists : Calls) (place other : ℕ) → option_and_then (λ (l : List Call). slice_get l index) (slice_get lists other) ≡ Some found
        → option_and_then (λ (l : List Call). slice_get l index) (slice_get (set lists place (get_or lists place [] ++ call ∷ [])) other) ≡ Some found
    by [] place other e = e
    by (l ∷ lists) zero zero e = in_first l (call ∷ []) index found e
    by (l ∷ lists) zero (suc other) e = e
    by (l ∷ lists) (suc place) zero e = e
    by (l ∷ lists) (suc place) (suc other) e = by lists place other e

-- and the new one stands behind them
now_called : (calls : Calls) (place : ℕ) (call : Call) → place < length calls → call_at (with_begun calls (suc place) call) (suc place) (suc (length (get_or calls place []))) ≡ Some call
now_called calls place call within = by calls place within
  where
    by : (lists : Calls) (place : ℕ) → place < length lists → option_and_then (λ (l : List Call). slice_get l (length (get_or lists place []))) (slice_get (set lists place (get_or lists place [] ++ call ∷ [])) place) ≡ Some call
    by [] place lt = absurd (omega (arith, lt))
    by (l ∷ lists) zero lt = at_seam l [] call
    by (l ∷ lists) (suc place) lt = by lists place (omega (arith, lt))

-- ---- steps

moved_done : {event : Event} {entry : Entry} → progress.Moved event ≡ progress.Done entry → ⊥
moved_done e = cc

refused_done : {n f v : ℕ} {entry : Entry} → progress.Refused n f v ≡ progress.Done entry → ⊥
refused_done e = cc

refused_moved : {n f v : ℕ} {event : Event} → progress.Refused n f v ≡ progress.Moved event → ⊥
refused_moved e = cc

same_entry : {a b : Entry} → progress.Done a ≡ progress.Done b → a ≡ b
same_entry e = cc

module _ (plan : Plan) (is : IsPlan plan) (caller : ℕ) where
  -- what a step makes of what the caller has finished
  data Tells (core after : Core) (answer : Progress) : Type 0 where
    moves : (event : Event) → answer ≡ progress.Moved event → (frame_of after.world caller).finished ≡ (frame_of core.world caller).finished → (account_of after caller).versions ≡ (account_of core caller).versions → Tells core after answer
    refused_now : (n f v : ℕ) → answer ≡ progress.Refused n f v → Tells core after answer
    finishes_now : (end : End) → frame_of after.world caller ≡ finished end (frame_of core.world caller)
        → (account_of after caller).versions ≡ (account_of core caller).versions ++ versions_made (frame_of core.world caller).spares (account_of core caller) core.pool ∷ []
        → answer ≡ progress.Done (entry_of caller (finish_of end (frame_of core.world caller), versions_made (frame_of core.world caller).spares (account_of core caller) core.pool)) → Tells core after answer

  module _ (core : Core) (calls : Calls) (all : IsKept plan core calls) where
    abbrev frame : Frame
    frame = frame_of core.world caller

    who : (d : Due) → due plan frame ≡ d → Nothing ≢ d → IsCaller plan caller
    who d e other = busy_caller plan core calls all.sound caller (λ i. other (sym (idle_due plan core calls caller all i) ∙ e))

    new_frame : (after : Core) (next : Frame) → IsCaller plan caller → after.world.frames ≡ set core.world.frames caller next → frame_of after.world caller ≡ next
    new_frame after next c e = ap (λ fs. get_or fs caller idle) e ∙ get_or-set_same core.world.frames caller next idle (omega (arith, c.to_last, all.sound.frames))

    new_account : (after : Core) (next : Account) → IsCaller plan caller → after.pool.accounts ≡ set core.pool.accounts caller next → account_of after caller ≡ next
    new_account after next c e = ap (λ xs. get_or xs caller no_account) e ∙ get_or-set_same core.pool.accounts caller next no_account (omega (arith, c.to_last, all.sound.accounts))

    asked : (need : ℕ) (after : Core) (answer : Progress) → due plan frame ≡ Reserves need → (b : Bool) → Some (if b then refuses core caller frame need else reserves core caller frame need) ≡ Some (after, answer) → Tells core after answer
    asked need after answer at true e = refused_now need core.pool.free core.pool.version (ap (λ (s : Stepped). s.1) (sym (same_some e)))
    asked need after answer at false e =
        let c = who (Reserves need) at (λ f. cc) in
        let after_is = ap (λ (s : Stepped). s.0) (sym (same_some e)) in
        moves _ (ap (λ (s : Stepped). s.1) (sym (same_some e))) (ap (λ (f : Frame). f.finished) (new_frame after (reserved need frame) c (ap (λ (x : Core). x.world.frames) after_is)))
        (ap (λ (a : Account). a.versions) (new_account after (record (account_of core caller) { reserved_at = core.pool.version + 1 }) c (ap (λ (x : Core). x.pool.accounts) after_is)))

    touched : (d : Due) (name : Name) (after : Core) (answer : Progress) → due plan frame ≡ d → aim d ≡ Some name → Nothing ≢ d → (event : Option Event) (outcome : Option Acted) → act plan caller frame d (finite.get core.world.heap name) ≡ outcome
        → with_event core caller name event outcome ≡ Some (after, answer) → Tells core after answer
    touched d name after answer at is_aim other None outcome p e = absurd (no_some e)
    touched d name after answer at is_aim other (Some event) None p e = absurd (no_some e)
    touched d name after answer at is_aim other (Some event) (Some done) p e =
        let own = touch_own plan core calls caller is all.lawful all.sound name (ap aim at ∙ is_aim) done (ap (λ k. act plan caller frame k (finite.get core.world.heap name)) at ∙ p) in
        let after_is = ap (λ (s : Stepped). s.0) (sym (same_some e)) in
        moves event (ap (λ (s : Stepped). s.1) (sym (same_some e))) (ap (λ (f : Frame). f.finished) (new_frame after done.0 (who d at other) (ap (λ (x : Core). x.world.frames) after_is)) ∙ own.public.finished)
        (ap (λ (x : Core). (account_of x caller).versions) after_is)

    touches_one : (d : Due) (name : Name) (after : Core) (answer : Progress) → due plan frame ≡ d → aim d ≡ Some name → Nothing ≢ d → touches plan core caller frame d name ≡ Some (after, answer) → Tells core after answer
    touches_one d name after answer at is_aim other e = touched d name after answer at is_aim other (event_of d (finite.get core.world.heap name)) (act plan caller frame d (finite.get core.world.heap name)) refl e

    tells : (after : Core) (answer : Progress) → step plan core caller ≡ Some (after, answer) → Tells core after answer
    tells after answer e = by (due plan frame) refl e
      where
        by : (d : Due) → due plan frame ≡ d → step_due plan core caller frame d ≡ Some (after, answer) → Tells core after answer
        by Nothing at e = absurd (no_some e)
        by (Reserves need) at e = asked need after answer at (nat_lt core.pool.free need) e
        by (TakesRoot number) at e = touches_one (TakesRoot number) (root number) after answer at refl (λ f. cc) e
        by Enters at e =
            let after_is = ap (λ (s : Stepped). s.0) (sym (same_some e)) in
            let same = ready_same plan (record frame { stage = stages.Running; ticket = core.clock + 1; locals = locals_of plan frame.call; turns = fuel_of plan frame.call }) in
            moves _ (ap (λ (s : Stepped). s.1) (sym (same_some e))) (ap (λ (f : Frame). f.finished) (new_frame after (entered plan (core.clock + 1) frame) (who Enters at (λ f. cc)) (ap (λ (x : Core). x.world.frames) after_is)) ∙ same.9)
            (ap (λ (x : Core). (account_of x caller).versions) after_is)
        by (Reads name field) at e = touches_one (Reads name field) name after answer at refl (λ f. cc) e
        by (Writes name field value) at e = touches_one (Writes name field value) name after answer at refl (λ f. cc) e
        by (Takes name) at e = touches_one (Takes name) name after answer at refl (λ f. cc) e
        by (LetsGo name) at e = touches_one (LetsGo name) name after answer at refl (λ f. cc) e
        by (GivesUp name) at e = touches_one (GivesUp name) name after answer at refl (λ f. cc) e
        by (Seals name) at e = touches_one (Seals name) name after answer at refl (λ f. cc) e
        by (Makes name kind) at e = touches_one (Makes name kind) name after answer at refl (λ f. cc) e
        by (Finishes end) at e =
            let after_is = ap (λ (s : Stepped). s.0) (sym (same_some e)) in
            let c = who (Finishes end) at (λ f. cc) in
            finishes_now end (new_frame after (finished end frame) c (ap (λ (x : Core). x.world.frames) after_is))
            (ap (λ (a : Account). a.versions) (new_account after _ c (ap (λ (x : Core). x.pool.accounts) after_is)))
            (ap (λ (s : Stepped). s.1) (sym (same_some e)))

  -- a run of an operation to its end adds its entry
  record Adds (core after : Core) (calls : Calls) (entry : Entry) : Type 0 where
    reached : IsReached plan after calls
    list : List Finished
    is_list : list ≡ (frame_of core.world caller).finished
    last : Finished
    finished_is : (frame_of after.world caller).finished ≡ list ++ last ∷ []
    ticket : entry.ticket ≡ last.ticket
    entries : entries_of after caller ≡ entries_of core caller ++ entry ∷ []
    rests : (frame_of after.world caller).stage ≡ stages.Idle
    by_caller : entry.caller ≡ caller
    index : entry.index ≡ length (calls_of calls caller)

  adds : (calls : Calls) (entry : Entry) {core after : Core} → IsReached plan core calls → RunsTo plan caller (progress.Done entry) core after → Adds core after calls entry
  adds calls entry {core} {after} reached (ends step) = by (tells core calls (lawful_always plan core calls is reached) after (progress.Done entry) step)
    where
      by : Tells core after (progress.Done entry) → Adds core after calls entry
      by (moves event a f v) = absurd (moved_done (sym a))
      by (refused_now n f v a) = absurd (refused_done (sym a))
      by (finishes_now end frame_is versions_are a) =
          let frame = frame_of core.world caller in
          let kept = finish_of end frame in
          let made = versions_made frame.spares (account_of core caller) core.pool in
          let all = lawful_always plan core calls is reached in
          let is_entry : entry ≡ entry_of caller (kept, made) = same_entry a in
          record {
            reached = steps caller (progress.Done entry) reached step;
            list = frame.finished;
            is_list = refl;
            last = kept;
            finished_is = ap (λ (f : Frame). f.finished) frame_is;
            ticket = ap (λ (x : Entry). x.ticket) is_entry;
            entries =
                (λ i. map (entry_of caller) (zip (frame_is i).finished (versions_are i)))
                ∙ ap (map (entry_of caller)) (zip_more frame.finished (account_of core caller).versions kept made (sym (all.sound.each caller).history.versions))
                ∙ map_push (entry_of caller) (zip frame.finished (account_of core caller).versions) (kept, made)
                ∙ ap (λ x. entries_of core caller ++ x ∷ []) (sym is_entry);
            rests = ap (λ (f : Frame). f.stage) frame_is;
            by_caller = ap (λ (x : Entry). x.caller) is_entry;
            index = ap (λ (x : Entry). x.index) is_entry ∙ (all.sound.each caller).history.begun;
          }
  adds calls entry {core} {after} reached (goes_on {mid = mid} event step rest) =
      let on = adds calls entry (steps caller (progress.Moved event) reached step) rest in
      by on (tells core calls (lawful_always plan core calls is reached) mid (progress.Moved event) step)
    where
      by : Adds mid after calls entry → Tells core mid (progress.Moved event) → Adds core after calls entry
      by on (moves e a f v) = record {
        reached = on.reached;
        list = on.list;
        is_list = on.is_list ∙ f;
        last = on.last;
        finished_is = on.finished_is;
        ticket = on.ticket;
        entries = on.entries ∙ (λ i. map (entry_of caller) (zip (f i) (v i)) ++ entry ∷ []);
        rests = on.rests;
        by_caller = on.by_caller;
        index = on.index;
      }
      by on (refused_now n f v a) = absurd (refused_moved (sym a))
      by on (finishes_now end f v a) = absurd (moved_done a)

module _ (plan : Plan) (is : IsPlan plan) (one : length plan.sizes ≡ 1) where
  -- who is idle alone is not alone idle
  all_idle : (core : Core) (calls : Calls) → IsReached plan core calls → (frame_of core.world 1).stage ≡ stages.Idle → AreAllIdle core
  all_idle core calls reached rests other = elim (same_number other 1) [
    | inl same ↦ subst (λ n. (frame_of core.world n).stage ≡ stages.Idle) (sym same) rests
    | inr apart ↦ (lawful_always plan core calls is reached).sound.nobody other (λ c. apart (omega (arith, c.from_one, c.to_last, one)))
  ]

  callers : callers_of plan ≡ 1 ∷ []
  callers = ap (numbers_from 1) one

  history : (core : Core) → history_in plan core ≡ in_rising (λ (entry : Entry). entry.ticket) (entries_of core 1)
  history core = ap (λ cs. in_rising (λ (entry : Entry). entry.ticket) (flat_map (entries_of core) cs)) callers ∙ ap (in_rising (λ (entry : Entry). entry.ticket)) (append-nil (entries_of core 1))

  serial : (core after : Core) (calls : Calls) (call : Call) (entry : Entry) → IsReached plan core calls → MayBegin plan core calls 1 call → RunsTo plan 1 (progress.Done entry) (with_call core 1 call) after → IsSerialCall plan core call entry after
  serial core after calls call entry reached may runs =
      let begun = with_begun calls 1 call in
      let all = lawful_always plan core calls is reached in
      let added = adds plan is 1 begun entry (begins 1 call reached may) runs in
      let before = runs_end plan core calls is reached (all_idle core calls reached may.idle) in
      let over = runs_end plan after begun is added.reached (all_idle after begun added.reached added.rests) in
      let key = λ (x : Entry). x.ticket in
      let past = in_rising key (entries_of core 1) in
      let same_entries : entries_of (with_call core 1 call) 1 ≡ entries_of core 1 = ap (λ (list : List Finished). map (entry_of 1) (zip list (account_of core 1).versions)) same_list in
      let below : Each (λ (x : Entry). x.ticket < entry.ticket) (entries_of core 1) =
      subst (λ n. Each (λ (x : Entry). x.ticket < n) (entries_of core 1)) (sym added.ticket)
      (tickets_below 1 added.last.ticket (frame_of core.world 1).finished (account_of core 1).versions
      (subst (Each (λ (k : Finished). k.ticket < added.last.ticket)) (added.is_list ∙ same_list)
      (up_before (λ (k : Finished). k.ticket) added.last added.list [] (subst (Up (λ (k : Finished). k.ticket)) added.finished_is (all_in_order plan is after begun added.reached 1).up)))) in
      let now : history_in plan after ≡ past ++ entry ∷ [] =
      history after ∙ ap (in_rising key) (added.entries ∙ ap (λ l. l ++ entry ∷ []) same_entries)
      ∙ rising_more key entry (entries_of core 1) [] (subst (Each (λ (x : Entry). x.ticket < entry.ticket)) (sym (append-nil (entries_of core 1))) below)
      ∙ ap (λ l. in_rising key l ++ entry ∷ []) (append-nil (entries_of core 1)) in
      let last = last_legal (source_of plan) begun past entry (subst (IsLegalFrom (source_of plan) begun (greatest_ticket plan.heap + 1) plan.heap) now over.legal.goes) in
      let replay : replayed (source_of plan) begun plan.heap past ≡ plain core.world.heap =
      same_replay (source_of plan) calls begun (still_called calls 1 call) past (subst (IsLegalFrom (source_of plan) calls (greatest_ticket plan.heap + 1) plan.heap) (history core) before.legal.goes)
      ∙ ap (replayed (source_of plan) calls plan.heap) (sym (history core)) ∙ sym before.heap in
      let is_call : call_at begun entry.caller entry.index ≡ Some call =
      (λ i. call_at begun (added.by_caller i) ((added.index ∙ index_is) i)) ∙ now_called calls 0 call (omega (arith, all.sound.lists, one)) in
      let same_call : last.call ≡ call = same_some (sym last.is_call ∙ is_call) in
      record {
        answer = last.answer ∙ (λ i. (operated (source_of plan) (replay i) entry.ticket (same_call i)).answer);
        heap =
            over.heap ∙ ap (replayed (source_of plan) begun plan.heap) now
            ∙ fold-append (λ objects (x : Entry). after_call (source_of plan) objects x.ticket (call_at begun x.caller x.index)) plan.heap past (entry ∷ [])
            ∙ (λ i. after_call (source_of plan) (replay i) entry.ticket (is_call i));
      }
    where
      within : 1 < length core.world.frames
      within = omega (arith, (lawful_always plan core calls is reached).sound.frames, one)

      same_list : (frame_of (with_call core 1 call).world 1).finished ≡ (frame_of core.world 1).finished
      same_list = ap (λ (f : Frame). f.finished) (get_or-set_same core.world.frames 1 _ idle within)

      index_is : length (calls_of (with_begun calls 1 call) 1) ≡ suc (length (get_or calls 0 []))
      index_is = ap length (get_or-set_same calls 0 (get_or calls 0 [] ++ call ∷ []) [] (omega (arith, (lawful_always plan core calls is reached).sound.lists, one))) ∙ more (get_or calls 0 [])
        where
          more : (xs : List Call) → length (xs ++ call ∷ []) ≡ suc (length xs)
          more [] = refl
          more (x ∷ xs) = ap suc (more xs)

pub one_caller_is_serial : OneCallerIsSerial
one_caller_is_serial plan core after calls caller call entry is one reached may runs =
    let same : caller ≡ 1 = omega (arith, may.is_caller.from_one, may.is_caller.to_last, one) in
    serial plan is one core after calls call entry reached (subst (λ c. MayBegin plan core calls c call) same may) (subst (λ c. RunsTo plan c (progress.Done entry) (with_call core c call) after) same runs)
