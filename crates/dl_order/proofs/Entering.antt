-- An entry keeps that a state is serial: the lone run of the operation comes last.
use Rattle.std.proofs.Common.{◌≡◌, ◌≢◌, ◌⊎◌, inl, inr, ℕ, ◌+◌, ◌<◌, ◌≤◌, false, List, [], ◌∷◌, ◌++◌, length, Some, refl, sym, ap, ap₂, subst, ◌∙◌, arith}
use Rattle.std.specs.Prelude.{nat_lt}
use Rattle.std.specs.FinMap as finite
use Rattle.std.proofs.lemmas.Bool.{cases_lt}
use Rattle.std.proofs.lemmas.Bool.Decides.{nat_tests}
use Rattle.std.proofs.lemmas.List.{get_or-set_same, get_or-set_other, length-set}
use Rattle.dl_ir.specs.declared.answers.Entry.{Entry}
use Rattle.dl_ir.specs.declared.calls.Call.{Call}
use Rattle.dl_ir.specs.declared.modules.OpDecl.{OpDecl}
use Rattle.dl_ir.specs.declared.names.Name.{Name}
use Rattle.dl_ir.specs.Cover.{call_at}
use Rattle.dl_ir.specs.Heap.{IsHidden}
use Rattle.dl_shape.specs.Replay.{greatest_ticket}
use Rattle.dl_core.specs.declared.objects.Mark.{Mark}
use Rattle.dl_core.specs.declared.objects.Mark.TheVariants as marks
use Rattle.dl_core.specs.declared.objects.Object.{Object}
use Rattle.dl_core.specs.declared.stages.Stage.{Stage}
use Rattle.dl_core.specs.declared.stages.Stage.TheVariants as stages
use Rattle.dl_core.specs.Heaps.{refs, plain}
use Rattle.dl_core.specs.Plans.{Plan, IsPlan, IsCaller, source_of, op_of, allocs_of, roots_of, locals_of, fuel_of}
use Rattle.dl_core.specs.Frames.{Frame, IsEntered, idle, waiting}
use Rattle.dl_core.specs.declared.dues.Due.TheVariants.{Enters}
use Rattle.dl_core.specs.LocalSteps.{due}
use Rattle.dl_core.specs.Events.{entered}
use Rattle.dl_core.specs.Steps.{Alone, InTurn, none, next}
use Rattle.dl_core.specs.Core.{Core, Shared, frame_of, rules_of, aim_of, with_frame, enters, step_due}
use Rattle.dl_core.specs.Reached.{Calls, IsReached, steps}
use Rattle.dl_core.specs.Reach.{ticket_in}
use Rattle.dl_core.specs.Sound.{Stands, idles, waits, works, HasCall, IsWaiting}
use Rattle.dl_core.specs.Laws.{HasJustEntered, RunsAlone}
use Rattle.dl_order.specs.Serial.{history_of}
use Rattle.dl_core.proofs.Kept.{ready_same}
use Rattle.dl_core.proofs.Names.{same_number}
use Rattle.dl_core.proofs.LawfulAlways.{lawful_always}
use Rattle.dl_core.proofs.LoneRunsEnd.{lone_runs_end}
use Rattle.dl_order.proofs.Histories.{legal_tickets, told, history_pushes}
use Rattle.dl_core.proofs.Elements.{Each, In, each_of, each_in, each_map, each_append, in_first, in_last, up_push, up_same}
use Rattle.dl_order.proofs.Runs.{turns_aside, turns_then, turn_frame, alone_frame, alone_long, turn_long, turn_over, turn_inv}
use Rattle.dl_order.proofs.Serial.{IsRow, IsReplayOf, IsSerialOn, none_entered, replay_entry, replay_as, IsCalledFor, for_places, for_a_root, for_a_ticket, called_for, waiting_due, no_lookup, call_begun, world_of, not_called_past}
use Rattle.dl_order.proofs.Worlds.{IsWorldOf, IsOther, stands_of, nowhere_unentered, ordered}

-- what is known of a caller whose operation enters next
pub record IsEntering (plan : Plan) (calls : Calls) (caller : ℕ) (frame : Frame) : Type 0 where
  pub has : HasCall plan calls caller frame
  pub comes : due plan frame ≡ Enters
  pub waits : frame ≡ waiting frame.call (length (roots_of plan frame.call)) (allocs_of plan frame.call) frame.book frame.index frame.finished

module _ (plan : Plan) (is : IsPlan plan) where
  pub enters_when : (core : Core) (calls : Calls) (caller : ℕ) → IsReached plan core calls → due plan (frame_of core.world caller) ≡ Enters → IsEntering plan calls caller (frame_of core.world caller)
  enters_when core calls caller reached enters = by (stands_of plan is core calls reached caller)
    where
      by_call : (call : HasCall plan calls caller (frame_of core.world caller)) → IsWaiting plan (frame_of core.world caller) call.op → IsCalledFor plan (frame_of core.world caller) Enters → IsEntering plan calls caller (frame_of core.world caller)
      by_call call w (for_places need e all few) = absurd (cc)
      by_call call w (for_a_root number e there) = absurd (cc)
      by_call call w (for_a_ticket e enough no_more) =
          let allocs : allocs_of plan (frame_of core.world caller).call ≡ call.op.allocs = allocs_is (frame_of core.world caller).call call.op call.declared in
          let all_roots : (frame_of core.world caller).taken ≡ length (roots_of plan (frame_of core.world caller).call) = between w.roots (no_lookup (roots_of plan (frame_of core.world caller).call) (frame_of core.world caller).taken no_more) in
          let all_places : (frame_of core.world caller).spares ≡ allocs_of plan (frame_of core.world caller).call = elim w.places [ inl p ↦ p ∙ sym allocs | inr p ↦ no_need (frame_of core.world caller).spares (allocs_of plan (frame_of core.world caller).call) p.0 enough ] in
          record {
            has = call;
            comes = enters;
            waits = w.is ∙ ap₂ (λ n k. waiting (frame_of core.world caller).call n k (frame_of core.world caller).book (frame_of core.world caller).index (frame_of core.world caller).finished) all_roots all_places;
          }
        where
          allocs_is : (c : Call) (op : OpDecl) → op_of plan c ≡ Some op → allocs_of plan c ≡ op.allocs
          allocs_is c op e = rw e refl

          between : {a b : ℕ} → a ≤ b → b ≤ a → a ≡ b
          between p q = omega arith

          no_need : (a b : ℕ) → a ≡ 0 → nat_lt a b ≡ false → a ≡ b
          no_need a b z e = grind (arith, nat_tests)

      by : Stands plan core.world.heap calls caller (frame_of core.world caller) → IsEntering plan calls caller (frame_of core.world caller)
      by (idles e) = absurd (let nothing = sym (ap (due plan) e) ∙ enters in cc)
      by (waits call w) = by_call call w (subst (IsCalledFor plan (frame_of core.world caller)) (sym (waiting_due plan (frame_of core.world caller) w.is) ∙ enters) (called_for plan (frame_of core.world caller)))
      by (works call e w) = absurd (nowhere_unentered plan is core calls reached caller (ap aim_of enters) e)

  -- where nobody else runs, the operation that enters has just entered
  pub just_entered : (core : Core) (calls : Calls) (caller : ℕ) → IsReached plan core calls → IsEntering plan calls caller (frame_of core.world caller) → caller < length core.world.frames
      → ((other : ℕ) → IsEntered (frame_of core.world other) → ⊥)
      → HasJustEntered plan (with_frame core.world caller (entered plan (core.clock + 1) (frame_of core.world caller))) caller (core.clock + 1) (frame_of core.world caller).call
  just_entered core calls caller reached e lt nobody =
      let kept = lawful_always plan core calls is reached in
      let z : (frame_of core.world caller).ticket ≡ 0 = ap (λ (f : Frame). f.ticket) e.waits in
      record {
        alone = λ other apart.
            ap (λ (f : Frame). f.ticket) (get_or-set_other core.world.frames caller other (entered plan (core.clock + 1) (frame_of core.world caller)) idle apart)
            ∙ (let never = nobody other in elim (cases_lt 0 (frame_of core.world other).ticket) [ inl lt ↦ absurd (never lt) | inr le ↦ omega arith ]);
        index = (frame_of core.world caller).index;
        finished = (frame_of core.world caller).finished;
        book = (frame_of core.world caller).book;
        fits = e.has.fits;
        before = frame_of core.world caller;
        before_is = e.waits;
        frame = get_or-set_same core.world.frames caller (entered plan (core.clock + 1) (frame_of core.world caller)) idle lt;
        booked = (kept.sound.each caller).book;
        roots = λ name. (λ h. kept.lawful.who_holds.roots caller name z h, λ t. kept.lawful.who_holds.taken caller name z t);
        of_module = kept.sound.heap;
        above = λ name object there. omega (arith, kept.sound.tickets.names name object there);
        hidden = λ name object there hid. by_mark name object there hid object.mark refl;
      }
    where
      by_mark : (name : Name) (object : Object) → finite.get core.world.heap name ≡ Some object → IsHidden name → (mark : Mark) → object.mark ≡ mark → ((object.mark ≡ marks.Free) × (refs core.world.heap name ≡ 1)) ⊎ ((by : ℕ) × (object.mark ≡ marks.Sealed by))
      by_mark name object there hid marks.Free m = inl (m, (lawful_always plan core calls is reached).lawful.free_refs.one name object there m hid)
      by_mark name object there hid (marks.Held other) m = absurd (nobody other ((lawful_always plan core calls is reached).lawful.who_holds.hidden other name (record { object = object; there = there; held = m }) hid))
      by_mark name object there hid (marks.Sealed ticket) m = inr (ticket, m)

  -- where the lone runs have ended nobody has entered
  nobody_left : (core : Core) (calls : Calls) (world : Shared) (clock : ℕ) (callers : List ℕ) → IsReached plan core calls → IsRow world clock callers → InTurn (rules_of plan) callers world core.world → (other : ℕ) → IsEntered (frame_of core.world other) → ⊥
  nobody_left core calls world clock callers reached row runs other e = elim (cases_lt 0 (ticket_in world other)) [
    | inl entered_before ↦ nowhere_unentered plan is core calls reached other (turn_over (rules_of plan) callers world core.world runs other (row.all other entered_before)) e
    | inr not_before ↦
        let z : ticket_in world other ≡ 0 = omega arith in
        let stays = turn_frame (rules_of plan) callers world core.world runs other (none_entered world other callers z row.entered) in
        omega (arith, z, ap (λ (f : Frame). f.ticket) stays, e)
  ]

  -- the lone run at the end of all others
  module _ (core : Core) (calls : Calls) (caller : ℕ) (reached : IsReached plan core calls) (e : IsEntering plan calls caller (frame_of core.world caller)) (lt : caller < length core.world.frames) (nobody : (other : ℕ) → IsEntered (frame_of core.world other) → ⊥) where
    abbrev entered_world : Shared
    entered_world = with_frame core.world caller (entered plan (core.clock + 1) (frame_of core.world caller))

    lone_run : RunsAlone plan entered_world caller (core.clock + 1) (frame_of core.world caller).call
    lone_run =
        let entry = enters plan core caller (frame_of core.world caller) in
        let entered_is : IsReached plan entry.0 calls = steps caller entry.1 reached (ap (step_due plan core caller (frame_of core.world caller)) e.comes) in
        lone_runs_end plan entry.0 calls caller (core.clock + 1) (frame_of core.world caller).call is (lawful_always plan entry.0 calls is entered_is) (just_entered core calls caller reached e lt nobody)

    entered_frame : frame_of entered_world caller ≡ entered plan (core.clock + 1) (frame_of core.world caller)
    entered_frame = get_or-set_same core.world.frames caller (entered plan (core.clock + 1) (frame_of core.world caller)) idle lt

    entered_same : ((frame_of entered_world caller).index ≡ (frame_of core.world caller).index) × ((frame_of entered_world caller).finished ≡ (frame_of core.world caller).finished)
    entered_same =
        let same = ready_same plan (record (frame_of core.world caller) { stage = stages.Running; ticket = core.clock + 1; locals = locals_of plan (frame_of core.world caller).call; turns = fuel_of plan (frame_of core.world caller).call }) in
        (ap (λ (f : Frame). f.index) entered_frame ∙ same.1, ap (λ (f : Frame). f.finished) entered_frame ∙ same.9)

    others_same : (run : RunsAlone plan entered_world caller (core.clock + 1) (frame_of core.world caller).call) (other : ℕ) → other ≢ caller → frame_of run.end other ≡ frame_of core.world other
    others_same run other apart = alone_frame (rules_of plan) caller entered_world run.end run.runs other apart ∙ get_or-set_other core.world.frames caller other (entered plan (core.clock + 1) (frame_of core.world caller)) idle apart

    is_caller : 0 < caller
    is_caller = elim (cases_lt 0 caller) [
      | inl low ↦ low
      | inr le ↦ absurd (clash (frame_of core.world caller).stage (ap (λ (f : Frame). f.stage) e.waits) ((lawful_always plan core calls is reached).sound.nobody caller (λ (c : IsCaller plan caller). omega (arith, c.from_one, le))))
    ]
      where
        clash : (s : Stage) → s ≡ stages.Called → s ≡ stages.Idle → ⊥
        clash s p q = cc

    -- the replay goes on with the operation
    lone_replay : IsReplayOf plan calls core.clock (plain core.world.heap) (history_of core.world)
        → (end : Shared) × Alone (rules_of plan) caller entered_world end × IsReplayOf plan calls (core.clock + 1) (plain end.heap) (history_of end)
    lone_replay replay = by lone_run
      where
        by : RunsAlone plan entered_world caller (core.clock + 1) (frame_of core.world caller).call → (end : Shared) × Alone (rules_of plan) caller entered_world end × IsReplayOf plan calls (core.clock + 1) (plain end.heap) (history_of end)
        by run =
            let out = run.is in
            let index : out.kept.index ≡ (frame_of core.world caller).index = out.kept_index ∙ entered_same.0 in
            let below : Each (λ (entry : Entry). entry.ticket < out.kept.ticket) (history_of core.world)
            = each_map (λ (entry : Entry). entry.ticket < greatest_ticket plan.heap + 1 + length (history_of core.world)) (λ (entry : Entry). entry.ticket < out.kept.ticket) (history_of core.world)
            (λ entry low. omega (arith, low, out.kept_ticket, replay.clock_is)) (legal_tickets (source_of plan) calls replay.legal) in
            let pushed : history_of run.end ≡ history_of core.world ++ told caller out.kept ∷ []
            = history_pushes core.world run.end caller out.kept
            (alone_long (rules_of plan) caller entered_world run.end run.runs ∙ length-set core.world.frames caller (entered plan (core.clock + 1) (frame_of core.world caller)))
            is_caller (omega (arith, lt))
            (ap (λ (f : Frame). f.finished) out.frame ∙ ap (λ l. l ++ out.kept ∷ []) entered_same.1)
            (λ other apart. ap (λ (f : Frame). f.finished) (others_same run other apart)) below in
            let begun = call_begun calls caller (frame_of core.world caller).index (frame_of core.world caller).call is_caller e.has.from_one e.has.begun in (
              run.end,
              run.runs,
              replay_as plan calls (core.clock + 1) (plain run.end.heap) (plain run.end.heap) (history_of core.world ++ told caller out.kept ∷ []) (history_of run.end) refl pushed
                  (replay_entry plan calls core.clock (plain core.world.heap) (plain run.end.heap) (history_of core.world) (told caller out.kept) (frame_of core.world caller).call replay out.kept_ticket
                  (ap (call_at calls caller) index ∙ begun) out.answer out.heap out.returned),
            )

  -- an entry
  pub enters_on : (core : Core) (calls : Calls) (caller : ℕ) → IsReached plan core calls → IsSerialOn plan core calls → due plan (frame_of core.world caller) ≡ Enters
      → IsSerialOn plan (enters plan core caller (frame_of core.world caller)).0 calls
  enters_on core calls caller reached serial due_enters =
      let entering = enters_when core calls caller reached due_enters in
      let z : (frame_of core.world caller).ticket ≡ 0 = ap (λ (f : Frame). f.ticket) entering.waits in
      let lt = not_called_past plan is core.world caller (ap (λ (f : Frame). f.stage) entering.waits) in
      let apart = none_entered core.world caller serial.callers z serial.row.entered in
      let v : IsWorldOf plan calls core.clock serial.end = turn_inv (rules_of plan) (IsWorldOf plan calls core.clock) IsOther (ordered plan is calls core.clock) serial.callers core.world serial.end serial.runs (world_of plan is core calls reached) in
      let runs : InTurn (rules_of plan) serial.callers core.world v.core.world = subst (InTurn (rules_of plan) serial.callers core.world) (sym v.is) serial.runs in
      let stays : frame_of v.core.world caller ≡ frame_of core.world caller = turn_frame (rules_of plan) serial.callers core.world v.core.world runs caller apart in
      let replay : IsReplayOf plan calls v.core.clock (plain v.core.world.heap) (history_of v.core.world)
      = subst (λ n. IsReplayOf plan calls n (plain v.core.world.heap) (history_of v.core.world)) (sym v.clock_is) (subst (λ (w : Shared). IsReplayOf plan calls core.clock (plain w.heap) (history_of w)) (sym v.is) serial.replay) in
      let last = lone_replay v.core calls caller v.reached (subst (IsEntering plan calls caller) (sym stays) entering)
      (subst (λ n. caller < n) (sym (turn_long (rules_of plan) serial.callers core.world v.core.world runs)) lt)
      (nobody_left v.core calls core.world core.clock serial.callers v.reached serial.row runs) replay in
      let same : entered plan (v.core.clock + 1) (frame_of v.core.world caller) ≡ entered plan (core.clock + 1) (frame_of core.world caller) = ap₂ (λ n f. entered plan (n + 1) f) v.clock_is stays in
      record {
        end = last.0;
        callers = serial.callers ++ caller ∷ [];
        row = entered_row lt z serial.callers serial.row;
        runs = subst (λ f. InTurn (rules_of plan) (serial.callers ++ caller ∷ []) (with_frame core.world caller f) last.0) same
            (turns_then (rules_of plan) serial.callers (caller ∷ []) _ _ last.0
            (turns_aside (rules_of plan) caller serial.callers core.world v.core.world runs (entered plan (v.core.clock + 1) (frame_of v.core.world caller)) apart) (next last.1 none));
        replay = subst (λ n. IsReplayOf plan calls (n + 1) (plain last.0.heap) (history_of last.0)) v.clock_is last.2;
      }
    where
      new_ticket : (entered plan (core.clock + 1) (frame_of core.world caller)).ticket ≡ core.clock + 1
      new_ticket = (ready_same plan (record (frame_of core.world caller) { stage = stages.Running; ticket = core.clock + 1; locals = locals_of plan (frame_of core.world caller).call; turns = fuel_of plan (frame_of core.world caller).call })).3

      entered_row : caller < length core.world.frames → (frame_of core.world caller).ticket ≡ 0 → (callers : List ℕ) → IsRow core.world core.clock callers
          → IsRow (with_frame core.world caller (entered plan (core.clock + 1) (frame_of core.world caller))) (core.clock + 1) (callers ++ caller ∷ [])
      entered_row lt z callers row =
          let here : ticket_in (with_frame core.world caller (entered plan (core.clock + 1) (frame_of core.world caller))) caller ≡ core.clock + 1
          = ap (λ (f : Frame). f.ticket) (get_or-set_same core.world.frames caller (entered plan (core.clock + 1) (frame_of core.world caller)) idle lt) ∙ new_ticket in
          let there : (c : ℕ) → c ≢ caller → ticket_in (with_frame core.world caller (entered plan (core.clock + 1) (frame_of core.world caller))) c ≡ ticket_in core.world c
          = λ c apart. ap (λ (f : Frame). f.ticket) (get_or-set_other core.world.frames caller c (entered plan (core.clock + 1) (frame_of core.world caller)) idle apart) in
          let same : (c : ℕ) → In c callers → ticket_in (with_frame core.world caller (entered plan (core.clock + 1) (frame_of core.world caller))) c ≡ ticket_in core.world c
          = λ c is_in. there c (λ one. omega (arith, z, ap (ticket_in core.world) one, each_in (λ c. IsEntered (frame_of core.world c)) c callers row.entered is_in)) in
          record {
            entered = each_append (λ c. IsEntered (frame_of (with_frame core.world caller (entered plan (core.clock + 1) (frame_of core.world caller))) c)) callers (caller ∷ [])
                (each_of (λ c. IsEntered (frame_of (with_frame core.world caller (entered plan (core.clock + 1) (frame_of core.world caller))) c)) callers (λ c is_in. subst (λ n. 0 < n) (sym (same c is_in)) (each_in (λ c. IsEntered (frame_of core.world c)) c callers row.entered is_in)))
                (subst (λ n. 0 < n) (sym here) (omega arith), tt);
            low = each_append (λ c. ticket_in (with_frame core.world caller (entered plan (core.clock + 1) (frame_of core.world caller))) c ≤ core.clock + 1) callers (caller ∷ [])
                (each_of (λ c. ticket_in (with_frame core.world caller (entered plan (core.clock + 1) (frame_of core.world caller))) c ≤ core.clock + 1) callers
                (λ c is_in. subst (λ n. n ≤ core.clock + 1) (sym (same c is_in)) (later (each_in (λ c. ticket_in core.world c ≤ core.clock) c callers row.low is_in))))
                (subst (λ n. n ≤ core.clock + 1) (sym here) (omega arith), tt);
            rises = up_push (ticket_in (with_frame core.world caller (entered plan (core.clock + 1) (frame_of core.world caller)))) caller callers
                (up_same (ticket_in core.world) (ticket_in (with_frame core.world caller (entered plan (core.clock + 1) (frame_of core.world caller)))) callers same row.rises)
                (each_of (λ c. ticket_in (with_frame core.world caller (entered plan (core.clock + 1) (frame_of core.world caller))) c < ticket_in (with_frame core.world caller (entered plan (core.clock + 1) (frame_of core.world caller))) caller) callers
                (λ c is_in. below (same c is_in) here (each_in (λ c. ticket_in core.world c ≤ core.clock) c callers row.low is_in)));
            all = λ c e. elim (same_number c caller) [
              | inl one ↦ subst (λ k. In k (callers ++ caller ∷ [])) (sym one) (in_last caller callers)
              | inr apart ↦ in_first c callers (caller ∷ []) (row.all c (subst (λ n. 0 < n) (there c apart) e))
            ];
          }
        where
          later : {a b : ℕ} → a ≤ b → a ≤ b + 1
          later le = omega arith

          below : {a b c d : ℕ} → a ≡ b → c ≡ d + 1 → b ≤ d → a < c
          below p q le = omega arith
