-- Every state is serial: each kind of step keeps that the running operations end in the replay of all that entered.
use Rattle.std.proofs.Common.{◌≡◌, ◌≢◌, ◌⊎◌, inl, inr, ℕ, zero, suc, ◌+◌, ◌-◌, ◌<◌, ◌≤◌, Bool, true, false, List, [], ◌∷◌, ◌++◌, length, set, get_or, Option, Some, None, refl, sym, ap, ap₂, subst, ◌∙◌, arith}
use Rattle.std.specs.Prelude.{slice_get, option_and_then, nat_lt, if◌then◌else◌}
use Rattle.std.specs.Option.{option_map, option_map_or}
use Rattle.std.specs.FinMap as finite
use Rattle.std.proofs.lemmas.Bool.{cases_lt}
use Rattle.std.proofs.lemmas.List.{get_or-set_same, get_or-set_other, get_or_past, length-set}
use Rattle.dl_ir.specs.declared.answers.Entry.{Entry}
use Rattle.dl_ir.specs.declared.calls.Call.{Call}
use Rattle.dl_ir.specs.declared.modules.OpDecl.{OpDecl}
use Rattle.dl_ir.specs.declared.names.Name.{Name}
use Rattle.dl_ir.specs.Cover.{call_at}
use Rattle.dl_ir.specs.Heap.{Objects, hidden_count}
use Rattle.dl_shape.specs.Operation.{operated}
use Rattle.dl_shape.specs.Pool.{ReturnsFit, allocs_at}
use Rattle.dl_shape.specs.Replay.{after_call, replayed, IsLegalFrom, greatest_ticket}
use Rattle.dl_core.specs.declared.objects.Mark.{Mark}
use Rattle.dl_core.specs.declared.objects.Mark.TheVariants as marks
use Rattle.dl_core.specs.declared.objects.Object.{Object}
use Rattle.dl_core.specs.declared.stages.Finished.{Finished}
use Rattle.dl_core.specs.declared.stages.Stage.{Stage}
use Rattle.dl_core.specs.declared.stages.Stage.TheVariants as stages
use Rattle.dl_core.specs.Heaps.{put_at, plain, plain_object, is_sealed}
use Rattle.dl_core.specs.Plans.{Plan, IsPlan, source_of, allocs_of, roots_of}
use Rattle.dl_core.specs.Frames.{Frame, IsEntered, idle, at_rest, waiting}
use Rattle.dl_core.specs.declared.dues.Due.{Due}
use Rattle.dl_core.specs.declared.dues.Due.TheVariants.{Reserves, TakesRoot, Enters}
use Rattle.dl_core.specs.LocalSteps.{due, next_called, next_root}
use Rattle.dl_core.specs.Events.{Acted, act, entered, take_root, with_mark}
use Rattle.dl_core.specs.Steps.{Inside, At, InTurn}
use Rattle.dl_core.specs.Core.{Core, Shared, frame_of, rules_of, aim_of, with_frame}
use Rattle.dl_core.specs.Reached.{Calls, calls_of, IsReached}
use Rattle.dl_core.specs.Reach.{ticket_in}
use Rattle.dl_core.specs.Laws.{IsKept}
use Rattle.dl_order.specs.Serial.{AreRunning, history_of}
use Rattle.dl_core.proofs.Diamond.{Touch, Leaves, Puts, touched, Acts, Moves}
use Rattle.dl_shape.proofs.Names.{names}
use Rattle.dl_core.proofs.Maps.{put_at_same}
use Rattle.dl_core.proofs.Names.{same_number, same_some, no_some}
use Rattle.dl_core.proofs.Plain.{plain_put, get_plain}
use Rattle.dl_core.proofs.LawfulAlways.{lawful_always}
use Rattle.dl_order.specs.Lengths.{steps_in_turn}
use Rattle.dl_order.proofs.Histories.{StandsIn, legal_alike, legal_more, replay_more, returns_more, replay_push, legal_push, returns_push, history_stays}
use Rattle.dl_order.proofs.Keeping.{touch_one}
use Rattle.dl_core.proofs.Elements.{Each, In, Up, each_of, each_in, each_map, each_less, each_before, in_contains, contains_in, in_less, cut_at, up_less, up_before, up_others, up_pairs, up_same}
use Rattle.dl_order.proofs.Runs.{AllOlder, IsNone, turns_aside, past_all, InTurnIn, moves_long, turn_frame, turn_long, same_end, without}
use Rattle.dl_order.proofs.Worlds.{IsWorldOf, IsOther, new_frame, same_frame, ordered}

-- ---- the callers that have entered, in a row

pub record IsRow (world : Shared) (clock : ℕ) (callers : List ℕ) : Type 0 where
  pub entered : Each (λ c. IsEntered (frame_of world c)) callers
  pub low : Each (λ c. ticket_in world c ≤ clock) callers
  pub rises : Up (ticket_in world) callers
  pub all : (caller : ℕ) → IsEntered (frame_of world caller) → In caller callers

pub row_runs : (world : Shared) (clock : ℕ) (callers : List ℕ) → IsRow world clock callers → AreRunning world callers
row_runs world clock callers row = record {
  all = λ caller. (λ e. in_contains caller callers (row.all caller e), λ c. each_in (λ c. IsEntered (frame_of world c)) caller callers row.entered (contains_in caller callers c));
  rising = up_pairs (ticket_in world) callers row.rises;
}

pub row_same : (world after : Shared) (clock : ℕ) (callers : List ℕ) → ((c : ℕ) → ticket_in after c ≡ ticket_in world c) → IsRow world clock callers → IsRow after clock callers
row_same world after clock callers same row = record {
  entered = each_map (λ c. IsEntered (frame_of world c)) (λ c. IsEntered (frame_of after c)) callers (λ c e. subst (λ n. 0 < n) (sym (same c)) e) row.entered;
  low = each_map (λ c. ticket_in world c ≤ clock) (λ c. ticket_in after c ≤ clock) callers (λ c l. subst (λ n. n ≤ clock) (sym (same c)) l) row.low;
  rises = up_same (ticket_in world) (ticket_in after) callers (λ c there. same c) row.rises;
  all = λ c e. row.all c (subst (λ n. 0 < n) (same c) e);
}

-- who has not entered is none of them
pub none_entered : (world : Shared) (caller : ℕ) (callers : List ℕ) → ticket_in world caller ≡ 0 → Each (λ c. IsEntered (frame_of world c)) callers → IsNone caller callers
none_entered world caller [] z e = tt
none_entered world caller (c ∷ cs) z e = (λ same. omega (arith, z, ap (ticket_in world) same, e.0), none_entered world caller cs z e.1)

all_older : (world : Shared) (caller : ℕ) (callers : List ℕ) → Each (λ c. (caller ≢ c) × IsEntered (frame_of world c)) callers → AllOlder IsOther world caller callers
all_older world caller [] e = tt
all_older world caller (c ∷ cs) e = ((e.0.0, inl e.0.1), all_older world caller cs e.1)

both_each : {X : Type 0} (P Q : X → Type 0) (xs : List X) → Each P xs → Each Q xs → Each (λ x. P x × Q x) xs
both_each P Q [] p q = tt
both_each P Q (x ∷ xs) p q = ((p.0, q.0), both_each P Q xs p.1 q.1)

-- ---- what the callers that have entered leave at last is a replay

-- a heap and a history are a replay of calls, with consecutive tickets up to the clock
pub record IsReplayOf (plan : Plan) (calls : Calls) (clock : ℕ) (heap : Objects) (history : List Entry) : Type 0 where
  pub heap_is : heap ≡ replayed (source_of plan) calls plan.heap history
  pub legal : IsLegalFrom (source_of plan) calls (greatest_ticket plan.heap + 1) plan.heap history
  pub returns : ReturnsFit (source_of plan) calls plan.heap history
  pub clock_is : clock ≡ greatest_ticket plan.heap + length history

pub replay_as : (plan : Plan) (calls : Calls) (clock : ℕ) (heap after : Objects) (history now : List Entry) → after ≡ heap → now ≡ history → IsReplayOf plan calls clock heap history → IsReplayOf plan calls clock after now
replay_as plan calls clock heap after history now same_heap same r =
    subst (λ h. IsReplayOf plan calls clock h now) (sym same_heap) (subst (λ l. IsReplayOf plan calls clock heap l) (sym same) r)

replay_calls : (plan : Plan) (calls more : Calls) (clock : ℕ) (heap : Objects) (history : List Entry) → StandsIn calls more → IsReplayOf plan calls clock heap history → IsReplayOf plan more clock heap history
replay_calls plan calls more clock heap history stands r =
    let alike = legal_alike (source_of plan) calls more stands r.legal in
    record {
      heap_is = r.heap_is ∙ sym (replay_more (source_of plan) calls more plan.heap history alike);
      legal = legal_more (source_of plan) calls more stands r.legal;
      returns = returns_more (source_of plan) calls more alike r.returns;
      clock_is = r.clock_is;
    }

pub replay_entry : (plan : Plan) (calls : Calls) (clock : ℕ) (heap after : Objects) (history : List Entry) (entry : Entry) (call : Call) → IsReplayOf plan calls clock heap history → entry.ticket ≡ clock + 1
    → call_at calls entry.caller entry.index ≡ Some call → entry.answer ≡ (operated (source_of plan) heap (clock + 1) call).answer → after ≡ (operated (source_of plan) heap (clock + 1) call).objects
    → entry.returned + hidden_count after ≡ allocs_of plan call + hidden_count heap → IsReplayOf plan calls (clock + 1) after (history ++ entry ∷ [])
replay_entry plan calls clock heap after history entry call r ticket is answer objects returned =
    let then_after : after ≡ after_call (source_of plan) (replayed (source_of plan) calls plan.heap history) entry.ticket (call_at calls entry.caller entry.index)
    = objects ∙ ap₂ (λ h o. after_call (source_of plan) h (clock + 1) o) r.heap_is (sym is) ∙ ap (λ t. after_call (source_of plan) (replayed (source_of plan) calls plan.heap history) t (call_at calls entry.caller entry.index)) (sym ticket) in
    let allocs : allocs_at (source_of plan) calls entry.caller entry.index ≡ allocs_of plan call
    = ap (λ (o : Option Call). option_map_or (λ (op : OpDecl). op.allocs) (option_and_then (λ (c : Call). slice_get (source_of plan).ops c.op) o) 0) is in
    record {
      heap_is = then_after ∙ sym (replay_push (source_of plan) calls plan.heap history entry);
      legal = legal_push (source_of plan) calls entry call r.legal (omega (arith, ticket, r.clock_is)) is
          (answer ∙ ap₂ (λ h t. (operated (source_of plan) h t call).answer) r.heap_is (sym ticket));
      returns = returns_push (source_of plan) calls entry r.returns (omega (arith, allocs, ap hidden_count r.heap_is, ap hidden_count then_after, returned));
      clock_is = omega (arith, r.clock_is, length_push history entry);
    }
  where
    length_push : (xs : List Entry) (x : Entry) → length (xs ++ x ∷ []) ≡ length xs + 1
    length_push [] x = refl
    length_push (y ∷ xs) x = omega (arith, length_push xs x)

-- a state is serial, and its clock stands at the last ticket of the replay
pub record IsSerialOn (plan : Plan) (core : Core) (calls : Calls) : Type 0 where
  pub end : Shared
  pub callers : List ℕ
  pub row : IsRow core.world core.clock callers
  pub runs : InTurn (rules_of plan) callers core.world end
  pub replay : IsReplayOf plan calls core.clock (plain end.heap) (history_of end)

-- so many steps are left to the callers that have entered
pub record IsLeft (plan : Plan) (world : Shared) (clock : ℕ) (end : Shared) (count : ℕ) : Type 0 where
  pub callers : List ℕ
  pub row : IsRow world clock callers
  pub runs : InTurnIn (rules_of plan) count callers world end

pub left_of : (plan : Plan) (core : Core) (calls : Calls) (serial : IsSerialOn plan core calls) → IsLeft plan core.world core.clock serial.end (steps_in_turn (rules_of plan) serial.runs)
left_of plan core calls serial = record { callers = serial.callers; row = serial.row; runs = (serial.runs, refl) }

pub serial_left : (plan : Plan) (core : Core) (calls : Calls) (end : Shared) (count : ℕ) → IsLeft plan core.world core.clock end count → IsReplayOf plan calls core.clock (plain end.heap) (history_of end) → IsSerialOn plan core calls
serial_left plan core calls end count left replay = record { end = end; callers = left.callers; row = left.row; runs = left.runs.0; replay = replay }

-- ---- a caller with a call in hand

at_inside : {name : Name} → At name ≡ Inside → ⊥
at_inside e = cc

pub data IsCalledFor (plan : Plan) (frame : Frame) (d : Due) : Type 0 where
  for_places : (need : ℕ) → d ≡ Reserves need → need ≡ allocs_of plan frame.call → nat_lt frame.spares (allocs_of plan frame.call) ≡ true → IsCalledFor plan frame d
  for_a_root : (number : ℕ) → d ≡ TakesRoot number → slice_get (roots_of plan frame.call) frame.taken ≡ Some number → IsCalledFor plan frame d
  for_a_ticket : d ≡ Enters → nat_lt frame.spares (allocs_of plan frame.call) ≡ false → slice_get (roots_of plan frame.call) frame.taken ≡ None → IsCalledFor plan frame d

pub called_for : (plan : Plan) (frame : Frame) → IsCalledFor plan frame (next_called plan frame)
called_for plan frame = by (nat_lt frame.spares (allocs_of plan frame.call)) refl
  where
    at_root : nat_lt frame.spares (allocs_of plan frame.call) ≡ false → (number : Option ℕ) → slice_get (roots_of plan frame.call) frame.taken ≡ number → IsCalledFor plan frame (next_root number)
    at_root f None e = for_a_ticket refl f e
    at_root f (Some number) e = for_a_root number refl e

    by : (b : Bool) → nat_lt frame.spares (allocs_of plan frame.call) ≡ b → IsCalledFor plan frame (if b then Reserves (allocs_of plan frame.call) else next_root (slice_get (roots_of plan frame.call) frame.taken))
    by true t = for_places (allocs_of plan frame.call) refl refl t
    by false f = at_root f (slice_get (roots_of plan frame.call) frame.taken) refl

-- what comes next of a caller that has a call in hand
pub waiting_due : (plan : Plan) (frame : Frame) → frame ≡ waiting frame.call frame.taken frame.spares frame.book frame.index frame.finished → due plan frame ≡ next_called plan frame
waiting_due plan frame e = ap (due plan) e

pub no_lookup : {X : Type 0} (xs : List X) (i : ℕ) → slice_get xs i ≡ None → length xs ≤ i
no_lookup [] i e = omega arith
no_lookup (x ∷ xs) zero e = absurd (cc)
no_lookup (x ∷ xs) (suc i) e = omega (arith, no_lookup xs i e)

-- a call in hand is one of those begun
looked_up : (calls : Calls) (place i : ℕ) (call : Call) → slice_get (get_or calls place []) i ≡ Some call → option_and_then (λ (cs : List Call). slice_get cs i) (slice_get calls place) ≡ Some call
looked_up [] place i call e = absurd (cc)
looked_up (cs ∷ calls) zero i call e = e
looked_up (cs ∷ calls) (suc place) i call e = looked_up calls place i call e

pub call_begun : (calls : Calls) (caller index : ℕ) (call : Call) → 0 < caller → 0 < index → slice_get (calls_of calls caller) (index - 1) ≡ Some call → call_at calls caller index ≡ Some call
call_begun calls zero index call c i e = absurd (omega arith)
call_begun calls (suc place) zero call c i e = absurd (omega arith)
call_begun calls (suc place) (suc index) call c i e = let one : suc index - 1 ≡ index = omega arith in looked_up calls place index call (subst (λ n. slice_get (get_or calls place []) n ≡ Some call) one e)

module _ (plan : Plan) (is : IsPlan plan) where
  kept_of : (core : Core) (calls : Calls) → IsReached plan core calls → IsKept plan core calls
  kept_of core calls reached = lawful_always plan core calls is reached

  pub world_of : (core : Core) (calls : Calls) → IsReached plan core calls → IsWorldOf plan calls core.clock core.world
  world_of core calls reached = record { core = core; is = refl; clock_is = refl; reached = reached }

  pub not_called_past : (world : Shared) (caller : ℕ) → (frame_of world caller).stage ≡ stages.Called → caller < length world.frames
  not_called_past world caller called = elim (cases_lt caller (length world.frames)) [
    | inl lt ↦ lt
    | inr le ↦ absurd (clash (frame_of world caller).stage called (ap (λ (f : Frame). f.stage) (get_or_past world.frames caller idle le)))
  ]
    where
      clash : (s : Stage) → s ≡ stages.Called → s ≡ stages.Idle → ⊥
      clash s p q = cc

  -- ---- a change of the frame of a caller that has not entered

  pub frame_aside : (world : Shared) (caller : ℕ) (frame : Frame) → caller < length world.frames → (other : ℕ) → ((other ≡ caller) × (frame_of (with_frame world caller frame) other ≡ frame)) ⊎ ((other ≢ caller) × (frame_of (with_frame world caller frame) other ≡ frame_of world other))
  frame_aside world caller frame lt other = elim (same_number other caller) [
    | inl same ↦ inl (same, ap (λ n. frame_of (with_frame world caller frame) n) same ∙ get_or-set_same world.frames caller frame idle lt)
    | inr apart ↦ inr (apart, get_or-set_other world.frames caller other frame idle apart)
  ]

  pub aside : (core : Core) (calls more : Calls) (caller : ℕ) (frame : Frame) (after : Core) → IsSerialOn plan core calls → StandsIn calls more → caller < length core.world.frames
      → (frame_of core.world caller).ticket ≡ 0 → frame.ticket ≡ 0 → frame.finished ≡ (frame_of core.world caller).finished → after.world ≡ with_frame core.world caller frame → after.clock ≡ core.clock
      → IsSerialOn plan after more
  aside core calls more caller frame after serial stands lt z zero_now same world_is clock_is =
      let apart = none_entered core.world caller serial.callers z serial.row.entered in
      let stays = turn_frame (rules_of plan) serial.callers core.world serial.end serial.runs caller apart in
      let lt_end : caller < length serial.end.frames = subst (λ n. caller < n) (sym (turn_long (rules_of plan) serial.callers core.world serial.end serial.runs)) lt in
      record {
        end = with_frame serial.end caller frame;
        callers = serial.callers;
        row = subst (λ w. IsRow w after.clock serial.callers) (sym world_is) (subst (λ n. IsRow (with_frame core.world caller frame) n serial.callers) (sym clock_is)
            (row_same core.world (with_frame core.world caller frame) core.clock serial.callers (λ c. tickets c (frame_aside core.world caller frame lt c)) serial.row));
        runs = subst (λ w. InTurn (rules_of plan) serial.callers w (with_frame serial.end caller frame)) (sym world_is) (turns_aside (rules_of plan) caller serial.callers core.world serial.end serial.runs frame apart);
        replay = subst (λ n. IsReplayOf plan more n (plain serial.end.heap) (history_of (with_frame serial.end caller frame))) (sym clock_is)
            (replay_as plan more core.clock (plain serial.end.heap) (plain serial.end.heap) (history_of serial.end) (history_of (with_frame serial.end caller frame)) refl
            (history_stays serial.end (with_frame serial.end caller frame) (length-set serial.end.frames caller frame) (λ c. lists stays c (frame_aside serial.end caller frame lt_end c)))
            (replay_calls plan calls more core.clock (plain serial.end.heap) (history_of serial.end) stands serial.replay));
      }
    where
      tickets : (c : ℕ) → ((c ≡ caller) × (frame_of (with_frame core.world caller frame) c ≡ frame)) ⊎ ((c ≢ caller) × (frame_of (with_frame core.world caller frame) c ≡ frame_of core.world c)) → ticket_in (with_frame core.world caller frame) c ≡ ticket_in core.world c
      tickets c (inl here) = ap (λ (f : Frame). f.ticket) here.1 ∙ zero_now ∙ sym (ap (ticket_in core.world) here.0 ∙ z)
      tickets c (inr there) = ap (λ (f : Frame). f.ticket) there.1

      lists : frame_of serial.end caller ≡ frame_of core.world caller → (c : ℕ) → ((c ≡ caller) × (frame_of (with_frame serial.end caller frame) c ≡ frame)) ⊎ ((c ≢ caller) × (frame_of (with_frame serial.end caller frame) c ≡ frame_of serial.end c))
          → (frame_of (with_frame serial.end caller frame) c).finished ≡ (frame_of serial.end c).finished
      lists stays c (inl here) = ap (λ (f : Frame). f.finished) here.1 ∙ same ∙ ap (λ (f : Frame). f.finished) (sym (ap (frame_of serial.end) here.0 ∙ stays))
      lists stays c (inr there) = ap (λ (f : Frame). f.finished) there.1

  -- ---- a step of a caller that has entered

  older_part : (core : Core) (caller : ℕ) (before behind : List ℕ) → IsRow core.world core.clock (before ++ caller ∷ behind) → AllOlder IsOther core.world caller before
  older_part core caller before behind row =
      all_older core.world caller before (both_each (λ c. caller ≢ c) (λ c. IsEntered (frame_of core.world c)) before
      (each_map (λ c. ticket_in core.world c < ticket_in core.world caller) (λ c. caller ≢ c) before (λ c lt same. omega (arith, lt, ap (ticket_in core.world) same)) (up_before (ticket_in core.world) caller before behind row.rises))
      (each_before (λ c. IsEntered (frame_of core.world c)) before (caller ∷ behind) row.entered))

  pub goes_on : (core : Core) (calls : Calls) (caller : ℕ) (after : Core) (end : Shared) (count : ℕ) → IsReached plan core calls → IsLeft plan core.world core.clock end count → IsEntered (frame_of core.world caller)
      → (m : Moves (rules_of plan) core.world caller after.world) → after.clock ≡ core.clock → (frame_of after.world caller).ticket ≡ (frame_of core.world caller).ticket → (less : ℕ) × (count ≡ less + 1) × IsLeft plan after.world after.clock end less
  goes_on core calls caller after end count reached left entered m clock_is same =
      let cut = cut_at caller left.callers (left.row.all caller entered) in
      let row : IsRow core.world core.clock (cut.before ++ caller ∷ cut.behind) = subst (IsRow core.world core.clock) cut.is left.row in
      let runs : InTurnIn (rules_of plan) count (cut.before ++ caller ∷ cut.behind) core.world end = subst (λ cs. InTurnIn (rules_of plan) count cs core.world end) cut.is left.runs in
      let on = same_end (rules_of plan) (IsWorldOf plan calls core.clock) IsOther (ordered plan is calls core.clock) cut.before caller cut.behind core.world end runs.0 after.world (world_of core calls reached) (older_part core caller cut.before cut.behind row) m in (
        on.0,
        sym runs.1 ∙ on.1,
        record {
          callers = cut.before ++ caller ∷ cut.behind;
          row = subst (λ n. IsRow after.world n (cut.before ++ caller ∷ cut.behind)) (sym clock_is) (row_same core.world after.world core.clock (cut.before ++ caller ∷ cut.behind) tickets row);
          runs = on.2;
        },
      )
    where
      tickets : (c : ℕ) → ticket_in after.world c ≡ ticket_in core.world c
      tickets c = elim (same_number caller c) [
        | inl here ↦ ap (ticket_in after.world) (sym here) ∙ same ∙ ap (ticket_in core.world) here
        | inr apart ↦ ap (λ (f : Frame). f.ticket) (same_frame plan is core.world after.world caller c m apart)
      ]

  pub is_over : (core : Core) (calls : Calls) (caller : ℕ) (after : Core) (end : Shared) (count : ℕ) (index : ℕ) (list : List Finished) → IsReached plan core calls → IsLeft plan core.world core.clock end count → IsEntered (frame_of core.world caller)
      → (m : Moves (rules_of plan) core.world caller after.world) → after.clock ≡ core.clock → frame_of after.world caller ≡ at_rest index list → (less : ℕ) × (count ≡ less + 1) × IsLeft plan after.world after.clock end less
  is_over core calls caller after end count index list reached left entered m clock_is rests =
      let cut = cut_at caller left.callers (left.row.all caller entered) in
      let row : IsRow core.world core.clock (cut.before ++ caller ∷ cut.behind) = subst (IsRow core.world core.clock) cut.is left.row in
      let runs : InTurnIn (rules_of plan) count (cut.before ++ caller ∷ cut.behind) core.world end = subst (λ cs. InTurnIn (rules_of plan) count cs core.world end) cut.is left.runs in
      let on = without (rules_of plan) (IsWorldOf plan calls core.clock) IsOther (ordered plan is calls core.clock) cut.before caller cut.behind core.world end runs.0 after.world (world_of core calls reached) (older_part core caller cut.before cut.behind row) m
      (ap (λ (f : Frame). aim_of (due plan f)) rests) in
      let others : Each (λ c. ticket_in core.world c ≢ ticket_in core.world caller) (cut.before ++ cut.behind) = up_others (ticket_in core.world) caller cut.before cut.behind row.rises in
      let same : (c : ℕ) → In c (cut.before ++ cut.behind) → ticket_in after.world c ≡ ticket_in core.world c
      = λ c there. stays c (λ one. each_in (λ c. ticket_in core.world c ≢ ticket_in core.world caller) c (cut.before ++ cut.behind) others there (ap (ticket_in core.world) (sym one))) in (
        on.0,
        sym runs.1 ∙ on.1,
        record {
          callers = cut.before ++ cut.behind;
          row = record {
            entered = each_of (λ c. IsEntered (frame_of after.world c)) (cut.before ++ cut.behind) (λ c there. subst (λ n. 0 < n) (sym (same c there))
                (each_in (λ c. IsEntered (frame_of core.world c)) c (cut.before ++ cut.behind) (each_less (λ c. IsEntered (frame_of core.world c)) caller cut.before cut.behind row.entered) there));
            low = each_of (λ c. ticket_in after.world c ≤ after.clock) (cut.before ++ cut.behind) (λ c there. low_as (same c there) clock_is
                (each_in (λ c. ticket_in core.world c ≤ core.clock) c (cut.before ++ cut.behind) (each_less (λ c. ticket_in core.world c ≤ core.clock) caller cut.before cut.behind row.low) there));
            rises = up_same (ticket_in core.world) (ticket_in after.world) (cut.before ++ cut.behind) same (up_less (ticket_in core.world) caller cut.before cut.behind row.rises);
            all = λ c e. all_in rests cut.before cut.behind (λ c e. row.all c e) c e;
          };
          runs = on.2;
        },
      )
    where
      stays : (c : ℕ) → caller ≢ c → ticket_in after.world c ≡ ticket_in core.world c
      stays c apart = ap (λ (f : Frame). f.ticket) (same_frame plan is core.world after.world caller c m apart)

      low_as : {a b k l : ℕ} → a ≡ b → k ≡ l → b ≤ l → a ≤ k
      low_as p q le = omega arith

      all_in : frame_of after.world caller ≡ at_rest index list → (before behind : List ℕ) → ((c : ℕ) → IsEntered (frame_of core.world c) → In c (before ++ caller ∷ behind)) → (c : ℕ) → IsEntered (frame_of after.world c) → In c (before ++ behind)
      all_in now before behind all c e = elim (same_number caller c) [
        | inl here ↦ absurd (let z : ticket_in after.world c ≡ 0 = ap (ticket_in after.world) (sym here) ∙ ap (λ (f : Frame). f.ticket) now in omega (arith, z, e))
        | inr apart ↦ elim (in_less c caller before behind (all c (subst (λ n. 0 < n) (stays c apart) e))) [ inl one ↦ absurd (apart (sym one)) | inr there ↦ there ]
      ]

  -- ---- the taking of a root

  root_plain : (world after : Shared) (caller number : ℕ) → Moves (rules_of plan) world caller after → due plan (frame_of world caller) ≡ TakesRoot number → plain after.heap ≡ plain world.heap
  root_plain world after caller number m takes = by m.touch m.acts m.is
    where
      by_mark : (name : Name) (object : Object) → finite.get world.heap name ≡ Some object → (found : Option Object) (mark : Mark) → object.mark ≡ mark → take_root caller number (frame_of world caller) object mark ≡ Some (m.frame, found)
          → plain (put_at world.heap name found) ≡ plain world.heap
      by_mark name object there found marks.Free free e =
          let is_found : Some (with_mark (marks.Held caller) object) ≡ found = ap (λ (o : Acted). o.1) (same_some e) in
          let alike : ◌≡◌ (plain_object (with_mark (marks.Held caller) object)) (plain_object object) = λ i. record { kind = object.kind; sealed = ap is_sealed (sym free) i; fields = object.fields } in
          plain_put world.heap name found
          ∙ ap (λ o. put_at (plain world.heap) name (option_map plain_object o)) (sym is_found)
          ∙ ap (λ o. put_at (plain world.heap) name o) (ap Some alike ∙ ap (option_map plain_object) (sym there) ∙ sym (get_plain world.heap name))
          ∙ put_at_same names (plain world.heap) name
      by_mark name object there found (marks.Held other) free e = absurd (no_some e)
      by_mark name object there found (marks.Sealed ticket) free e = absurd (no_some e)

      by_found : (name : Name) (found : Option Object) (old : Option Object) → finite.get world.heap name ≡ old → act plan caller (frame_of world caller) (TakesRoot number) old ≡ Some (m.frame, found) → plain (put_at world.heap name found) ≡ plain world.heap
      by_found name found None there e = absurd (no_some e)
      by_found name found (Some object) there e = by_mark name object there found object.mark refl e

      by : (touch : Touch) → Acts (rules_of plan) world caller touch m.frame → after ≡ record { heap = touched world.heap touch; frames = set world.frames caller m.frame } → plain after.heap ≡ plain world.heap
      by Leaves acts at = ap (λ (w : Shared). plain w.heap) at
      by (Puts name found) acts at =
          ap (λ (w : Shared). plain w.heap) at
          ∙ by_found name found (finite.get world.heap name) refl (ap (λ d. act plan caller (frame_of world caller) d (finite.get world.heap name)) (sym takes) ∙ acts.1)

  root_one : (world after : Shared) (caller number : ℕ) (m : Moves (rules_of plan) world caller after) → due plan (frame_of world caller) ≡ TakesRoot number
      → (m.frame.ticket ≡ (frame_of world caller).ticket) × (m.frame.finished ≡ (frame_of world caller).finished)
  root_one world after caller number m takes = by m.touch m.acts
    where
      inside : aim_of (due plan (frame_of world caller)) ≡ Inside → ⊥
      inside e = at_inside (ap aim_of (sym takes) ∙ e)

      by : (touch : Touch) → Acts (rules_of plan) world caller touch m.frame → (m.frame.ticket ≡ (frame_of world caller).ticket) × (m.frame.finished ≡ (frame_of world caller).finished)
      by Leaves acts = absurd (inside acts.0)
      by (Puts name found) acts = let one = touch_one plan caller (frame_of world caller) (due plan (frame_of world caller)) (finite.get world.heap name) (m.frame, found) acts.1 in (one.0, one.1)

  pub takes_a_root : (core : Core) (calls : Calls) (caller number : ℕ) (after : Core) → IsReached plan core calls → IsSerialOn plan core calls → (frame_of core.world caller).ticket ≡ 0 → (frame_of core.world caller).stage ≡ stages.Called
      → due plan (frame_of core.world caller) ≡ TakesRoot number → Moves (rules_of plan) core.world caller after.world → after.clock ≡ core.clock → IsSerialOn plan after calls
  takes_a_root core calls caller number after reached serial z called takes m clock_is =
      let lt = not_called_past core.world caller called in
      let older : AllOlder IsOther core.world caller serial.callers = all_older core.world caller serial.callers (each_map (λ c. IsEntered (frame_of core.world c)) (λ c. (caller ≢ c) × IsEntered (frame_of core.world c)) serial.callers
      (λ c e. (λ same. omega (arith, z, ap (ticket_in core.world) same, e), e)) serial.row.entered) in
      let past = past_all (rules_of plan) (IsWorldOf plan calls core.clock) IsOther (ordered plan is calls core.clock) serial.callers caller core.world serial.end serial.runs after.world (world_of core calls reached) older m in
      let stays = turn_frame (rules_of plan) serial.callers core.world serial.end serial.runs caller (none_entered core.world caller serial.callers z serial.row.entered) in
      let takes_end : due plan (frame_of serial.end caller) ≡ TakesRoot number = ap (due plan) stays ∙ takes in
      let lt_end : caller < length serial.end.frames = subst (λ n. caller < n) (sym (turn_long (rules_of plan) serial.callers core.world serial.end serial.runs)) lt in
      let one = root_one serial.end past.0 caller number past.2 takes_end in
      record {
        end = past.0;
        callers = serial.callers;
        row = subst (λ n. IsRow after.world n serial.callers) (sym clock_is) (row_same core.world after.world core.clock serial.callers (λ c. tickets lt c) serial.row);
        runs = past.1;
        replay = subst (λ n. IsReplayOf plan calls n (plain past.0.heap) (history_of past.0)) (sym clock_is) (replay_as plan calls core.clock (plain serial.end.heap) (plain past.0.heap) (history_of serial.end) (history_of past.0)
            (root_plain serial.end past.0 caller number past.2 takes_end)
            (history_stays serial.end past.0 (moves_long (rules_of plan) serial.end past.0 caller past.2) (λ c. lists past.0 past.2 lt_end takes_end c))
            serial.replay);
      }
    where
      tickets : caller < length core.world.frames → (c : ℕ) → ticket_in after.world c ≡ ticket_in core.world c
      tickets lt c = elim (same_number caller c) [
        | inl here ↦ ap (ticket_in after.world) (sym here) ∙ ap (λ (f : Frame). f.ticket) (new_frame plan is core.world after.world caller m lt) ∙ (root_one core.world after.world caller number m takes).0 ∙ ap (ticket_in core.world) here
        | inr apart ↦ ap (λ (f : Frame). f.ticket) (same_frame plan is core.world after.world caller c m apart)
      ]

      lists : (d : Shared) (n : Moves (rules_of plan) serial.end caller d) → caller < length serial.end.frames → due plan (frame_of serial.end caller) ≡ TakesRoot number → (c : ℕ) → (frame_of d c).finished ≡ (frame_of serial.end c).finished
      lists d n lt takes_end c = elim (same_number caller c) [
        | inl here ↦
            ap (λ k. (frame_of d k).finished) (sym here) ∙ ap (λ (f : Frame). f.finished) (new_frame plan is serial.end d caller n lt) ∙ (root_one serial.end d caller number n takes_end).1 ∙ ap (λ k. (frame_of serial.end k).finished) here
        | inr apart ↦ ap (λ (f : Frame). f.finished) (same_frame plan is serial.end d caller c n apart)
      ]
