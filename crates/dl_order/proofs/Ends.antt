-- What holds when no caller has a call in hand any more: the calls begun were run.
use Rattle.std.proofs.Common.{◌≡◌, ◌≢◌, ◌⊎◌, inl, inr, ℕ, zero, suc, ◌+◌, ◌<◌, ◌≤◌, ◌==◌, ◌&&◌, Bool, true, false, cond, ℤ, pos, ◌+ℤ◌, ◌-ℤ◌, ◌≤ℤ◌, List, [], ◌∷◌, ◌++◌, map, length, get_or, Option, Some, None, refl, sym, ap, subst, ◌∙◌, arith}
use Rattle.std.specs.Prelude.{All, AllPairs, count_by, sum_by, slice_get, option_and_then, nat_lt, if◌then◌else◌}
use Rattle.std.specs.List.{flat_map, zip}
use Rattle.std.specs.List.Sorted.{IsPermutation, IsStrictlyIncreasing, IsNonDecreasingBy}
use Rattle.std.specs.Option.{option_map}
use Rattle.std.specs.FinMap as finite
use Rattle.std.proofs.lemmas.Bool.{cases_lt, ne_eqb}
use Rattle.std.proofs.lemmas.Bool.Decides.{nat_tests}
use Rattle.std.proofs.lemmas.List.{append-nil, get_or_past}
use Rattle.std.proofs.lemmas.List.Sorted.{All-permutation, length_permutation, sum_by-IsPermutation}
use Rattle.std.proofs.lemmas.List.Sums.{sum_by-cons}
use Rattle.dl_ir.specs.declared.answers.Entry.{Entry}
use Rattle.dl_ir.specs.declared.answers.Refusal.{Refusal}
use Rattle.dl_ir.specs.declared.calls.Call.{Call}
use Rattle.dl_ir.specs.declared.modules.Module.{Module}
use Rattle.dl_ir.specs.declared.moves.Move.{Move}
use Rattle.dl_ir.specs.declared.objects.Obj.{Obj}
use Rattle.dl_ir.specs.Cover.{Covers, call_at, runs_of, refusals_of as refusals_of_call, one_if_there}
use Rattle.dl_ir.specs.Heap.{Objects, hidden_count}
use Rattle.dl_ir.specs.CallForms.{AreCallsOf}
use Rattle.dl_closed.specs.Unsealed.{IsUnsealed}
use Rattle.dl_closed.proofs.Histories.{never_seals}
use Rattle.dl_shape.specs.Closed.{IsForestClosed}
use Rattle.dl_shape.specs.Pool.{ReturnsFit, IsLawfulPool, HasVersionsOfMovesAlone, IsDue, allocs_at, moves_of, moves_of_entry, versions_of, free_at}
use Rattle.dl_shape.specs.Replay.{after_call, replayed, IsLegal, IsLegalFrom}
use Rattle.dl_shape.specs.Rising.{in_rising}
use Rattle.dl_shape.specs.Startable.{IsSettled}
use Rattle.dl_shape.proofs.Rising.{rising_moves, rising_pieces}
use Rattle.dl_core.specs.declared.objects.Mark.{Mark}
use Rattle.dl_core.specs.declared.objects.Mark.TheVariants as marks
use Rattle.dl_core.specs.declared.objects.Object.{Object}
use Rattle.dl_core.specs.declared.stages.Finished.{Finished}
use Rattle.dl_core.specs.declared.stages.Versions.{Versions}
use Rattle.dl_core.specs.Heaps.{refs, plain, plain_object, is_sealed}
use Rattle.dl_core.specs.Plans.{Plan, IsPlan, source_of, allocs_of, size_of}
use Rattle.dl_core.specs.Frames.{Frame, IsEntered, idle, at_rest}
use Rattle.dl_core.specs.Steps.{InTurn, none, next}
use Rattle.dl_core.specs.Core.{Core, Shared, account_of, frame_of, rules_of, entry_of, entries_of, refusals_of}
use Rattle.dl_core.specs.Reached.{Calls, calls_of, IsReached}
use Rattle.dl_order.specs.Serial.{finished_entries as told_by, history_of}
use Rattle.dl_core.specs.Sound.{IsSound, callers_of, numbers_from, moves_in, move_in_hand, in_hand_at}
use Rattle.dl_core.proofs.Names.{same_number, same_some, no_some}
use Rattle.dl_core.proofs.Plain.{get_plain, plain_refs}
use Rattle.dl_core.proofs.LawfulAlways.{lawful_always}
use Rattle.dl_order.specs.Ends.{history_in, all_refusals, IsRunOver, RunsEnd}
use Rattle.dl_core.specs.Machines.{AreAllIdle}
use Rattle.dl_order.proofs.Always.{serial_on}
use Rattle.dl_order.proofs.Histories.{told, same_pieces}
use Rattle.dl_core.proofs.Elements.{Each, In, Up, each_in, each_map, each_of, each_all, all_each, in_contains, contains_in, pairs_up, up_pairs}
use Rattle.dl_order.proofs.Orders.{IsInOrder, IsRefusalOf, all_in_order}
use Rattle.dl_order.proofs.Pieces.{no_last, map_pieces, pieces_of_pieces, rising_changed, in_piece, in_rising_in, each_pieces, pairs_in, rise_together, count_none, none_there, one_there, tally, tally_pieces, tally_rising, change_up_to, fold_tally}
use Rattle.dl_order.proofs.Serial.{IsReplayOf}
use Rattle.dl_order.proofs.Unsealed.{calls_fit}
use Rattle.dl_order.proofs.Versions.{IsAlone, all_alone, alone_versions}
use Rattle.dl_order.proofs.Worlds.{stands_of, idle_rests}
use Rattle.dl_lemmas.proofs.Places.{either_default}

-- ---- entries without their versions

abbrev bare : Entry → Entry
bare entry = record entry { reserved_at = 0; returned_at = 0 }

no_cons : {x : Entry} {xs : List Entry} → [] ≡ x ∷ xs → ⊥
no_cons e = cc

cons_no : {x : Entry} {xs : List Entry} → x ∷ xs ≡ [] → ⊥
cons_no e = cc

first_same : {x y : Entry} {xs ys : List Entry} → x ∷ xs ≡ y ∷ ys → x ≡ y
first_same e = cc

rest_same : {x y : Entry} {xs ys : List Entry} → x ∷ xs ≡ y ∷ ys → xs ≡ ys
rest_same e = cc

module _ (source : Module) (files : List (List Call)) where
  legal_bare : {ticket : ℕ} {heap : Objects} {short : List Entry} → IsLegalFrom source files ticket heap short → (history : List Entry) → short ≡ map bare history → IsLegalFrom source files ticket heap history
  legal_bare IsLegalFrom.ends [] e = IsLegalFrom.ends
  legal_bare IsLegalFrom.ends (x ∷ xs) e = absurd (no_cons e)
  legal_bare (IsLegalFrom.goes_on call is_ticket is_call is_answer legal) [] e = absurd (cons_no e)
  legal_bare (IsLegalFrom.goes_on {entry = entry} {rest = rest} call is_ticket is_call is_answer legal) (x ∷ xs) e =
      let same : bare x ≡ entry = sym (first_same e) in
      IsLegalFrom.goes_on call (ap (λ (y : Entry). y.ticket) same ∙ is_ticket) (ap (λ (y : Entry). call_at files y.caller y.index) same ∙ is_call) (ap (λ (y : Entry). y.answer) same ∙ is_answer) (legal_bare legal xs (rest_same e))

  returns_bare : {heap : Objects} {short : List Entry} → ReturnsFit source files heap short → (history : List Entry) → short ≡ map bare history → ReturnsFit source files heap history
  returns_bare ReturnsFit.ends [] e = ReturnsFit.ends
  returns_bare ReturnsFit.ends (x ∷ xs) e = absurd (no_cons e)
  returns_bare (ReturnsFit.goes_on fits back) [] e = absurd (cons_no e)
  returns_bare (ReturnsFit.goes_on {heap = heap} {entry = entry} {rest = rest} fits back) (x ∷ xs) e =
      let same : entry ≡ bare x = first_same e in
      ReturnsFit.goes_on
      (subst (λ (y : Entry). allocs_at source files y.caller y.index + hidden_count heap ≡ y.returned + hidden_count (after_call source heap y.ticket (call_at files y.caller y.index))) same fits)
      (subst (λ (y : Entry). ReturnsFit source files (after_call source heap y.ticket (call_at files y.caller y.index)) xs) same (returns_bare back xs (rest_same e)))

  replay_bare : (heap : Objects) (history : List Entry) → replayed source files heap (map bare history) ≡ replayed source files heap history
  replay_bare heap [] = refl
  replay_bare heap (x ∷ xs) = replay_bare (after_call source heap x.ticket (call_at files x.caller x.index)) xs

  -- the tickets of a legal history rise
  legal_up : {ticket : ℕ} {heap : Objects} {history : List Entry} → IsLegalFrom source files ticket heap history → Up (λ (entry : Entry). entry.ticket) history × Each (λ (entry : Entry). ticket ≤ entry.ticket) history
  legal_up IsLegalFrom.ends = (tt, tt)
  legal_up {ticket = ticket} (IsLegalFrom.goes_on {entry = entry} {rest = rest} call is_ticket is_call is_answer legal) =
      let on = legal_up legal in (
        (each_map (λ (e : Entry). ticket + 1 ≤ e.ticket) (λ (e : Entry). entry.ticket < e.ticket) rest (λ e le. omega (arith, le, is_ticket)) on.1, on.0),
        (omega (arith, is_ticket), each_map (λ (e : Entry). ticket + 1 ≤ e.ticket) (λ (e : Entry). ticket ≤ e.ticket) rest (λ e le. omega (arith, le)) on.1),
      )

zipped : (caller : ℕ) (list : List Finished) (versions : List Versions) → length versions ≡ length list → map bare (map (entry_of caller) (zip list versions)) ≡ map (told caller) list
zipped caller [] versions e = refl
zipped caller (kept ∷ list) [] e = absurd (omega (arith, e))
zipped caller (kept ∷ list) (v ∷ versions) e = ap (λ l. told caller kept ∷ l) (zipped caller list versions (omega (arith, e)))

-- an entry tells of one of these operations
record TellsOf (caller : ℕ) (list : List Finished) (entry : Entry) : Type 0 where
  by_caller : entry.caller ≡ caller
  kept : Finished
  there : In kept list
  ticket : entry.ticket ≡ kept.ticket
  index : entry.index ≡ kept.index

entries_each : (P : Entry → Type 0) (caller : ℕ) (list : List Finished) (versions : List Versions) → ((kept : Finished) (v : Versions) → In kept list → P (entry_of caller (kept, v))) → Each P (map (entry_of caller) (zip list versions))
entries_each P caller [] versions h = tt
entries_each P caller (kept ∷ list) [] h = tt
entries_each P caller (kept ∷ list) (v ∷ versions) h = (h kept v (inl refl), entries_each P caller list versions (λ k w there. h k w (inr there)))

-- ---- the calls begun

found_in : {X : Type 0} (xs : List X) (i : ℕ) (one_if : Option X → ℕ) → ((x : X) → one_if (Some x) ≡ 1) → i < length xs → one_if (slice_get xs i) ≡ 1
found_in [] i one_if one lt = absurd (omega arith)
found_in (x ∷ xs) zero one_if one lt = one x
found_in (x ∷ xs) (suc i) one_if one lt = found_in xs i one_if one (omega arith)

missing_in : {X : Type 0} (xs : List X) (i : ℕ) (one_if : Option X → ℕ) → one_if None ≡ 0 → length xs ≤ i → one_if (slice_get xs i) ≡ 0
missing_in [] i one_if no_one le = no_one
missing_in (x ∷ xs) zero one_if no_one le = absurd (omega arith)
missing_in (x ∷ xs) (suc i) one_if no_one le = missing_in xs i one_if no_one (omega arith)

call_found : (calls : Calls) (place i : ℕ) → i < length (get_or calls place []) → one_if_there (option_and_then (λ (cs : List Call). slice_get cs i) (slice_get calls place)) ≡ 1
call_found [] place i lt = absurd (omega arith)
call_found (cs ∷ calls) zero i lt = found_in cs i one_if_there (λ x. refl) lt
call_found (cs ∷ calls) (suc place) i lt = call_found calls place i lt

call_missing : (calls : Calls) (place i : ℕ) → length (get_or calls place []) ≤ i → one_if_there (option_and_then (λ (cs : List Call). slice_get cs i) (slice_get calls place)) ≡ 0
call_missing [] place i le = refl
call_missing (cs ∷ calls) zero i le = missing_in cs i one_if_there refl le
call_missing (cs ∷ calls) (suc place) i le = call_missing calls place i le

one_call : (calls : Calls) (caller index : ℕ) → 0 < index → index ≤ length (calls_of calls caller) → one_if_there (call_at calls caller index) ≡ 1
one_call calls zero index low high = absurd (omega arith)
one_call calls (suc place) zero low high = absurd (omega arith)
one_call calls (suc place) (suc i) low high = call_found calls place i (omega arith)

no_call_at : (calls : Calls) (caller index : ℕ) → (index ≡ 0) ⊎ (length (calls_of calls caller) < index) → one_if_there (call_at calls caller index) ≡ 0
no_call_at calls zero index out = refl
no_call_at calls (suc place) zero out = refl
no_call_at calls (suc place) (suc i) (inl z) = absurd (omega (arith, z))
no_call_at calls (suc place) (suc i) (inr lt) = call_missing calls place i (omega arith)

in_calls : (calls : Calls) (caller : ℕ) → 0 < length (calls_of calls caller) → (0 < caller) × (caller ≤ length calls)
in_calls calls zero lt = absurd (omega arith)
in_calls calls (suc place) lt = (
  omega arith,
  elim (cases_lt place (length calls)) [
    | inl inside ↦ omega (arith, inside)
    | inr past ↦ absurd (omega (arith, lt, ap (λ (cs : List Call). length cs) (get_or_past calls place [] past)))
  ],
)

found_at : {X : Type 0} (xs : List X) (i : ℕ) (d : X) → i < length xs → slice_get xs i ≡ Some (get_or xs i d)
found_at [] i d lt = absurd (omega arith)
found_at (x ∷ xs) zero d lt = refl
found_at (x ∷ xs) (suc i) d lt = found_at xs i d (omega arith)

and_false : (b : Bool) → (b && false) ≡ false
and_false true = refl
and_false false = refl

no_spares : (frames : List Frame) → ((c : ℕ) → (get_or frames c idle).spares ≡ 0) → sum_by (λ (f : Frame). f.spares) frames ≡ 0
no_spares [] z = refl
no_spares (f ∷ frames) z = omega (arith, sum_by-cons (λ (f : Frame). f.spares) f frames, z 0, no_spares frames (λ c. z (suc c)))

module _ (plan : Plan) (is : IsPlan plan) (core : Core) (calls : Calls) (reached : IsReached plan core calls) (resting : AreAllIdle core) where
  abbrev source : Module
  source = source_of plan

  abbrev ticket : Entry → ℕ
  ticket entry = entry.ticket

  abbrev entries : List Entry
  entries = flat_map (entries_of core) (callers_of plan)

  sound : IsSound plan core calls
  sound = (lawful_always plan core calls is reached).sound

  rests : (caller : ℕ) → frame_of core.world caller ≡ at_rest (frame_of core.world caller).index (frame_of core.world caller).finished
  rests caller = idle_rests plan core.world.heap calls caller (frame_of core.world caller) (stands_of plan is core calls reached caller) (resting caller)

  -- ---- the history

  history_told : map bare (history_in plan core) ≡ history_of core.world
  history_told =
      let longer : suc (length plan.sizes) ≡ length core.world.frames = omega (arith, sound.frames) in
      let past : told_by core.world (1 + length plan.sizes) ≡ []
      = ap (λ (f : Frame). map (told (1 + length plan.sizes)) f.finished) (get_or_past core.world.frames (1 + length plan.sizes) idle (omega (arith, sound.frames))) in
      sym (rising_changed ticket bare (λ e. refl) entries)
      ∙ ap (in_rising ticket) (
      map_pieces bare (entries_of core) (callers_of plan)
      ∙ same_pieces (λ c. map bare (entries_of core c)) (told_by core.world) (callers_of plan) (λ c. zipped c (frame_of core.world c).finished (account_of core c).versions (sound.each c).history.versions)
      ∙ sym (no_last (told_by core.world) 1 (length plan.sizes) past)
      ∙ ap (λ n. flat_map (told_by core.world) (numbers_from 1 n)) longer)

  nobody_runs : (callers : List ℕ) (end : Shared) → Each (λ c. IsEntered (frame_of core.world c)) callers → InTurn (rules_of plan) callers core.world end → end ≡ core.world
  nobody_runs callers end e none = refl
  nobody_runs callers end e (next {caller = c} a rest) = absurd (let z : (frame_of core.world c).ticket ≡ 0 = ap (λ (f : Frame). f.ticket) (rests c) in omega (arith, z, e.0))

  replay : IsReplayOf plan calls core.clock (plain core.world.heap) (history_of core.world)
  replay =
      let serial = serial_on plan is core calls reached in
      subst (λ (w : Shared). IsReplayOf plan calls core.clock (plain w.heap) (history_of w)) (nobody_runs serial.callers serial.end serial.row.entered serial.runs) serial.replay

  legal : IsLegal source calls plan.heap (history_in plan core)
  legal = record { startable = is.start.startable; goes = legal_bare source calls replay.legal (history_in plan core) (sym history_told) }

  rising : Up ticket (history_in plan core)
  rising = (legal_up source calls legal.goes).0

  heap_is : plain core.world.heap ≡ replayed source calls plan.heap (history_in plan core)
  heap_is = replay.heap_is ∙ ap (replayed source calls plan.heap) (sym history_told) ∙ replay_bare source calls plan.heap (history_in plan core)

  -- ---- entries and refusals by caller

  facts : (c : ℕ) → Each (TellsOf c (frame_of core.world c).finished) (entries_of core c)
  facts c = entries_each (TellsOf c (frame_of core.world c).finished) c (frame_of core.world c).finished (account_of core c).versions (λ kept v there. record { by_caller = refl; kept = kept; there = there; ticket = refl; index = refl })

  of_caller : (entry : Entry) → In entry (history_in plan core) → In entry (entries_of core entry.caller) × TellsOf entry.caller (frame_of core.world entry.caller).finished entry
  of_caller entry there =
      let piece = in_piece (entries_of core) entry (callers_of plan) (in_rising_in ticket entry entries there) in
      let fact = each_in (TellsOf piece.0 (frame_of core.world piece.0).finished) entry (entries_of core piece.0) (facts piece.0) piece.1.1 in
      subst (λ c. In entry (entries_of core c) × TellsOf c (frame_of core.world c).finished entry) (sym fact.by_caller) (piece.1.1, fact)

  orders : (c : ℕ) → IsInOrder (frame_of core.world c) (account_of core c) core.clock c
  orders c = all_in_order plan is core calls reached c

  refused_by : (refusal : Refusal) → In refusal (all_refusals plan core) → In refusal (refusals_of core refusal.caller)
  refused_by refusal there =
      let piece = in_piece (refusals_of core) refusal (callers_of plan) there in
      let fact = each_in (IsRefusalOf piece.0 (frame_of core.world piece.0).index) refusal (refusals_of core piece.0) (orders piece.0).refused piece.1.1 in
      subst (λ c. In refusal (refusals_of core c)) (sym fact.0) piece.1.1

  in_order : AllPairs (λ (earlier later : Entry). earlier.caller ≡ later.caller → earlier.index < later.index) (history_in plan core)
  in_order = pairs_in ticket (λ (earlier later : Entry). earlier.caller ≡ later.caller → earlier.index < later.index) (history_in plan core) rising (λ a b ina inb lt same.
      let of_a = (of_caller a ina).1 in
      let of_b = subst (λ c. TellsOf c (frame_of core.world c).finished b) (sym same) (of_caller b inb).1 in
      let less = rise_together (λ (kept : Finished). kept.ticket) (λ (kept : Finished). kept.index) (frame_of core.world a.caller).finished (orders a.caller).up
      (pairs_up (λ (kept : Finished). kept.index) (frame_of core.world a.caller).finished (sound.each a.caller).history.rises) of_a.kept of_b.kept of_a.there of_b.there (omega (arith, lt, of_a.ticket, of_b.ticket)) in
      omega (arith, less, of_a.index, of_b.index))

  -- ---- each call stands once

  module _ (caller index : ℕ) where
    abbrev is_entry : Entry → Bool
    is_entry entry = (entry.caller == caller) && (entry.index == index)

    abbrev is_refusal : Refusal → Bool
    is_refusal refusal = (refusal.caller == caller) && (refusal.index == index)

    runs_together : runs_of caller index (history_in plan core) ≡ count_by is_entry entries
    runs_together = sum_by-IsPermutation (λ e. cond (is_entry e) 1 0) entries (history_in plan core) (rising_moves ticket entries)

    other_entries : (n : ℕ) → n ≢ caller → count_by is_entry (entries_of core n) ≡ 0
    other_entries n apart = count_none is_entry (entries_of core n)
        (each_map (TellsOf n (frame_of core.world n).finished) (λ e. is_entry e ≡ false) (entries_of core n)
        (λ e fact. ap (λ b. b && (e.index == index)) (ne_eqb e.caller caller (λ same. apart (sym fact.by_caller ∙ same)))) (facts n))

    other_refusals : (n : ℕ) → n ≢ caller → count_by is_refusal (refusals_of core n) ≡ 0
    other_refusals n apart = count_none is_refusal (refusals_of core n)
        (each_map (IsRefusalOf n (frame_of core.world n).index) (λ r. is_refusal r ≡ false) (refusals_of core n)
        (λ r fact. ap (λ b. b && (r.index == index)) (ne_eqb r.caller caller (λ same. apart (sym fact.0 ∙ same)))) (orders n).refused)

    module _ (out : (index ≡ 0) ⊎ ((frame_of core.world caller).index < index)) where
      not_it : (n : ℕ) → 0 < n → n ≤ (frame_of core.world caller).index → n ≢ index
      not_it n low high same = elim out [ inl z ↦ omega (arith, low, same, z) | inr lt ↦ omega (arith, high, same, lt) ]

      outer_entries : (n : ℕ) → count_by is_entry (entries_of core n) ≡ 0
      outer_entries n = elim (same_number n caller) [
        | inr apart ↦ other_entries n apart
        | inl here ↦ subst (λ c. count_by is_entry (entries_of core c) ≡ 0) (sym here) (count_none is_entry (entries_of core caller)
            (each_map (TellsOf caller (frame_of core.world caller).finished) (λ e. is_entry e ≡ false) (entries_of core caller)
            (λ e fact.
            let within = each_in (λ (kept : Finished). (0 < kept.index) × (kept.index ≤ (frame_of core.world caller).index)) fact.kept (frame_of core.world caller).finished
            (all_each (λ (kept : Finished). (0 < kept.index) × (kept.index ≤ (frame_of core.world caller).index)) (frame_of core.world caller).finished (sound.each caller).history.in_range) fact.there in
            ap (λ b. (e.caller == caller) && b) (ne_eqb e.index index (λ same. not_it fact.kept.index within.0 within.1 (sym fact.index ∙ same))) ∙ and_false (e.caller == caller)) (facts caller)))
      ]

      outer_refusals : (n : ℕ) → count_by is_refusal (refusals_of core n) ≡ 0
      outer_refusals n = elim (same_number n caller) [
        | inr apart ↦ other_refusals n apart
        | inl here ↦ subst (λ c. count_by is_refusal (refusals_of core c) ≡ 0) (sym here) (count_none is_refusal (refusals_of core caller)
            (each_map (IsRefusalOf caller (frame_of core.world caller).index) (λ r. is_refusal r ≡ false) (refusals_of core caller)
            (λ r fact. ap (λ b. (r.caller == caller) && b) (ne_eqb r.index index (λ same. not_it r.index fact.1 fact.2 same)) ∙ and_false (r.caller == caller)) (orders caller).refused))
      ]

      none_of_it : runs_of caller index (history_in plan core) + refusals_of_call caller index (all_refusals plan core) ≡ one_if_there (call_at calls caller index)
      none_of_it =
          let no_call = no_call_at calls caller index (elim out [ inl z ↦ inl z | inr lt ↦ inr (omega (arith, lt, (sound.each caller).history.begun)) ]) in
          omega (
            arith,
            runs_together,
            no_call,
            none_there is_entry (entries_of core) 1 (length plan.sizes) (λ n low high. outer_entries n),
            none_there is_refusal (refusals_of core) 1 (length plan.sizes) (λ n low high. outer_refusals n),
          )

    one_of_it : 0 < index → index ≤ (frame_of core.world caller).index → runs_of caller index (history_in plan core) + refusals_of_call caller index (all_refusals plan core) ≡ one_if_there (call_at calls caller index)
    one_of_it low high =
        let begun = (sound.each caller).history.begun in
        let range = in_calls calls caller (omega (arith, low, high, begun)) in
        let in_hand : in_hand_at (frame_of core.world caller) index (frame_of core.world caller).stage ≡ 0 = ap (in_hand_at (frame_of core.world caller) index) (resting caller) in
        let here = (sound.each caller).history.each_once index low high in
        omega (
          arith,
          runs_together,
          here,
          in_hand,
          one_call calls caller index low (omega (arith, high, begun)),
          one_there is_entry (entries_of core) caller 1 (length plan.sizes) (omega (arith, range.0)) (omega (arith, range.1, sound.lists)) other_entries,
          one_there is_refusal (refusals_of core) caller 1 (length plan.sizes) (omega (arith, range.0)) (omega (arith, range.1, sound.lists)) other_refusals,
        )

    once : runs_of caller index (history_in plan core) + refusals_of_call caller index (all_refusals plan core) ≡ one_if_there (call_at calls caller index)
    once = elim (cases_lt 0 index) [
      | inr le ↦ none_of_it (inl (omega arith))
      | inl low ↦ elim (cases_lt (frame_of core.world caller).index index) [ inl lt ↦ none_of_it (inr lt) | inr high ↦ one_of_it low high ]
    ]

  covers : Covers calls (history_in plan core) (all_refusals plan core)
  covers = record { once = once; in_order = in_order }

  -- ---- the pool

  abbrev moved : Entry → List Move
  moved = moves_of_entry source calls

  not_less : (n : ℕ) → ¬ (0 < n) → nat_lt 0 n ≡ false
  not_less n no_less = elim (cases_lt 0 n) [ inl lt ↦ absurd (no_less lt) | inr le ↦ grind (arith, nat_tests, le) ]

  -- nobody has a reservation in hand
  none_in_hand : (c : ℕ) → move_in_hand plan core c ≡ []
  none_in_hand c =
      let reserved = (sound.each c).history.reserved (ap (λ (f : Frame). f.ticket) (rests c)) in
      let spares : (frame_of core.world c).spares ≡ 0 = ap (λ (f : Frame). f.spares) (rests c) in
      ap (λ (b : Bool). if b then record { version = (account_of core c).reserved_at; change = pos 0 -ℤ pos (allocs_of plan (frame_of core.world c).call); ticket = (frame_of core.world c).ticket } ∷ [] else []) (not_less (account_of core c).reserved_at (λ lt. omega (arith, spares, reserved.0 lt)))

  moves_are : moves_in plan core calls ≡ flat_map moved entries
  moves_are =
      same_pieces (λ c. moves_of source calls (entries_of core c) ++ move_in_hand plan core c) (λ c. flat_map moved (entries_of core c)) (callers_of plan)
      (λ c. ap (λ l. moves_of source calls (entries_of core c) ++ l) (none_in_hand c) ∙ append-nil (moves_of source calls (entries_of core c)))
      ∙ sym (pieces_of_pieces moved (entries_of core) (callers_of plan))

  moves_mix : IsPermutation (moves_in plan core calls) (moves_of source calls (history_in plan core))
  moves_mix = subst (λ l. IsPermutation l (moves_of source calls (history_in plan core))) (sym moves_are) (rising_pieces ticket moved entries)

  as_many : length (moves_of source calls (history_in plan core)) ≡ core.pool.version
  as_many = length_permutation (moves_in plan core calls) (moves_of source calls (history_in plan core)) moves_mix ∙ sound.log.count

  free_same : (version : ℕ) → free_at plan.places plan.heap (moves_of source calls (history_in plan core)) version ≡ free_at plan.places plan.heap (moves_in plan core calls) version
  free_same version =
      let start : ℤ = pos plan.places -ℤ pos (hidden_count plan.heap) in
      fold_tally version start (moves_of source calls (history_in plan core))
      ∙ ap (λ t. start +ℤ t) (tally_pieces (change_up_to version) moved (history_in plan core) ∙ tally_rising ticket (λ e. tally (change_up_to version) (moved e)) entries ∙ sym (tally_pieces (change_up_to version) moved entries))
      ∙ sym (fold_tally version start (flat_map moved entries))
      ∙ ap (λ ms. free_at plan.places plan.heap ms version) (sym moves_are)

  in_range : All (λ (move : Move). (1 ≤ move.version) × (move.version ≤ length (moves_of source calls (history_in plan core)))) (moves_of source calls (history_in plan core))
  in_range = All-permutation (λ (move : Move). (1 ≤ move.version) × (move.version ≤ length (moves_of source calls (history_in plan core)))) (moves_in plan core calls) (moves_of source calls (history_in plan core)) moves_mix
      (λ k d inside. let range = sound.log.in_range k d inside in (range.0, omega (arith, range.1, as_many)))

  returns : ReturnsFit source calls plan.heap (history_in plan core)
  returns = returns_bare source calls replay.returns (history_in plan core) (sym history_told)

  due_now : (refusal : Refusal) → IsDue source calls plan.places plan.heap (moves_in plan core calls) refusal → IsDue source calls plan.places plan.heap (moves_of source calls (history_in plan core)) refusal
  due_now refusal due = record { need = due.need; found = due.found ∙ sym (free_same refusal.version); short = due.short; seen = omega (arith, due.seen, as_many, sound.log.count) }

  pool : IsLawfulPool plan.places source calls plan.heap (history_in plan core) (all_refusals plan core)
  pool = record {
    in_range = in_range;
    each_once = λ version low high.
        sum_by-IsPermutation (λ (move : Move). cond (move.version == version) 1 0) (moves_in plan core calls) (moves_of source calls (history_in plan core)) moves_mix
        ∙ sound.log.each_once version low (omega (arith, high, as_many));
    never_negative = λ version high. subst (λ (n : ℤ). pos 0 ≤ℤ n) (sym (free_same version)) (sound.log.never_negative version (omega (arith, high, as_many)));
    returns = returns;
    due = each_all (IsDue source calls plan.places plan.heap (moves_of source calls (history_in plan core))) (all_refusals plan core)
        (each_pieces (IsDue source calls plan.places plan.heap (moves_of source calls (history_in plan core))) (refusals_of core) (callers_of plan)
        (λ c. each_map (IsDue source calls plan.places plan.heap (moves_in plan core calls)) (IsDue source calls plan.places plan.heap (moves_of source calls (history_in plan core))) (refusals_of core c) due_now
        (all_each (IsDue source calls plan.places plan.heap (moves_in plan core calls)) (refusals_of core c) (sound.log.due c))));
    within = each_all (λ (entry : Entry). IsStrictlyIncreasing (versions_of source calls entry)) (history_in plan core)
        (each_of (λ (entry : Entry). IsStrictlyIncreasing (versions_of source calls entry)) (history_in plan core) (λ entry there.
        each_in (λ (entry : Entry). IsStrictlyIncreasing (versions_of source calls entry)) entry (entries_of core entry.caller)
        (all_each (λ (entry : Entry). IsStrictlyIncreasing (versions_of source calls entry)) (entries_of core entry.caller) (sound.each entry.caller).order.within) (of_caller entry there).0));
    along = λ a b ina inb same less.
        (sound.each a.caller).order.along a b (in_contains a (entries_of core a.caller) (of_caller a (contains_in a (history_in plan core) ina)).0)
        (in_contains b (entries_of core a.caller) (subst (λ c. In b (entries_of core c)) (sym same) (of_caller b (contains_in b (history_in plan core) inb)).0)) less;
    not_before = λ e r ine inr same less.
        (sound.each e.caller).order.not_before e r (in_contains e (entries_of core e.caller) (of_caller e (contains_in e (history_in plan core) ine)).0)
        (in_contains r (refusals_of core e.caller) (subst (λ c. In r (refusals_of core c)) (sym same) (refused_by r (contains_in r (all_refusals plan core) inr)))) less;
    before = λ e r ine inr same less.
        (sound.each e.caller).order.before e r (in_contains e (entries_of core e.caller) (of_caller e (contains_in e (history_in plan core) ine)).0)
        (in_contains r (refusals_of core e.caller) (subst (λ c. In r (refusals_of core c)) (sym same) (refused_by r (contains_in r (all_refusals plan core) inr)))) less;
  }

  versions : All (HasVersionsOfMovesAlone source calls) (history_in plan core)
  versions = each_all (HasVersionsOfMovesAlone source calls) (history_in plan core) (each_of (HasVersionsOfMovesAlone source calls) (history_in plan core) (λ entry there.
      alone_versions plan calls entry.caller entry (each_in (IsAlone plan calls entry.caller) entry (entries_of core entry.caller) (all_alone plan is core calls reached entry.caller) (of_caller entry there).0)))

  -- ---- the heap

  free : core.pool.free + hidden_count (plain core.world.heap) ≡ plan.places
  free =
      let spares = no_spares core.world.frames (λ c. ap (λ (f : Frame). f.spares) (rests c)) in
      omega (arith, (lawful_always plan core calls is reached).lawful.totals.places, spares)

  settled : IsSettled (plain core.world.heap)
  settled name object there hidden unsealed = plain_refs core.world.heap name ∙ by (finite.get core.world.heap name) refl (sym (get_plain core.world.heap name) ∙ there)
    where
      no_seal : true ≡ false → ⊥
      no_seal e = cc

      by_mark : (o : Object) → finite.get core.world.heap name ≡ Some o → (mark : Mark) → o.mark ≡ mark → is_sealed mark ≡ false → refs core.world.heap name ≡ 1
      by_mark o at marks.Free m u = (lawful_always plan core calls is reached).lawful.free_refs.one name o at m hidden
      by_mark o at (marks.Held c) m u = absurd ((lawful_always plan core calls is reached).lawful.who_holds.idle c name (resting c) (record { object = o; there = at; held = m }))
      by_mark o at (marks.Sealed t) m u = absurd (no_seal u)

      by : (found : Option Object) → finite.get core.world.heap name ≡ found → option_map plain_object found ≡ Some object → refs core.world.heap name ≡ 1
      by None at e = absurd (no_some e)
      by (Some o) at e = by_mark o at o.mark refl (ap (λ (x : Obj). x.sealed) (same_some e) ∙ unsealed)

  refusals_stand : (c : ℕ) → All (λ (refusal : Refusal). refusal.caller ≡ c) (refusals_of core c) × IsNonDecreasingBy (λ (refusal : Refusal). refusal.index) (refusals_of core c)
  refusals_stand c = (
    each_all (λ (refusal : Refusal). refusal.caller ≡ c) (refusals_of core c) (each_map (IsRefusalOf c (frame_of core.world c).index) (λ (refusal : Refusal). refusal.caller ≡ c) (refusals_of core c) (λ r one. one.0) (orders c).refused),
    λ i j d le within. elim (cases_lt i j) [
      | inl lt ↦ let less = up_pairs (λ (refusal : Refusal). refusal.index) (refusals_of core c) (orders c).refused_up i j d lt within in omega arith
      | inr ge ↦ let same : i ≡ j = omega arith in omega (arith, ap (λ k. (get_or (refusals_of core c) k d).index) same)
    ],
  )

  all_of_module : All (AreCallsOf source) calls
  all_of_module = λ place d within.
      let fewer : length (calls_of calls (suc place)) ≤ size_of plan (suc place) = (lawful_always plan core calls is reached).lawful.totals.sizes (suc place) (record { from_one = omega arith; to_last = omega (arith, within, sound.lists) }) in
      let few : size_of plan (suc place) ≤ 65536 = is.few_calls place 0 (omega (arith, within, sound.lists)) in
      let same : length (get_or calls place d) ≡ length (calls_of calls (suc place)) = ap (λ (cs : List Call). length cs) (either_default calls place d [] within) in
      record {
        each = λ i c inside. calls_fit plan core calls reached (suc place) (suc i) (get_or (get_or calls place d) i c)
            (ap (option_and_then (λ (cs : List Call). slice_get cs i)) (found_at calls place d within) ∙ found_at (get_or calls place d) i c inside);
        short = omega (arith, fewer, few, same);
      }

  unsealed : IsForestClosed source plan.heap → All (λ (entry : Entry). IsUnsealed entry.answer) (history_in plan core)
  unsealed closed = never_seals source calls plan.heap (history_in plan core) all_of_module closed legal

  is_run : IsRunOver plan core calls
  is_run = record { covers = covers; legal = legal; pool = pool; versions = versions; unsealed = unsealed; refusals = refusals_stand; heap = heap_is; free = free; left = (sound.heap, settled) }

pub runs_end : RunsEnd
runs_end plan core calls is reached resting = is_run plan is core calls reached resting
