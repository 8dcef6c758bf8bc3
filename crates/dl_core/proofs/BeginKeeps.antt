-- The begin of a call keeps all that holds.
use Rattle.std.proofs.Common.{◌≡◌, ◌≢◌, ◌⊎◌, inl, inr, ℕ, zero, suc, ◌+◌, ◌-◌, ◌<◌, ◌≤◌, true, false, Bool, cond, List, [], ◌∷◌, ◌++◌, length, get_or, set, Option, Some, None, refl, sym, ap, subst, ◌∙◌, arith, length-append}
use Rattle.std.specs.Prelude.{◌==◌, ◌&&◌, ◌-ℤ◌, ◌≤ℤ◌, ◌↔◌, pos, slice_get, option_and_then, count_by, sum_by, nat_lt, map, All, AllPairs, Contains, if◌then◌else◌}
use Rattle.std.specs.List.{flat_map, zip}
use Rattle.std.specs.List.Sorted.{IsStrictlyIncreasing}
use Rattle.std.specs.Option.{option_map_or}
use Rattle.std.specs.FinMap.{get-empty}
use Rattle.std.proofs.lemmas.Bool.Decides.{nat_tests}
use Rattle.std.proofs.lemmas.List.{length-set, get_or-set_same, get_or-set_other}
use Rattle.std.proofs.lemmas.List.Elements.{All-weaker, All-map, All-contains, Contains-get_or}
use Rattle.std.proofs.lemmas.Option.{slice_get-get_or, slice_get_within}
use Rattle.dl_ir.specs.declared.answers.Entry.{Entry}
use Rattle.dl_ir.specs.declared.answers.Refusal.{Refusal}
use Rattle.dl_ir.specs.declared.calls.Call.{Call}
use Rattle.dl_ir.specs.declared.modules.OpDecl.{OpDecl}
use Rattle.dl_ir.specs.declared.moves.Move.{Move}
use Rattle.dl_ir.specs.declared.names.Name.{Name}
use Rattle.dl_ir.specs.Heap.{name_cmp}
use Rattle.dl_ir.specs.Cover.{call_at, runs_of, refusals_of as refusals_of_call}
use Rattle.dl_ir.specs.declared.answers.End.{End}
use Rattle.dl_shape.specs.Pool.{allocs_at, moves_of, moves_of_entry, reservation_of, return_of, versions_of, free_at, AreBelow, IsDue}
use Rattle.dl_shape.specs.Replay.{greatest_ticket}
use Rattle.dl_core.specs.declared.stages.Finished.{Finished}
use Rattle.dl_core.specs.declared.stages.Stage.{Stage}
use Rattle.dl_core.specs.declared.stages.Stage.TheVariants as stages
use Rattle.dl_core.specs.Heaps.{IsHeld}
use Rattle.dl_core.specs.Plans.{Plan, IsCaller, source_of, size_of, allocs_of}
use Rattle.dl_core.specs.Frames.{Frame, IsEntered, at_rest, no_call}
use Rattle.dl_core.specs.Events.{begun}
use Rattle.dl_core.specs.Core.{Core, Shared, entry_of, frame_of, account_of, entries_of, refusals_of, with_call}
use Rattle.dl_core.specs.Reached.{Calls, calls_of, with_begun, MayBegin}
use Rattle.dl_core.specs.Changes.{IsApart, IsOwn}
use Rattle.dl_core.specs.Lawful.{IsLawful, AddUp, one_if_entered}
use Rattle.dl_core.specs.Laws.{IsKept, BeginsKeep}
use Rattle.dl_core.specs.Sound.{IsSound, HasCall, Stands, idles, waits, works, HasHistory, KeepsOrder, HasTickets, HasLog, move_in_hand, moves_in, callers_of, in_hand_at, tickets_of}
use Rattle.dl_core.proofs.Names.{same_number, same_some, no_some}
use Rattle.dl_core.proofs.Public.{entries_fin, flat_map_same}
use Rattle.dl_core.proofs.RefuseKeeps.{zip_first, entries_within}
use Rattle.dl_core.proofs.ReserveKeeps.{history_as}
use Rattle.dl_core.proofs.TouchesKeep.{called_ready}
use Rattle.dl_core.proofs.Turned.{IsOwnTurn, world, turned_kept, frame_own, frame_other, for_each, sum_changed}
use Rattle.std.proofs.Math.ListN.{get_or-eq_default}
use Rattle.std.proofs.lemmas.Bool.{cases_lt}
use Rattle.std.proofs.lemmas.List.Sums.{sum_by-cons}
use Rattle.dl_lemmas.proofs.Places.{in_first}

get_set : {X : Type 0} (xs : List X) (i j : ℕ) (y : X) → i ≢ j → slice_get (set xs i y) j ≡ slice_get xs j
get_set [] i j y n = refl
get_set (x ∷ xs) zero zero y n = absurd (n refl)
get_set (x ∷ xs) zero (suc j) y n = refl
get_set (x ∷ xs) (suc i) zero y n = refl
get_set (x ∷ xs) (suc i) (suc j) y n = get_set xs i j y (λ e. n (omega (arith, e)))

get_set_here : {X : Type 0} (xs : List X) (i : ℕ) (y : X) → i < length xs → slice_get (set xs i y) i ≡ Some y
get_set_here [] i y lt = absurd (omega (arith, lt))
get_set_here (x ∷ xs) zero y lt = refl
get_set_here (x ∷ xs) (suc i) y lt = get_set_here xs i y (omega (arith, lt))

-- a call that was begun stays the same
pub call_stays : (calls : Calls) (caller : ℕ) (call : Call) (d i : ℕ) (k : Call) → call_at calls d i ≡ Some k → call_at (with_begun calls caller call) d i ≡ Some k
call_stays calls zero call d i k e = e
call_stays calls (suc place) call zero i k e = absurd (no_some e)
call_stays calls (suc place) call (suc d) zero k e = absurd (no_some e)
call_stays calls (suc place) call (suc d) (suc i) k e = by (same_number place d)
  where
    was : (o : Option (List Call)) → slice_get calls d ≡ o → option_and_then (λ (cs : List Call). slice_get cs i) o ≡ Some k → (cs : List Call) × (slice_get calls d ≡ Some cs) × (slice_get cs i ≡ Some k)
    was None p q = absurd (no_some q)
    was (Some cs) p q = (cs, p, q)

    by : (place ≡ d) ⊎ (place ≢ d) → call_at (set calls place (get_or calls place [] ++ call ∷ [])) (suc d) (suc i) ≡ Some k
    by (inr other) = ap (option_and_then (λ (cs : List Call). slice_get cs i)) (get_set calls place d (get_or calls place [] ++ call ∷ []) other) ∙ e
    by (inl same) =
        let w = was (slice_get calls d) refl e in
        let within : d < length calls = slice_get_within calls d w.0 w.1 in
        let list : get_or calls place [] ≡ w.0 = same_some (sym (slice_get-get_or calls place [] (omega (arith, within, same))) ∙ ap (slice_get calls) same ∙ w.1) in
        ap (option_and_then (λ (cs : List Call). slice_get cs i)) (ap (slice_get (set calls place (get_or calls place [] ++ call ∷ []))) (sym same) ∙ get_set_here calls place (get_or calls place [] ++ call ∷ []) (omega (arith, within, same)))
        ∙ in_first (get_or calls place []) (call ∷ []) i k (ap (λ cs. slice_get cs i) list ∙ w.2)

-- a caller's calls have their numbers
there_is : (calls : Calls) (d index : ℕ) → 0 < index → index ≤ length (calls_of calls d) → (k : Call) × (call_at calls d index ≡ Some k)
there_is calls zero index low high = absurd (omega (arith, low, high))
there_is calls (suc p) zero low high = absurd (omega (arith, low))
there_is calls (suc p) (suc i) low high = by (cases_lt p (length calls))
  where
    by : (p < length calls) ⊎ (length calls ≤ p) → (k : Call) × (call_at calls (suc p) (suc i) ≡ Some k)
    by (inl within) = (
      get_or (get_or calls p []) i no_call,
      ap (option_and_then (λ (cs : List Call). slice_get cs i)) (slice_get-get_or calls p [] within) ∙ slice_get-get_or (get_or calls p []) i no_call (omega (arith, high)),
    )
    by (inr past) = absurd (omega (arith, high, ap length (get_or-eq_default calls [] past)))

none_counted : {X : Type 0} (p : X → Bool) (xs : List X) → All (λ x. p x ≡ false) xs → count_by p xs ≡ 0
none_counted p [] a = refl
none_counted p (x ∷ xs) a =
    let one : ◌≡◌ {A = ℕ} (cond (p x) 1 0) 0 = ap {B = ℕ} (λ b. cond b 1 0) (a 0 x (omega arith)) in
    omega (arith, sum_by-cons (λ y. cond (p y) 1 0) x xs, one, none_counted p xs (λ k d lt. a (suc k) d (omega (arith, lt))))

flat_map_all : {X Y : Type 0} (f g : X → List Y) (xs : List X) → All (λ x. f x ≡ g x) xs → flat_map f xs ≡ flat_map g xs
flat_map_all f g [] a = refl
flat_map_all f g (x ∷ xs) a = λ i. a 0 x (omega arith) i ++ flat_map_all f g xs (λ k d lt. a (suc k) d (omega (arith, lt))) i

module _ (plan : Plan) (core : Core) (calls : Calls) (caller : ℕ) (call : Call) (all : IsKept plan core calls) (may : MayBegin plan core calls caller call) where
  abbrev lawful : IsLawful plan core calls
  lawful = all.lawful

  abbrev sound : IsSound plan core calls
  sound = all.sound

  abbrev frame : Frame
  frame = frame_of core.world caller

  abbrev next : Frame
  next = begun call frame

  abbrev calls' : Calls
  calls' = with_begun calls caller call

  abbrev world' : Shared
  world' = world plan core calls caller lawful sound may.is_caller next

  abbrev after : Core
  after = record { world = world'; clock = core.clock; pool = core.pool }

  resting : frame ≡ at_rest frame.index frame.finished
  resting = by (sound.each caller).stands
    where
      clash : {a b : Stage} → a ≡ b → a ≡ stages.Idle → b ≡ stages.Idle
      clash e f = sym e ∙ f

      called_not : stages.Called ≡ stages.Idle → ⊥
      called_not e = cc

      running_not : (frame.stage ≡ stages.Running) ⊎ ((end : End) × (frame.stage ≡ stages.Ended end)) → ⊥
      running_not (inl e) = let bad : stages.Running ≡ stages.Idle = sym e ∙ may.idle in cc
      running_not (inr e) = let bad : stages.Ended e.0 ≡ stages.Idle = sym e.1 ∙ may.idle in cc

      by : Stands plan core.world.heap calls caller frame → frame ≡ at_rest frame.index frame.finished
      by (idles e) = e
      by (waits c w) = absurd (called_not (clash (ap (λ (f : Frame). f.stage) w.is) may.idle))
      by (works c e w) = absurd (running_not w.stage)

  no_ticket : frame.ticket ≡ 0
  no_ticket = ap (λ (f : Frame). f.ticket) resting

  no_spares : frame.spares ≡ 0
  no_spares = ap (λ (f : Frame). f.spares) resting

  unreserved : (account_of core caller).reserved_at ≡ 0
  unreserved = by (account_of core caller).reserved_at refl
    where
      by : (n : ℕ) → (account_of core caller).reserved_at ≡ n → n ≡ 0
      by zero e = refl
      by (suc n) e = absurd (omega (arith, no_spares, ((sound.each caller).history.reserved no_ticket).0 (omega (arith, e))))

  not_held : (n : Name) → IsHeld core.world.heap caller n → ⊥
  not_held n = lawful.who_holds.idle caller n may.idle

  of_each : (P : ℕ → Frame → Type 0) → P caller next → ((d : ℕ) → d ≢ caller → P d (frame_of core.world d)) → (d : ℕ) → P d (frame_of world' d)
  of_each = for_each plan core calls caller lawful sound may.is_caller next

  fin : (d : ℕ) → (frame_of world' d).finished ≡ (frame_of core.world d).finished
  fin = of_each (λ d f. f.finished ≡ (frame_of core.world d).finished) refl (λ d other. refl)

  tickets_kept : (d : ℕ) → (frame_of world' d).ticket ≡ (frame_of core.world d).ticket
  tickets_kept = of_each (λ d f. f.ticket ≡ (frame_of core.world d).ticket) (sym no_ticket) (λ d other. refl)

  entries_same : (d : ℕ) → entries_of after d ≡ entries_of core d
  entries_same d = entries_fin plan core world' core.clock calls fin d

  -- the moves of entries stay
  same_allocs : (d i : ℕ) (k : Call) → call_at calls d i ≡ Some k → allocs_at (source_of plan) calls' d i ≡ allocs_at (source_of plan) calls d i
  same_allocs d i k e = ap (λ o. option_map_or (λ (op : OpDecl). op.allocs) (option_and_then (λ (c : Call). slice_get (source_of plan).ops c.op) o) 0) (call_stays calls caller call d i k e ∙ sym e)

  entries_stay : (d : ℕ) → All (λ (entry : Entry). moves_of_entry (source_of plan) calls' entry ≡ moves_of_entry (source_of plan) calls entry) (entries_of core d)
  entries_stay d =
      All-map (λ (entry : Entry). moves_of_entry (source_of plan) calls' entry ≡ moves_of_entry (source_of plan) calls entry) (entry_of d) (zip (frame_of core.world d).finished (account_of core d).versions)
      (λ k e lt.
      let kept = get_or (zip (frame_of core.world d).finished (account_of core d).versions) k e in
      let range = zip_first (λ (f : Finished). (0 < f.index) × (f.index ≤ (frame_of core.world d).index)) (frame_of core.world d).finished (account_of core d).versions (sound.each d).history.in_range k e lt in
      let found = there_is calls d kept.0.index range.0 (omega (arith, range.1, (sound.each d).history.begun)) in
      ap (λ n. reservation_of (entry_of d kept) n ++ return_of (entry_of d kept)) (same_allocs d kept.0.index found.0 found.1))

  versions_stay : (d : ℕ) (e : Entry) → Contains (entries_of core d) e → versions_of (source_of plan) calls' e ≡ versions_of (source_of plan) calls e
  versions_stay d e has = ap (map (λ (move : Move). move.version)) (All-contains (λ (entry : Entry). moves_of_entry (source_of plan) calls' entry ≡ moves_of_entry (source_of plan) calls entry) (entries_of core d) e (entries_stay d) has)

  hands_same : (d : ℕ) → move_in_hand plan after d ≡ move_in_hand plan core d
  hands_same d = elim (same_number d caller) [
    | inl same ↦ subst (λ c. move_in_hand plan after c ≡ move_in_hand plan core c) (sym same) (none_at after unreserved ∙ sym (none_at core unreserved))
    | inr other ↦ λ i.
        if nat_lt 0 (account_of core d).reserved_at
        then record { version = (account_of core d).reserved_at; change = pos 0 -ℤ pos (allocs_of plan (frame_other plan core calls caller lawful sound may.is_caller next d other i).call); ticket = tickets_kept d i } ∷ []
        else []
  ]
    where
      none_at : (c : Core) → (account_of c caller).reserved_at ≡ 0 → move_in_hand plan c caller ≡ []
      none_at c e = ap (λ n. if nat_lt 0 n then record { version = (account_of c caller).reserved_at; change = pos 0 -ℤ pos (allocs_of plan (frame_of c.world caller).call); ticket = (frame_of c.world caller).ticket } ∷ [] else []) e

  moves_same : moves_in plan after calls' ≡ moves_in plan core calls
  moves_same = λ i. flat_map (λ d. (ap (moves_of (source_of plan) calls') (entries_same d) ∙ flat_map_all (moves_of_entry (source_of plan) calls') (moves_of_entry (source_of plan) calls) (entries_of core d) (entries_stay d)) i ++ hands_same d i) (callers_of plan)

  frame_mine : frame_of world' caller ≡ next
  frame_mine = frame_own plan core calls caller lawful sound may.is_caller next

  same_frame : (d : ℕ) → d ≢ caller → frame_of world' d ≡ frame_of core.world d
  same_frame d other = frame_other plan core calls caller lawful sound may.is_caller next d other

  calls_other : (d : ℕ) → d ≢ caller → calls_of calls' d ≡ calls_of calls d
  calls_other d other = by caller d other
    where
      by : (c d : ℕ) → d ≢ c → calls_of (with_begun calls c call) d ≡ calls_of calls d
      by zero d n = refl
      by (suc c) zero n = refl
      by (suc c) (suc d) n = get_or-set_other calls c d (get_or calls c [] ++ call ∷ []) [] (λ e. n (omega (arith, e)))

  calls_mine : calls_of calls' caller ≡ calls_of calls caller ++ call ∷ []
  calls_mine = by caller may.is_caller
    where
      by : (c : ℕ) → IsCaller plan c → calls_of (with_begun calls c call) c ≡ calls_of calls c ++ call ∷ []
      by zero c = absurd (omega (arith, c.from_one))
      by (suc p) c = get_or-set_same calls p (get_or calls p [] ++ call ∷ []) [] (omega (arith, c.to_last, sound.lists))

  begun_length : length (calls_of calls' caller) ≡ frame.index + 1
  begun_length = ap length calls_mine ∙ omega (arith, length-append (calls_of calls caller) (call ∷ []), (sound.each caller).history.begun)

  lists : length calls' ≡ length plan.sizes
  lists = by caller ∙ sound.lists
    where
      by : (c : ℕ) → length (with_begun calls c call) ≡ length calls
      by zero = refl
      by (suc p) = length-set calls p (get_or calls p [] ++ call ∷ [])

  has_call : HasCall plan calls' caller next
  has_call = record {
    op = may.fits.op;
    declared = may.fits.declared;
    fits = may.fits;
    from_one = omega arith;
    begun = ap (λ cs. slice_get cs (frame.index + 1 - 1)) calls_mine ∙ last (calls_of calls caller) (frame.index + 1 - 1) (omega (arith, (sound.each caller).history.begun));
  }
    where
      last : (xs : List Call) (i : ℕ) → i ≡ length xs → slice_get (xs ++ call ∷ []) i ≡ Some call
      last [] zero e = refl
      last [] (suc i) e = absurd (omega (arith, e))
      last (x ∷ xs) zero e = absurd (omega (arith, e))
      last (x ∷ xs) (suc i) e = last xs i (omega (arith, e))

  own : IsOwnTurn plan core.world.heap calls' caller next
  own = record {
    book = record { booked = λ n k e. absurd (no_some (sym (get-empty name_cmp n) ∙ e)); all = λ n h. absurd (not_held n h) };
    stands = waits (record { op = may.fits.op; declared = may.fits.declared; fits = may.fits; from_one = has_call.from_one; begun = has_call.begun }) (record { is = refl; places = inr (refl, refl); roots = omega arith });
    ready = called_ready plan next refl refl;
    held = λ e. absurd (omega (arith, e));
    why = λ e. absurd (omega (arith, e));
    hidden = λ n h. absurd (not_held n h);
    are_roots = λ z n h. absurd (not_held n h);
    has_roots = λ z n t. absurd (omega (arith, t.within));
    idle = λ e n. not_held n;
    roots = λ n h. absurd (not_held n h);
  }

  stands_on : (d : ℕ) → d ≢ caller → Stands plan core.world.heap calls d (frame_of core.world d) → Stands plan core.world.heap calls' d (frame_of core.world d)
  stands_on d other (idles e) = idles e
  stands_on d other (waits c w) = waits (record { op = c.op; declared = c.declared; fits = c.fits; from_one = c.from_one; begun = ap (λ cs. slice_get cs ((frame_of core.world d).index - 1)) (calls_other d other) ∙ c.begun }) w
  stands_on d other (works c e w) = works (record { op = c.op; declared = c.declared; fits = c.fits; from_one = c.from_one; begun = ap (λ cs. slice_get cs ((frame_of core.world d).index - 1)) (calls_other d other) ∙ c.begun }) e w

  sums : (g : Frame → ℕ) → sum_by g world'.frames + g frame ≡ sum_by g core.world.frames + g next
  sums = sum_changed plan core calls caller lawful sound may.is_caller next

  totals : AddUp plan after calls'
  totals = record {
    places = omega (arith, sums (λ (f : Frame). f.spares), no_spares, lawful.totals.places);
    enough = of_each (λ d f. IsEntered f → allocs_of plan f.call ≤ f.spares + f.made) (λ e. absurd (omega (arith, e))) (λ d other. lawful.totals.enough d);
    sizes = λ d c. elim (same_number d caller) [
      | inl same ↦ subst (λ n. length (calls_of calls' n) ≤ size_of plan n) (sym same) (omega (arith, begun_length, may.room, (sound.each caller).history.begun))
      | inr other ↦ omega (arith, ap length (calls_other d other), lawful.totals.sizes d c)
    ];
    clock =
        let same : one_if_entered frame ≡ 0 = ap (λ n. if nat_lt 0 n then 1 else 0) no_ticket in
        omega (arith, sums (λ (f : Frame). length f.finished + one_if_entered f), same, lawful.totals.clock);
    version = omega (arith, sums (λ (f : Frame). length f.finished), lawful.totals.version);
  }

  tickets : HasTickets plan after
  tickets =
      let same : tickets_of world' ≡ tickets_of core.world = flat_map_same _ world'.frames core.world.frames (length-set core.world.frames caller next)
      (λ d. λ i. map (λ (kept : Finished). kept.ticket) (fin d i) ++ (if nat_lt 0 (tickets_kept d i) then tickets_kept d i ∷ [] else [])) in
      record {
        range = subst (All (λ ticket. (greatest_ticket plan.heap < ticket) × (ticket ≤ core.clock))) (sym same) sound.tickets.range;
        each_once = λ ticket low high. ap (count_by (λ other. other == ticket)) same ∙ sound.tickets.each_once ticket low high;
        own = subst IsOwn (λ i d. sym (tickets_kept d) i) sound.tickets.own;
        names = sound.tickets.names;
        seals = sound.tickets.seals;
      }

  due_stays : (r : Refusal) → IsDue (source_of plan) calls plan.places plan.heap (moves_in plan core calls) r → IsDue (source_of plan) calls' plan.places plan.heap (moves_in plan core calls) r
  due_stays r is = record { need = is.need ∙ sym (by (call_at calls r.caller r.index) refl); found = is.found; short = is.short; seen = is.seen }
    where
      by : (o : Option Call) → call_at calls r.caller r.index ≡ o → allocs_at (source_of plan) calls' r.caller r.index ≡ allocs_at (source_of plan) calls r.caller r.index
      by (Some k) e = same_allocs r.caller r.index k e
      by None e =
          let none : allocs_at (source_of plan) calls r.caller r.index ≡ 0 = ap (λ o. option_map_or (λ (op : OpDecl). op.allocs) (option_and_then (λ (c : Call). slice_get (source_of plan).ops c.op) o) 0) e in
          absurd (omega (arith, none, is.need, is.short))

  log : HasLog plan after calls'
  log = record {
    count = ap length moves_same ∙ sound.log.count;
    in_range = subst (All (λ (move : Move). (1 ≤ move.version) × (move.version ≤ core.pool.version))) (sym moves_same) sound.log.in_range;
    each_once = λ v low high. ap (count_by (λ (move : Move). move.version == v)) moves_same ∙ sound.log.each_once v low high;
    free = subst (λ ms. pos core.pool.free ≡ free_at plan.places plan.heap ms core.pool.version) (sym moves_same) sound.log.free;
    never_negative = λ v low. subst (λ ms. pos 0 ≤ℤ free_at plan.places plan.heap ms v) (sym moves_same) (sound.log.never_negative v low);
    due = λ d. subst (λ ms. All (IsDue (source_of plan) calls' plan.places plan.heap ms) (refusals_of core d)) (sym moves_same)
        (All-weaker (IsDue (source_of plan) calls plan.places plan.heap (moves_in plan core calls)) (IsDue (source_of plan) calls' plan.places plan.heap (moves_in plan core calls)) due_stays (refusals_of core d) (sound.log.due d));
  }

  order : (d : ℕ) → KeepsOrder plan after calls' d
  order d =
      let o = (sound.each d).order in
      let back = sym (entries_same d) in
      let vs = λ (e : Entry) (has : Contains (entries_of core d) e). sym (versions_stay d e has) in
      record {
        within = subst (All (λ (entry : Entry). IsStrictlyIncreasing (versions_of (source_of plan) calls' entry))) back
            (λ k e lt. subst IsStrictlyIncreasing (vs (get_or (entries_of core d) k e) (Contains-get_or (entries_of core d) k e lt)) (o.within k e lt));
        along = λ a b x y less.
            let x' = subst (λ es. Contains es a) (entries_same d) x in
            let y' = subst (λ es. Contains es b) (entries_same d) y in
            subst (λ v. AreBelow v (versions_of (source_of plan) calls' b)) (vs a x') (subst (AreBelow (versions_of (source_of plan) calls a)) (vs b y') (o.along a b x' y' less));
        not_before = λ e r x y less. let x' = subst (λ es. Contains es e) (entries_same d) x in subst (All (λ version. version ≤ r.version)) (vs e x') (o.not_before e r x' y less);
        before = λ e r x y less. let x' = subst (λ es. Contains es e) (entries_same d) x in subst (All (λ version. r.version < version)) (vs e x') (o.before e r x' y less);
        in_hand = λ some.
            let h = o.in_hand some in (
              subst (All (λ (entry : Entry). All (λ version. version < (account_of core d).reserved_at) (versions_of (source_of plan) calls' entry))) back
                  (λ k e lt. subst (All (λ version. version < (account_of core d).reserved_at)) (vs (get_or (entries_of core d) k e) (Contains-get_or (entries_of core d) k e lt)) (h.0 k e lt)),
              h.1,
            );
      }

  history_mine : HasHistory plan after calls' caller
  history_mine =
      let h = (sound.each caller).history in
      record {
        begun = ap (λ (f : Frame). f.index) frame_mine ∙ sym begun_length;
        each_once = λ i low high. once i low (omega (arith, high, ap (λ (f : Frame). f.index) frame_mine)) (cases_lt frame.index i);
        in_range = subst (λ (f : Frame). All (λ (kept : Finished). (0 < kept.index) × (kept.index ≤ f.index)) f.finished) (sym frame_mine)
            (λ k e lt. let r = h.in_range k e lt in (r.0, omega (arith, r.1)));
        rises = subst (λ (f : Frame). AllPairs (λ (earlier later : Finished). earlier.index < later.index) f.finished) (sym frame_mine) h.rises;
        refused = subst (λ (f : Frame). All (λ (refusal : Refusal). refusal.index ≤ f.index) (refusals_of core caller)) (sym frame_mine) (λ k e lt. omega (arith, h.refused k e lt));
        versions = h.versions ∙ ap length (sym (fin caller));
        reserved = λ z. subst (λ (f : Frame). (0 < (account_of core caller).reserved_at) ↔ (0 < f.spares)) (sym frame_mine) (λ some. absurd (omega (arith, some, unreserved)), λ some. absurd (omega (arith, some)));
        entered = λ e. absurd (omega (arith, e, ap (λ (f : Frame). f.ticket) frame_mine));
      }
    where
      now : (i : ℕ) → in_hand_at (frame_of world' caller) i (frame_of world' caller).stage ≡ (if (frame.index + 1) == i then 1 else 0)
      now i = ap (λ (f : Frame). in_hand_at f i f.stage) frame_mine

      was : (i : ℕ) → in_hand_at frame i frame.stage ≡ 0
      was i = ap (in_hand_at frame i) may.idle

      once : (i : ℕ) → 0 < i → i ≤ frame.index + 1 → (frame.index < i) ⊎ (i ≤ frame.index)
          → runs_of caller i (entries_of after caller) + refusals_of_call caller i (refusals_of core caller) + in_hand_at (frame_of world' caller) i (frame_of world' caller).stage ≡ 1
      once i low high (inr old) =
          let other : ◌≡◌ {A = ℕ} (if (frame.index + 1) == i then 1 else 0) 0 = grind (arith, nat_tests, old) in
          omega (arith, (sound.each caller).history.each_once i low old, ap (runs_of caller i) (entries_same caller), now i, was i, other)
      once i low high (inl new) =
          let same : ◌≡◌ {A = ℕ} (if (frame.index + 1) == i then 1 else 0) 1 = grind (arith, nat_tests, new, high) in
          let runs : runs_of caller i (entries_of core caller) ≡ 0 = none_counted (λ (entry : Entry). (entry.caller == caller) && (entry.index == i)) (entries_of core caller)
          (λ k e lt. late (get_or (entries_of core caller) k e).index i ((get_or (entries_of core caller) k e).caller == caller) (entries_within plan core calls caller (sound.each caller).history k e lt) new) in
          let refused : refusals_of_call caller i (refusals_of core caller) ≡ 0 = none_counted (λ (refusal : Refusal). (refusal.caller == caller) && (refusal.index == i)) (refusals_of core caller)
          (λ k e lt. late (get_or (refusals_of core caller) k e).index i ((get_or (refusals_of core caller) k e).caller == caller) ((sound.each caller).history.refused k e lt) new) in
          omega (arith, runs, refused, ap (runs_of caller i) (entries_same caller), now i, same)
        where
          late : (n i : ℕ) (b : Bool) → n ≤ frame.index → frame.index < i → (b && (n == i)) ≡ false
          late n i true le lt = grind (arith, nat_tests, le, lt)
          late n i false le lt = refl

  pub begin_kept : IsKept plan (with_call core caller call) calls'
  begin_kept =
      turned_kept plan core calls caller lawful sound may.is_caller next core.clock core.pool calls' own stands_on (subst (IsApart core.world.heap) (λ i d. sym (tickets_kept d) i) lawful.older_reach) totals sound.accounts lists
      (λ d. elim (same_number d caller) [
        | inl same ↦ subst (HasHistory plan after calls') (sym same) history_mine
        | inr other ↦
            let h = (sound.each d).history in
            let f = history_as plan core after calls d (ap (λ (g : Frame). g.index) (same_frame d other)) (fin d) (entries_same d) refl refl (λ i. ap (λ (g : Frame). in_hand_at g i g.stage) (same_frame d other))
            (subst (λ (g : Frame). g.ticket ≡ 0 → (0 < (account_of core d).reserved_at) ↔ (0 < g.spares)) (sym (same_frame d other)) h.reserved)
            (subst (λ (g : Frame). IsEntered g → (0 < (account_of core d).reserved_at) ↔ (0 < allocs_of plan g.call)) (sym (same_frame d other)) h.entered) h in
            record { begun = f.begun ∙ ap length (sym (calls_other d other)); each_once = f.each_once; in_range = f.in_range; rises = f.rises; refused = f.refused; versions = f.versions; reserved = f.reserved; entered = f.entered }
      ]) order tickets log

-- every begin of a call keeps all that holds
pub begins_keep : BeginsKeep
begins_keep plan core calls caller call is all may = begin_kept plan core calls caller call all may
