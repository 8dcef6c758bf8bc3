-- A reservation keeps all that holds.
use Rattle.std.proofs.Common.{◌≡◌, ◌≢◌, ◌⊎◌, inl, inr, ℕ, zero, suc, ◌+◌, ◌-◌, ◌<◌, ◌≤◌, true, false, Bool, List, [], ◌∷◌, ◌++◌, length, get_or, refl, sym, ap, subst, ◌∙◌, arith}
use Rattle.std.specs.Prelude.{◌==◌, ◌-ℤ◌, ◌+ℤ◌, ◌↔◌, pos, count_by, sum_by, nat_lt, map, All, AllPairs, Contains, if◌then◌else◌}
use Rattle.std.specs.List.{flat_map, zip}
use Rattle.std.specs.List.Sorted.{IsStrictlyIncreasing}
use Rattle.std.specs.Option.{option_map_or}
use Rattle.std.proofs.lemmas.Bool.Decides.{nat_tests}
use Rattle.std.proofs.lemmas.List.{length-set, get_or-set_same, get_or-set_other}
use Rattle.std.proofs.lemmas.List.Elements.{All-contains, All-map, Contains-get_or, Contains-append_left, Contains-append_right}
use Rattle.std.proofs.lemmas.List.Sums.{sum_by-set}
use Rattle.dl_ir.specs.declared.answers.Entry.{Entry}
use Rattle.dl_ir.specs.declared.answers.Refusal.{Refusal}
use Rattle.dl_ir.specs.declared.modules.OpDecl.{OpDecl}
use Rattle.dl_ir.specs.declared.moves.Move.{Move}
use Rattle.dl_ir.specs.Cover.{runs_of, refusals_of as refusals_of_call}
use Rattle.dl_shape.specs.Replay.{greatest_ticket}
use Rattle.dl_shape.specs.Pool.{moves_of, moves_of_entry, versions_of}
use Rattle.dl_core.specs.declared.stages.Finished.{Finished}
use Rattle.dl_core.specs.declared.stages.Stage.TheVariants as stages
use Rattle.dl_core.specs.Heaps.{Heap}
use Rattle.dl_core.specs.Plans.{Plan, IsPlan, IsCaller, source_of, allocs_of}
use Rattle.dl_core.specs.Frames.{Frame, IsEntered}
use Rattle.dl_core.specs.Events.{reserved}
use Rattle.dl_core.specs.Core.{Core, Account, Pool, Shared, no_account, entry_of, frame_of, account_of, entries_of, refusals_of, reserves, pool_reserved}
use Rattle.dl_core.specs.Reached.{Calls}
use Rattle.dl_core.specs.Reach.{ticket_in}
use Rattle.dl_core.specs.Changes.{IsApart, IsOwn}
use Rattle.dl_core.specs.Lawful.{IsLawful, AddUp, one_if_entered, one_if_reserved}
use Rattle.dl_core.specs.Laws.{IsKept}
use Rattle.dl_core.specs.Sound.{IsSound, waits, HasHistory, KeepsOrder, HasTickets, HasLog, move_in_hand, moves_in, numbers_from, in_hand_at}
use Rattle.dl_core.proofs.Names.{same_number}
use Rattle.dl_core.proofs.PoolLog.{Inserted, here, insert_after, insert_before, log_more}
use Rattle.dl_core.proofs.Public.{tickets_same, itself, IsPublic}
use Rattle.dl_core.proofs.TouchesKeep.{WaitsNow, waits_called, busy_caller, called_ready}
use Rattle.dl_core.proofs.Turned.{IsOwnTurn, world, turned_kept, frame_own, frame_other, for_each, sum_changed}

-- a history with the same entries and refusals
pub history_as : (plan : Plan) (core after : Core) (calls : Calls) (d : ℕ) → (frame_of after.world d).index ≡ (frame_of core.world d).index → (frame_of after.world d).finished ≡ (frame_of core.world d).finished
    → entries_of after d ≡ entries_of core d → refusals_of after d ≡ refusals_of core d → length (account_of after d).versions ≡ length (account_of core d).versions
    → ((index : ℕ) → in_hand_at (frame_of after.world d) index (frame_of after.world d).stage ≡ in_hand_at (frame_of core.world d) index (frame_of core.world d).stage)
    → ((frame_of after.world d).ticket ≡ 0 → (0 < (account_of after d).reserved_at) ↔ (0 < (frame_of after.world d).spares))
    → (IsEntered (frame_of after.world d) → (0 < (account_of after d).reserved_at) ↔ (0 < allocs_of plan (frame_of after.world d).call)) → HasHistory plan core calls d → HasHistory plan after calls d
history_as plan core next calls d index fin entries refusals versions hand is_reserved entered h = record {
  begun = index ∙ h.begun;
  each_once = λ i low high.
      let once = h.each_once i low (omega (arith, high, index)) in
      omega (arith, once, ap (runs_of d i) entries, ap (refusals_of_call d i) refusals, hand i);
  in_range = subst (λ kept. All (λ (k : Finished). (0 < k.index) × (k.index ≤ (frame_of next.world d).index)) kept) (sym fin)
      (subst (λ n. All (λ (kept : Finished). (0 < kept.index) × (kept.index ≤ n)) (frame_of core.world d).finished) (sym index) h.in_range);
  rises = subst (AllPairs (λ (earlier later : Finished). earlier.index < later.index)) (sym fin) h.rises;
  refused = subst (All (λ (refusal : Refusal). refusal.index ≤ (frame_of next.world d).index)) (sym refusals) (subst (λ n. All (λ (refusal : Refusal). refusal.index ≤ n) (refusals_of core d)) (sym index) h.refused);
  versions = versions ∙ h.versions ∙ ap length (sym fin);
  reserved = is_reserved;
  entered = entered;
}

-- order along a caller with the same entries and refusals
pub order_as : (plan : Plan) (core after : Core) (calls : Calls) (d : ℕ) → entries_of after d ≡ entries_of core d → refusals_of after d ≡ refusals_of core d
    → (0 < (account_of after d).reserved_at → All (λ (entry : Entry). All (λ version. version < (account_of after d).reserved_at) (versions_of (source_of plan) calls entry)) (entries_of core d)
    × All (λ (refusal : Refusal). refusal.version < (account_of after d).reserved_at) (refusals_of core d)) → KeepsOrder plan core calls d → KeepsOrder plan after calls d
order_as plan core next calls d entries refusals hand o =
    let e_back = sym entries in
    let r_back = sym refusals in
    record {
      within = subst (All (λ (entry : Entry). IsStrictlyIncreasing (versions_of (source_of plan) calls entry))) e_back o.within;
      along = λ a b x y less. o.along a b (subst (λ es. Contains es a) entries x) (subst (λ es. Contains es b) entries y) less;
      not_before = λ e r x y less. o.not_before e r (subst (λ es. Contains es e) entries x) (subst (λ rs. Contains rs r) refusals y) less;
      before = λ e r x y less. o.before e r (subst (λ es. Contains es e) entries x) (subst (λ rs. Contains rs r) refusals y) less;
      in_hand = λ some. let h = hand some in (
        subst (All (λ (entry : Entry). All (λ version. version < (account_of next d).reserved_at) (versions_of (source_of plan) calls entry))) e_back h.0,
        subst (All (λ (refusal : Refusal). refusal.version < (account_of next d).reserved_at)) r_back h.1,
      );
    }

-- ---- callers in a row

-- one caller's part of a list of parts has one move more
pub insert_at : (m : Move) (old new : ℕ → List Move) (c : ℕ) → Inserted m (old c) (new c) → ((d : ℕ) → d ≢ c → new d ≡ old d) → (first more : ℕ) → first ≤ c → c < first + more
    → Inserted m (flat_map old (numbers_from first more)) (flat_map new (numbers_from first more))
insert_at m old new c i others first zero low high = absurd (omega (arith, low, high))
insert_at m old new c i others first (suc more) low high = by (same_number first c) (insert_at m old new c i others (first + 1) more)
  where
    rest_same : (first' more' : ℕ) → c < first' → flat_map new (numbers_from first' more') ≡ flat_map old (numbers_from first' more')
    rest_same first' zero above = refl
    rest_same first' (suc more') above = λ j. others first' (λ e. omega (arith, above, e)) j ++ rest_same (first' + 1) more' (omega (arith, above)) j

    by : (first ≡ c) ⊎ (first ≢ c) → (first + 1 ≤ c → c < first + 1 + more → Inserted m (flat_map old (numbers_from (first + 1) more)) (flat_map new (numbers_from (first + 1) more)))
        → Inserted m (old first ++ flat_map old (numbers_from (first + 1) more)) (new first ++ flat_map new (numbers_from (first + 1) more))
    by (inl same) later =
        subst (λ zs. Inserted m (old first ++ flat_map old (numbers_from (first + 1) more)) (new first ++ zs)) (sym (rest_same (first + 1) more (omega (arith, same))))
        (insert_before m (flat_map old (numbers_from (first + 1) more)) (old first) (new first) (subst (λ n. Inserted m (old n) (new n)) (sym same) i))
    by (inr other) later =
        subst (λ zs. Inserted m (old first ++ flat_map old (numbers_from (first + 1) more)) (zs ++ flat_map new (numbers_from (first + 1) more))) (sym (others first other))
        (insert_after m (old first) (flat_map old (numbers_from (first + 1) more)) (flat_map new (numbers_from (first + 1) more)) (later (differ low other) (omega (arith, high))))
      where
        differ : first ≤ c → first ≢ c → first + 1 ≤ c
        differ le ne = grind (arith, le, ne)

-- a move of a caller is one of all
pub part_has : (g : ℕ → List Move) (m : Move) (c : ℕ) → Contains (g c) m → (first more : ℕ) → first ≤ c → c < first + more → Contains (flat_map g (numbers_from first more)) m
part_has g m c has first zero low high = absurd (omega (arith, low, high))
part_has g m c has first (suc more) low high = by (same_number first c) (part_has g m c has (first + 1) more)
  where
    by : (first ≡ c) ⊎ (first ≢ c) → (first + 1 ≤ c → c < first + 1 + more → Contains (flat_map g (numbers_from (first + 1) more)) m) → Contains (g first ++ flat_map g (numbers_from (first + 1) more)) m
    by (inl same) later = Contains-append_left (g first) (flat_map g (numbers_from (first + 1) more)) m (subst (λ n. Contains (g n) m) (sym same) has)
    by (inr other) later = Contains-append_right (g first) (flat_map g (numbers_from (first + 1) more)) m (later (grind (arith, low, other)) (omega (arith, high)))

-- a move of an entry is one of all entries'
entry_has : (f : Entry → List Move) (es : List Entry) (e : Entry) (m : Move) → Contains es e → Contains (f e) m → Contains (flat_map f es) m
entry_has f [] e m h has = absurd (omega (arith, h.1))
entry_has f (x ∷ es) e m (zero, lt, same) has = Contains-append_left (f x) (flat_map f es) m (subst (λ y. Contains (f y) m) (sym same) has)
entry_has f (x ∷ es) e m (suc k, lt, same) has = Contains-append_right (f x) (flat_map f es) m (entry_has f es e m (k, omega (arith, lt), same) has)

-- no entry has a version above that of the pool
pub versions_low : (plan : Plan) (core : Core) (calls : Calls) → HasLog plan core calls → (c : ℕ) → IsCaller plan c → All (λ (entry : Entry). All (λ version. version < core.pool.version + 1) (versions_of (source_of plan) calls entry)) (entries_of core c)
versions_low plan core calls log c is = λ k d lt.
    let e = get_or (entries_of core c) k d in
    All-map (λ version. version < core.pool.version + 1) (λ (move : Move). move.version) (moves_of_entry (source_of plan) calls e) (λ k' d' lt'.
    let m = get_or (moves_of_entry (source_of plan) calls e) k' d' in
    let has = entry_has (moves_of_entry (source_of plan) calls) (entries_of core c) e m (Contains-get_or (entries_of core c) k d lt) (Contains-get_or (moves_of_entry (source_of plan) calls e) k' d' lt') in
    let all = part_has (λ caller. moves_of (source_of plan) calls (entries_of core caller) ++ move_in_hand plan core caller) m c (Contains-append_left (moves_of (source_of plan) calls (entries_of core c)) (move_in_hand plan core c) m has) 1 (length plan.sizes) (omega (arith, is.from_one)) (omega (arith, is.to_last)) in
    let r = All-contains (λ (move : Move). (1 ≤ move.version) × (move.version ≤ core.pool.version)) (moves_in plan core calls) m log.in_range all in
    omega (arith, r.1))

module _ (plan : Plan) (core : Core) (calls : Calls) (caller : ℕ) (is : IsPlan plan) (lawful : IsLawful plan core calls) (sound : IsSound plan core calls) (tidy : (frame_of core.world caller).loose ≡ [])
    (called : (frame_of core.world caller).stage ≡ stages.Called) where
  abbrev heap : Heap
  heap = core.world.heap

  abbrev frame : Frame
  frame = frame_of core.world caller

  abbrev account : Account
  account = account_of core caller

  pub w : WaitsNow plan core calls caller is lawful sound
  w = waits_called plan core calls caller is lawful sound called

  pub zero_ticket : frame.ticket ≡ 0
  zero_ticket = ap (λ (f : Frame). f.ticket) w.waiting.is

  pub was_busy : frame.stage ≢ stages.Idle
  was_busy e = called_idle (sym called ∙ e)
    where
      called_idle : stages.Called ≡ stages.Idle → ⊥
      called_idle f = cc

  pub is_caller : IsCaller plan caller
  is_caller = busy_caller plan core calls sound caller was_busy

  pub within : caller < length core.pool.accounts
  within = omega (arith, is_caller.to_last, sound.accounts)

  -- before a reservation there is none
  pub none_reserved : frame.spares ≡ 0 → account.reserved_at ≡ 0
  none_reserved none = by account.reserved_at refl
    where
      by : (n : ℕ) → account.reserved_at ≡ n → n ≡ 0
      by zero e = refl
      by (suc n) e = absurd (omega (arith, none, ((sound.each caller).history.reserved zero_ticket).0 (omega (arith, e))))

  module _ (few : frame.spares < allocs_of plan frame.call) (room : allocs_of plan frame.call ≤ core.pool.free) where
    abbrev need : ℕ
    need = allocs_of plan frame.call

    abbrev next : Frame
    next = reserved need frame

    abbrev pool' : Pool
    pool' = pool_reserved caller need account core.pool

    abbrev world' : Shared
    world' = world plan core calls caller lawful sound is_caller next

    abbrev after : Core
    after = record { world = world'; clock = core.clock; pool = pool' }

    allocs_is : need ≡ w.call.op.allocs
    allocs_is = ap (λ d. option_map_or (λ (o : OpDecl). o.allocs) d 0) w.call.declared

    none_yet : (frame.spares ≡ 0) × (frame.taken ≡ 0)
    none_yet = by w.waiting.places
      where
        by : (frame.spares ≡ w.call.op.allocs) ⊎ ((frame.spares ≡ 0) × (frame.taken ≡ 0)) → (frame.spares ≡ 0) × (frame.taken ≡ 0)
        by (inl e) = absurd (omega (arith, e, few, allocs_is))
        by (inr e) = e

    of_each : (P : ℕ → Frame → Type 0) → P caller next → ((d : ℕ) → d ≢ caller → P d (frame_of core.world d)) → (d : ℕ) → P d (frame_of world' d)
    of_each = for_each plan core calls caller lawful sound is_caller next

    account_mine : account_of after caller ≡ record account { reserved_at = core.pool.version + 1 }
    account_mine = get_or-set_same core.pool.accounts caller (record account { reserved_at = core.pool.version + 1 }) no_account within

    account_other : (d : ℕ) → d ≢ caller → account_of after d ≡ account_of core d
    account_other d other = get_or-set_other core.pool.accounts caller d (record account { reserved_at = core.pool.version + 1 }) no_account other

    accounts : (P : ℕ → Account → Type 0) → P caller (record account { reserved_at = core.pool.version + 1 }) → ((d : ℕ) → d ≢ caller → P d (account_of core d)) → (d : ℕ) → P d (account_of after d)
    accounts P mine theirs d = elim (same_number d caller) [
      | inl same ↦ subst (λ c. P c (account_of after c)) (sym same) (subst (P caller) (sym account_mine) mine)
      | inr other ↦ subst (P d) (sym (account_other d other)) (theirs d other)
    ]

    public_same : (d : ℕ) → IsPublic (frame_of core.world d) (frame_of world' d)
    public_same = of_each (λ d f. IsPublic (frame_of core.world d) f) (record { call = refl; index = refl; ticket = refl; finished = refl }) (λ d other. itself (frame_of core.world d))

    versions_same : (d : ℕ) → (account_of after d).versions ≡ (account_of core d).versions
    versions_same = accounts (λ d a. a.versions ≡ (account_of core d).versions) refl (λ d other. refl)

    refusals_same : (d : ℕ) → refusals_of after d ≡ refusals_of core d
    refusals_same = accounts (λ d a. a.refusals ≡ (account_of core d).refusals) refl (λ d other. refl)

    entries_same : (d : ℕ) → entries_of after d ≡ entries_of core d
    entries_same d = λ i. map (entry_of d) (zip ((public_same d).finished i) (versions_same d i))

    own : IsOwnTurn plan heap calls caller next
    unfolding w
    own = record {
      book = record { booked = (sound.each caller).book.booked; all = (sound.each caller).book.all };
      stands = waits (record { op = w.call.op; declared = w.call.declared; fits = w.call.fits; from_one = w.call.from_one; begun = w.call.begun })
          (record { is = ap (λ (f : Frame). record f { spares = need }) w.waiting.is; places = inl allocs_is; roots = w.waiting.roots });
      ready = called_ready plan next tidy called;
      held = λ e. absurd (omega (arith, e, zero_ticket));
      why = λ e. absurd (omega (arith, e, zero_ticket));
      hidden = lawful.who_holds.hidden caller;
      are_roots = λ z n h. let r = lawful.who_holds.roots caller n z h in record { at = r.at; within = r.within; number = r.number; there = r.there; is = r.is };
      has_roots = λ z n r. lawful.who_holds.taken caller n z (record { at = r.at; within = r.within; number = r.number; there = r.there; is = r.is });
      idle = λ e. absurd (was_busy e);
      roots = (sound.each caller).roots;
    }

    sums : (g : Frame → ℕ) → sum_by g world'.frames + g frame ≡ sum_by g core.world.frames + g next
    sums = sum_changed plan core calls caller lawful sound is_caller next

    totals : AddUp plan after calls
    totals = record {
      places = omega (arith, sums (λ (f : Frame). f.spares), none_yet.0, room, lawful.totals.places);
      enough = of_each (λ d f. IsEntered f → allocs_of plan f.call ≤ f.spares + f.made) (λ e. absurd (omega (arith, e, zero_ticket))) (λ d other. lawful.totals.enough d);
      sizes = lawful.totals.sizes;
      clock = omega (arith, sums (λ (f : Frame). length f.finished + one_if_entered f), lawful.totals.clock);
      version =
          let none : one_if_reserved account ≡ 0 = ap (λ n. if nat_lt 0 n then 1 else 0) (none_reserved none_yet.0) in
          let one : one_if_reserved (record account { reserved_at = core.pool.version + 1 }) ≡ 1 = by (core.pool.version + 1) (omega arith) in
          omega (arith, sums (λ (f : Frame). length f.finished), sum_by-set one_if_reserved core.pool.accounts caller (record account { reserved_at = core.pool.version + 1 }) no_account within, none, one, lawful.totals.version);
    }
      where
        by : (n : ℕ) → 0 < n → ◌≡◌ {A = ℕ} (if nat_lt 0 n then 1 else 0) 1
        by n some = grind (arith, nat_tests, some)

    abbrev m : Move
    m = record { version = core.pool.version + 1; change = pos 0 -ℤ pos need; ticket = frame.ticket }

    old_part : ℕ → List Move
    old_part d = moves_of (source_of plan) calls (entries_of core d) ++ move_in_hand plan core d

    new_part : ℕ → List Move
    new_part d = moves_of (source_of plan) calls (entries_of after d) ++ move_in_hand plan after d

    hand_old : move_in_hand plan core caller ≡ []
    hand_old = ap (λ n. if nat_lt 0 n then record { version = account.reserved_at; change = pos 0 -ℤ pos need; ticket = frame.ticket } ∷ [] else []) (none_reserved none_yet.0)

    hand_new : move_in_hand plan after caller ≡ m ∷ []
    hand_new =
        (λ i. if nat_lt 0 (account_mine i).reserved_at then record { version = (account_mine i).reserved_at; change = pos 0 -ℤ pos (allocs_of plan (mine i).call); ticket = (mine i).ticket } ∷ [] else [])
        ∙ by (nat_lt 0 (core.pool.version + 1)) refl
      where
        mine : frame_of world' caller ≡ next
        mine = frame_own plan core calls caller lawful sound is_caller next

        by : (b : Bool) → nat_lt 0 (core.pool.version + 1) ≡ b → ◌≡◌ {A = List Move} (if b then record { version = core.pool.version + 1; change = pos 0 -ℤ pos (allocs_of plan (frame_of core.world caller).call); ticket = (frame_of core.world caller).ticket } ∷ [] else [])
            (record { version = core.pool.version + 1; change = pos 0 -ℤ pos (allocs_of plan (frame_of core.world caller).call); ticket = (frame_of core.world caller).ticket } ∷ [])
        by true e = refl
        by false e = absurd (let bad : 0 < core.pool.version + 1 = omega arith in grind (arith, nat_tests, e, bad))

    inserted : Inserted m (moves_in plan core calls) (moves_in plan after calls)
    inserted =
        insert_at m (λ d. moves_of (source_of plan) calls (entries_of core d) ++ move_in_hand plan core d) (λ d. moves_of (source_of plan) calls (entries_of after d) ++ move_in_hand plan after d) caller mine_inserted
        (λ d other. λ i. moves_of (source_of plan) calls (entries_same d i) ++ hand_same d other i) 1 (length plan.sizes) (omega (arith, is_caller.from_one)) (omega (arith, is_caller.to_last))
      where
        hand_same : (d : ℕ) → d ≢ caller → move_in_hand plan after d ≡ move_in_hand plan core d
        hand_same d other = λ i.
            if nat_lt 0 (account_other d other i).reserved_at
            then record { version = (account_other d other i).reserved_at; change = pos 0 -ℤ pos (allocs_of plan ((public_same d).call i)); ticket = (public_same d).ticket i } ∷ []
            else []

        mine_inserted : Inserted m (moves_of (source_of plan) calls (entries_of core caller) ++ move_in_hand plan core caller) (moves_of (source_of plan) calls (entries_of after caller) ++ move_in_hand plan after caller)
        mine_inserted =
            subst (λ zs. Inserted m (moves_of (source_of plan) calls (entries_of core caller) ++ move_in_hand plan core caller) zs) (sym (λ i. moves_of (source_of plan) calls (entries_same caller i) ++ hand_new i))
            (subst (λ zs. Inserted m (moves_of (source_of plan) calls (entries_of core caller) ++ zs) (moves_of (source_of plan) calls (entries_of core caller) ++ m ∷ [])) (sym hand_old)
            (insert_after m (moves_of (source_of plan) calls (entries_of core caller)) [] (m ∷ []) here))

    log : HasLog plan after calls
    log = log_more plan core after calls m inserted refl refl (taken_from core.pool.free need room) refusals_same sound.log
      where
        taken_from : (free n : ℕ) → n ≤ free → pos (free - n) ≡ pos free +ℤ (pos 0 -ℤ pos n)
        taken_from free n le = grind arith

    tickets : HasTickets plan after
    tickets =
        let same = tickets_same plan core world' calls public_same (length-set core.world.frames caller next) in
        let own_same : ticket_in core.world ≡ ticket_in world' = λ i d. sym (public_same d).ticket i in
        record {
          range = subst (All (λ ticket. (greatest_ticket plan.heap < ticket) × (ticket ≤ core.clock))) (sym same) sound.tickets.range;
          each_once = λ ticket low high. ap (count_by (λ other. other == ticket)) same ∙ sound.tickets.each_once ticket low high;
          own = subst IsOwn own_same sound.tickets.own;
          names = sound.tickets.names;
          seals = sound.tickets.seals;
        }

    pub reserve_kept : IsKept plan (reserves core caller frame need).0 calls
    reserve_kept =
        turned_kept plan core calls caller lawful sound is_caller next core.clock pool' calls own (λ d other s. s)
        (subst (IsApart heap) (λ i d. sym (public_same d).ticket i) lawful.older_reach) totals (length-set core.pool.accounts caller (record account { reserved_at = core.pool.version + 1 }) ∙ sound.accounts) sound.lists
        (λ d. history_as plan core after calls d (public_same d).index (public_same d).finished (entries_same d) (refusals_same d) (ap length (versions_same d)) (hands d) (is_reserved d) (entered d) (sound.each d).history)
        (λ d. order_as plan core after calls d (entries_same d) (refusals_same d) (in_hand d) (sound.each d).order) tickets log
      where
        hands : (d : ℕ) (index : ℕ) → in_hand_at (frame_of world' d) index (frame_of world' d).stage ≡ in_hand_at (frame_of core.world d) index (frame_of core.world d).stage
        hands = of_each (λ d f. (index : ℕ) → in_hand_at f index f.stage ≡ in_hand_at (frame_of core.world d) index (frame_of core.world d).stage)
            (λ index. ap (in_hand_at next index) called ∙ sym (ap (in_hand_at frame index) called)) (λ d other index. refl)

        both : (P : ℕ → Frame → Account → Type 0) → P caller next (record account { reserved_at = core.pool.version + 1 }) → ((d : ℕ) → d ≢ caller → P d (frame_of core.world d) (account_of core d)) → (d : ℕ) → P d (frame_of world' d) (account_of after d)
        both P here_now theirs d = elim (same_number d caller) [
          | inl same ↦ subst (λ c. P c (frame_of world' c) (account_of after c)) (sym same) (subst (λ f. P caller f (account_of after caller)) (sym (frame_own plan core calls caller lawful sound is_caller next)) (subst (P caller next) (sym account_mine) here_now))
          | inr other ↦ subst (λ f. P d f (account_of after d)) (sym (frame_other plan core calls caller lawful sound is_caller next d other)) (subst (P d (frame_of core.world d)) (sym (account_other d other)) (theirs d other))
        ]

        is_reserved : (d : ℕ) → (frame_of world' d).ticket ≡ 0 → (0 < (account_of after d).reserved_at) ↔ (0 < (frame_of world' d).spares)
        is_reserved = both (λ d f a. f.ticket ≡ 0 → (0 < a.reserved_at) ↔ (0 < f.spares)) (λ z. (λ s. omega (arith, few), λ s. omega arith)) (λ d other. (sound.each d).history.reserved)

        entered : (d : ℕ) → IsEntered (frame_of world' d) → (0 < (account_of after d).reserved_at) ↔ (0 < allocs_of plan (frame_of world' d).call)
        entered = both (λ d f a. IsEntered f → (0 < a.reserved_at) ↔ (0 < allocs_of plan f.call)) (λ e. absurd (omega (arith, e, zero_ticket))) (λ d other. (sound.each d).history.entered)

        in_hand : (d : ℕ) → 0 < (account_of after d).reserved_at → All (λ (entry : Entry). All (λ version. version < (account_of after d).reserved_at) (versions_of (source_of plan) calls entry)) (entries_of core d)
            × All (λ (refusal : Refusal). refusal.version < (account_of after d).reserved_at) (refusals_of core d)
        in_hand = accounts (λ d a. 0 < a.reserved_at → All (λ (entry : Entry). All (λ version. version < a.reserved_at) (versions_of (source_of plan) calls entry)) (entries_of core d) × All (λ (refusal : Refusal). refusal.version < a.reserved_at) (refusals_of core d))
            (λ some. (versions_low plan core calls sound.log caller is_caller, λ k d lt. omega (arith, (sound.log.due caller k d lt).seen, sound.log.count))) (λ d other. (sound.each d).order.in_hand)
