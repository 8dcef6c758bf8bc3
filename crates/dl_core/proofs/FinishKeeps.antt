-- A finish keeps all that holds.
use Rattle.std.proofs.Common.{◌≡◌, ◌≢◌, ◌⊎◌, inl, inr, ℕ, zero, suc, ◌+◌, ◌<◌, ◌≤◌, true, false, Bool, cond, List, [], ◌∷◌, ◌++◌, length, get_or, refl, sym, ap, subst, ◌∙◌, arith, length-append}
use Rattle.std.specs.Prelude.{◌==◌, ◌&&◌, ◌-ℤ◌, ◌≤ℤ◌, ◌↔◌, pos, count_by, sum_by, nat_lt, map, All, AllPairs, Contains, if◌then◌else◌}
use Rattle.std.specs.List.{flat_map, zip}
use Rattle.std.specs.List.Sorted.{IsStrictlyIncreasing}
use Rattle.std.specs.FinMap as finite
use Rattle.std.specs.FinMap.{get-empty, get-entries, find}
use Rattle.std.proofs.lemmas.Bool.Decides.{nat_tests}
use Rattle.std.proofs.lemmas.List.{length-set, get_or-set_same, get_or-set_other}
use Rattle.std.proofs.lemmas.List.Elements.{All-contains, All-push, Contains-push_cases, Contains-append_right}
use Rattle.std.proofs.lemmas.List.Quantifiers.{all_pairs_push}
use Rattle.std.proofs.lemmas.List.Sums.{sum_by-set, sum_by-append, sum_by-cons}
use Rattle.dl_ir.specs.declared.answers.End.{End}
use Rattle.dl_ir.specs.declared.answers.Entry.{Entry}
use Rattle.dl_ir.specs.declared.answers.Refusal.{Refusal}
use Rattle.dl_ir.specs.declared.moves.Move.{Move}
use Rattle.dl_ir.specs.declared.names.Name.{Name}
use Rattle.dl_ir.specs.Heap.{name_cmp}
use Rattle.dl_ir.specs.Cover.{runs_of, refusals_of as refusals_of_call}
use Rattle.dl_shape.specs.Pool.{allocs_at, reservation_of, return_of, moves_of, moves_of_entry, versions_of, free_at, AreBelow, IsDue}
use Rattle.dl_shape.specs.Replay.{greatest_ticket}
use Rattle.dl_core.specs.declared.objects.Mark.{Mark}
use Rattle.dl_core.specs.declared.objects.Mark.TheVariants.{Free, Held, Sealed}
use Rattle.dl_core.specs.declared.stages.Finished.{Finished}
use Rattle.dl_core.specs.declared.stages.Versions.{Versions}
use Rattle.dl_core.specs.declared.stages.Stage.TheVariants as stages
use Rattle.dl_core.specs.Heaps.{Heap, IsHeld}
use Rattle.dl_core.specs.Plans.{Plan, IsPlan, IsCaller, source_of, allocs_of}
use Rattle.dl_core.specs.Frames.{Frame, IsEntered}
use Rattle.dl_core.specs.Events.{finished, finish_of}
use Rattle.dl_core.specs.Core.{Core, Account, Pool, Shared, no_account, entry_of, frame_of, account_of, entries_of, refusals_of, finishes, pool_returned, versions_made, version_after}
use Rattle.dl_core.specs.Reached.{Calls}
use Rattle.dl_core.specs.Reach.{ticket_in, IsAbove}
use Rattle.dl_core.specs.Changes.{IsApart, IsOwn}
use Rattle.dl_core.specs.Lawful.{IsLawful, AddUp, one_if_entered, one_if_reserved}
use Rattle.dl_core.specs.Laws.{IsKept}
use Rattle.dl_core.specs.Sound.{IsSound, idles, HasHistory, KeepsOrder, HasTickets, HasLog, move_in_hand, moves_in, callers_of, in_hand_at, ticket_in_hand, tickets_of}
use Rattle.dl_core.proofs.Names.{same_number, no_some}
use Rattle.dl_core.proofs.Events.{Works}
use Rattle.dl_core.proofs.PoolLog.{Inserted, here, insert_after, log_more}
use Rattle.dl_core.proofs.Public.{flat_map_same}
use Rattle.dl_core.proofs.RefuseKeeps.{entries_within, call_found}
use Rattle.dl_core.proofs.ReserveKeeps.{history_as, order_as, versions_low, insert_at, part_has}
use Rattle.dl_core.proofs.TouchesKeep.{busy_caller, not_idle}
use Rattle.dl_core.proofs.Turned.{IsOwnTurn, world, turned_kept, frame_own, frame_other, for_each, sum_changed}
use Rattle.std.proofs.lemmas.List.{append-nil}
use Rattle.dl_lemmas.proofs.Tests.{same_truth}

-- ---- lists

entries_push : (c : ℕ) (fs : List Finished) (vs : List Versions) (f : Finished) (v : Versions) → length fs ≡ length vs → map (entry_of c) (zip (fs ++ f ∷ []) (vs ++ v ∷ [])) ≡ map (entry_of c) (zip fs vs) ++ entry_of c (f, v) ∷ []
entries_push c [] [] f v e = refl
entries_push c [] (y ∷ vs) f v e = absurd (omega (arith, e))
entries_push c (x ∷ fs) [] f v e = absurd (omega (arith, e))
entries_push c (x ∷ fs) (y ∷ vs) f v e = ap (λ es. entry_of c (x, y) ∷ es) (entries_push c fs vs f v (omega (arith, e)))

-- where no entry has an index, no finished operation has
pub not_counted : (c n : ℕ) (fs : List Finished) (vs : List Versions) → length fs ≡ length vs → runs_of c n (map (entry_of c) (zip fs vs)) ≡ 0 → All (λ (kept : Finished). kept.index ≢ n) fs
not_counted c n [] vs e z = λ k d lt. absurd (omega (arith, lt))
not_counted c n (f ∷ fs) [] e z = absurd (omega (arith, e))
not_counted c n (f ∷ fs) (v ∷ vs) e z = by (sum_by-cons (λ (x : Entry). cond ((x.caller == c) && (x.index == n)) 1 0) (entry_of c (f, v)) (map (entry_of c) (zip fs vs))) (not_counted c n fs vs (omega (arith, e)))
  where
    by : runs_of c n (entry_of c (f, v) ∷ map (entry_of c) (zip fs vs)) ≡ cond ((c == c) && (f.index == n)) 1 0 + runs_of c n (map (entry_of c) (zip fs vs)) → (runs_of c n (map (entry_of c) (zip fs vs)) ≡ 0 → All (λ (kept : Finished). kept.index ≢ n) fs) → All (λ (kept : Finished). kept.index ≢ n) (f ∷ fs)
    by s later zero d lt same =
        let yes : ((c == c) && (f.index == n)) ≡ true = grind (arith, nat_tests, same) in
        let one : ◌≡◌ {A = ℕ} (cond ((c == c) && (f.index == n)) 1 0) 1 = ap {B = ℕ} (λ b. cond b 1 0) yes in
        absurd (omega (arith, s, z, one))
    by s later (suc k) d lt same = later (omega (arith, s, z)) k d (omega (arith, lt)) same

flat_push : {X Y : Type 0} (g : X → List Y) (xs : List X) (x : X) → flat_map g (xs ++ x ∷ []) ≡ flat_map g xs ++ g x
flat_push g [] x = by (g x)
  where
    by : {Y : Type 0} (ys : List Y) → ys ++ [] ≡ ys
    by [] = refl
    by (y ∷ ys) = ap (λ zs. y ∷ zs) (by ys)
flat_push g (y ∷ xs) x = ap (λ zs. g y ++ zs) (flat_push g xs x) ∙ grouped (g y) (flat_map g xs) (g x)
  where
    grouped : {Y : Type 0} (ps qs rs : List Y) → ps ++ (qs ++ rs) ≡ (ps ++ qs) ++ rs
    grouped [] qs rs = refl
    grouped (p ∷ ps) qs rs = ap (λ zs. p ∷ zs) (grouped ps qs rs)

-- an operation that leaves has no ticket that could be passed
leave_apart : (heap : Heap) (tickets tickets' : ℕ → ℕ) (c : ℕ) → tickets' c ≡ 0 → ((d : ℕ) → d ≢ c → tickets' d ≡ tickets d) → IsApart heap tickets → IsApart heap tickets'
leave_apart heap tickets tickets' c left same apart = record {
  apart = λ d n o run r there_is up. elim (same_number d c) [
    | inl is ↦ absurd (omega (arith, run, ap tickets' is, left))
    | inr other ↦ apart.apart d n o (subst (λ t. 0 < t) (same d other) run) r there_is (subst (λ t. IsAbove tickets t o.mark) (same d other) (by (tickets' d) o.mark up))
  ];
}
  where
    by : (t : ℕ) (m : Mark) → IsAbove tickets' t m → IsAbove tickets t m
    by t Free up = up
    by t (Held x) up = elim (same_number x c) [
      | inl is ↦ absurd (omega (arith, up, ap tickets' is, left))
      | inr other ↦ subst (λ u. t < u) (same x other) up
    ]
    by t (Sealed k) up = up

module _ (plan : Plan) (core : Core) (calls : Calls) (caller : ℕ) (is : IsPlan plan) (lawful : IsLawful plan core calls) (sound : IsSound plan core calls) (end : End) (w : Works plan core calls caller is lawful sound)
    (empty : finite.entries (frame_of core.world caller).book ≡ []) where
  abbrev heap : Heap
  heap = core.world.heap

  abbrev frame : Frame
  frame = frame_of core.world caller

  abbrev account : Account
  account = account_of core caller

  abbrev count : ℕ
  count = frame.spares

  abbrev next : Frame
  next = finished end frame

  abbrev made : Versions
  made = versions_made count account core.pool

  abbrev account' : Account
  account' = record account { reserved_at = 0; versions = account.versions ++ made ∷ [] }

  abbrev pool' : Pool
  pool' = pool_returned caller count account core.pool

  abbrev e : Entry
  e = entry_of caller (finish_of end frame, made)

  pub one : IsCaller plan caller
  one = busy_caller plan core calls sound caller (not_idle plan core calls caller is lawful sound frame.stage w.2.stage)

  abbrev world' : Shared
  world' = world plan core calls caller lawful sound one next

  abbrev after : Core
  after = record { world = world'; clock = core.clock; pool = pool' }

  not_held : (n : Name) → IsHeld heap caller n → ⊥
  not_held n h = let k = (sound.each caller).book.all n h in no_some (sym (get-entries frame.book n ∙ ap (find name_cmp n) empty) ∙ k.1)

  of_each : (P : ℕ → Frame → Type 0) → P caller next → ((d : ℕ) → d ≢ caller → P d (frame_of core.world d)) → (d : ℕ) → P d (frame_of world' d)
  of_each = for_each plan core calls caller lawful sound one next

  frame_mine : frame_of world' caller ≡ next
  frame_mine = frame_own plan core calls caller lawful sound one next

  same_frame : (d : ℕ) → d ≢ caller → frame_of world' d ≡ frame_of core.world d
  same_frame d other = frame_other plan core calls caller lawful sound one next d other

  inside : caller < length core.pool.accounts
  inside = omega (arith, one.to_last, sound.accounts)

  account_mine : account_of after caller ≡ account'
  account_mine = get_or-set_same core.pool.accounts caller account' no_account inside

  account_other : (d : ℕ) → d ≢ caller → account_of after d ≡ account_of core d
  account_other d other = get_or-set_other core.pool.accounts caller d account' no_account other

  accounts : (P : ℕ → Account → Type 0) → P caller account' → ((d : ℕ) → d ≢ caller → P d (account_of core d)) → (d : ℕ) → P d (account_of after d)
  accounts P mine theirs d = elim (same_number d caller) [
    | inl same ↦ subst (λ c. P c (account_of after c)) (sym same) (subst (P caller) (sym account_mine) mine)
    | inr other ↦ subst (P d) (sym (account_other d other)) (theirs d other)
  ]

  refusals_same : (d : ℕ) → refusals_of after d ≡ refusals_of core d
  refusals_same = accounts (λ d a. a.refusals ≡ (account_of core d).refusals) refl (λ d other. refl)

  h : HasHistory plan core calls caller
  h = (sound.each caller).history

  entries_mine : entries_of after caller ≡ entries_of core caller ++ e ∷ []
  entries_mine = (λ i. map (entry_of caller) (zip (frame_mine i).finished (account_mine i).versions)) ∙ entries_push caller frame.finished account.versions (finish_of end frame) made (sym h.versions)

  entries_other : (d : ℕ) → d ≢ caller → entries_of after d ≡ entries_of core d
  entries_other d other = λ i. map (entry_of d) (zip (same_frame d other i).finished (account_other d other i).versions)

  own : IsOwnTurn plan heap calls caller next
  own = record {
    book = record { booked = λ n k f. absurd (no_some (sym (get-empty name_cmp n) ∙ f)); all = λ n g. absurd (not_held n g) };
    stands = idles refl;
    ready = refl;
    held = λ f. absurd (omega (arith, f));
    why = λ f. absurd (omega (arith, f));
    hidden = λ n g. absurd (not_held n g);
    are_roots = λ z n g. absurd (not_held n g);
    has_roots = λ z n t. absurd (omega (arith, t.within));
    idle = λ f. not_held;
    roots = λ n g. absurd (not_held n g);
  }

  sums : (g : Frame → ℕ) → sum_by g world'.frames + g frame ≡ sum_by g core.world.frames + g next
  sums = sum_changed plan core calls caller lawful sound one next

  one_entered : one_if_entered frame ≡ 1
  one_entered = grind (arith, nat_tests, w.1)

  more_finished : length (frame.finished ++ finish_of end frame ∷ []) ≡ length frame.finished + 1
  more_finished = length-append frame.finished (finish_of end frame ∷ [])

  few_versions : version_after count core.pool ≤ core.pool.version + 1
  few_versions = elim (nat_lt 0 count) as (λ b. (if b then core.pool.version + 1 else core.pool.version) ≤ core.pool.version + 1) [ true ↦ omega arith | false ↦ omega arith ]

  few_reserved : one_if_reserved account ≤ 1
  few_reserved = elim (nat_lt 0 account.reserved_at) as (λ b. (if b then 1 else 0) ≤ 1) [ true ↦ omega arith | false ↦ omega arith ]

  totals : AddUp plan after calls
  totals = record {
    places = omega (arith, sums (λ (f : Frame). f.spares), lawful.totals.places);
    enough = of_each (λ d f. IsEntered f → allocs_of plan f.call ≤ f.spares + f.made) (λ f. absurd (omega (arith, f))) (λ d other. lawful.totals.enough d);
    sizes = lawful.totals.sizes;
    clock = omega (arith, sums (λ (f : Frame). length f.finished + one_if_entered f), one_entered, more_finished, lawful.totals.clock);
    version = omega (arith, sums (λ (f : Frame). length f.finished), more_finished, few_versions, few_reserved, sum_by-set one_if_reserved core.pool.accounts caller account' no_account inside, lawful.totals.version);
  }

  apart : IsApart heap (ticket_in world')
  apart = leave_apart heap (ticket_in core.world) (ticket_in world') caller (ap (λ (f : Frame). f.ticket) frame_mine) (λ d other. ap (λ (f : Frame). f.ticket) (same_frame d other)) lawful.older_reach

  -- ---- the log

  -- what is in hand is the reservation of the entry
  allocs_found : allocs_at (source_of plan) calls caller frame.index ≡ allocs_of plan frame.call
  allocs_found = call_found plan calls caller frame sound.lists one w.0

  both_some : nat_lt 0 (allocs_of plan frame.call) ≡ nat_lt 0 account.reserved_at
  both_some =
      same_truth (nat_lt 0 (allocs_of plan frame.call)) (nat_lt 0 account.reserved_at)
      (λ b. let some = (h.entered w.1).1 (grind (arith, nat_tests, b)) in grind (arith, nat_tests, some)) (λ b. let some = (h.entered w.1).0 (grind (arith, nat_tests, b)) in grind (arith, nat_tests, some))

  reservation_is : reservation_of e (allocs_at (source_of plan) calls caller frame.index) ≡ move_in_hand plan core caller
  reservation_is =
      ap (reservation_of e) allocs_found
      ∙ ap (λ b. if b then record { version = account.reserved_at; change = pos 0 -ℤ pos (allocs_of plan frame.call); ticket = frame.ticket } ∷ [] else []) both_some

  none_in_hand : move_in_hand plan after caller ≡ []
  none_in_hand = ap (λ (a : Account). if nat_lt 0 a.reserved_at then record { version = a.reserved_at; change = pos 0 -ℤ pos (allocs_of plan (frame_of world' caller).call); ticket = (frame_of world' caller).ticket } ∷ [] else []) account_mine

  grouped : {Y : Type 0} (ps qs rs : List Y) → ps ++ (qs ++ rs) ≡ (ps ++ qs) ++ rs
  grouped [] qs rs = refl
  grouped (p ∷ ps) qs rs = ap (λ zs. p ∷ zs) (grouped ps qs rs)

  -- the caller's moves are those that it had, and the return
  part_is : moves_of (source_of plan) calls (entries_of after caller) ++ move_in_hand plan after caller ≡ (moves_of (source_of plan) calls (entries_of core caller) ++ move_in_hand plan core caller) ++ return_of e
  part_is =
      (λ i. moves_of (source_of plan) calls (entries_mine i) ++ none_in_hand i) ∙ append-nil (moves_of (source_of plan) calls (entries_of core caller ++ e ∷ []))
      ∙ flat_push (moves_of_entry (source_of plan) calls) (entries_of core caller) e
      ∙ ap (λ zs. moves_of (source_of plan) calls (entries_of core caller) ++ (zs ++ return_of e)) reservation_is
      ∙ grouped (moves_of (source_of plan) calls (entries_of core caller)) (move_in_hand plan core caller) (return_of e)

  part_other : (d : ℕ) → d ≢ caller → moves_of (source_of plan) calls (entries_of after d) ++ move_in_hand plan after d ≡ moves_of (source_of plan) calls (entries_of core d) ++ move_in_hand plan core d
  part_other d other = λ i.
      moves_of (source_of plan) calls (entries_other d other i)
      ++ (if nat_lt 0 (account_other d other i).reserved_at
      then record { version = (account_other d other i).reserved_at; change = pos 0 -ℤ pos (allocs_of plan (same_frame d other i).call); ticket = (same_frame d other i).ticket } ∷ []
      else [])

  abbrev m : Move
  m = record { version = core.pool.version + 1; change = pos count; ticket = frame.ticket }

  log : HasLog plan after calls
  log = by (nat_lt 0 count) refl
    where
      return_some : nat_lt 0 count ≡ true → return_of e ≡ m ∷ []
      return_some t = ap (λ b. if b then record { version = (if b then core.pool.version + 1 else 0); change = pos count; ticket = frame.ticket } ∷ [] else []) t

      return_none : nat_lt 0 count ≡ false → return_of e ≡ []
      return_none t = ap (λ b. if b then record { version = (if b then core.pool.version + 1 else 0); change = pos count; ticket = frame.ticket } ∷ [] else []) t

      inserted : nat_lt 0 count ≡ true → Inserted m (moves_in plan core calls) (moves_in plan after calls)
      inserted t =
          insert_at m (λ d. moves_of (source_of plan) calls (entries_of core d) ++ move_in_hand plan core d) (λ d. moves_of (source_of plan) calls (entries_of after d) ++ move_in_hand plan after d) caller
          (subst (λ zs. Inserted m (moves_of (source_of plan) calls (entries_of core caller) ++ move_in_hand plan core caller) zs) (sym (part_is ∙ ap (λ zs. (moves_of (source_of plan) calls (entries_of core caller) ++ move_in_hand plan core caller) ++ zs) (return_some t)))
          (subst (λ zs. Inserted m zs ((moves_of (source_of plan) calls (entries_of core caller) ++ move_in_hand plan core caller) ++ m ∷ [])) (append-nil (moves_of (source_of plan) calls (entries_of core caller) ++ move_in_hand plan core caller))
          (insert_after m (moves_of (source_of plan) calls (entries_of core caller) ++ move_in_hand plan core caller) [] (m ∷ []) here)))
          part_other 1 (length plan.sizes) (omega (arith, one.from_one)) (omega (arith, one.to_last))

      moves_same : nat_lt 0 count ≡ false → moves_in plan after calls ≡ moves_in plan core calls
      moves_same t = λ i. flat_map (λ d. each d i) (callers_of plan)
        where
          each : (d : ℕ) → moves_of (source_of plan) calls (entries_of after d) ++ move_in_hand plan after d ≡ moves_of (source_of plan) calls (entries_of core d) ++ move_in_hand plan core d
          each d = elim (same_number d caller) [
            | inr other ↦ part_other d other
            | inl same ↦
                subst (λ c. moves_of (source_of plan) calls (entries_of after c) ++ move_in_hand plan after c ≡ moves_of (source_of plan) calls (entries_of core c) ++ move_in_hand plan core c) (sym same)
                (part_is ∙ ap (λ zs. (moves_of (source_of plan) calls (entries_of core caller) ++ move_in_hand plan core caller) ++ zs) (return_none t) ∙ append-nil (moves_of (source_of plan) calls (entries_of core caller) ++ move_in_hand plan core caller))
          ]

      as_before : (c : Core) → moves_in plan c calls ≡ moves_in plan core calls → c.pool.version ≡ core.pool.version → c.pool.free ≡ core.pool.free → ((d : ℕ) → refusals_of c d ≡ refusals_of core d) → HasLog plan c calls
      as_before c same version free refusals = record {
        count = ap length same ∙ sound.log.count ∙ sym version;
        in_range = subst (λ ms. All (λ (move : Move). (1 ≤ move.version) × (move.version ≤ c.pool.version)) ms) (sym same) (subst (λ v. All (λ (move : Move). (1 ≤ move.version) × (move.version ≤ v)) (moves_in plan core calls)) (sym version) sound.log.in_range);
        each_once = λ v low high. ap (count_by (λ (move : Move). move.version == v)) same ∙ sound.log.each_once v low (omega (arith, high, version));
        free = ap pos free ∙ sound.log.free ∙ (λ i. free_at plan.places plan.heap (sym same i) (sym version i));
        never_negative = λ v low. subst (λ ms. pos 0 ≤ℤ free_at plan.places plan.heap ms v) (sym same) (sound.log.never_negative v (omega (arith, low, version)));
        due = λ d. subst (λ ms. All (IsDue (source_of plan) calls plan.places plan.heap ms) (refusals_of c d)) (sym same) (subst (All (IsDue (source_of plan) calls plan.places plan.heap (moves_in plan core calls))) (sym (refusals d)) (sound.log.due d));
      }

      by : (b : Bool) → nat_lt 0 count ≡ b → HasLog plan after calls
      by true t = log_more plan core after calls m (inserted t) refl (ap (λ b. if b then core.pool.version + 1 else core.pool.version) t) refl refusals_same sound.log
      by false t = as_before after (moves_same t) (ap (λ b. if b then core.pool.version + 1 else core.pool.version) t) (let z : count ≡ 0 = grind (arith, nat_tests, t) in omega (arith, z)) refusals_same

  -- ---- tickets, history, order

  same_tickets : (d : ℕ) → map (λ (kept : Finished). kept.ticket) (frame_of world' d).finished ++ ticket_in_hand (frame_of world' d) ≡ map (λ (kept : Finished). kept.ticket) (frame_of core.world d).finished ++ ticket_in_hand (frame_of core.world d)
  same_tickets = of_each (λ d f. map (λ (kept : Finished). kept.ticket) f.finished ++ ticket_in_hand f ≡ map (λ (kept : Finished). kept.ticket) (frame_of core.world d).finished ++ ticket_in_hand (frame_of core.world d))
      (append-nil (map (λ (kept : Finished). kept.ticket) (frame.finished ++ finish_of end frame ∷ [])) ∙ pushed frame.finished ∙ ap (λ zs. map (λ (kept : Finished). kept.ticket) frame.finished ++ zs) (sym (in_hand frame.ticket w.1))) (λ d other. refl)
    where
      pushed : (fs : List Finished) → map (λ (kept : Finished). kept.ticket) (fs ++ finish_of end frame ∷ []) ≡ map (λ (kept : Finished). kept.ticket) fs ++ frame.ticket ∷ []
      pushed [] = refl
      pushed (f ∷ fs) = ap (λ zs. f.ticket ∷ zs) (pushed fs)

      in_hand : (n : ℕ) → 0 < n → ◌≡◌ {A = List ℕ} (if nat_lt 0 n then n ∷ [] else []) (n ∷ [])
      in_hand n some = by (nat_lt 0 n) refl
        where
          by : (b : Bool) → nat_lt 0 n ≡ b → ◌≡◌ {A = List ℕ} (if b then n ∷ [] else []) (n ∷ [])
          by true f = refl
          by false f = absurd (grind (arith, nat_tests, f, some))

  tickets : HasTickets plan after
  tickets =
      let same : tickets_of world' ≡ tickets_of core.world = flat_map_same _ world'.frames core.world.frames (length-set core.world.frames caller next) same_tickets in
      record {
        range = subst (All (λ ticket. (greatest_ticket plan.heap < ticket) × (ticket ≤ core.clock))) (sym same) sound.tickets.range;
        each_once = λ ticket low high. ap (count_by (λ other. other == ticket)) same ∙ sound.tickets.each_once ticket low high;
        own = own_tickets;
        names = sound.tickets.names;
        seals = sound.tickets.seals;
      }
    where
      mine : ticket_in world' caller ≡ 0
      mine = ap (λ (f : Frame). f.ticket) frame_mine

      own_tickets : IsOwn (ticket_in world')
      own_tickets i j some same = by (same_number i caller) (same_number j caller)
        where
          by : (i ≡ caller) ⊎ (i ≢ caller) → (j ≡ caller) ⊎ (j ≢ caller) → i ≡ j
          by a (inl b) = absurd (omega (arith, some, ap (ticket_in world') b, mine))
          by (inl a) (inr b) = absurd (omega (arith, some, same, ap (ticket_in world') a, mine))
          by (inr a) (inr b) =
              sound.tickets.own i j (subst (λ n. 0 < n) (ap (λ (f : Frame). f.ticket) (same_frame j b)) some)
              (sym (ap (λ (f : Frame). f.ticket) (same_frame i a)) ∙ same ∙ ap (λ (f : Frame). f.ticket) (same_frame j b))

  busy : (index : ℕ) → in_hand_at frame index frame.stage ≡ (if frame.index == index then 1 else 0)
  busy index = by w.2.stage
    where
      by : (frame.stage ≡ stages.Running) ⊎ ((how : End) × (frame.stage ≡ stages.Ended how)) → in_hand_at frame index frame.stage ≡ (if frame.index == index then 1 else 0)
      by (inl f) = ap (in_hand_at frame index) f
      by (inr f) = ap (in_hand_at frame index) f.1

  history_mine : HasHistory plan after calls caller
  history_mine = record {
    begun = ap (λ (f : Frame). f.index) frame_mine ∙ h.begun;
    each_once = λ i low high.
        let once = h.each_once i low (omega (arith, high, ap (λ (f : Frame). f.index) frame_mine)) in
        let p : Entry → Bool = λ entry. (entry.caller == caller) && (entry.index == i) in
        let more : runs_of caller i (entries_of after caller) ≡ count_by p (entries_of core caller) + count_by p (e ∷ []) = ap (runs_of caller i) entries_mine ∙ sum_by-append (λ x. cond (p x) 1 0) (entries_of core caller) (e ∷ []) in
        let now : in_hand_at (frame_of world' caller) i (frame_of world' caller).stage ≡ 0 = ap (λ (f : Frame). in_hand_at f i f.stage) frame_mine in
        omega (arith, once, more, one_more i, busy i, now, ap (refusals_of_call caller i) (refusals_same caller));
    in_range = subst (λ (f : Frame). All (λ (kept : Finished). (0 < kept.index) × (kept.index ≤ f.index)) f.finished) (sym frame_mine)
        (All-push (λ (kept : Finished). (0 < kept.index) × (kept.index ≤ frame.index)) frame.finished (finish_of end frame) h.in_range (w.0.from_one, omega arith));
    rises = subst (λ (f : Frame). AllPairs (λ (earlier later : Finished). earlier.index < later.index) f.finished) (sym frame_mine)
        (all_pairs_push (λ (earlier later : Finished). earlier.index < later.index) frame.finished (finish_of end frame) h.rises (λ k d lt. below (get_or frame.finished k d) (h.in_range k d lt).1 (none_now k d lt)));
    refused = subst (λ (f : Frame). All (λ (refusal : Refusal). refusal.index ≤ f.index) (refusals_of after caller)) (sym frame_mine) (subst (All (λ (refusal : Refusal). refusal.index ≤ frame.index)) (sym (refusals_same caller)) h.refused);
    versions = ap (λ (a : Account). length a.versions) account_mine ∙ longer ∙ ap (λ (f : Frame). length f.finished) (sym frame_mine);
    reserved = λ z. subst (λ (a : Account). (0 < a.reserved_at) ↔ (0 < (frame_of world' caller).spares)) (sym account_mine)
        (subst (λ (f : Frame). (0 < 0) ↔ (0 < f.spares)) (sym frame_mine) (λ some. absurd (omega (arith, some)), λ some. absurd (omega (arith, some))));
    entered = λ f. absurd (omega (arith, f, ap (λ (g : Frame). g.ticket) frame_mine));
  }
    where
      longer : length (account.versions ++ made ∷ []) ≡ length (frame.finished ++ finish_of end frame ∷ [])
      longer = omega (arith, length-append account.versions (made ∷ []), more_finished, h.versions)

      below : (kept : Finished) → kept.index ≤ frame.index → kept.index ≢ frame.index → kept.index < frame.index
      below kept le ne = grind (arith, le, ne)

      none_now : All (λ (kept : Finished). kept.index ≢ frame.index) frame.finished
      none_now = not_counted caller frame.index frame.finished account.versions (sym h.versions) (alone _ _ _ (h.each_once frame.index w.0.from_one (omega arith)) (busy frame.index))
        where
          alone : (a b c : ℕ) → a + b + c ≡ 1 → c ≡ (if frame.index == frame.index then 1 else 0) → a ≡ 0
          alone a b c s k = let t : (frame.index == frame.index) ≡ true = grind (arith, nat_tests) in let u : ◌≡◌ {A = ℕ} (if frame.index == frame.index then 1 else 0) 1 = ap {B = ℕ} (λ b. if b then 1 else 0) t in omega (arith, s, k, u)

      one_more : (i : ℕ) → count_by (λ (entry : Entry). (entry.caller == caller) && (entry.index == i)) (e ∷ []) ≡ (if frame.index == i then 1 else 0)
      one_more i = sum_by-cons (λ (x : Entry). cond ((x.caller == caller) && (x.index == i)) 1 0) e [] ∙ by ((caller == caller) && (frame.index == i)) (frame.index == i) (ap (λ b. b && (frame.index == i)) itself)
        where
          itself : (caller == caller) ≡ true
          itself = grind (arith, nat_tests)

          by : (b c : Bool) → b ≡ c → cond b 1 0 + sum_by (λ (x : Entry). cond ((x.caller == caller) && (x.index == i)) 1 0) [] ≡ cond c 1 0
          by b c f = ap {B = ℕ} (λ d. cond d 1 0 + 0) f ∙ (omega arith)

  abbrev vs : List ℕ
  vs = versions_of (source_of plan) calls e

  vs_is : vs ≡ (if nat_lt 0 account.reserved_at then account.reserved_at ∷ [] else []) ++ (if nat_lt 0 count then (core.pool.version + 1) ∷ [] else [])
  vs_is = ap (λ ms. map (λ (move : Move). move.version) (ms ++ return_of e)) reservation_is ∙ by (nat_lt 0 account.reserved_at) (nat_lt 0 count)
    where
      by : (b c : Bool)
          → map (λ (move : Move). move.version) ((if b then record { version = account.reserved_at; change = pos 0 -ℤ pos (allocs_of plan frame.call); ticket = frame.ticket } ∷ [] else [])
          ++ (if c then record { version = (if c then core.pool.version + 1 else 0); change = pos count; ticket = frame.ticket } ∷ [] else []))
          ≡ (if b then account.reserved_at ∷ [] else []) ++ (if c then (core.pool.version + 1) ∷ [] else [])
      by true true = refl
      by true false = refl
      by false true = refl
      by false false = refl

  -- what holds of the versions of the entry
  vs_all : (P : ℕ → Type 0) → (0 < account.reserved_at → P account.reserved_at) → P (core.pool.version + 1) → All P vs
  vs_all P reserved returned = subst (All P) (sym vs_is) (by (nat_lt 0 account.reserved_at) refl (nat_lt 0 count))
    where
      by : (b : Bool) → nat_lt 0 account.reserved_at ≡ b → (c : Bool) → All P ((if b then account.reserved_at ∷ [] else []) ++ (if c then (core.pool.version + 1) ∷ [] else []))
      by true t true zero d lt = reserved (grind (arith, nat_tests, t))
      by true t true (suc zero) d lt = returned
      by true t true (suc (suc k)) d lt = absurd (omega (arith, lt))
      by true t false zero d lt = reserved (grind (arith, nat_tests, t))
      by true t false (suc k) d lt = absurd (omega (arith, lt))
      by false t true zero d lt = returned
      by false t true (suc k) d lt = absurd (omega (arith, lt))
      by false t false k d lt = absurd (omega (arith, lt))

  -- the reservation was before now
  reserved_low : 0 < account.reserved_at → account.reserved_at ≤ core.pool.version
  reserved_low some =
      let part = λ (d : ℕ). moves_of (source_of plan) calls (entries_of core d) ++ move_in_hand plan core d in
      let all = part_has part r caller (Contains-append_right (moves_of (source_of plan) calls (entries_of core caller)) (move_in_hand plan core caller) r (by (nat_lt 0 account.reserved_at) refl)) 1 (length plan.sizes) (omega (arith, one.from_one)) (omega (arith, one.to_last)) in
      (All-contains (λ (move : Move). (1 ≤ move.version) × (move.version ≤ core.pool.version)) (moves_in plan core calls) r sound.log.in_range all).1
    where
      r : Move
      r = record { version = (account_of core caller).reserved_at; change = pos 0 -ℤ pos (allocs_of plan (frame_of core.world caller).call); ticket = (frame_of core.world caller).ticket }

      by : (b : Bool) → nat_lt 0 account.reserved_at ≡ b → Contains {X = Move} (if b then record { version = (account_of core caller).reserved_at; change = pos 0 -ℤ pos (allocs_of plan (frame_of core.world caller).call); ticket = (frame_of core.world caller).ticket } ∷ [] else [])
          (record { version = (account_of core caller).reserved_at; change = pos 0 -ℤ pos (allocs_of plan (frame_of core.world caller).call); ticket = (frame_of core.world caller).ticket })
      by true t = (0, omega arith, refl)
      by false t = absurd (grind (arith, nat_tests, t, some))

  vs_rise : IsStrictlyIncreasing vs
  vs_rise = subst IsStrictlyIncreasing (sym vs_is) (by (nat_lt 0 account.reserved_at) refl (nat_lt 0 count))
    where
      by : (b : Bool) → nat_lt 0 account.reserved_at ≡ b → (c : Bool) → IsStrictlyIncreasing ((if b then account.reserved_at ∷ [] else []) ++ (if c then (core.pool.version + 1) ∷ [] else []))
      by true t true zero lt = let low = reserved_low (grind (arith, nat_tests, t)) in omega (arith, low)
      by true t true (suc k) lt = absurd (omega (arith, lt))
      by true t false k lt = absurd (omega (arith, lt))
      by false t true k lt = absurd (omega (arith, lt))
      by false t false k lt = absurd (omega (arith, lt))

  o : KeepsOrder plan core calls caller
  o = (sound.each caller).order

  low_index : (x : Entry) → Contains (entries_of core caller) x → x.index ≤ frame.index
  low_index x has = All-contains (λ (entry : Entry). entry.index ≤ frame.index) (entries_of core caller) x (entries_within plan core calls caller h) has

  low_versions : (x : Entry) → Contains (entries_of core caller) x → All (λ version. version < core.pool.version + 1) (versions_of (source_of plan) calls x)
  low_versions x has = All-contains (λ (entry : Entry). All (λ version. version < core.pool.version + 1) (versions_of (source_of plan) calls entry)) (entries_of core caller) x (versions_low plan core calls sound.log caller one) has

  low_refusal : (q : Refusal) → Contains (refusals_of core caller) q → q.version ≤ core.pool.version
  low_refusal q has = let due = All-contains (IsDue (source_of plan) calls plan.places plan.heap (moves_in plan core calls)) (refusals_of core caller) q (sound.log.due caller) has in omega (arith, due.seen, sound.log.count)

  cases : (x : Entry) → Contains (entries_of after caller) x → Contains (entries_of core caller) x ⊎ (e ≡ x)
  cases x has = Contains-push_cases (entries_of core caller) e x (subst (λ es. Contains es x) entries_mine has)

  order_mine : KeepsOrder plan after calls caller
  order_mine = record {
    within = subst (All (λ (entry : Entry). IsStrictlyIncreasing (versions_of (source_of plan) calls entry))) (sym entries_mine) (All-push (λ (entry : Entry). IsStrictlyIncreasing (versions_of (source_of plan) calls entry)) (entries_of core caller) e o.within vs_rise);
    along = λ a b x y less. along a b (cases a x) (cases b y) less;
    not_before = λ x q has with_q less. elim (cases x has) [
      | inl old ↦ o.not_before x q old (subst (λ rs. Contains rs q) (refusals_same caller) with_q) less
      | inr new ↦ absurd (omega (arith, less, ap (λ (z : Entry). z.index) new, All-contains (λ (refusal : Refusal). refusal.index ≤ frame.index) (refusals_of core caller) q h.refused (subst (λ rs. Contains rs q) (refusals_same caller) with_q)))
    ];
    before = λ x q has with_q less. elim (cases x has) [
      | inl old ↦ o.before x q old (subst (λ rs. Contains rs q) (refusals_same caller) with_q) less
      | inr new ↦
          let q_has = subst (λ rs. Contains rs q) (refusals_same caller) with_q in
          subst (λ (z : Entry). All (λ version. q.version < version) (versions_of (source_of plan) calls z)) new
          (vs_all (λ version. q.version < version) (λ some. All-contains (λ (refusal : Refusal). refusal.version < account.reserved_at) (refusals_of core caller) q (o.in_hand some).1 q_has) (let low = low_refusal q q_has in omega (arith, low)))
    ];
    in_hand = λ some. absurd (omega (arith, some, ap (λ (a : Account). a.reserved_at) account_mine));
  }
    where
      below_new : (a : Entry) → Contains (entries_of core caller) a → AreBelow (versions_of (source_of plan) calls a) vs
      below_new a has = λ k d lt. vs_all (λ version. get_or (versions_of (source_of plan) calls a) k d < version)
          (λ some. All-contains (λ (entry : Entry). All (λ version. version < account.reserved_at) (versions_of (source_of plan) calls entry)) (entries_of core caller) a (o.in_hand some).0 has k d lt) (low_versions a has k d lt)

      along : (a b : Entry) → Contains (entries_of core caller) a ⊎ (e ≡ a) → Contains (entries_of core caller) b ⊎ (e ≡ b) → a.index < b.index → AreBelow (versions_of (source_of plan) calls a) (versions_of (source_of plan) calls b)
      along a b (inl x) (inl y) less = o.along a b x y less
      along a b (inl x) (inr y) less = subst (λ (z : Entry). AreBelow (versions_of (source_of plan) calls a) (versions_of (source_of plan) calls z)) y (below_new a x)
      along a b (inr x) (inl y) less = absurd (omega (arith, less, low_index b y, ap (λ (z : Entry). z.index) x))
      along a b (inr x) (inr y) less = absurd (omega (arith, less, ap (λ (z : Entry). z.index) (sym x ∙ y)))

  pub finish_kept : IsKept plan (finishes core caller frame end).0 calls
  finish_kept =
      turned_kept plan core calls caller lawful sound one next core.clock pool' calls own (λ d other s. s) apart totals (length-set core.pool.accounts caller account' ∙ sound.accounts) sound.lists history order tickets log
    where
      history : (d : ℕ) → HasHistory plan after calls d
      history d = elim (same_number d caller) [
        | inl same ↦ subst (HasHistory plan after calls) (sym same) history_mine
        | inr other ↦
            history_as plan core after calls d (ap (λ (f : Frame). f.index) (same_frame d other)) (ap (λ (f : Frame). f.finished) (same_frame d other)) (entries_other d other) (refusals_same d) (ap (λ (a : Account). length a.versions) (account_other d other))
            (λ i. ap (λ (f : Frame). in_hand_at f i f.stage) (same_frame d other))
            (subst (λ (f : Frame). f.ticket ≡ 0 → (0 < (account_of after d).reserved_at) ↔ (0 < f.spares)) (sym (same_frame d other)) (subst (λ (a : Account). (frame_of core.world d).ticket ≡ 0 → (0 < a.reserved_at) ↔ (0 < (frame_of core.world d).spares)) (sym (account_other d other)) (sound.each d).history.reserved))
            (subst (λ (f : Frame). IsEntered f → (0 < (account_of after d).reserved_at) ↔ (0 < allocs_of plan f.call)) (sym (same_frame d other)) (subst (λ (a : Account). IsEntered (frame_of core.world d) → (0 < a.reserved_at) ↔ (0 < allocs_of plan (frame_of core.world d).call)) (sym (account_other d other)) (sound.each d).history.entered))
            (sound.each d).history
      ]

      order : (d : ℕ) → KeepsOrder plan after calls d
      order d = elim (same_number d caller) [
        | inl same ↦ subst (KeepsOrder plan after calls) (sym same) order_mine
        | inr other ↦
            order_as plan core after calls d (entries_other d other) (refusals_same d)
            (subst (λ (a : Account). 0 < a.reserved_at → All (λ (entry : Entry). All (λ version. version < a.reserved_at) (versions_of (source_of plan) calls entry)) (entries_of core d) × All (λ (refusal : Refusal). refusal.version < a.reserved_at) (refusals_of core d)) (sym (account_other d other)) (sound.each d).order.in_hand)
            (sound.each d).order
      ]
