-- A refusal keeps all that holds.
use Rattle.std.proofs.Common.{◌≡◌, ◌≢◌, ◌⊎◌, inl, inr, ℕ, zero, suc, ◌+◌, ◌-◌, ◌<◌, ◌≤◌, true, Bool, cond, List, [], ◌∷◌, ◌++◌, length, get_or, Some, refl, sym, ap, subst, ◌∙◌, arith}
use Rattle.std.specs.Prelude.{◌==◌, ◌&&◌, ◌-ℤ◌, ◌≤ℤ◌, ◌↔◌, pos, slice_get, option_and_then, count_by, sum_by, nat_lt, map, All, AllPairs, Contains, if◌then◌else◌}
use Rattle.std.specs.List.{flat_map, zip}
use Rattle.std.specs.List.Sorted.{IsStrictlyIncreasing}
use Rattle.std.specs.Option.{option_map_or}
use Rattle.std.specs.FinMap.{get-empty}
use Rattle.std.proofs.lemmas.Bool.Decides.{nat_tests}
use Rattle.std.proofs.lemmas.List.{length-set, get_or-set_same, get_or-set_other}
use Rattle.std.proofs.lemmas.List.Elements.{All-contains, All-map, All-push, Contains-push_cases}
use Rattle.std.proofs.lemmas.List.Sums.{sum_by-set, sum_by-append, sum_by-cons}
use Rattle.std.proofs.lemmas.Option.{slice_get-get_or}
use Rattle.dl_ir.specs.declared.answers.Entry.{Entry}
use Rattle.dl_ir.specs.declared.answers.Refusal.{Refusal}
use Rattle.dl_ir.specs.declared.calls.Call.{Call}
use Rattle.dl_ir.specs.declared.modules.OpDecl.{OpDecl}
use Rattle.dl_ir.specs.declared.moves.Move.{Move}
use Rattle.dl_ir.specs.declared.names.Name.{Name}
use Rattle.dl_ir.specs.Heap.{name_cmp}
use Rattle.dl_ir.specs.Cover.{call_at, runs_of, refusals_of as refusals_of_call}
use Rattle.dl_shape.specs.Pool.{allocs_at, moves_of, versions_of, free_at, IsDue}
use Rattle.dl_shape.specs.Replay.{greatest_ticket}
use Rattle.dl_core.specs.declared.stages.Finished.{Finished}
use Rattle.dl_core.specs.declared.stages.Stage.TheVariants as stages
use Rattle.dl_core.specs.Heaps.{Heap, IsHeld}
use Rattle.dl_core.specs.Plans.{Plan, IsPlan, IsCaller, source_of, allocs_of}
use Rattle.dl_core.specs.Frames.{Frame, IsEntered}
use Rattle.dl_core.specs.Events.{refused}
use Rattle.dl_core.specs.Core.{Core, Account, Pool, Shared, no_account, entry_of, frame_of, account_of, entries_of, refusals_of, refusal_of, refuses, pool_refused}
use Rattle.dl_core.specs.Reached.{Calls}
use Rattle.dl_core.specs.Changes.{IsApart, IsOwn}
use Rattle.dl_core.specs.Lawful.{IsLawful, AddUp, one_if_entered, one_if_reserved}
use Rattle.dl_core.specs.Laws.{IsKept}
use Rattle.dl_core.specs.Sound.{IsSound, HasCall, idles, HasHistory, KeepsOrder, HasTickets, HasLog, move_in_hand, moves_in, callers_of, in_hand_at, tickets_of}
use Rattle.dl_core.proofs.Names.{same_number, no_some}
use Rattle.dl_core.proofs.Public.{flat_map_same}
use Rattle.dl_core.proofs.ReserveKeeps.{history_as, order_as, versions_low, w, zero_ticket, is_caller, within, none_reserved}
use Rattle.dl_core.proofs.TouchesKeep.{WaitsNow}
use Rattle.dl_core.proofs.Turned.{IsOwnTurn, world, turned_kept, frame_own, frame_other, for_each, sum_changed}

pub zip_first : {A B : Type 0} (P : A → Type 0) (xs : List A) (ys : List B) → All P xs → All (λ (p : A × B). P p.0) (zip xs ys)
zip_first P [] ys a k d lt = absurd (omega (arith, lt))
zip_first P (x ∷ xs) [] a k d lt = absurd (omega (arith, lt))
zip_first P (x ∷ xs) (y ∷ ys) a zero d lt = a 0 x (omega arith)
zip_first P (x ∷ xs) (y ∷ ys) a (suc k) d lt = zip_first P xs ys (λ j e l. a (suc j) e (omega (arith, l))) k d (omega (arith, lt))

-- no entry has an index above that of the frame
pub entries_within : (plan : Plan) (core : Core) (calls : Calls) (d : ℕ) → HasHistory plan core calls d → All (λ (entry : Entry). entry.index ≤ (frame_of core.world d).index) (entries_of core d)
entries_within plan core calls d h =
    All-map (λ (entry : Entry). entry.index ≤ (frame_of core.world d).index) (entry_of d) (zip (frame_of core.world d).finished (account_of core d).versions)
    (zip_first (λ (kept : Finished). kept.index ≤ (frame_of core.world d).index) (frame_of core.world d).finished (account_of core d).versions (λ k e lt. (h.in_range k e lt).1))

-- the call in hand by its number
pub call_found : (plan : Plan) (calls : Calls) (caller : ℕ) (frame : Frame) → length calls ≡ length plan.sizes → IsCaller plan caller → HasCall plan calls caller frame → allocs_at (source_of plan) calls caller frame.index ≡ allocs_of plan frame.call
call_found plan calls zero frame lists c call = absurd (omega (arith, c.from_one))
call_found plan calls (suc place) frame lists c call = by frame.index refl
  where
    files : slice_get calls place ≡ Some (get_or calls place [])
    files = slice_get-get_or calls place [] (omega (arith, c.to_last, lists))

    by : (index : ℕ) → frame.index ≡ index → allocs_at (source_of plan) calls (suc place) index ≡ allocs_of plan frame.call
    by zero e = absurd (omega (arith, e, call.from_one))
    by (suc index) e =
        let at : frame.index - 1 ≡ index = omega (arith, e) in
        let found : call_at calls (suc place) (suc index) ≡ Some frame.call = ap (λ o. option_and_then (λ (cs : List Call). slice_get cs index) o) files ∙ ap (slice_get (get_or calls place [])) (sym at) ∙ call.begun in
        ap (λ o. option_map_or (λ (op : OpDecl). op.allocs) (option_and_then (λ (k : Call). slice_get (source_of plan).ops k.op) o) 0) found

module _ (plan : Plan) (core : Core) (calls : Calls) (caller : ℕ) (is : IsPlan plan) (lawful : IsLawful plan core calls) (sound : IsSound plan core calls) (tidy : (frame_of core.world caller).loose ≡ [])
    (called : (frame_of core.world caller).stage ≡ stages.Called) (few : (frame_of core.world caller).spares < allocs_of plan (frame_of core.world caller).call) (short : core.pool.free < allocs_of plan (frame_of core.world caller).call) where
  abbrev heap : Heap
  heap = core.world.heap

  abbrev frame : Frame
  frame = frame_of core.world caller

  abbrev account : Account
  account = account_of core caller

  abbrev need : ℕ
  need = allocs_of plan frame.call

  abbrev next : Frame
  next = refused frame

  abbrev r : Refusal
  r = refusal_of caller frame.index need core.pool

  abbrev account' : Account
  account' = record account { refusals = account.refusals ++ r ∷ [] }

  abbrev pool' : Pool
  pool' = pool_refused caller r account core.pool

  pub one : IsCaller plan caller
  one = is_caller plan core calls caller is lawful sound tidy called

  abbrev world' : Shared
  world' = world plan core calls caller lawful sound one next

  abbrev after : Core
  after = record { world = world'; clock = core.clock; pool = pool' }

  waiting : WaitsNow plan core calls caller is lawful sound
  waiting = w plan core calls caller is lawful sound tidy called

  no_ticket : frame.ticket ≡ 0
  no_ticket = zero_ticket plan core calls caller is lawful sound tidy called

  none_yet : (frame.spares ≡ 0) × (frame.taken ≡ 0)
  none_yet = by waiting.waiting.places
    where
      allocs_is : need ≡ waiting.call.op.allocs
      allocs_is = ap (λ d. option_map_or (λ (o : OpDecl). o.allocs) d 0) waiting.call.declared

      by : (frame.spares ≡ waiting.call.op.allocs) ⊎ ((frame.spares ≡ 0) × (frame.taken ≡ 0)) → (frame.spares ≡ 0) × (frame.taken ≡ 0)
      by (inl e) = absurd (omega (arith, e, few, allocs_is))
      by (inr e) = e

  unreserved : account.reserved_at ≡ 0
  unreserved = none_reserved plan core calls caller is lawful sound tidy called none_yet.0

  not_held : (n : Name) → IsHeld heap caller n → ⊥
  not_held n h = let t = lawful.who_holds.roots caller n no_ticket h in omega (arith, t.within, none_yet.1)

  of_each : (P : ℕ → Frame → Type 0) → P caller next → ((d : ℕ) → d ≢ caller → P d (frame_of core.world d)) → (d : ℕ) → P d (frame_of world' d)
  of_each = for_each plan core calls caller lawful sound one next

  inside : caller < length core.pool.accounts
  inside = within plan core calls caller is lawful sound tidy called

  account_mine : account_of after caller ≡ account'
  account_mine = get_or-set_same core.pool.accounts caller account' no_account inside

  account_other : (d : ℕ) → d ≢ caller → account_of after d ≡ account_of core d
  account_other d other = get_or-set_other core.pool.accounts caller d account' no_account other

  accounts : (P : ℕ → Account → Type 0) → P caller account' → ((d : ℕ) → d ≢ caller → P d (account_of core d)) → (d : ℕ) → P d (account_of after d)
  accounts P mine theirs d = elim (same_number d caller) [
    | inl same ↦ subst (λ c. P c (account_of after c)) (sym same) (subst (P caller) (sym account_mine) mine)
    | inr other ↦ subst (P d) (sym (account_other d other)) (theirs d other)
  ]

  fin : (d : ℕ) → (frame_of world' d).finished ≡ (frame_of core.world d).finished
  fin = of_each (λ d f. f.finished ≡ (frame_of core.world d).finished) refl (λ d other. refl)

  tickets_kept : (d : ℕ) → (frame_of world' d).ticket ≡ (frame_of core.world d).ticket
  tickets_kept = of_each (λ d f. f.ticket ≡ (frame_of core.world d).ticket) (sym no_ticket) (λ d other. refl)

  versions_same : (d : ℕ) → (account_of after d).versions ≡ (account_of core d).versions
  versions_same = accounts (λ d a. a.versions ≡ (account_of core d).versions) refl (λ d other. refl)

  entries_same : (d : ℕ) → entries_of after d ≡ entries_of core d
  entries_same d = λ i. map (entry_of d) (zip (fin d i) (versions_same d i))

  hands_same : (d : ℕ) → move_in_hand plan after d ≡ move_in_hand plan core d
  hands_same d = elim (same_number d caller) [
    | inl same ↦ subst (λ c. move_in_hand plan after c ≡ move_in_hand plan core c) (sym same) (none_at after (ap (λ (a : Account). a.reserved_at) account_mine ∙ unreserved) ∙ sym (none_at core unreserved))
    | inr other ↦ λ i.
        if nat_lt 0 (account_other d other i).reserved_at
        then record { version = (account_other d other i).reserved_at; change = pos 0 -ℤ pos (allocs_of plan (frame_other plan core calls caller lawful sound one next d other i).call); ticket = tickets_kept d i } ∷ []
        else []
  ]
    where
      none_at : (c : Core) → (account_of c caller).reserved_at ≡ 0 → move_in_hand plan c caller ≡ []
      none_at c e = ap (λ n. if nat_lt 0 n then record { version = (account_of c caller).reserved_at; change = pos 0 -ℤ pos (allocs_of plan (frame_of c.world caller).call); ticket = (frame_of c.world caller).ticket } ∷ [] else []) e

  moves_same : moves_in plan after calls ≡ moves_in plan core calls
  moves_same = λ i. flat_map (λ d. moves_of (source_of plan) calls (entries_same d i) ++ hands_same d i) (callers_of plan)

  own : IsOwnTurn plan heap calls caller next
  own = record {
    book = record { booked = λ n k e. absurd (no_some (sym (get-empty name_cmp n) ∙ e)); all = λ n h. absurd (not_held n h) };
    stands = idles refl;
    ready = refl;
    held = λ e. absurd (omega (arith, e));
    why = λ e. absurd (omega (arith, e));
    hidden = λ n h. absurd (not_held n h);
    are_roots = λ z n h. absurd (not_held n h);
    has_roots = λ z n t. absurd (omega (arith, t.within));
    idle = λ e. not_held;
    roots = λ n h. absurd (not_held n h);
  }

  sums : (g : Frame → ℕ) → sum_by g world'.frames + g frame ≡ sum_by g core.world.frames + g next
  sums = sum_changed plan core calls caller lawful sound one next

  totals : AddUp plan after calls
  totals = record {
    places = omega (arith, sums (λ (f : Frame). f.spares), none_yet.0, lawful.totals.places);
    enough = of_each (λ d f. IsEntered f → allocs_of plan f.call ≤ f.spares + f.made) (λ e. absurd (omega (arith, e))) (λ d other. lawful.totals.enough d);
    sizes = lawful.totals.sizes;
    clock =
        let same : one_if_entered frame ≡ 0 = ap (λ n. if nat_lt 0 n then 1 else 0) no_ticket in
        omega (arith, sums (λ (f : Frame). length f.finished + one_if_entered f), same, lawful.totals.clock);
    version = omega (arith, sums (λ (f : Frame). length f.finished), sum_by-set one_if_reserved core.pool.accounts caller account' no_account inside, lawful.totals.version);
  }

  tickets : HasTickets plan after
  tickets =
      let same : tickets_of world' ≡ tickets_of core.world = flat_map_same _ world'.frames core.world.frames (length-set core.world.frames caller next)
      (λ d. λ i. map (λ (kept : Finished). kept.ticket) (fin d i) ++ (if nat_lt 0 (tickets_kept d i) then tickets_kept d i ∷ [] else [])) in
      record {
        range = subst (All (λ ticket. (greatest_ticket plan.heap < ticket) × (ticket ≤ core.clock))) (sym same) sound.tickets.range;
        each_once = λ ticket low high. ap (count_by (λ other. other == ticket)) same ∙ sound.tickets.each_once ticket low high;
        own = subst IsOwn (λ i d. sym (tickets_kept d) i) sound.tickets.own;
        names = sound.tickets.names;
        seals = sound.tickets.seals;
      }

  is_due : IsDue (source_of plan) calls plan.places plan.heap (moves_in plan core calls) r
  is_due = record {
    need = sym (call_found plan calls caller frame sound.lists one waiting.call);
    found = sound.log.free;
    short = short;
    seen = omega (arith, sound.log.count);
  }

  log : HasLog plan after calls
  log = record {
    count = ap length moves_same ∙ sound.log.count;
    in_range = subst (All (λ (move : Move). (1 ≤ move.version) × (move.version ≤ core.pool.version))) (sym moves_same) sound.log.in_range;
    each_once = λ v low high. ap (count_by (λ (move : Move). move.version == v)) moves_same ∙ sound.log.each_once v low high;
    free = subst (λ ms. pos core.pool.free ≡ free_at plan.places plan.heap ms core.pool.version) (sym moves_same) sound.log.free;
    never_negative = λ v low. subst (λ ms. pos 0 ≤ℤ free_at plan.places plan.heap ms v) (sym moves_same) (sound.log.never_negative v low);
    due = λ d. subst (λ ms. All (IsDue (source_of plan) calls plan.places plan.heap ms) (refusals_of after d)) (sym moves_same)
        (accounts (λ c a. All (IsDue (source_of plan) calls plan.places plan.heap (moves_in plan core calls)) a.refusals)
        (All-push (IsDue (source_of plan) calls plan.places plan.heap (moves_in plan core calls)) account.refusals r (sound.log.due caller) is_due) (λ c other. sound.log.due c) d);
  }

  frame_mine : frame_of world' caller ≡ next
  frame_mine = frame_own plan core calls caller lawful sound one next

  refusals_mine : refusals_of after caller ≡ account.refusals ++ r ∷ []
  refusals_mine = ap (λ (a : Account). a.refusals) account_mine

  history_mine : HasHistory plan after calls caller
  history_mine =
      let h = (sound.each caller).history in
      record {
        begun = ap (λ (f : Frame). f.index) frame_mine ∙ h.begun;
        each_once = λ i low high.
            let once = h.each_once i low (omega (arith, high, ap (λ (f : Frame). f.index) frame_mine)) in
            let p : Refusal → Bool = λ refusal. (refusal.caller == caller) && (refusal.index == i) in
            let more : refusals_of_call caller i (refusals_of after caller) ≡ count_by p account.refusals + count_by p (r ∷ []) = ap (refusals_of_call caller i) refusals_mine ∙ sum_by-append (λ x. cond (p x) 1 0) account.refusals (r ∷ []) in
            let new : count_by p (r ∷ []) ≡ (if frame.index == i then 1 else 0) = one_more i in
            let was : in_hand_at frame i frame.stage ≡ (if frame.index == i then 1 else 0) = ap (in_hand_at frame i) called in
            let now : in_hand_at (frame_of world' caller) i (frame_of world' caller).stage ≡ 0 = ap (λ (f : Frame). in_hand_at f i f.stage) frame_mine in
            omega (arith, once, more, new, was, now, ap (runs_of caller i) (entries_same caller));
        in_range = subst (λ (f : Frame). All (λ (kept : Finished). (0 < kept.index) × (kept.index ≤ f.index)) f.finished) (sym frame_mine) h.in_range;
        rises = subst (λ (f : Frame). AllPairs (λ (earlier later : Finished). earlier.index < later.index) f.finished) (sym frame_mine) h.rises;
        refused = subst (λ (f : Frame). All (λ (refusal : Refusal). refusal.index ≤ f.index) (refusals_of after caller)) (sym frame_mine)
            (subst (All (λ (refusal : Refusal). refusal.index ≤ frame.index)) (sym refusals_mine) (All-push (λ (refusal : Refusal). refusal.index ≤ frame.index) account.refusals r h.refused (omega arith)));
        versions = ap length (versions_same caller) ∙ h.versions ∙ ap length (sym (fin caller));
        reserved = λ z. subst (λ (a : Account). (0 < a.reserved_at) ↔ (0 < (frame_of world' caller).spares)) (sym account_mine)
            (subst (λ (f : Frame). (0 < account.reserved_at) ↔ (0 < f.spares)) (sym frame_mine) (λ some. omega (arith, some, unreserved), λ some. absurd (omega (arith, some))));
        entered = λ e. absurd (omega (arith, e, ap (λ (f : Frame). f.ticket) frame_mine));
      }
    where
      one_more : (i : ℕ) → count_by (λ (refusal : Refusal). (refusal.caller == caller) && (refusal.index == i)) (r ∷ []) ≡ (if frame.index == i then 1 else 0)
      one_more i = sum_by-cons (λ (x : Refusal). cond ((x.caller == caller) && (x.index == i)) 1 0) r [] ∙ by ((caller == caller) && (frame.index == i)) (frame.index == i) (ap (λ b. b && (frame.index == i)) itself)
        where
          itself : (caller == caller) ≡ true
          itself = grind (arith, nat_tests)

          by : (b c : Bool) → b ≡ c → cond b 1 0 + sum_by (λ (x : Refusal). cond ((x.caller == caller) && (x.index == i)) 1 0) [] ≡ cond c 1 0
          by b c e = ap {B = ℕ} (λ d. cond d 1 0 + 0) e ∙ (omega arith)

  order_mine : KeepsOrder plan after calls caller
  order_mine =
      let o = (sound.each caller).order in
      record {
        within = subst (All (λ (entry : Entry). IsStrictlyIncreasing (versions_of (source_of plan) calls entry))) (sym (entries_same caller)) o.within;
        along = λ a b x y less. o.along a b (subst (λ es. Contains es a) (entries_same caller) x) (subst (λ es. Contains es b) (entries_same caller) y) less;
        not_before = λ e q x y less.
            let x' = subst (λ es. Contains es e) (entries_same caller) x in
            elim (Contains-push_cases account.refusals r q (subst (λ rs. Contains rs q) refusals_mine y)) [
              | inl old ↦ o.not_before e q x' old less
              | inr new ↦ λ k d lt.
                  let low = All-contains (λ (entry : Entry). All (λ version. version < core.pool.version + 1) (versions_of (source_of plan) calls entry)) (entries_of core caller) e (versions_low plan core calls sound.log caller one) x' in
                  omega (arith, low k d lt, ap (λ (z : Refusal). z.version) new)
            ];
        before = λ e q x y less.
            let x' = subst (λ es. Contains es e) (entries_same caller) x in
            elim (Contains-push_cases account.refusals r q (subst (λ rs. Contains rs q) refusals_mine y)) [
              | inl old ↦ o.before e q x' old less
              | inr new ↦
                  let low = All-contains (λ (entry : Entry). entry.index ≤ frame.index) (entries_of core caller) e (entries_within plan core calls caller (sound.each caller).history) x' in
                  absurd (omega (arith, less, low, ap (λ (z : Refusal). z.index) new))
            ];
        in_hand = λ some. absurd (omega (arith, some, ap (λ (a : Account). a.reserved_at) account_mine, unreserved));
      }

  pub refuse_kept : IsKept plan (refuses core caller frame need).0 calls
  refuse_kept =
      turned_kept plan core calls caller lawful sound one next core.clock pool' calls own (λ d other s. s) (subst (IsApart heap) (λ i d. sym (tickets_kept d) i) lawful.older_reach) totals
      (length-set core.pool.accounts caller account' ∙ sound.accounts) sound.lists history order tickets log
    where
      same_frame : (d : ℕ) → d ≢ caller → frame_of world' d ≡ frame_of core.world d
      same_frame d other = frame_other plan core calls caller lawful sound one next d other

      history : (d : ℕ) → HasHistory plan after calls d
      history d = elim (same_number d caller) [
        | inl same ↦ subst (HasHistory plan after calls) (sym same) history_mine
        | inr other ↦
            history_as plan core after calls d (ap (λ (f : Frame). f.index) (same_frame d other)) (fin d) (entries_same d) (ap (λ (a : Account). a.refusals) (account_other d other)) (ap length (versions_same d))
            (λ i. ap (λ (f : Frame). in_hand_at f i f.stage) (same_frame d other))
            (subst (λ (f : Frame). f.ticket ≡ 0 → (0 < (account_of after d).reserved_at) ↔ (0 < f.spares)) (sym (same_frame d other)) (subst (λ (a : Account). (frame_of core.world d).ticket ≡ 0 → (0 < a.reserved_at) ↔ (0 < (frame_of core.world d).spares)) (sym (account_other d other)) (sound.each d).history.reserved))
            (subst (λ (f : Frame). IsEntered f → (0 < (account_of after d).reserved_at) ↔ (0 < allocs_of plan f.call)) (sym (same_frame d other)) (subst (λ (a : Account). IsEntered (frame_of core.world d) → (0 < a.reserved_at) ↔ (0 < allocs_of plan (frame_of core.world d).call)) (sym (account_other d other)) (sound.each d).history.entered))
            (sound.each d).history
      ]

      order : (d : ℕ) → KeepsOrder plan after calls d
      order d = elim (same_number d caller) [
        | inl same ↦ subst (KeepsOrder plan after calls) (sym same) order_mine
        | inr other ↦
            order_as plan core after calls d (entries_same d) (ap (λ (a : Account). a.refusals) (account_other d other))
            (subst (λ (a : Account). 0 < a.reserved_at → All (λ (entry : Entry). All (λ version. version < a.reserved_at) (versions_of (source_of plan) calls entry)) (entries_of core d) × All (λ (refusal : Refusal). refusal.version < a.reserved_at) (refusals_of core d)) (sym (account_other d other)) (sound.each d).order.in_hand)
            (sound.each d).order
      ]
