-- What rests on the parts of frames that most steps leave alone: the log of the pool, the history of each caller, tickets.
use Rattle.std.proofs.Common.{◌≡◌, ℕ, suc, ◌<◌, ◌≤◌, ℤ, true, false, cond, List, [], ◌∷◌, ◌++◌, length, get_or, refl, sym, ap, subst, ◌∙◌, arith}
use Rattle.std.specs.Prelude.{◌-ℤ◌, ◌≤ℤ◌, ◌==◌, ◌↔◌, pos, count_by, map, nat_lt, if◌then◌else◌, All, AllPairs, Contains, fold, filter, nat_le, ◌+ℤ◌}
use Rattle.std.specs.List.{flat_map, zip}
use Rattle.std.specs.List.Sorted.{IsStrictlyIncreasing}
use Rattle.dl_ir.specs.declared.answers.Entry.{Entry}
use Rattle.dl_ir.specs.declared.answers.Refusal.{Refusal}
use Rattle.dl_ir.specs.declared.moves.Move.{Move}
use Rattle.std.proofs.lemmas.List.Elements.{All-cons, All-head, All-tail, All-weaker}
use Rattle.std.proofs.lemmas.List.Sums.{sum_by-cons}
use Rattle.dl_ir.specs.Cover.{runs_of}
use Rattle.dl_ir.specs.Heap.{Objects, hidden_count}
use Rattle.dl_shape.specs.Pool.{moves_of, versions_of, IsDue, free_at}
use Rattle.dl_core.specs.declared.stages.Finished.{Finished}
use Rattle.dl_core.specs.Plans.{Plan, source_of, allocs_of}
use Rattle.dl_core.specs.Frames.{Frame, IsEntered, idle}
use Rattle.dl_core.specs.Core.{Core, Pool, no_account, Shared, entry_of, frame_of, account_of, entries_of, refusals_of}
use Rattle.dl_core.specs.Reached.{Calls}
use Rattle.dl_core.specs.Sound.{in_hand_at, HasHistory, KeepsOrder, HasLog, move_in_hand, moves_in, callers_of, tickets_of}

-- a call, how many were begun, a ticket, and what is finished
pub record IsPublic (before after : Frame) : Type 0 where
  pub call : after.call ≡ before.call
  pub index : after.index ≡ before.index
  pub ticket : after.ticket ≡ before.ticket
  pub finished : after.finished ≡ before.finished

pub itself : (frame : Frame) → IsPublic frame frame
itself frame = record { call = refl; index = refl; ticket = refl; finished = refl }

pub flat_map_same : {Y : Type 0} (g : Frame → List Y) (xs ys : List Frame) → length xs ≡ length ys → ((d : ℕ) → g (get_or xs d idle) ≡ g (get_or ys d idle)) → flat_map g xs ≡ flat_map g ys
flat_map_same g [] [] l e = refl
flat_map_same g [] (y ∷ ys) l e = absurd (omega (arith, l))
flat_map_same g (x ∷ xs) [] l e = absurd (omega (arith, l))
flat_map_same g (x ∷ xs) (y ∷ ys) l e = λ i. e 0 i ++ flat_map_same g xs ys (omega (arith, l)) (λ d. e (suc d)) i

module _ (plan : Plan) (core : Core) (world : Shared) (calls : Calls) (same : (d : ℕ) → IsPublic (frame_of core.world d) (frame_of world d)) where
  abbrev after : Core
  after = record core { world = world }

  pub entries_same : (d : ℕ) → entries_of after d ≡ entries_of core d
  entries_same d = ap (λ kept. map (entry_of d) (zip kept (account_of core d).versions)) (same d).finished

  pub tickets_same : length world.frames ≡ length core.world.frames → tickets_of world ≡ tickets_of core.world
  tickets_same l = flat_map_same _ world.frames core.world.frames l (λ d. λ i. map (λ (kept : Finished). kept.ticket) ((same d).finished i) ++ (if nat_lt 0 ((same d).ticket i) then (same d).ticket i ∷ [] else []))

  hand_moves_same : (d : ℕ) → move_in_hand plan after d ≡ move_in_hand plan core d
  hand_moves_same d = λ i.
      if nat_lt 0 (account_of core d).reserved_at
      then record { version = (account_of core d).reserved_at; change = pos 0 -ℤ pos (allocs_of plan ((same d).call i)); ticket = (same d).ticket i } ∷ []
      else []

  pub moves_same : moves_in plan after calls ≡ moves_in plan core calls
  moves_same = λ i. flat_map (λ d. moves_of (source_of plan) calls (entries_same d i) ++ hand_moves_same d i) (callers_of plan)

  pub order_same : (d : ℕ) → KeepsOrder plan core calls d → KeepsOrder plan after calls d
  order_same d o =
      let back = sym (entries_same d) in
      record {
        within = subst (All (λ (entry : Entry). IsStrictlyIncreasing (versions_of (source_of plan) calls entry))) back o.within;
        along = λ a b x y less. o.along a b (subst (λ es. Contains es a) (entries_same d) x) (subst (λ es. Contains es b) (entries_same d) y) less;
        not_before = λ e r x y less. o.not_before e r (subst (λ es. Contains es e) (entries_same d) x) y less;
        before = λ e r x y less. o.before e r (subst (λ es. Contains es e) (entries_same d) x) y less;
        in_hand = λ some. let h = o.in_hand some in (subst (All (λ (entry : Entry). All (λ version. version < (account_of core d).reserved_at) (versions_of (source_of plan) calls entry))) back h.0, h.1);
      }

  pub log_same : HasLog plan core calls → HasLog plan after calls
  log_same l =
      let back = sym moves_same in
      record {
        count = ap length moves_same ∙ l.count;
        in_range = subst (All (λ (move : Move). (1 ≤ move.version) × (move.version ≤ core.pool.version))) back l.in_range;
        each_once = λ version low high. ap (count_by (λ (move : Move). move.version == version)) moves_same ∙ l.each_once version low high;
        free = l.free ∙ ap (λ ms. free_at plan.places plan.heap ms core.pool.version) back;
        never_negative = λ version low. subst (λ ms. pos 0 ≤ℤ free_at plan.places plan.heap ms version) back (l.never_negative version low);
        due = λ d. subst (λ ms. All (IsDue (source_of plan) calls plan.places plan.heap ms) (refusals_of core d)) back (l.due d);
      }

  pub history_same : (d : ℕ) → ((index : ℕ) → in_hand_at (frame_of world d) index (frame_of world d).stage ≡ in_hand_at (frame_of core.world d) index (frame_of core.world d).stage)
      → ((frame_of world d).ticket ≡ 0 → (frame_of world d).spares ≡ (frame_of core.world d).spares) → HasHistory plan core calls d → HasHistory plan after calls d
  history_same d hand spares h =
      let p = same d in
      record {
        begun = p.index ∙ h.begun;
        each_once = λ index low high.
            let once = h.each_once index low (omega (arith, high, p.index)) in
            let runs : runs_of d index (entries_of after d) ≡ runs_of d index (entries_of core d) = ap (runs_of d index) (entries_same d) in
            omega (arith, once, runs, hand index);
        in_range = subst (λ fin. All (λ (kept : Finished). (0 < kept.index) × (kept.index ≤ (frame_of world d).index)) fin) (sym p.finished)
            (subst (λ n. All (λ (kept : Finished). (0 < kept.index) × (kept.index ≤ n)) (frame_of core.world d).finished) (sym p.index) h.in_range);
        rises = subst (AllPairs (λ (earlier later : Finished). earlier.index < later.index)) (sym p.finished) h.rises;
        refused = subst (λ n. All (λ (refusal : Refusal). refusal.index ≤ n) (refusals_of core d)) (sym p.index) h.refused;
        versions = h.versions ∙ ap length (sym p.finished);
        reserved = λ z. let was = h.reserved (sym p.ticket ∙ z) in subst (λ n. (0 < (account_of core d).reserved_at) ↔ (0 < n)) (sym (spares z)) was;
        entered = λ e. let was = h.entered (subst (λ n. 0 < n) p.ticket e) in subst (λ c. (0 < (account_of core d).reserved_at) ↔ (0 < allocs_of plan c)) (sym p.call) was;
      }

-- the same where tickets differ
module _ (plan : Plan) (core : Core) (world : Shared) (clock : ℕ) (calls : Calls) (fin : (d : ℕ) → (frame_of world d).finished ≡ (frame_of core.world d).finished) where
  abbrev drawn : Core
  drawn = record core { world = world; clock = clock }

  pub entries_fin : (d : ℕ) → entries_of drawn d ≡ entries_of core d
  entries_fin d = ap (λ kept. map (entry_of d) (zip kept (account_of core d).versions)) (fin d)

  pub order_fin : (d : ℕ) → KeepsOrder plan core calls d → KeepsOrder plan drawn calls d
  order_fin d o =
      let back = sym (entries_fin d) in
      record {
        within = subst (All (λ (entry : Entry). IsStrictlyIncreasing (versions_of (source_of plan) calls entry))) back o.within;
        along = λ a b x y less. o.along a b (subst (λ es. Contains es a) (entries_fin d) x) (subst (λ es. Contains es b) (entries_fin d) y) less;
        not_before = λ e r x y less. o.not_before e r (subst (λ es. Contains es e) (entries_fin d) x) y less;
        before = λ e r x y less. o.before e r (subst (λ es. Contains es e) (entries_fin d) x) y less;
        in_hand = λ some. let h = o.in_hand some in (subst (All (λ (entry : Entry). All (λ version. version < (account_of core d).reserved_at) (versions_of (source_of plan) calls entry))) back h.0, h.1);
      }

  pub history_fin : (d : ℕ) → (frame_of world d).index ≡ (frame_of core.world d).index
      → ((index : ℕ) → in_hand_at (frame_of world d) index (frame_of world d).stage ≡ in_hand_at (frame_of core.world d) index (frame_of core.world d).stage)
      → ((frame_of world d).ticket ≡ 0 → (0 < (account_of core d).reserved_at) ↔ (0 < (frame_of world d).spares))
      → (IsEntered (frame_of world d) → (0 < (account_of core d).reserved_at) ↔ (0 < allocs_of plan (frame_of world d).call)) → HasHistory plan core calls d → HasHistory plan drawn calls d
  history_fin d index_same hand reserved entered h = record {
    begun = index_same ∙ h.begun;
    each_once = λ index low high.
        let once = h.each_once index low (omega (arith, high, index_same)) in
        let runs : runs_of d index (entries_of drawn d) ≡ runs_of d index (entries_of core d) = ap (runs_of d index) (entries_fin d) in
        omega (arith, once, runs, hand index);
    in_range = subst (λ kept. All (λ (k : Finished). (0 < k.index) × (k.index ≤ (frame_of world d).index)) kept) (sym (fin d))
        (subst (λ n. All (λ (kept : Finished). (0 < kept.index) × (kept.index ≤ n)) (frame_of core.world d).finished) (sym index_same) h.in_range);
    rises = subst (AllPairs (λ (earlier later : Finished). earlier.index < later.index)) (sym (fin d)) h.rises;
    refused = subst (λ n. All (λ (refusal : Refusal). refusal.index ≤ n) (refusals_of core d)) (sym index_same) h.refused;
    versions = h.versions ∙ ap length (sym (fin d));
    reserved = reserved;
    entered = entered;
  }

-- ---- moves but for their tickets

abbrev pub AreLike : List Move → List Move → Type 0
AreLike [] [] = Unit {0}
AreLike [] (y ∷ ys) = ⊥
AreLike (x ∷ xs) [] = ⊥
AreLike (x ∷ xs) (y ∷ ys) = (x.version ≡ y.version) × (x.change ≡ y.change) × AreLike xs ys

pub like_itself : (xs : List Move) → AreLike xs xs
like_itself [] = tt
like_itself (x ∷ xs) = (refl, refl, like_itself xs)

pub like_append : (ps qs xs ys : List Move) → AreLike ps qs → AreLike xs ys → AreLike (ps ++ xs) (qs ++ ys)
like_append [] [] xs ys l m = m
like_append [] (b ∷ bs) xs ys l m = absurd l
like_append (a ∷ ps) [] xs ys l m = absurd l
like_append (a ∷ ps) (b ∷ qs) xs ys l m = (l.0, l.1, like_append ps qs xs ys l.2 m)

pub like_length : (xs ys : List Move) → AreLike xs ys → length xs ≡ length ys
like_length [] [] l = refl
like_length [] (y ∷ ys) l = absurd l
like_length (x ∷ xs) [] l = absurd l
like_length (x ∷ xs) (y ∷ ys) l = omega (arith, like_length xs ys l.2)

pub like_all : (P : ℕ → Type 0) (xs ys : List Move) → AreLike xs ys → All (λ (move : Move). P move.version) xs → All (λ (move : Move). P move.version) ys
like_all P [] [] l a = a
like_all P [] (y ∷ ys) l a = absurd l
like_all P (x ∷ xs) [] l a = absurd l
like_all P (x ∷ xs) (y ∷ ys) l a = All-cons (λ (move : Move). P move.version) y ys (subst P l.0 (All-head (λ (move : Move). P move.version) x xs a)) (like_all P xs ys l.2 (All-tail (λ (move : Move). P move.version) x xs a))

pub like_count : (version : ℕ) (xs ys : List Move) → AreLike xs ys → count_by (λ (move : Move). move.version == version) xs ≡ count_by (λ (move : Move). move.version == version) ys
like_count version [] [] l = refl
like_count version [] (y ∷ ys) l = absurd l
like_count version (x ∷ xs) [] l = absurd l
like_count version (x ∷ xs) (y ∷ ys) l =
    let same : ◌≡◌ {A = ℕ} (cond (x.version == version) 1 0) (cond (y.version == version) 1 0) = ap {B = ℕ} (λ v. cond (v == version) 1 0) l.0 in
    omega (arith, sum_by-cons (λ (move : Move). cond (move.version == version) 1 0) x xs, sum_by-cons (λ (move : Move). cond (move.version == version) 1 0) y ys, same, like_count version xs ys l.2)

free_step : (version : ℕ) (from : ℤ) (x : Move) (xs : List Move)
    → fold (λ free (move : Move). free +ℤ move.change) from (filter (λ (move : Move). nat_le move.version version) (x ∷ xs))
    ≡ fold (λ free (move : Move). free +ℤ move.change) (cond (nat_le x.version version) (from +ℤ x.change) from) (filter (λ (move : Move). nat_le move.version version) xs)
free_step version from x xs =
    elim (nat_le x.version version) as (λ b. fold (λ free (move : Move). free +ℤ move.change) from (cond b (x ∷ filter (λ (move : Move). nat_le move.version version) xs) (filter (λ (move : Move). nat_le move.version version) xs))
    ≡ fold (λ free (move : Move). free +ℤ move.change) (cond b (from +ℤ x.change) from) (filter (λ (move : Move). nat_le move.version version) xs)) [
      | true ↦ refl
      | false ↦ refl
    ]

like_free : (version : ℕ) (from : ℤ) (xs ys : List Move) → AreLike xs ys
    → fold (λ free (move : Move). free +ℤ move.change) from (filter (λ (move : Move). nat_le move.version version) xs) ≡ fold (λ free (move : Move). free +ℤ move.change) from (filter (λ (move : Move). nat_le move.version version) ys)
like_free version from [] [] l = refl
like_free version from [] (y ∷ ys) l = absurd l
like_free version from (x ∷ xs) [] l = absurd l
like_free version from (x ∷ xs) (y ∷ ys) l =
    let same : cond (nat_le x.version version) (from +ℤ x.change) from ≡ cond (nat_le y.version version) (from +ℤ y.change) from = λ i. cond (nat_le (l.0 i) version) (from +ℤ (l.1 i)) from in
    free_step version from x xs
    ∙ ap (λ start. fold (λ free (move : Move). free +ℤ move.change) start (filter (λ (move : Move). nat_le move.version version) xs)) same
    ∙ like_free version (cond (nat_le y.version version) (from +ℤ y.change) from) xs ys l.2
    ∙ sym (free_step version from y ys)

pub like_free_at : (places : ℕ) (heap : Objects) (version : ℕ) (xs ys : List Move) → AreLike xs ys → free_at places heap xs version ≡ free_at places heap ys version
like_free_at places heap version xs ys l = like_free version (pos places -ℤ pos (hidden_count heap)) xs ys l

-- the log of a pool, for moves that are the same but for their tickets
pub log_like : (plan : Plan) (core after : Core) (calls : Calls) → after.pool ≡ core.pool → AreLike (moves_in plan core calls) (moves_in plan after calls) → HasLog plan core calls → HasLog plan after calls
log_like plan core after calls pool l log =
    let ms = moves_in plan core calls in
    let ms' = moves_in plan after calls in
    let version : after.pool.version ≡ core.pool.version = ap (λ (p : Pool). p.version) pool in
    let at : (v : ℕ) → free_at plan.places plan.heap ms v ≡ free_at plan.places plan.heap ms' v = λ v. like_free_at plan.places plan.heap v ms ms' l in
    record {
      count = sym (like_length ms ms' l) ∙ log.count ∙ sym version;
      in_range = subst (λ v. All (λ (move : Move). (1 ≤ move.version) × (move.version ≤ v)) ms') (sym version) (like_all (λ v. (1 ≤ v) × (v ≤ core.pool.version)) ms ms' l log.in_range);
      each_once = λ v low high. sym (like_count v ms ms' l) ∙ log.each_once v low (omega (arith, high, version));
      free = ap (λ (p : Pool). pos p.free) pool ∙ log.free ∙ at core.pool.version ∙ ap (free_at plan.places plan.heap ms') (sym version);
      never_negative = λ v low. subst (λ z. pos 0 ≤ℤ z) (at v) (log.never_negative v (omega (arith, low, version)));
      due = λ d. subst (λ (p : Pool). All (IsDue (source_of plan) calls plan.places plan.heap ms') (get_or p.accounts d no_account).refusals) (sym pool)
          (All-weaker (IsDue (source_of plan) calls plan.places plan.heap ms) (IsDue (source_of plan) calls plan.places plan.heap ms')
          (λ r is. record { need = is.need; found = is.found ∙ at r.version; short = is.short; seen = omega (arith, is.seen, like_length ms ms' l) }) (refusals_of core d) (log.due d));
    }
