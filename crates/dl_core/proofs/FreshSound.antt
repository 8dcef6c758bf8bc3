-- The state in which a run starts is sound.
use Rattle.std.proofs.Common.{◌≡◌, ℕ, zero, suc, ◌+◌, ◌-◌, ◌<◌, ◌≤◌, true, false, List, [], ◌∷◌, ◌++◌, length, replicate, Some, refl, sym, ap, subst, ◌∙◌, arith}
use Rattle.std.specs.Prelude.{◌-ℤ◌, ◌≤ℤ◌, pos, map, nat_lt, All, AllPairs, Contains, if◌then◌else◌}
use Rattle.std.specs.List.{flat_map, zip}
use Rattle.std.specs.FinMap as finite
use Rattle.std.specs.FinMap.{get-empty}
use Rattle.dl_ir.specs.declared.names.Name.{Name}
use Rattle.dl_ir.specs.declared.objects.Obj.{Obj}
use Rattle.dl_ir.specs.Heap.{IsHidden, hidden_count, name_cmp}
use Rattle.dl_shape.specs.Pool.{moves_of, free_at}
use Rattle.dl_shape.specs.Replay.{greatest_ticket}
use Rattle.dl_core.specs.declared.objects.Mark.TheVariants.{Free, Sealed}
use Rattle.dl_core.specs.declared.objects.Object.{Object}
use Rattle.dl_core.specs.declared.stages.Finished.{Finished}
use Rattle.dl_meaning.proofs.Left.{below_next}
use Rattle.std.proofs.lemmas.List.{length-replicate}
use Rattle.dl_core.specs.Heaps.{marked, first_mark}
use Rattle.dl_core.specs.Plans.{Plan, IsPlan, source_of, allocs_of}
use Rattle.dl_core.specs.Frames.{Frame, idle}
use Rattle.dl_core.specs.LocalSteps.{IsReady}
use Rattle.dl_core.specs.Core.{Account, no_account, entry_of, frame_of, account_of, entries_of, refusals_of, fresh}
use Rattle.dl_core.specs.Reached.{no_calls, calls_of}
use Rattle.dl_core.specs.Laws.{IsKept}
use Rattle.dl_core.specs.Sound.{IsSound, HasBook, Stands, idles, HasHistory, KeepsOrder, HasTickets, HasLog, moves_in, move_in_hand, callers_of, tickets_of, ticket_in_hand}
use Rattle.dl_core.proofs.Names.{same_some, no_some}
use Rattle.dl_lemmas.proofs.Places.{same_everywhere}
use Rattle.dl_core.proofs.Fresh.{fresh_frame, fresh_heap, fresh_unheld, from_start, fresh_lawful, nothing_begun}

module _ (plan : Plan) (is : IsPlan plan) where
  fresh_account : (d : ℕ) → account_of (fresh plan) d ≡ no_account
  fresh_account d = same_everywhere (length plan.sizes + 1) d no_account

  no_entries : (d : ℕ) → entries_of (fresh plan) d ≡ []
  no_entries d = λ i. map (entry_of d) (zip (fresh_frame plan is d i).finished (fresh_account d i).versions)

  no_refusals : (d : ℕ) → refusals_of (fresh plan) d ≡ []
  no_refusals d = ap (λ (a : Account). a.refusals) (fresh_account d)

  no_moves : moves_in plan (fresh plan) (no_calls plan) ≡ []
  no_moves = by (callers_of plan)
    where
      one : (d : ℕ) → moves_of (source_of plan) (no_calls plan) (entries_of (fresh plan) d) ++ move_in_hand plan (fresh plan) d ≡ []
      one d = λ i.
          moves_of (source_of plan) (no_calls plan) (no_entries d i)
          ++ (if nat_lt 0 (fresh_account d i).reserved_at
          then record { version = (fresh_account d i).reserved_at; change = pos 0 -ℤ pos (allocs_of plan (fresh_frame plan is d i).call); ticket = (fresh_frame plan is d i).ticket } ∷ []
          else [])

      by : (ds : List ℕ) → flat_map (λ d. moves_of (source_of plan) (no_calls plan) (entries_of (fresh plan) d) ++ move_in_hand plan (fresh plan) d) ds ≡ []
      by [] = refl
      by (d ∷ ds) = λ i. one d i ++ by ds i

  no_tickets : tickets_of (fresh plan).world ≡ []
  no_tickets = by (length plan.sizes + 1)
    where
      by : (n : ℕ) → flat_map (λ (frame : Frame). map (λ (kept : Finished). kept.ticket) frame.finished ++ ticket_in_hand frame) (replicate n idle) ≡ []
      by zero = refl
      by (suc n) = by n

  index_zero : (d : ℕ) → (frame_of (fresh plan).world d).index ≡ 0
  index_zero d = ap (λ (f : Frame). f.index) (fresh_frame plan is d)

  ticket_zero : (d : ℕ) → (frame_of (fresh plan).world d).ticket ≡ 0
  ticket_zero d = ap (λ (f : Frame). f.ticket) (fresh_frame plan is d)

  none_all : {X : Type 0} (P : X → Type 0) (xs : List X) → xs ≡ [] → All P xs
  none_all P xs e = subst (All P) (sym e) (λ k d lt. absurd (omega (arith, lt)))

  nothing_in : {X : Type 0} (xs : List X) (x : X) → xs ≡ [] → Contains xs x → ⊥
  nothing_in xs x e has = omega (arith, has.1, ap length e)

  fresh_history : (d : ℕ) → HasHistory plan (fresh plan) (no_calls plan) d
  fresh_history d = record {
    begun = index_zero d ∙ sym (by d);
    each_once = λ index low high. absurd (omega (arith, low, high, index_zero d));
    in_range = λ k' d' lt. absurd (omega (arith, lt, ap length (no_finished)));
    rises = subst (AllPairs (λ (earlier later : Finished). earlier.index < later.index)) (sym no_finished) (λ i j e lt lt'. absurd (omega (arith, lt')));
    refused = λ k' d' lt. absurd (omega (arith, lt, ap length (no_refusals d)));
    versions = ap (λ (a : Account). length a.versions) (fresh_account d) ∙ ap length (sym no_finished);
    reserved = λ z. (λ some. absurd (omega (arith, some, ap (λ (a : Account). a.reserved_at) (fresh_account d))), λ some. absurd (omega (arith, some, ap (λ (f : Frame). f.spares) (fresh_frame plan is d))));
    entered = λ e. absurd (omega (arith, e, ticket_zero d));
  }
    where
      no_finished : (frame_of (fresh plan).world d).finished ≡ []
      no_finished = ap (λ (f : Frame). f.finished) (fresh_frame plan is d)

      by : (d : ℕ) → length (calls_of (no_calls plan) d) ≡ 0
      by zero = refl
      by (suc place) = nothing_begun (length plan.sizes) place

  fresh_order : (d : ℕ) → KeepsOrder plan (fresh plan) (no_calls plan) d
  fresh_order d = record {
    within = λ k' d' lt. absurd (omega (arith, lt, ap length (no_entries d)));
    along = λ a b x y less. absurd (nothing_in (entries_of (fresh plan) d) a (no_entries d) x);
    not_before = λ e r x y less. absurd (nothing_in (entries_of (fresh plan) d) e (no_entries d) x);
    before = λ e r x y less. absurd (nothing_in (entries_of (fresh plan) d) e (no_entries d) x);
    in_hand = λ some. absurd (omega (arith, some, ap (λ (a : Account). a.reserved_at) (fresh_account d)));
  }

  fresh_tickets : HasTickets plan (fresh plan)
  fresh_tickets = record {
    range = λ k' d' lt. absurd (omega (arith, lt, ap length (no_tickets)));
    each_once = λ ticket low high. absurd (omega (arith, low, high));
    own = λ i j some same. absurd (omega (arith, some, ticket_zero j));
    names = λ n object e. let o = from_start plan is n object e in omega (arith, below_next plan.heap n o.0 o.1);
    seals = λ n object t e m.
        let o = from_start plan is n object e in
        by n o.0 o.1 o.0.sealed refl (sym (ap (λ (x : Object). x.mark) o.2) ∙ m);
  }
    where
      hidden : (n : Name) (o : Obj) → finite.get plan.heap n ≡ Some o → o.sealed ≡ true → (t : ℕ) → n.ticket ≡ t → IsHidden n
      hidden n o e s (suc t) z = omega (arith, z)
      hidden n o e s zero z =
          let root = is.start.startable.of_module.roots o.kind n (is.start.startable.of_module.exposed n o e z) in
          let clash : true ≡ false = sym s ∙ ap (λ (x : Obj). x.sealed) (same_some (sym e ∙ root.1)) ∙ root.3 in
          absurd (cc)

      sealed_zero : {t : ℕ} → Sealed 0 ≡ Sealed t → 0 ≡ t
      sealed_zero e = cc

      by : (n : Name) (o : Obj) → finite.get plan.heap n ≡ Some o → (b : _) → o.sealed ≡ b → {t : ℕ} → first_mark b ≡ Sealed t → (t ≤ greatest_ticket plan.heap) × IsHidden n
      by n o e true s m = let z = sealed_zero m in (omega (arith, z), hidden n o e s n.ticket refl)
      by n o e false s m = absurd (let clash : Free ≡ Sealed _ = m in cc)

  fresh_log : HasLog plan (fresh plan) (no_calls plan)
  fresh_log = record {
    count = ap length no_moves;
    in_range = λ k' d' lt. absurd (omega (arith, lt, ap length no_moves));
    each_once = λ v low high. absurd (omega (arith, low, high));
    free = enough plan.places (hidden_count plan.heap) is.start.room ∙ ap (λ ms. free_at plan.places plan.heap ms 0) (sym no_moves);
    never_negative = λ v low. subst (λ ms. pos 0 ≤ℤ free_at plan.places plan.heap ms v) (sym no_moves) (some plan.places (hidden_count plan.heap) is.start.room);
    due = λ d. λ k' d' lt. absurd (omega (arith, lt, ap length (no_refusals d)));
  }
    where
      enough : (a b : ℕ) → b ≤ a → pos (a - b) ≡ pos a -ℤ pos b
      enough a b le = grind arith

      some : (a b : ℕ) → b ≤ a → pos 0 ≤ℤ (pos a -ℤ pos b)
      some a b le = grind arith

  fresh_sound : IsSound plan (fresh plan) (no_calls plan)
  fresh_sound = record {
    heap = fresh_heap plan is;
    holders = λ d n held. absurd (fresh_unheld plan is d n held);
    frames = length-replicate (length plan.sizes + 1) idle;
    accounts = length-replicate (length plan.sizes + 1) no_account;
    lists = length-replicate (length plan.sizes) [];
    nobody = λ d other. ap (λ (f : Frame). f.stage) (fresh_frame plan is d);
    each = λ d. record {
      book = subst (HasBook (marked plan.heap) d) (sym (fresh_frame plan is d)) (record { booked = λ n k e. absurd (no_some (sym (get-empty name_cmp n) ∙ e)); all = λ n held. absurd (fresh_unheld plan is d n held) });
      stands = subst (Stands plan (marked plan.heap) (no_calls plan) d) (sym (fresh_frame plan is d)) (idles refl);
      ready = subst (IsReady plan) (sym (fresh_frame plan is d)) refl;
      roots = λ n held. absurd (fresh_unheld plan is d n held);
      history = fresh_history d;
      order = fresh_order d;
    };
    tickets = fresh_tickets;
    log = fresh_log;
  }

  -- the state in which a run starts is lawful and sound
  pub fresh_kept : IsKept plan (fresh plan) (no_calls plan)
  fresh_kept = record { lawful = fresh_lawful plan is; sound = fresh_sound }
