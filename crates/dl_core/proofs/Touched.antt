-- A change of one object and of one caller's frame keeps all that holds, if it keeps what holds of that caller.
use Rattle.std.proofs.Common.{◌≡◌, ◌≢◌, inl, inr, ℕ, ◌+◌, ◌<◌, ◌≤◌, length, Option, Some, refl, sym, ap, subst, ◌∙◌, arith}
use Rattle.std.specs.Prelude.{◌==◌, slice_get, count_by, sum_by, nat_lt, All, Contains, if◌then◌else◌}
use Rattle.std.specs.FinMap as finite
use Rattle.std.proofs.lemmas.List.{length-set, get_or-set_same, get_or-set_other}
use Rattle.std.proofs.lemmas.List.Sums.{sum_by-set}
use Rattle.dl_ir.specs.declared.names.Name.{Name}
use Rattle.dl_ir.specs.declared.names.Value.TheVariants.{Ref}
use Rattle.dl_ir.specs.Heap.{IsHeapOf, IsHidden, hidden_count}
use Rattle.dl_shape.specs.Replay.{greatest_ticket}
use Rattle.dl_core.specs.declared.objects.Mark.TheVariants.{Sealed}
use Rattle.dl_core.specs.declared.objects.Object.{Object}
use Rattle.dl_core.specs.declared.stages.Stage.{Stage}
use Rattle.dl_core.specs.declared.stages.Stage.TheVariants as stages
use Rattle.dl_core.specs.Heaps.{Heap, put_at, refs, plain, IsHeld}
use Rattle.dl_core.specs.Plans.{Plan, IsCaller, source_of, allocs_of, roots_of}
use Rattle.dl_core.specs.Frames.{Frame, IsEntered, idle}
use Rattle.dl_core.specs.LocalSteps.{IsReady}
use Rattle.dl_core.specs.Core.{Core, frame_of, acted}
use Rattle.dl_core.specs.Reached.{Calls}
use Rattle.dl_core.specs.Reach.{ticket_in}
use Rattle.dl_core.specs.Changes.{May, IsCounted, IsApart, IsOwn}
use Rattle.dl_core.specs.Lawful.{IsLawful, HasReason, for_a_local, for_fields, for_the_list, for_the_hand, IsTakenRoot, one_if_entered, AddUp, HoldInOrder}
use Rattle.dl_core.specs.Laws.{IsKept}
use Rattle.dl_core.specs.Sound.{IsSound, HasBook, Stands, idles, waits, works, HasTickets, in_hand_at}
use Rattle.dl_core.proofs.Names.{same_number}
use Rattle.dl_core.proofs.Public as public
use Rattle.dl_core.proofs.Public.{IsPublic, itself}
use Rattle.dl_core.proofs.Changed as changed
use Rattle.dl_core.proofs.Others as others

-- what holds of a caller after its event, and of the object that the event touched
pub record IsOwnKept (plan : Plan) (core : Core) (calls : Calls) (caller : ℕ) (name : Name) (left : Option Object) (next : Frame) : Type 0 where
  pub heap_is : IsHeapOf (source_of plan) (plain (put_at core.world.heap name left))
  pub public : IsPublic (frame_of core.world caller) next
  pub places : next.spares + hidden_count (plain (put_at core.world.heap name left)) ≡ (frame_of core.world caller).spares + hidden_count (plain core.world.heap)
  pub enough : (frame_of core.world caller).spares + (frame_of core.world caller).made ≤ next.spares + next.made
  pub book : HasBook (put_at core.world.heap name left) caller next
  pub stands : Stands plan (put_at core.world.heap name left) calls caller next
  pub ready : IsReady plan next
  pub was_busy : (frame_of core.world caller).stage ≢ stages.Idle
  pub busy : next.stage ≢ stages.Idle
  pub spares : next.ticket ≡ 0 → next.spares ≡ (frame_of core.world caller).spares
  pub held : IsEntered next → (local : ℕ) (n : Name) → slice_get next.locals local ≡ Some (Ref (Some n)) → IsHeld (put_at core.world.heap name left) caller n
  pub why : IsEntered next → (n : Name) → IsHeld (put_at core.world.heap name left) caller n → HasReason (put_at core.world.heap name left) next n
  pub hidden : (n : Name) → IsHeld (put_at core.world.heap name left) caller n → IsHidden n → IsEntered next
  pub are_roots : next.ticket ≡ 0 → (n : Name) → IsHeld (put_at core.world.heap name left) caller n → IsTakenRoot plan next n
  pub has_roots : next.ticket ≡ 0 → (n : Name) → IsTakenRoot plan next n → IsHeld (put_at core.world.heap name left) caller n
  pub roots : (n : Name) → IsHeld (put_at core.world.heap name left) caller n → n.ticket ≡ 0 → Contains (roots_of plan next.call) n.index
  pub names : (b : Object) → left ≡ Some b → name.ticket ≤ core.clock
  pub seals : (b : Object) (t : ℕ) → left ≡ Some b → b.mark ≡ Sealed t → (t ≤ core.clock) × IsHidden name

-- where a call is in hand, its index alone says so
in_hand_busy : (frame : Frame) (index : ℕ) (stage : Stage) → stage ≢ stages.Idle → in_hand_at frame index stage ≡ (if frame.index == index then 1 else 0)
in_hand_busy frame index stages.Idle busy = absurd (busy refl)
in_hand_busy frame index stages.Called busy = refl
in_hand_busy frame index stages.Running busy = refl
in_hand_busy frame index (stages.Ended end) busy = refl

module _ (plan : Plan) (core : Core) (calls : Calls) (caller : ℕ) (lawful : IsLawful plan core calls) (sound : IsSound plan core calls) (is_caller : IsCaller plan caller) (name : Name) (left : Option Object) (next : Frame)
    (row : May core.world.heap (ticket_in core.world) caller name (finite.get core.world.heap name) left) (own : IsOwnKept plan core calls caller name left next) where
  abbrev heap : Heap
  heap = core.world.heap

  abbrev frame : Frame
  frame = frame_of core.world caller

  abbrev heap' : Heap
  heap' = put_at heap name left

  abbrev after : Core
  after = acted core caller name (next, left)

  within : caller < length core.world.frames
  within = omega (arith, is_caller.to_last, sound.frames)

  frame_own : frame_of after.world caller ≡ next
  frame_own = get_or-set_same core.world.frames caller next idle within

  frame_other : (d : ℕ) → d ≢ caller → frame_of after.world d ≡ frame_of core.world d
  frame_other d other = get_or-set_other core.world.frames caller d next idle other

  for_each : (P : ℕ → Frame → Type 0) → P caller next → ((d : ℕ) → d ≢ caller → P d (frame_of core.world d)) → (d : ℕ) → P d (frame_of after.world d)
  for_each P mine theirs d = elim (same_number d caller) [
    | inl same ↦ subst (λ c. P c (frame_of after.world c)) (sym same) (subst (P caller) (sym frame_own) mine)
    | inr other ↦ subst (P d) (sym (frame_other d other)) (theirs d other)
  ]

  public_same : (d : ℕ) → IsPublic (frame_of core.world d) (frame_of after.world d)
  public_same = for_each (λ d f. IsPublic (frame_of core.world d) f) own.public (λ d other. itself (frame_of core.world d))

  tickets_kept : ticket_in after.world ≡ ticket_in core.world
  tickets_kept = λ i d. (public_same d).ticket i

  back : (d : ℕ) → d ≢ caller → (n : Name) → IsHeld heap' d n → IsHeld heap d n
  back d other = others.held_back heap (ticket_in core.world) sound.tickets.own caller name (finite.get heap name) left row refl d other

  on : (d : ℕ) → d ≢ caller → (n : Name) → IsHeld heap d n → IsHeld heap' d n
  on d other = others.held_kept heap (ticket_in core.world) sound.tickets.own caller name (finite.get heap name) left row refl d other

  same_refs : (d : ℕ) → d ≢ caller → (n : Name) → IsHeld heap d n → refs heap' n ≡ refs heap n
  same_refs d other = others.refs_same heap (ticket_in core.world) sound.tickets.own caller name (finite.get heap name) left row refl d other

  each_book : (d : ℕ) → HasBook heap' d (frame_of after.world d)
  each_book = for_each (λ d f. HasBook heap' d f) own.book (λ d other. others.book_kept heap (ticket_in core.world) sound.tickets.own caller name (finite.get heap name) left row refl d other plan (frame_of core.world d) (sound.each d).book)

  reason_kept : (d : ℕ) → d ≢ caller → (n : Name) → IsHeld heap d n → (f : Frame) → HasReason heap f n → HasReason heap' f n
  reason_kept d other n h f (for_a_local some) = for_a_local some
  reason_kept d other n h f (for_fields several) = for_fields (omega (arith, several, same_refs d other n h))
  reason_kept d other n h f (for_the_list has) = for_the_list has
  reason_kept d other n h f (for_the_hand e) = for_the_hand e

  -- ---- sums

  sum_changed : (g : Frame → ℕ) → sum_by g after.world.frames + g frame ≡ sum_by g core.world.frames + g next
  sum_changed g = sum_by-set g core.world.frames caller next idle within

  sum_same : (g : Frame → ℕ) → g next ≡ g frame → sum_by g after.world.frames ≡ sum_by g core.world.frames
  sum_same g e = omega (arith, sum_changed g, e)

  adds_up : AddUp plan after calls
  adds_up = record {
    places = let s = sum_changed (λ (f : Frame). f.spares) in omega (arith, s, own.places, lawful.totals.places);
    enough = for_each (λ d f. IsEntered f → allocs_of plan f.call ≤ f.spares + f.made)
        (λ entered. omega (arith, own.enough, lawful.totals.enough caller (subst (λ n. 0 < n) own.public.ticket entered), ap (allocs_of plan) own.public.call)) (λ d other. lawful.totals.enough d);
    sizes = lawful.totals.sizes;
    clock = lawful.totals.clock ∙ ap (λ n. greatest_ticket plan.heap + n) (sym (sum_same (λ (f : Frame). length f.finished + one_if_entered f) (λ i. length (own.public.finished i) + (if nat_lt 0 (own.public.ticket i) then 1 else 0))));
    version = let s = sum_same (λ (f : Frame). length f.finished) (ap length own.public.finished) in omega (arith, s, lawful.totals.version);
  }

  in_order : HoldInOrder plan after.world
  in_order = record {
    hidden = for_each (λ d f. (n : Name) → IsHeld heap' d n → IsHidden n → IsEntered f) own.hidden (λ d other n h z. lawful.who_holds.hidden d n (back d other n h) z);
    roots = λ d n z h. for_each (λ d' f. f.ticket ≡ 0 → (m : Name) → IsHeld heap' d' m → IsTakenRoot plan f m) own.are_roots (λ d' other z' m h'. lawful.who_holds.roots d' m z' (back d' other m h')) d z n h;
    taken = λ d n z r. for_each (λ d' f. f.ticket ≡ 0 → (m : Name) → IsTakenRoot plan f m → IsHeld heap' d' m) own.has_roots (λ d' other z' m r'. on d' other m (lawful.who_holds.taken d' m z' r')) d z n r;
    idle = λ d n e h. for_each (λ d' f. f.stage ≡ stages.Idle → (m : Name) → IsHeld heap' d' m → ⊥) (λ e' m h'. own.busy e') (λ d' other e' m h'. lawful.who_holds.idle d' m e' (back d' other m h')) d e n h;
  }

  lawful_after : IsCounted heap' → IsApart heap' (ticket_in core.world) → IsLawful plan after calls
  lawful_after counted apart = record {
    free_refs = counted;
    locals_held = λ d local n entered e. for_each (λ d' f. IsEntered f → (l : ℕ) (m : Name) → slice_get f.locals l ≡ Some (Ref (Some m)) → IsHeld heap' d' m) own.held (λ d' other entered' l m e'. on d' other m (lawful.locals_held d' l m entered' e')) d entered local n e;
    books = λ d n entered h. let k = (each_book d).all n h in record { booked = k.0; there = k.1; fields = ((each_book d).booked n k.0 k.1).fields };
    held_why = λ d n entered h. for_each (λ d' f. IsEntered f → (m : Name) → IsHeld heap' d' m → HasReason heap' f m) own.why
        (λ d' other entered' m h'. let b = back d' other m h' in reason_kept d' other m b (frame_of core.world d') (lawful.held_why d' m entered' b)) d entered n h;
    who_holds = in_order;
    older_reach = subst (IsApart heap') (sym tickets_kept) apart;
    totals = adds_up;
  }

  stands_on : (d : ℕ) → d ≢ caller → Stands plan heap calls d (frame_of core.world d) → Stands plan heap' calls d (frame_of core.world d)
  stands_on d other (idles e) = idles e
  stands_on d other (waits call w) = waits call w
  stands_on d other (works call entered w) =
      works call entered
      (others.working_kept heap (ticket_in core.world) sound.tickets.own caller name (finite.get heap name) left row refl d other plan (frame_of core.world d) call.op entered refl (λ local n e. lawful.locals_held d local n entered e) w)

  tickets_after : HasTickets plan after
  tickets_after =
      let same = public.tickets_same plan core after.world calls public_same (length-set core.world.frames caller next) in
      record {
        range = subst (All (λ ticket. (greatest_ticket plan.heap < ticket) × (ticket ≤ core.clock))) (sym same) sound.tickets.range;
        each_once = λ ticket low high. ap (count_by (λ other. other == ticket)) same ∙ sound.tickets.each_once ticket low high;
        own = subst IsOwn (sym tickets_kept) sound.tickets.own;
        names = λ n object there. elim (changed.looked heap name left caller n object there) [
          | inl l ↦ sound.tickets.names n object l.1
          | inr l ↦ omega (arith, own.names object l.1, ap (λ (k : Name). k.ticket) l.0)
        ];
        seals = λ n object t there m. elim (changed.looked heap name left caller n object there) [
          | inl l ↦ sound.tickets.seals n object t l.1 m
          | inr l ↦ let s = own.seals object t l.1 m in (s.0, subst IsHidden (sym l.0) s.1)
        ];
      }

  sound_after : IsSound plan after calls
  sound_after = record {
    heap = own.heap_is;
    holders = λ d n h. elim (same_number d caller) [
      | inl same ↦ subst (IsCaller plan) (sym same) is_caller
      | inr other ↦ sound.holders d n (back d other n h)
    ];
    frames = length-set core.world.frames caller next ∙ sound.frames;
    accounts = sound.accounts;
    lists = sound.lists;
    nobody = λ d not_one. elim (same_number d caller) [
      | inl same ↦ absurd (not_one (subst (IsCaller plan) (sym same) is_caller))
      | inr other ↦ ap (λ (f : Frame). f.stage) (frame_other d other) ∙ sound.nobody d not_one
    ];
    each = λ d. record {
      book = each_book d;
      stands = for_each (λ d' f. Stands plan heap' calls d' f) own.stands (λ d' other. stands_on d' other (sound.each d').stands) d;
      ready = for_each (λ d' f. IsReady plan f) own.ready (λ d' other. (sound.each d').ready) d;
      roots = for_each (λ d' f. (n : Name) → IsHeld heap' d' n → n.ticket ≡ 0 → Contains (roots_of plan f.call) n.index) own.roots (λ d' other n h z. (sound.each d').roots n (back d' other n h) z) d;
      history = public.history_same plan core after.world calls public_same d
          (for_each (λ d' f. (index : ℕ) → in_hand_at f index f.stage ≡ in_hand_at (frame_of core.world d') index (frame_of core.world d').stage)
          (λ index. in_hand_busy next index next.stage own.busy ∙ ap (λ k. if k == index then 1 else 0) own.public.index ∙ sym (in_hand_busy frame index frame.stage own.was_busy)) (λ d' other index. refl) d)
          (for_each (λ d' f. f.ticket ≡ 0 → f.spares ≡ (frame_of core.world d').spares) own.spares (λ d' other z. refl) d) (sound.each d).history;
      order = public.order_same plan core after.world calls public_same d (sound.each d).order;
    };
    tickets = tickets_after;
    log = public.log_same plan core after.world calls public_same sound.log;
  }

  -- all that holds is kept
  pub touched_kept : IsCounted heap' → IsApart heap' (ticket_in core.world) → IsKept plan after calls
  touched_kept counted apart = record { lawful = lawful_after counted apart; sound = sound_after }
