-- An entry keeps all that holds.
use Rattle.std.proofs.Common.{◌≡◌, ◌≢◌, ◌⊎◌, inl, inr, ℕ, zero, suc, ◌+◌, ◌-◌, ◌<◌, ◌≤◌, true, false, Bool, cond, List, [], ◌∷◌, ◌++◌, length, get_or, set, Some, None, refl, sym, ap, subst, ◌∙◌, arith}
use Rattle.std.specs.Prelude.{◌==◌, ◌-ℤ◌, ◌↔◌, pos, slice_get, count_by, sum_by, nat_lt, map, All, Contains, if◌then◌else◌}
use Rattle.std.specs.List.{flat_map, zip}
use Rattle.std.specs.Option.{option_map_or}
use Rattle.std.proofs.lemmas.Bool.{cases_lt, cases_Bool}
use Rattle.std.proofs.lemmas.Bool.Decides.{nat_tests}
use Rattle.std.proofs.lemmas.List.Elements.{All-append, All-contains, Contains-get_or, Contains-append_left, Contains-append_right}
use Rattle.std.proofs.lemmas.List.Sums.{sum_by-set, sum_by-cons, sum_by-append}
use Rattle.std.proofs.lemmas.Option.{slice_get-get_or, slice_get_within}
use Rattle.dl_ir.specs.declared.modules.OpDecl.{OpDecl}
use Rattle.dl_ir.specs.declared.names.Name.{Name}
use Rattle.dl_ir.specs.CallForms.{AllFit, IsCallOf}
use Rattle.dl_ir.specs.Heap.{root}
use Rattle.dl_ir.specs.References.{refers_to}
use Rattle.dl_ir.specs.Typed.{types_of}
use Rattle.dl_shape.specs.Operation.{first_locals}
use Rattle.dl_shape.specs.Pool.{moves_of}
use Rattle.dl_shape.specs.Replay.{greatest_ticket}
use Rattle.dl_instr.specs.declared.steps.Step.{Step}
use Rattle.dl_instr.specs.Drops.{is_use}
use Rattle.dl_core.specs.declared.stages.Finished.{Finished}
use Rattle.dl_core.specs.declared.stages.Stage.{Stage}
use Rattle.dl_core.specs.declared.stages.Stage.TheVariants as stages
use Rattle.dl_core.specs.Codes as codes
use Rattle.dl_core.specs.Codes.{IsGoodCode, IsFilledFor}
use Rattle.dl_core.specs.Heaps.{Heap, plain, IsHeld}
use Rattle.dl_core.specs.Plans.{Plan, IsPlan, IsCaller, source_of, op_of, steps_of, allocs_of, fuel_of, locals_of, roots_of, roots_among}
use Rattle.dl_core.specs.Frames.{Frame, IsEntered, idle}
use Rattle.dl_core.specs.declared.dues.Due.TheVariants.{Reserves, Enters}
use Rattle.dl_core.specs.LocalSteps.{due, due_in, next_after, next_stage, next_root}
use Rattle.dl_core.specs.Events.{entered}
use Rattle.dl_core.specs.Core.{Core, Shared, frame_of, account_of, entries_of}
use Rattle.dl_core.specs.Reached.{Calls, calls_of}
use Rattle.dl_core.specs.Reach.{ticket_in}
use Rattle.dl_core.specs.Changes.{IsApart}
use Rattle.dl_core.specs.Lawful.{IsLawful, for_a_local, AddUp, one_if_entered}
use Rattle.dl_core.specs.Laws.{IsKept}
use Rattle.dl_core.specs.Sound.{IsSound, HasCall, Stands, idles, waits, works, HandAt, HasTickets, HasLog, tickets_of, ticket_in_hand, move_in_hand, callers_of, in_hand_at}
use Rattle.dl_core.proofs.GoodCode.{plans_have_good_code}
use Rattle.dl_core.proofs.Names.{same_number, same_some, no_some}
use Rattle.dl_core.proofs.Begins.{local_root, root_local, locals_fit, one_local_each}
use Rattle.dl_core.proofs.Enter.{entered-IsApart}
use Rattle.dl_core.proofs.GoesOn.{ready_going}
use Rattle.dl_core.proofs.Course.{IsGoing, before_open}
use Rattle.dl_core.proofs.Kept.{ready_same}
use Rattle.dl_core.proofs.LocalSteps.{is_ready}
use Rattle.dl_core.proofs.Public.{entries_fin, order_fin, history_fin, AreLike, like_itself, like_append, log_like}
use Rattle.dl_core.proofs.TouchesKeep.{WaitsNow, waits_called, busy_caller, below_clock, not_idle}
use Rattle.dl_core.proofs.Turned.{IsOwnTurn, world, turned_kept, frame_own, frame_other, for_each, sum_changed}

-- ---- lists of lists

count_flat : (p : ℕ → Bool) (g : Frame → List ℕ) (xs : List Frame) → count_by p (flat_map g xs) ≡ sum_by (λ f. count_by p (g f)) xs
count_flat p g [] = refl
count_flat p g (x ∷ xs) = omega (arith, sum_by-append (λ n. cond (p n) 1 0) (g x) (flat_map g xs), sum_by-cons (λ f. count_by p (g f)) x xs, count_flat p g xs)

all_left : (P : ℕ → Type 0) (xs ys : List ℕ) → All P (xs ++ ys) → All P xs
all_left P xs ys a = λ k d lt. All-contains P (xs ++ ys) (get_or xs k d) a (Contains-append_left xs ys (get_or xs k d) (Contains-get_or xs k d lt))

all_right : (P : ℕ → Type 0) (xs ys : List ℕ) → All P (xs ++ ys) → All P ys
all_right P xs ys a = λ k d lt. All-contains P (xs ++ ys) (get_or ys k d) a (Contains-append_right xs ys (get_or ys k d) (Contains-get_or ys k d lt))

pub all_flat_set : (P : ℕ → Type 0) (g : Frame → List ℕ) (xs : List Frame) (c : ℕ) (next : Frame) → All P (flat_map g xs) → All P (g next) → All P (flat_map g (set xs c next))
all_flat_set P g [] c next a b = a
all_flat_set P g (x ∷ xs) zero next a b = All-append P (g next) (flat_map g xs) b (all_right P (g x) (flat_map g xs) a)
all_flat_set P g (x ∷ xs) (suc c) next a b = All-append P (g x) (flat_map g (set xs c next)) (all_left P (g x) (flat_map g xs) a) (all_flat_set P g xs c next (all_right P (g x) (flat_map g xs) a) b)

pub count_flat_set : (p : ℕ → Bool) (g : Frame → List ℕ) (xs : List Frame) (c : ℕ) (next : Frame) → c < length xs
    → count_by p (flat_map g (set xs c next)) + count_by p (g (get_or xs c idle)) ≡ count_by p (flat_map g xs) + count_by p (g next)
count_flat_set p g xs c next lt = omega (arith, count_flat p g (set xs c next), count_flat p g xs, sum_by-set (λ f. count_by p (g f)) xs c next idle lt)

all_flat_get : (P : ℕ → Type 0) (g : Frame → List ℕ) (xs : List Frame) (c : ℕ) → c < length xs → All P (flat_map g xs) → All P (g (get_or xs c idle))
all_flat_get P g [] c lt a = absurd (omega (arith, lt))
all_flat_get P g (x ∷ xs) zero lt a = all_left P (g x) (flat_map g xs) a
all_flat_get P g (x ∷ xs) (suc c) lt a = all_flat_get P g xs c (omega (arith, lt)) (all_right P (g x) (flat_map g xs) a)

one_in_hand : (n : ℕ) → 0 < n → ◌≡◌ {A = List ℕ} (if nat_lt 0 n then n ∷ [] else []) (n ∷ [])
one_in_hand n some = by (nat_lt 0 n) refl
  where
    by : (b : Bool) → nat_lt 0 n ≡ b → ◌≡◌ {A = List ℕ} (if b then n ∷ [] else []) (n ∷ [])
    by true e = refl
    by false e = absurd (grind (arith, nat_tests, e, some))

none_counted : (p : ℕ → Bool) (xs : List ℕ) → All (λ n. p n ≡ false) xs → count_by p xs ≡ 0
none_counted p [] a = refl
none_counted p (x ∷ xs) a =
    let one : ◌≡◌ {A = ℕ} (cond (p x) 1 0) 0 = ap {B = ℕ} (λ b. cond b 1 0) (a 0 x (omega arith)) in
    omega (arith, sum_by-cons (λ n. cond (p n) 1 0) x xs, one, none_counted p xs (λ k d lt. a (suc k) d (omega (arith, lt))))

-- the tickets of a frame
abbrev tickets_by : Frame → List ℕ
tickets_by frame = map (λ (kept : Finished). kept.ticket) frame.finished ++ ticket_in_hand frame

in_hand_busy : (frame : Frame) (index : ℕ) (stage : Stage) → stage ≢ stages.Idle → in_hand_at frame index stage ≡ (if frame.index == index then 1 else 0)
in_hand_busy frame index stages.Idle busy = absurd (busy refl)
in_hand_busy frame index stages.Called busy = refl
in_hand_busy frame index stages.Running busy = refl
in_hand_busy frame index (stages.Ended end) busy = refl

module _ (plan : Plan) (core : Core) (calls : Calls) (caller : ℕ) (is : IsPlan plan) (lawful : IsLawful plan core calls) (sound : IsSound plan core calls) where
  abbrev heap : Heap
  heap = core.world.heap

  abbrev frame : Frame
  frame = frame_of core.world caller

  -- no ticket is above the clock
  pub ticket_below : (d : ℕ) → (frame_of core.world d).ticket ≤ core.clock
  ticket_below d = by (sound.each d).stands
    where
      by : Stands plan heap calls d (frame_of core.world d) → (frame_of core.world d).ticket ≤ core.clock
      by (idles e) = let z : (frame_of core.world d).ticket ≡ 0 = ap (λ (f : Frame). f.ticket) e in omega (arith, z)
      by (waits call w) = let z : (frame_of core.world d).ticket ≡ 0 = ap (λ (f : Frame). f.ticket) w.is in omega (arith, z)
      by (works call entered w) = (below_clock plan core calls sound d (busy_caller plan core calls sound d (not_idle plan core calls d is lawful sound (frame_of core.world d).stage w.stage)) entered).1

  -- places are reserved where no reservation is due
  pub has_places : (w : WaitsNow plan core calls caller is lawful sound) → frame.loose ≡ [] → frame.stage ≡ stages.Called → ((need : ℕ) → due plan frame ≢ Reserves need) → frame.spares ≡ w.call.op.allocs
  has_places w tidy called not_reserves = by w.waiting.places
    where
      due_is : due plan frame ≡ (if nat_lt frame.spares (allocs_of plan frame.call) then Reserves (allocs_of plan frame.call) else next_root (slice_get (roots_of plan frame.call) frame.taken))
      due_is = ap (λ l. due_in (next_after plan frame l)) tidy ∙ ap (λ s. due_in (next_stage plan frame s)) called

      enough : (b : Bool) → nat_lt frame.spares (allocs_of plan frame.call) ≡ b → allocs_of plan frame.call ≤ frame.spares
      enough true e = absurd (not_reserves (allocs_of plan frame.call) (due_is ∙ ap (λ b. if b then Reserves (allocs_of plan frame.call) else next_root (slice_get (roots_of plan frame.call) frame.taken)) e))
      enough false e = grind (arith, nat_tests, e)

      by : (frame.spares ≡ w.call.op.allocs) ⊎ ((frame.spares ≡ 0) × (frame.taken ≡ 0)) → frame.spares ≡ w.call.op.allocs
      by (inl e) = e
      by (inr e) = let some = enough (nat_lt frame.spares (allocs_of plan frame.call)) refl in omega (arith, e.0, some, ap (λ d. option_map_or (λ (o : OpDecl). o.allocs) d 0) w.call.declared)

  module _ (due_is : due plan frame ≡ Enters) (tidy : frame.loose ≡ []) (called : frame.stage ≡ stages.Called) (all_taken : slice_get (roots_of plan frame.call) frame.taken ≡ None) where
    abbrev t : ℕ
    t = core.clock + 1

    abbrev effect : Frame
    effect = record frame { stage = stages.Running; ticket = t; locals = locals_of plan frame.call; turns = fuel_of plan frame.call }

    abbrev next : Frame
    next = entered plan t frame

    w : WaitsNow plan core calls caller is lawful sound
    w = waits_called plan core calls caller is lawful sound called

    abbrev op : OpDecl
    op = w.call.op

    zero_ticket : frame.ticket ≡ 0
    zero_ticket = ap (λ (f : Frame). f.ticket) w.waiting.is

    locals_is : locals_of plan frame.call ≡ first_locals op frame.call.args
    locals_is = ap (λ d. option_map_or (λ (o : OpDecl). first_locals o frame.call.args) d []) w.call.declared

    roots_is : roots_of plan frame.call ≡ roots_among (zip op.params frame.call.args)
    roots_is = ap (λ d. option_map_or (λ (o : OpDecl). roots_among (zip o.params frame.call.args)) d []) w.call.declared

    allocs_is : allocs_of plan frame.call ≡ op.allocs
    allocs_is = ap (λ d. option_map_or (λ (o : OpDecl). o.allocs) d 0) w.call.declared

    places : frame.spares ≡ op.allocs
    places = has_places w tidy called (λ need e. enters_reserves need (sym due_is ∙ e))
      where
        enters_reserves : (need : ℕ) → Enters ≡ Reserves need → ⊥
        enters_reserves need e = cc

    was_busy : frame.stage ≢ stages.Idle
    was_busy e = called_idle (sym called ∙ e)
      where
        called_idle : stages.Called ≡ stages.Idle → ⊥
        called_idle f = cc

    pub is_caller : IsCaller plan caller
    is_caller = busy_caller plan core calls sound caller was_busy

    -- its roots it holds
    root_held : (name : Name) (number : ℕ) → name ≡ root number → Contains (roots_among (zip op.params frame.call.args)) number → IsHeld heap caller name
    root_held name number e has =
        let has' = subst (λ l. Contains l number) (sym roots_is) has in
        lawful.who_holds.taken caller name zero_ticket (record {
          at = has'.0;
          within = by has'.0 has'.1 (cases_lt has'.0 frame.taken);
          number = number;
          there = slice_get-get_or (roots_of plan frame.call) has'.0 number has'.1 ∙ ap Some has'.2;
          is = e;
        })
      where
        by : (at : ℕ) → at < length (roots_of plan frame.call) → (at < frame.taken) ⊎ (frame.taken ≤ at) → at < frame.taken
        by at lt (inl less) = less
        by at lt (inr more) = absurd (no_some (sym all_taken ∙ slice_get-get_or (roots_of plan frame.call) frame.taken 0 (omega (arith, lt, more))))

    fits_op : AllFit (source_of plan) op.params frame.call.args
    fits_op = subst (λ (o : OpDecl). AllFit (source_of plan) o.params frame.call.args) (same_some (sym w.call.fits.declared ∙ w.call.declared)) w.call.fits.fits

    good_now : IsGoodCode (source_of plan) (types_of op) (steps_of plan frame.call)
    good_now =
        let within : frame.call.op < length plan.code.ops = omega (arith, slice_get_within (source_of plan).ops frame.call.op op w.call.declared, is.code.one_each) in
        plans_have_good_code plan is frame.call.op op (steps_of plan frame.call) w.call.declared (slice_get-get_or plan.code.ops frame.call.op [] within)

    -- the first step uses nothing of the hand
    first_open : (s : Step) → slice_get (steps_of plan frame.call) 0 ≡ Some s → is_use s ≡ false
    first_open s e = elim (cases_Bool (is_use s)) [
      | inr not_used ↦ not_used
      | inl used ↦ absurd (by s 0 (good_now.filled 0 s e used) refl)
    ]
      where
        by : (s : Step) (at : ℕ) → IsFilledFor (source_of plan) (types_of op) (steps_of plan frame.call) at s → at ≡ 0 → ⊥
        by s at (codes.evaluated b e f of) z = omega (arith, e, z)
        by s at (codes.loaded b e f of) z = omega (arith, e, z)
        by s at (codes.followed b e f want of) z = omega (arith, e, z)
        by s at (codes.made b e f of) z = omega (arith, e, z)
        by s at (codes.wanted b e f) z = omega (arith, e, z)
        by s at (codes.stored b e f) z = omega (arith, e, z)
        by s at (codes.told b e f) z = omega (arith, e, z)
        by s at (codes.linked b e f want of) z = omega (arith, e, z)

    place_is : frame.place ≡ 0
    place_is = ap (λ (f : Frame). f.place) w.waiting.is

    effect_going : IsGoing plan heap caller op effect
    effect_going = record {
      code = good_now;
      book = record { booked = (sound.each caller).book.booked; all = (sound.each caller).book.all };
      works = record {
        stage = inl refl;
        locals = record {
          one_each = ap length locals_is ∙ one_local_each (source_of plan) (plain heap) sound.heap op.params frame.call.args op.vars fits_op;
          typed = λ local ty value a b. locals_fit (source_of plan) (plain heap) sound.heap op.params frame.call.args op.vars fits_op local ty value a (ap (λ ls. slice_get ls local) (sym locals_is) ∙ b);
        };
        loose = record { each = λ k d lt. absurd (omega (arith, lt, ap length tidy)); once = λ i j d lt lt'. absurd (omega (arith, lt', ap length tidy)) };
        hand = subst (HandAt plan heap caller effect op) (sym tidy) (
          record { cursor = ap (λ (f : Frame). f.cursor) w.waiting.is; seen = ap (λ (f : Frame). f.seen) w.waiting.is },
          before_open plan heap caller op effect (slice_get (steps_of plan frame.call) frame.place) (λ s e. first_open s (ap (slice_get (steps_of plan frame.call)) (sym place_is) ∙ e)) (ap (λ (f : Frame). f.hand) w.waiting.is),
        );
        few_made = omega (arith, ap (λ (f : Frame). f.made) w.waiting.is);
        own_names = λ n object e z. absurd (omega (arith, sound.tickets.names n object e, z));
        own_seals = λ n object e s. absurd (omega (arith, (sound.tickets.seals n object t e s).0));
        no_breach = λ e. ap (λ (f : Frame). f.breach) w.waiting.is;
      };
      held = λ local n e. let r = local_root op frame.call.args local n (ap (λ ls. slice_get ls local) (sym locals_is) ∙ e) in root_held n r.0 r.1 r.2;
      why = λ n h.
          let r = lawful.who_holds.roots caller n zero_ticket h in
          for_a_local (subst (λ ls. 0 < count_by (refers_to n) ls) (sym locals_is) (subst (λ m. 0 < count_by (refers_to m) (first_locals op frame.call.args)) (sym r.is) (root_local op frame.call.args r.at r.number (ap (λ l. slice_get l r.at) (sym roots_is) ∙ r.there))));
    }

    going : IsGoing plan heap caller op next
    going = ready_going plan heap caller op sound.heap effect effect_going

    abbrev world' : Shared
    world' = world plan core calls caller lawful sound is_caller next

    abbrev after : Core
    after = record core { world = world'; clock = t }

    same_call : next.call ≡ frame.call
    same_call = (ready_same plan effect).0

    same_index : next.index ≡ frame.index
    same_index = (ready_same plan effect).1

    new_ticket : next.ticket ≡ t
    new_ticket = (ready_same plan effect).3

    same_finished : next.finished ≡ frame.finished
    same_finished = (ready_same plan effect).9

    has_entered : IsEntered next
    has_entered = omega (arith, new_ticket)

    busy : next.stage ≢ stages.Idle
    busy = not_idle plan core calls caller is lawful sound next.stage going.works.stage

    call : HasCall plan calls caller next
    call = record {
      op = op;
      declared = ap (op_of plan) same_call ∙ w.call.declared;
      fits = subst (IsCallOf (source_of plan)) (sym same_call) w.call.fits;
      from_one = omega (arith, w.call.from_one, same_index);
      begun = ap (λ n. slice_get (calls_of calls caller) (n - 1)) same_index ∙ w.call.begun ∙ ap Some (sym same_call);
    }

    own : IsOwnTurn plan heap calls caller next
    unfolding call w
    own = record {
      book = going.book;
      stands = works call has_entered going.works;
      ready = is_ready plan effect good_now.turns;
      held = λ e. going.held;
      why = λ e. going.why;
      hidden = λ n h z. has_entered;
      are_roots = λ z. absurd (omega (arith, z, has_entered));
      has_roots = λ z. absurd (omega (arith, z, has_entered));
      idle = λ e. absurd (busy e);
      roots = λ n h z. subst (λ c. Contains (roots_of plan c) n.index) (sym same_call) ((sound.each caller).roots n h z);
    }

    of_each : (P : ℕ → Frame → Type 0) → P caller next → ((d : ℕ) → d ≢ caller → P d (frame_of core.world d)) → (d : ℕ) → P d (frame_of world' d)
    of_each = for_each plan core calls caller lawful sound is_caller next

    mine : frame_of world' caller ≡ next
    mine = frame_own plan core calls caller lawful sound is_caller next

    theirs : (d : ℕ) → d ≢ caller → frame_of world' d ≡ frame_of core.world d
    theirs = frame_other plan core calls caller lawful sound is_caller next

    within : caller < length core.world.frames
    within = omega (arith, is_caller.to_last, sound.frames)

    apart : IsApart heap (ticket_in world')
    apart =
        entered-IsApart heap (ticket_in core.world) (ticket_in world') caller t (ap (λ (f : Frame). f.ticket) mine ∙ new_ticket) (λ d other. ap (λ (f : Frame). f.ticket) (theirs d other)) lawful.older_reach
        (λ d. omega (arith, ticket_below d)) (λ n o i e s. omega (arith, (sound.tickets.seals n o i e s).0))
        (λ n h. let r = lawful.who_holds.roots caller n zero_ticket h in lawful.free_refs.roots n (ap (λ (m : Name). m.ticket) r.is))

    sums : (g : Frame → ℕ) → sum_by g world'.frames + g frame ≡ sum_by g core.world.frames + g next
    sums = sum_changed plan core calls caller lawful sound is_caller next

    totals : AddUp plan after calls
    totals = record {
      places = omega (arith, sums (λ (f : Frame). f.spares), (ready_same plan effect).6, lawful.totals.places);
      enough = of_each (λ d f. IsEntered f → allocs_of plan f.call ≤ f.spares + f.made) (λ e. omega (arith, ap (allocs_of plan) same_call, allocs_is, places, (ready_same plan effect).6)) (λ d other. lawful.totals.enough d);
      sizes = lawful.totals.sizes;
      clock =
          let g : Frame → ℕ = λ f. length f.finished + one_if_entered f in
          let before : g frame ≡ length frame.finished + 0 = ap (λ n. length frame.finished + (if nat_lt 0 n then 1 else 0)) zero_ticket in
          let now : g next ≡ length frame.finished + (if nat_lt 0 next.ticket then 1 else 0) = ap (λ l. length l + one_if_entered next) same_finished in
          let one : ◌≡◌ {A = ℕ} (if nat_lt 0 next.ticket then 1 else 0) 1 = grind (arith, nat_tests, has_entered) in
          omega (arith, sums g, before, now, one, lawful.totals.clock);
      version = omega (arith, sums (λ (f : Frame). length f.finished), ap length same_finished, lawful.totals.version);
    }

    fin : (d : ℕ) → (frame_of world' d).finished ≡ (frame_of core.world d).finished
    fin = of_each (λ d f. f.finished ≡ (frame_of core.world d).finished) same_finished (λ d other. refl)

    -- the move of a reservation in hand, but for its ticket
    hands_like : (d : ℕ) → AreLike (move_in_hand plan core d) (move_in_hand plan after d)
    hands_like d = by (nat_lt 0 (account_of core d).reserved_at)
      where
        calls_same : allocs_of plan (frame_of world' d).call ≡ allocs_of plan (frame_of core.world d).call
        calls_same = of_each (λ d' f. allocs_of plan f.call ≡ allocs_of plan (frame_of core.world d').call) (ap (allocs_of plan) same_call) (λ d' other. refl) d

        by : (b : Bool) → AreLike (if b then record { version = (account_of core d).reserved_at; change = pos 0 -ℤ pos (allocs_of plan (frame_of core.world d).call); ticket = (frame_of core.world d).ticket } ∷ [] else [])
            (if b then record { version = (account_of core d).reserved_at; change = pos 0 -ℤ pos (allocs_of plan (frame_of world' d).call); ticket = (frame_of world' d).ticket } ∷ [] else [])
        by true = (refl, ap (λ n. pos 0 -ℤ pos n) (sym calls_same), tt)
        by false = tt

    moves_like : (ds : List ℕ) → AreLike (flat_map (λ d. moves_of (source_of plan) calls (entries_of core d) ++ move_in_hand plan core d) ds) (flat_map (λ d. moves_of (source_of plan) calls (entries_of after d) ++ move_in_hand plan after d) ds)
    moves_like [] = tt
    moves_like (d ∷ ds) =
        like_append (moves_of (source_of plan) calls (entries_of core d) ++ move_in_hand plan core d) (moves_of (source_of plan) calls (entries_of after d) ++ move_in_hand plan after d) _ _
        (like_append (moves_of (source_of plan) calls (entries_of core d)) (moves_of (source_of plan) calls (entries_of after d)) (move_in_hand plan core d) (move_in_hand plan after d)
        (subst (λ es. AreLike (moves_of (source_of plan) calls (entries_of core d)) (moves_of (source_of plan) calls es)) (sym (entries_fin plan core world' t calls fin d)) (like_itself (moves_of (source_of plan) calls (entries_of core d)))) (hands_like d))
        (moves_like ds)

    log : HasLog plan after calls
    log = log_like plan core after calls refl (moves_like (callers_of plan)) sound.log

    -- the tickets that it has had before
    abbrev had : List ℕ
    had = map (λ (kept : Finished). kept.ticket) frame.finished

    next_list : tickets_by next ≡ had ++ t ∷ []
    next_list = λ i. map (λ (kept : Finished). kept.ticket) (same_finished i) ++ ((ap (λ n. if nat_lt 0 n then n ∷ [] else []) new_ticket ∙ one_in_hand t (omega arith)) i)

    frame_list : tickets_by frame ≡ had ++ []
    frame_list = ap (λ n. had ++ (if nat_lt 0 n then n ∷ [] else [])) zero_ticket

    tickets : HasTickets plan after
    tickets = record {
      range = all_flat_set P tickets_by core.world.frames caller next (λ k d lt. weaker (get_or (tickets_of core.world) k d) (sound.tickets.range k d lt))
          (subst (All P) (sym next_list) (All-append P had (t ∷ []) (λ k d lt. weaker (get_or had k d) (all_left Q had [] (subst (All Q) frame_list (all_flat_get Q tickets_by core.world.frames caller within sound.tickets.range)) k d lt)) (one_new)));
      each_once = λ ticket low high. once ticket low high (cases_lt ticket t);
      own = λ i j some same. own_ticket i j some same;
      names = λ n object e. omega (arith, sound.tickets.names n object e);
      seals = λ n object s e m. let b = sound.tickets.seals n object s e m in (omega (arith, b.0), b.1);
    }
      where
        Q : ℕ → Type 0
        Q ticket = (greatest_ticket plan.heap < ticket) × (ticket ≤ core.clock)

        P : ℕ → Type 0
        P ticket = (greatest_ticket plan.heap < ticket) × (ticket ≤ t)

        weaker : (ticket : ℕ) → Q ticket → P ticket
        weaker ticket q = (q.0, omega (arith, q.1))

        one_new : All P (t ∷ [])
        one_new zero d lt = (omega (arith, lawful.totals.clock), omega arith)
        one_new (suc k) d lt = absurd (omega (arith, lt))

        counted : (ticket : ℕ) → count_by (λ other. other == ticket) (tickets_of world') ≡ count_by (λ other. other == ticket) (tickets_of core.world) + cond (t == ticket) 1 0
        counted ticket =
            let p : ℕ → Bool = λ other. other == ticket in
            let c = count_flat_set p tickets_by core.world.frames caller next within in
            let n : count_by p (tickets_by next) ≡ count_by p (had ++ t ∷ []) = ap (count_by p) next_list in
            let f : count_by p (tickets_by frame) ≡ count_by p (had ++ []) = ap (count_by p) frame_list in
            omega (arith, c, n, f, sum_by-append (λ m. cond (p m) 1 0) had (t ∷ []), sum_by-append (λ m. cond (p m) 1 0) had [], sum_by-cons (λ m. cond (p m) 1 0) t [])

        once : (ticket : ℕ) → greatest_ticket plan.heap < ticket → ticket ≤ t → (ticket < t) ⊎ (t ≤ ticket) → count_by (λ other. other == ticket) (tickets_of world') ≡ 1
        once ticket low high (inl less) =
            let other : (t == ticket) ≡ false = grind (arith, nat_tests, less) in
            let none : ◌≡◌ {A = ℕ} (cond (t == ticket) 1 0) 0 = ap {B = ℕ} (λ b. cond b 1 0) other in
            omega (arith, counted ticket, none, sound.tickets.each_once ticket low (omega (arith, less)))
        once ticket low high (inr more) =
            let is_t : (t == ticket) ≡ true = grind (arith, nat_tests, high, more) in
            let one : ◌≡◌ {A = ℕ} (cond (t == ticket) 1 0) 1 = ap {B = ℕ} (λ b. cond b 1 0) is_t in
            let none : count_by (λ other. other == ticket) (tickets_of core.world) ≡ 0 = none_counted (λ other. other == ticket) (tickets_of core.world) (λ k d lt. differs (get_or (tickets_of core.world) k d) ticket (sound.tickets.range k d lt).1 more) in
            omega (arith, counted ticket, one, none)
          where
            differs : (n ticket : ℕ) → n ≤ core.clock → t ≤ ticket → (n == ticket) ≡ false
            differs n ticket a b = grind (arith, nat_tests, a, b)

        ticket_of : (d : ℕ) → d ≢ caller → (frame_of world' d).ticket ≤ core.clock
        ticket_of d other = omega (arith, ap (λ (f : Frame). f.ticket) (theirs d other), ticket_below d)

        my_ticket : (frame_of world' caller).ticket ≡ t
        my_ticket = ap (λ (f : Frame). f.ticket) mine ∙ new_ticket

        own_ticket : (i j : ℕ) → 0 < ticket_in world' j → ticket_in world' i ≡ ticket_in world' j → i ≡ j
        own_ticket i j some same = by (same_number i caller) (same_number j caller)
          where
            by : (i ≡ caller) ⊎ (i ≢ caller) → (j ≡ caller) ⊎ (j ≢ caller) → i ≡ j
            by (inl a) (inl b) = a ∙ sym b
            by (inl a) (inr b) = absurd (omega (arith, same, ap (ticket_in world') a, my_ticket, ticket_of j b))
            by (inr a) (inl b) = absurd (omega (arith, same, ap (ticket_in world') b, my_ticket, ticket_of i a))
            by (inr a) (inr b) =
                sound.tickets.own i j (subst (λ n. 0 < n) (ap (λ (f : Frame). f.ticket) (theirs j b)) some)
                (sym (ap (λ (f : Frame). f.ticket) (theirs i a)) ∙ same ∙ ap (λ (f : Frame). f.ticket) (theirs j b))

    pub kept : IsKept plan after calls
    kept =
        turned_kept plan core calls caller lawful sound is_caller next t core.pool calls own (λ d other s. s) apart totals sound.accounts sound.lists
        (λ d. history_fin plan core world' t calls fin d
        (of_each (λ d' f. f.index ≡ (frame_of core.world d').index) same_index (λ d' other. refl) d)
        (of_each (λ d' f. (index : ℕ) → in_hand_at f index f.stage ≡ in_hand_at (frame_of core.world d') index (frame_of core.world d').stage)
        (λ index. in_hand_busy next index next.stage busy ∙ ap (λ k. if k == index then 1 else 0) same_index ∙ sym (in_hand_busy frame index frame.stage was_busy)) (λ d' other index. refl) d)
        (of_each (λ d' f. f.ticket ≡ 0 → (0 < (account_of core d').reserved_at) ↔ (0 < f.spares)) (λ z. absurd (omega (arith, z, has_entered))) (λ d' other. (sound.each d').history.reserved) d)
        (of_each (λ d' f. IsEntered f → (0 < (account_of core d').reserved_at) ↔ (0 < allocs_of plan f.call))
        (λ e. subst (λ n. (0 < (account_of core caller).reserved_at) ↔ (0 < n)) (places ∙ sym allocs_is ∙ ap (allocs_of plan) (sym same_call)) ((sound.each caller).history.reserved zero_ticket)) (λ d' other. (sound.each d').history.entered) d)
        (sound.each d).history)
        (λ d. order_fin plan core world' t calls fin d (sound.each d).order) tickets log
