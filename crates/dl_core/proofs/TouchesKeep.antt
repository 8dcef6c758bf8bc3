-- Every event that touches an object keeps all that holds.
use Rattle.std.proofs.Common.{◌≡◌, ◌≢◌, ◌⊎◌, inl, inr, ℕ, zero, suc, ◌+◌, ◌-◌, ◌<◌, ◌≤◌, true, false, Bool, List, [], ◌∷◌, ◌++◌, length, get_or, Option, Some, None, refl, sym, ap, subst, ◌∙◌, arith}
use Rattle.std.specs.Prelude.{slice_get, nat_lt, map, Contains, if◌then◌else◌}
use Rattle.std.specs.List.{flat_map}
use Rattle.std.specs.Option.{option_map_or}
use Rattle.std.specs.FinMap as finite
use Rattle.std.proofs.lemmas.Bool.{cases_lt}
use Rattle.std.proofs.lemmas.Bool.Decides.{nat_tests}
use Rattle.std.proofs.lemmas.List.Elements.{All-contains, Contains-append_left, Contains-append_right}
use Rattle.std.proofs.lemmas.Option.{slice_get_within, get_or_from_slice_get}
use Rattle.dl_ir.specs.declared.answers.End.{End}
use Rattle.dl_ir.specs.declared.modules.OpDecl.{OpDecl}
use Rattle.dl_ir.specs.declared.names.Name.{Name}
use Rattle.dl_ir.specs.CallForms.{IsCallOf}
use Rattle.dl_ir.specs.Heap.{IsHidden, root}
use Rattle.dl_shape.specs.Replay.{greatest_ticket}
use Rattle.dl_core.specs.declared.objects.Mark.{Mark}
use Rattle.dl_core.specs.declared.objects.Mark.TheVariants.{Free, Held, Sealed}
use Rattle.dl_core.specs.declared.objects.Object.{Object}
use Rattle.dl_core.specs.declared.stages.Finished.{Finished}
use Rattle.dl_core.specs.declared.stages.Stage.{Stage}
use Rattle.dl_core.specs.declared.stages.Stage.TheVariants as stages
use Rattle.dl_core.specs.Heaps.{Heap, put_at, refs, is_sealed, IsHeld}
use Rattle.dl_core.specs.Plans.{Plan, IsPlan, IsCaller, source_of, op_of, allocs_of, roots_of}
use Rattle.dl_core.specs.Frames.{Frame, IsEntered, idle, with_booked}
use Rattle.dl_core.specs.declared.dues.Due.{Due}
use Rattle.dl_core.specs.declared.dues.Due.TheVariants.{Reserves, TakesRoot}
use Rattle.dl_core.specs.LocalSteps.{IsReady, due, due_in, next_after, next_stage, next_root, step_in}
use Rattle.dl_core.specs.Events.{Acted, act, aim, take_root, with_mark}
use Rattle.dl_core.specs.Core.{Core, frame_of, acted}
use Rattle.dl_core.specs.Reached.{Calls, calls_of}
use Rattle.dl_core.specs.Reach.{ticket_in}
use Rattle.dl_core.specs.Changes.{May, reads, sees, writes, takes, takes_root, lets_go, seals, gives_up, makes}
use Rattle.dl_core.specs.Lawful.{IsLawful}
use Rattle.dl_core.specs.Laws.{IsKept}
use Rattle.dl_core.specs.Sound.{IsSound, HasCall, IsWaiting, Stands, idles, waits, works, tickets_of, ticket_in_hand}
use Rattle.dl_core.proofs.Names.{same_name, same_some, no_some}
use Rattle.dl_core.proofs.Counts.{same_refs}
use Rattle.dl_core.proofs.Why as why
use Rattle.dl_core.proofs.Why.{Why}
use Rattle.dl_core.proofs.Events.{Works, works_running, works_loose, works_ended, events_may}
use Rattle.dl_core.proofs.HeapKept.{counted_kept, apart_kept}
use Rattle.dl_core.proofs.HeapTyped.{changes, heap_kept}
use Rattle.dl_core.proofs.HiddenCount.{hidden_same}
use Rattle.dl_core.proofs.Own.{Keeps}
use Rattle.dl_core.proofs.OwnEvents.{events_own}
use Rattle.dl_core.proofs.Touched.{IsOwnKept, touched_kept}
use Rattle.dl_core.proofs.Changed as changed

held_sealed : {c t : ℕ} → Held c ≡ Sealed t → ⊥
held_sealed e = cc

free_held : {c : ℕ} → Free ≡ Held c → ⊥
free_held e = cc

free_sealed : {t : ℕ} → Free ≡ Sealed t → ⊥
free_sealed e = cc

sealed_sealed : {a b : ℕ} → Sealed a ≡ Sealed b → a ≡ b
sealed_sealed e = cc

-- a caller with a call in hand is a caller
pub busy_caller : (plan : Plan) (core : Core) (calls : Calls) → IsSound plan core calls → (caller : ℕ) → (frame_of core.world caller).stage ≢ stages.Idle → IsCaller plan caller
busy_caller plan core calls sound caller busy = elim (cases_lt 0 caller) [
  | inl low ↦ elim (cases_lt (length plan.sizes) caller) [
    | inl high ↦ absurd (busy (sound.nobody caller (λ c. omega (arith, c.to_last, high))))
    | inr fits ↦ record { from_one = low; to_last = fits }
  ]
  | inr none ↦ absurd (busy (sound.nobody caller (λ c. omega (arith, c.from_one, none))))
]

-- the ticket of a caller that has entered is not above the clock
in_tickets : (frames : List Frame) (d : ℕ) → d < length frames → 0 < (get_or frames d idle).ticket → Contains (flat_map (λ (frame : Frame). map (λ (kept : Finished). kept.ticket) frame.finished ++ ticket_in_hand frame) frames) (get_or frames d idle).ticket
in_tickets [] d lt some = absurd (omega (arith, lt))
in_tickets (f ∷ rest) zero lt some =
    Contains-append_left (map (λ (kept : Finished). kept.ticket) f.finished ++ ticket_in_hand f) (flat_map (λ (frame : Frame). map (λ (kept : Finished). kept.ticket) frame.finished ++ ticket_in_hand frame) rest) f.ticket
    (Contains-append_right (map (λ (kept : Finished). kept.ticket) f.finished) (ticket_in_hand f) f.ticket (by (nat_lt 0 f.ticket) refl))
  where
    by : (b : Bool) → nat_lt 0 f.ticket ≡ b → Contains (if b then f.ticket ∷ [] else []) f.ticket
    by true e = (0, omega arith, refl)
    by false e = absurd (grind (arith, nat_tests, e, some))
in_tickets (f ∷ rest) (suc d) lt some =
    Contains-append_right (map (λ (kept : Finished). kept.ticket) f.finished ++ ticket_in_hand f) (flat_map (λ (frame : Frame). map (λ (kept : Finished). kept.ticket) frame.finished ++ ticket_in_hand frame) rest) (get_or rest d idle).ticket
    (in_tickets rest d (omega (arith, lt)) some)

pub below_clock : (plan : Plan) (core : Core) (calls : Calls) → IsSound plan core calls → (caller : ℕ) → IsCaller plan caller → IsEntered (frame_of core.world caller) → (greatest_ticket plan.heap < (frame_of core.world caller).ticket) × ((frame_of core.world caller).ticket ≤ core.clock)
below_clock plan core calls sound caller c entered =
    All-contains (λ ticket. (greatest_ticket plan.heap < ticket) × (ticket ≤ core.clock)) (tickets_of core.world) (frame_of core.world caller).ticket sound.tickets.range
    (in_tickets core.world.frames caller (omega (arith, c.to_last, sound.frames)) entered)

-- what rows say of names, seals and roots
module _ (plan : Plan) (core : Core) (calls : Calls) (sound : IsSound plan core calls) (caller : ℕ) (name : Name) (bound : ticket_in core.world caller ≤ core.clock) where
  row_names : (o o' : Option Object) → May core.world.heap (ticket_in core.world) caller name o o' → finite.get core.world.heap name ≡ o → name.ticket ≤ core.clock
  row_names o o' (reads {object} m) e = sound.tickets.names name object e
  row_names o o' (sees {object} t source m no_root holder link) e = sound.tickets.names name object e
  row_names o o' (writes {object} f v m a b) e = sound.tickets.names name object e
  row_names o o' (takes {object} from m a b c) e = sound.tickets.names name object e
  row_names o o' (takes_root {object} m a b) e = sound.tickets.names name object e
  row_names o o' (lets_go {object} m a) e = sound.tickets.names name object e
  row_names o o' (seals {object} m a b) e = sound.tickets.names name object e
  row_names o o' (gives_up {object} m a b c) e = sound.tickets.names name object e
  row_names o o' (makes own a b c d) e = omega (arith, own, bound)

  row_seals : (o o' : Option Object) → May core.world.heap (ticket_in core.world) caller name o o' → finite.get core.world.heap name ≡ o → (b : Object) (t : ℕ) → o' ≡ Some b → b.mark ≡ Sealed t → (t ≤ core.clock) × IsHidden name
  row_seals o o' (reads {object} m) e b t f s = absurd (held_sealed (sym m ∙ ap (λ (w : Object). w.mark) (same_some f) ∙ s))
  row_seals o o' (sees {object} u source m no_root holder link) e b t f s = sound.tickets.seals name object t e (ap (λ (w : Object). w.mark) (same_some f) ∙ s)
  row_seals o o' (writes {object} fd v m x y) e b t f s = absurd (held_sealed (sym m ∙ ap (λ (w : Object). w.mark) (same_some f) ∙ s))
  row_seals o o' (takes {object} from m x y z) e b t f s = absurd (held_sealed (ap (λ (w : Object). w.mark) (same_some f) ∙ s))
  row_seals o o' (takes_root {object} m x y) e b t f s = absurd (held_sealed (ap (λ (w : Object). w.mark) (same_some f) ∙ s))
  row_seals o o' (lets_go {object} m x) e b t f s = absurd (free_sealed (ap (λ (w : Object). w.mark) (same_some f) ∙ s))
  row_seals o o' (seals {object} m hidden several) e b t f s = let is = sealed_sealed (ap (λ (w : Object). w.mark) (same_some f) ∙ s) in (omega (arith, is, bound), hidden)
  row_seals o o' (gives_up m x y z) e b t f s = absurd (no_some f)
  row_seals o o' (makes own x y m z) e b t f s = absurd (held_sealed (sym m ∙ ap (λ (w : Object). w.mark) (same_some f) ∙ s))

  row_root : IsEntered (frame_of core.world caller) → (o o' : Option Object) → May core.world.heap (ticket_in core.world) caller name o o' → finite.get core.world.heap name ≡ o → (b : Object) → o' ≡ Some b → b.mark ≡ Held caller → name.ticket ≡ 0 → IsHeld core.world.heap caller name
  row_root entered o o' (reads {object} m) e b f s z = record { object = object; there = e; held = m }
  row_root entered o o' (sees {object} u source m no_root holder link) e b f s z = absurd (held_sealed (sym s ∙ ap (λ (w : Object). w.mark) (sym (same_some f)) ∙ m))
  row_root entered o o' (writes {object} fd v m x y) e b f s z = record { object = object; there = e; held = m }
  row_root entered o o' (takes {object} from m hidden x y) e b f s z = absurd (omega (arith, hidden, z))
  row_root entered o o' (takes_root {object} m x waiting) e b f s z = absurd (omega (arith, entered, waiting))
  row_root entered o o' (lets_go {object} m x) e b f s z = absurd (free_held (ap (λ (w : Object). w.mark) (same_some f) ∙ s))
  row_root entered o o' (seals {object} m hidden several) e b f s z = absurd (omega (arith, hidden, z))
  row_root entered o o' (gives_up m x y w) e b f s z = absurd (no_some f)
  row_root entered o o' (makes own hidden y m w) e b f s z = absurd (omega (arith, hidden, z))

-- a frame before its entry is ready
pub called_ready : (plan : Plan) (frame : Frame) → frame.loose ≡ [] → frame.stage ≡ stages.Called → IsReady plan frame
called_ready plan frame tidy called = ap (λ l. step_in (next_after plan frame l)) tidy ∙ ap (λ s. step_in (next_stage plan frame s)) called

module _ (plan : Plan) (core : Core) (calls : Calls) (caller : ℕ) (is : IsPlan plan) (lawful : IsLawful plan core calls) (sound : IsSound plan core calls) where
  abbrev heap : Heap
  heap = core.world.heap

  abbrev frame : Frame
  frame = frame_of core.world caller

  pub not_idle : (stage : Stage) → (stage ≡ stages.Running) ⊎ ((end : End) × (stage ≡ stages.Ended end)) → stage ≢ stages.Idle
  not_idle stage (inl e) f = let clash : stages.Running ≡ stages.Idle = sym e ∙ f in cc
  not_idle stage (inr e) f = let clash : stages.Ended e.0 ≡ stages.Idle = sym e.1 ∙ f in cc

  module _ (name : Name) (at : aim (due plan frame) ≡ Some name) (outcome : Acted) (acts : act plan caller frame (due plan frame) (finite.get heap name) ≡ Some outcome) where
    row : May heap (ticket_in core.world) caller name (finite.get heap name) outcome.1
    row = events_may plan core calls caller is lawful sound name at outcome acts

    -- by a caller that has entered
    own_entered : (w : Works plan core calls caller is lawful sound) → IsOwnKept plan core calls caller name outcome.1 outcome.0
    own_entered w = record {
      heap_is = k.heap_is;
      public = record { call = k.same.0; index = k.same.1; ticket = k.same.2; finished = k.same.3 };
      places = k.places;
      enough = k.enough;
      book = k.going.book;
      stands = works call entered k.going.works;
      ready = (events_own plan core calls caller is lawful sound w name at outcome acts).1;
      was_busy = not_idle frame.stage w.2.stage;
      busy = not_idle outcome.0.stage k.going.works.stage;
      spares = λ z. absurd (omega (arith, z, entered));
      held = λ e. k.going.held;
      why = λ e. k.going.why;
      hidden = λ n h z. entered;
      are_roots = λ z. absurd (omega (arith, z, entered));
      has_roots = λ z. absurd (omega (arith, z, entered));
      roots = λ n h z. subst (λ c. Contains (roots_of plan c) n.index) (sym k.same.0) (root_before n h z);
      names = λ b e. row_names plan core calls sound caller name bound (finite.get heap name) outcome.1 row refl;
      seals = row_seals plan core calls sound caller name bound (finite.get heap name) outcome.1 row refl;
    }
      where
        k : Keeps plan core calls caller is lawful sound w.0.op name outcome.1 outcome.0
        k = (events_own plan core calls caller is lawful sound w name at outcome acts).0

        entered : IsEntered outcome.0
        entered = omega (arith, w.1, k.same.2)

        bound : ticket_in core.world caller ≤ core.clock
        bound = (below_clock plan core calls sound caller (busy_caller plan core calls sound caller (not_idle frame.stage w.2.stage)) w.1).1

        call : HasCall plan calls caller outcome.0
        call = record {
          op = w.0.op;
          declared = ap (op_of plan) k.same.0 ∙ w.0.declared;
          fits = subst (IsCallOf (source_of plan)) (sym k.same.0) w.0.fits;
          from_one = omega (arith, w.0.from_one, k.same.1);
          begun = ap (λ n. slice_get (calls_of calls caller) (n - 1)) k.same.1 ∙ w.0.begun ∙ ap Some (sym k.same.0);
        }

        root_before : (n : Name) → IsHeld (put_at heap name outcome.1) caller n → n.ticket ≡ 0 → Contains (roots_of plan frame.call) n.index
        root_before n h z = elim (changed.held_looked heap name outcome.1 caller n h) [
          | inl l ↦ (sound.each caller).roots n l.1 z
          | inr l ↦
              let was = row_root plan core calls sound caller name bound w.1 (finite.get heap name) outcome.1 row refl l.1.0 l.1.1 l.1.2 (ap (λ (m : Name). m.ticket) (sym l.0) ∙ z) in
              (sound.each caller).roots n (subst (IsHeld heap caller) (sym l.0) was) z
        ]

  -- ---- a root

  -- how a caller stands before it enters
  pub record WaitsNow : Type 0 where
    pub call : HasCall plan calls caller frame
    pub waiting : IsWaiting plan frame call.op

  pub waits_called : frame.stage ≡ stages.Called → WaitsNow
  waits_called called = by (sound.each caller).stands
    where
      other : (stage : Stage) → stage ≡ stages.Called → (stage ≡ stages.Running) ⊎ ((end : End) × (stage ≡ stages.Ended end)) → ⊥
      other stage e (inl f) = let clash : stages.Running ≡ stages.Called = sym f ∙ e in cc
      other stage e (inr f) = let clash : stages.Ended f.0 ≡ stages.Called = sym f.1 ∙ e in cc

      idle_called : stages.Idle ≡ stages.Called → ⊥
      idle_called e = cc

      by : Stands plan heap calls caller frame → WaitsNow
      by (idles e) = absurd (idle_called (sym (ap (λ (f : Frame). f.stage) e) ∙ called))
      by (waits call w) = record { call = call; waiting = w }
      by (works call entered w) = absurd (other frame.stage called w.stage)

  module _ (number : ℕ) (due_is : due plan frame ≡ TakesRoot number) (tidy : frame.loose ≡ []) (called : frame.stage ≡ stages.Called) (next_is : slice_get (roots_of plan frame.call) frame.taken ≡ Some number) (object : Object)
      (there : finite.get heap (root number) ≡ Some object) (free : object.mark ≡ Free) where
    abbrev next : Frame
    next = with_booked (root number) object.kind 0 (record frame { taken = frame.taken + 1 })

    abbrev new : Option Object
    new = Some (with_mark (Held caller) object)

    w : WaitsNow
    w = waits_called called

    ticket_zero : frame.ticket ≡ 0
    ticket_zero = ap (λ (f : Frame). f.ticket) w.waiting.is

    -- places are reserved
    has_places : frame.spares ≡ w.call.op.allocs
    has_places = by w.waiting.places
      where
        reserves_or : (b : Bool) → nat_lt frame.spares (allocs_of plan frame.call) ≡ b → (if b then Reserves (allocs_of plan frame.call) else next_root (slice_get (roots_of plan frame.call) frame.taken)) ≡ TakesRoot number → allocs_of plan frame.call ≤ frame.spares
        reserves_or true e f = absurd (let clash : Reserves (allocs_of plan frame.call) ≡ TakesRoot number = f in cc)
        reserves_or false e f = grind (arith, nat_tests, e)

        enough : allocs_of plan frame.call ≤ frame.spares
        enough =
            reserves_or (nat_lt frame.spares (allocs_of plan frame.call)) refl
            (sym (ap (λ l. due_in (next_after plan frame l)) tidy ∙ ap (λ s. due_in (next_stage plan frame s)) called) ∙ due_is)

        by : (frame.spares ≡ w.call.op.allocs) ⊎ ((frame.spares ≡ 0) × (frame.taken ≡ 0)) → frame.spares ≡ w.call.op.allocs
        by (inl e) = e
        by (inr e) = omega (arith, e.0, enough, ap (λ d. option_map_or (λ (o : OpDecl). o.allocs) d 0) w.call.declared)

    refs_as : (n : Name) → refs (put_at heap (root number) new) n ≡ refs heap n
    refs_as n = same_refs heap (ticket_in core.world) caller (root number) n (Some object) new there refl

    holds_it : IsHeld (put_at heap (root number) new) caller (root number)
    holds_it = changed.held_here heap (root number) new caller (with_mark (Held caller) object) refl refl

    own_root : IsOwnKept plan core calls caller (root number) new next
    own_root = record {
      heap_is = heap_kept (source_of plan) heap (root number) sound.heap new (Some object) there (changes object (with_mark (Held caller) object) refl (λ z. ap is_sealed (sym free)) (λ declared e f. f));
      public = record { call = refl; index = refl; ticket = refl; finished = refl };
      places = omega (arith, hidden_same heap (root number) object (with_mark (Held caller) object) there);
      enough = omega arith;
      book = changed.book_with heap (root number) new caller frame next (with_mark (Held caller) object) 0 refl refl refl (sym (refs_as (root number) ∙ lawful.free_refs.roots (root number) refl)) (λ n other. refs_as n) (sound.each caller).book;
      stands = waits (record { op = w.call.op; declared = w.call.declared; fits = w.call.fits; from_one = w.call.from_one; begun = w.call.begun })
          (record {
            is = ap (λ (f : Frame). with_booked (root number) object.kind 0 (record f { taken = frame.taken + 1 })) w.waiting.is;
            places = inl has_places;
            roots = omega (arith, slice_get_within (roots_of plan frame.call) frame.taken number next_is);
          });
      ready = called_ready plan next tidy called;
      was_busy = λ e. idle_not (sym called ∙ e);
      busy = λ e. idle_not (sym called ∙ e);
      spares = λ z. refl;
      held = λ entered. absurd (omega (arith, entered, ticket_zero));
      why = λ entered. absurd (omega (arith, entered, ticket_zero));
      hidden = λ n h z. elim (changed.held_looked heap (root number) new caller n h) [
        | inl l ↦ lawful.who_holds.hidden caller n l.1 z
        | inr l ↦ absurd (omega (arith, z, ap (λ (m : Name). m.ticket) l.0))
      ];
      are_roots = λ z n h. elim (changed.held_looked heap (root number) new caller n h) [
        | inl l ↦ let r = lawful.who_holds.roots caller n z l.1 in record { at = r.at; within = omega (arith, r.within); number = r.number; there = r.there; is = r.is }
        | inr l ↦ record { at = frame.taken; within = omega arith; number = number; there = next_is; is = l.0 }
      ];
      has_roots = λ z n r. elim (same_name n (root number)) [
        | inl same ↦ subst (IsHeld (put_at heap (root number) new) caller) (sym same) holds_it
        | inr other ↦
            elim (cases_lt r.at frame.taken) [
              | inl below ↦ changed.held_on heap (root number) new caller n other (lawful.who_holds.taken caller n z (record { at = r.at; within = below; number = r.number; there = r.there; is = r.is }))
              | inr above ↦
                  let at_is : r.at ≡ frame.taken = omega (arith, r.within, above) in
                  absurd (other (r.is ∙ ap root (same_some (sym r.there ∙ ap (slice_get (roots_of plan frame.call)) at_is ∙ next_is))))
            ]
      ];
      roots = λ n h z. elim (changed.held_looked heap (root number) new caller n h) [
        | inl l ↦ (sound.each caller).roots n l.1 z
        | inr l ↦
            subst (λ (m : Name). Contains (roots_of plan frame.call) m.index) (sym l.0)
            (frame.taken, slice_get_within (roots_of plan frame.call) frame.taken number next_is, get_or_from_slice_get (roots_of plan frame.call) frame.taken number number next_is)
      ];
      names = λ b e. omega arith;
      seals = λ b t e s. absurd (held_sealed (ap (λ (o : Object). o.mark) (same_some e) ∙ s));
    }
      where
        idle_not : stages.Called ≡ stages.Idle → ⊥
        idle_not e = cc

  own_at_root : (number : ℕ) → due plan frame ≡ TakesRoot number → frame.loose ≡ [] → frame.stage ≡ stages.Called → slice_get (roots_of plan frame.call) frame.taken ≡ Some number
      → (outcome : Acted) → act plan caller frame (due plan frame) (finite.get heap (root number)) ≡ Some outcome → IsOwnKept plan core calls caller (root number) outcome.1 outcome.0
  own_at_root number due_is tidy called next_is outcome acts = by (finite.get heap (root number)) refl (ap (λ d. act plan caller frame d (finite.get heap (root number))) (sym due_is) ∙ acts)
    where
      by_mark : (object : Object) → finite.get heap (root number) ≡ Some object → (mark : Mark) → object.mark ≡ mark → take_root caller number frame object mark ≡ Some outcome → IsOwnKept plan core calls caller (root number) outcome.1 outcome.0
      by_mark object there Free m e = subst (λ (o : Acted). IsOwnKept plan core calls caller (root number) o.1 o.0) (same_some e) (own_root number due_is tidy called next_is object there m)
      by_mark object there (Held other) m e = absurd (no_some e)
      by_mark object there (Sealed ticket) m e = absurd (no_some e)

      by : (found : Option Object) → finite.get heap (root number) ≡ found → act plan caller frame (TakesRoot number) found ≡ Some outcome → IsOwnKept plan core calls caller (root number) outcome.1 outcome.0
      by None p e = absurd (no_some e)
      by (Some object) p e = by_mark object p object.mark refl e

  -- what holds of the caller after an event that touches an object
  pub touch_own : (name : Name) → aim (due plan frame) ≡ Some name → (outcome : Acted) → act plan caller frame (due plan frame) (finite.get heap name) ≡ Some outcome → IsOwnKept plan core calls caller name outcome.1 outcome.0
  touch_own name at outcome acts = by (due plan frame) refl (why.why plan frame)
    where
      working : (w : Works plan core calls caller is lawful sound) → IsOwnKept plan core calls caller name outcome.1 outcome.0
      working w = own_entered name at outcome acts w

      none_aimed : (d : Due) → due plan frame ≡ d → aim d ≡ None → ⊥
      none_aimed d e f = no_some (sym f ∙ ap aim (sym e) ∙ at)

      by : (d : Due) → due plan frame ≡ d → Why plan frame d → IsOwnKept plan core calls caller name outcome.1 outcome.0
      by d e why.idles = absurd (none_aimed d e refl)
      by d e (why.reserves tidy stage few) = absurd (none_aimed d e refl)
      by d e (why.takes_root number tidy called next_is) =
          let same : root number ≡ name = same_some (ap aim (sym e) ∙ at) in
          subst (λ n. act plan caller frame (due plan frame) (finite.get heap n) ≡ Some outcome → IsOwnKept plan core calls caller n outcome.1 outcome.0) same (own_at_root number e tidy called next_is outcome) acts
      by d e (why.enters tidy stage next_is) = absurd (none_aimed d e refl)
      by d e (why.reads_code local field n p to) = working (works_running plan core calls caller is lawful sound p.running)
      by d e (why.reads_first field n booked given p hand) = working (works_loose plan core calls caller is lawful sound n given.rest given.first)
      by d e (why.writes_code local field content n p to) = working (works_running plan core calls caller is lawful sound p.running)
      by d e (why.writes_first field n target value booked given p hand to may) = working (works_loose plan core calls caller is lawful sound n given.rest given.first)
      by d e (why.takes_code n p to other) = working (works_running plan core calls caller is lawful sound p.running)
      by d e (why.takes_first field n target value booked given p hand to other) = working (works_loose plan core calls caller is lawful sound n given.rest given.first)
      by d e (why.lets_go n rest first what) = working (works_loose plan core calls caller is lawful sound n rest first)
      by d e (why.gives_up n booked given none) = working (works_loose plan core calls caller is lawful sound n given.rest given.first)
      by d e (why.seals end entry rest tidy ended null entries) = working (works_ended plan core calls caller is lawful sound end ended)
      by d e (why.makes kind p few) = working (works_running plan core calls caller is lawful sound p.running)
      by d e (why.finishes end tidy stage null none) = absurd (none_aimed d e refl)

  -- every event that touches an object keeps all that holds
  pub touch_keeps : (name : Name) → aim (due plan frame) ≡ Some name → (outcome : Acted) → act plan caller frame (due plan frame) (finite.get heap name) ≡ Some outcome → IsKept plan (acted core caller name outcome) calls
  touch_keeps name at outcome acts =
      let own = touch_own name at outcome acts in
      touched_kept plan core calls caller lawful sound (busy_caller plan core calls sound caller own.was_busy) name outcome.1 outcome.0 (events_may plan core calls caller is lawful sound name at outcome acts) own
      (counted_kept plan core calls caller is lawful sound name at outcome acts) (apart_kept plan core calls caller is lawful sound name at outcome acts)
