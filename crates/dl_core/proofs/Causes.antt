-- When giving a caller a step has which answer.
use Rattle.std.proofs.Common.{◌≡◌, ◌≢◌, ◌⊎◌, inl, inr, ℕ, ◌+◌, ◌<◌, ◌≤◌, Bool, true, false, [], Option, Some, None, refl, sym, ap, subst, ◌∙◌, arith}
use Rattle.std.specs.Prelude.{◌||◌, slice_get, nat_lt, if◌then◌else◌}
use Rattle.std.specs.Option.{option_map, is_some}
use Rattle.std.specs.FinMap as finite
use Rattle.std.proofs.lemmas.Bool.Decides.{nat_tests}
use Rattle.dl_ir.specs.declared.answers.End.{End}
use Rattle.dl_ir.specs.declared.answers.Entry.{Entry}
use Rattle.dl_ir.specs.declared.names.Name.{Name}
use Rattle.dl_ir.specs.declared.names.Value.{Value}
use Rattle.dl_ir.specs.declared.names.Value.TheVariants.{Ref}
use Rattle.dl_ir.specs.declared.objects.Obj.{Obj}
use Rattle.dl_ir.specs.Heap.{root}
use Rattle.dl_core.specs.declared.answers.Event.{Event}
use Rattle.dl_core.specs.declared.answers.Event.TheVariants as events
use Rattle.dl_core.specs.declared.answers.Lock.{Lock}
use Rattle.dl_core.specs.declared.answers.Progress.{Progress}
use Rattle.dl_core.specs.declared.answers.Progress.TheVariants as progress
use Rattle.dl_core.specs.declared.dues.Due.{Due}
use Rattle.dl_core.specs.declared.dues.Due.TheVariants.{Nothing, Reserves, TakesRoot, Enters, Reads, Writes, Takes, LetsGo, GivesUp, Seals, Makes, Finishes}
use Rattle.dl_core.specs.declared.objects.Mark.{Mark}
use Rattle.dl_core.specs.declared.objects.Mark.TheVariants as marks
use Rattle.dl_core.specs.declared.objects.Object.{Object}
use Rattle.dl_core.specs.declared.stages.Stage.{Stage}
use Rattle.dl_core.specs.declared.stages.Stage.TheVariants as stages
use Rattle.dl_core.specs.Causes.{IsHeldUp, IsShort, HasCauses}
use Rattle.dl_core.specs.Core.{Core, Stepped, aim_of, frame_of, stepped, acted, with_event, stands, waits_for, waits_at, lock_of, refuses, reserves}
use Rattle.dl_core.specs.Events.{Acted, aim, act, event_of, take, take_root, taken_event}
use Rattle.dl_core.specs.Frames.{Frame, has_booked}
use Rattle.dl_core.specs.Heaps.{Heap, IsHeld, field_of, plain_object}
use Rattle.dl_core.specs.Laws.{IsKept}
use Rattle.dl_core.specs.LocalSteps.{due, due_in, next_name, next_after, next_root, next_stage}
use Rattle.dl_core.specs.Plans.{Plan, IsPlan, source_of, allocs_of, roots_of}
use Rattle.dl_core.specs.Reach.{Dominates, target_of_take}
use Rattle.dl_core.specs.Reached.{Calls}
use Rattle.dl_core.specs.Sound.{Stands, idles, waits, works}
use Rattle.dl_core.proofs.Acting.{entered_acts}
use Rattle.dl_core.proofs.CalledRoots.{root_of_call}
use Rattle.dl_core.proofs.CallerFacts.{called_waits}
use Rattle.dl_core.proofs.CoreSteps.{by_due, done_or, touching}
use Rattle.dl_core.proofs.Dominates.{events_dominate}
use Rattle.dl_core.proofs.Events.{Works, cleared, cleared_hand, hand_before, loose_held, works_loose, works_running}
use Rattle.dl_lemmas.proofs.Entries.{AreEntries, entries_are}
use Rattle.dl_shape.proofs.Names.{names}
use Rattle.dl_core.proofs.Names.{no_some, same_some}
use Rattle.dl_core.proofs.Plain.{get_plain}
use Rattle.dl_core.proofs.Rows.{target_held, target_value}
use Rattle.dl_core.proofs.Standing.{entered_busy, idle_due}
use Rattle.dl_core.proofs.Typing.{field_names}
use Rattle.dl_core.proofs.Why as why
use Rattle.dl_core.proofs.Why.{Why}

same_holder : {a b : ℕ} → marks.Held a ≡ marks.Held b → a ≡ b
same_holder e = cc

free_held : {a : ℕ} → marks.Free ≡ marks.Held a → ⊥
free_held e = cc

sealed_held : {t a : ℕ} → marks.Sealed t ≡ marks.Held a → ⊥
sealed_held e = cc

-- these events always take place, or take an object
abbrev IsAct : Due → Type 0
IsAct Nothing = ⊥
IsAct (Reserves need) = ⊥
IsAct d = Unit {0}

there_in : (found : Option Object) (o : Obj) → option_map plain_object found ≡ Some o → (object : Object) × (found ≡ Some object)
there_in None o e = absurd (no_some e)
there_in (Some object) o e = (object, refl)

either_false : (a b : Bool) → (a || b) ≡ false → a ≡ false
either_false true b e = e
either_false false b e = refl

module _ (plan : Plan) (core : Core) (calls : Calls) (caller : ℕ) (is : IsPlan plan) (all : IsKept plan core calls) where
  abbrev heap : Heap
  heap = core.world.heap

  abbrev frame : Frame
  frame = frame_of core.world caller

  abbrev Holds : ℕ → Name → Type 0
  Holds by name = IsHeld heap by name

  -- how an answer comes about
  data Comes (after : Core) (answer : Progress) : Type 0 where
    idles_now : frame.stage ≡ stages.Idle → after ≡ core → answer ≡ progress.Idle → Comes after answer
    falls_short : (need : ℕ) → due plan frame ≡ Reserves need → core.pool.free < need → answer ≡ progress.Refused need core.pool.free core.pool.version → Comes after answer
    reserves_now : (need : ℕ) (event : Event) → due plan frame ≡ Reserves need → need ≤ core.pool.free → answer ≡ progress.Moved event → Comes after answer
    goes : (d : Due) (event : Event) → due plan frame ≡ d → IsAct d → ((name : Name) (by : ℕ) → target_of_take d ≡ Some name → Holds by name → ⊥) → answer ≡ progress.Moved event → Comes after answer
    ends : (end : End) (entry : Entry) → due plan frame ≡ Finishes end → answer ≡ progress.Done entry → Comes after answer
    waits_now : (name : Name) (by : ℕ) → target_of_take (due plan frame) ≡ Some name → Holds by name → caller ≢ by → after ≡ core → answer ≡ progress.Waiting (lock_of name) by → Comes after answer

  not_act : (d e : Due) → due plan frame ≡ d → IsAct d → due plan frame ≡ e → IsAct e
  not_act d e is_d act is_e = subst IsAct (sym is_d ∙ is_e) act

  -- who is idle takes, reserves and finishes nothing
  at_rest_due : frame.stage ≡ stages.Idle → due plan frame ≡ Nothing
  at_rest_due = idle_due plan core calls caller all

  held_up : (lock : Lock) (by : ℕ) (name : Name) → target_of_take (due plan frame) ≡ Some name → (u : IsHeldUp plan core caller lock by) → u.waits.name ≡ name
  held_up lock by name takes u = same_some (sym u.waits.takes ∙ takes)

  no_take : (lock : Lock) (by : ℕ) (d : Due) → due plan frame ≡ d → target_of_take d ≡ None → IsHeldUp plan core caller lock by → ⊥
  no_take lock by d e none u = no_some (sym none ∙ ap target_of_take (sym e) ∙ u.waits.takes)

  not_short : (need found version : ℕ) (d : Due) → due plan frame ≡ d → ((n : ℕ) → d ≢ Reserves n) → IsShort plan core caller need found version → ⊥
  not_short need found version d e other u = other need (sym e ∙ u.due)

  not_idle : (d : Due) → due plan frame ≡ d → Nothing ≢ d → frame.stage ≡ stages.Idle → ⊥
  not_idle d e other i = other (sym (at_rest_due i) ∙ e)

  act_not_reserves : (d : Due) → IsAct d → (n : ℕ) → d ≢ Reserves n
  act_not_reserves d act n e = subst IsAct e act

  act_not_nothing : (d : Due) → IsAct d → Nothing ≢ d
  act_not_nothing d act e = subst IsAct (sym e) act

  takes_acts : (d : Due) (name : Name) → target_of_take d ≡ Some name → IsAct d
  takes_acts Nothing name e = absurd (no_some e)
  takes_acts (Reserves need) name e = absurd (no_some e)
  takes_acts (TakesRoot number) name e = tt
  takes_acts Enters name e = tt
  takes_acts (Reads n field) name e = tt
  takes_acts (Writes n field value) name e = tt
  takes_acts (Takes n) name e = tt
  takes_acts (LetsGo n) name e = tt
  takes_acts (GivesUp n) name e = tt
  takes_acts (Seals n) name e = tt
  takes_acts (Makes n kind) name e = tt
  takes_acts (Finishes end) name e = tt

  -- an event took place
  moved : (after : Core) (answer : Progress) (event : Event) → answer ≡ progress.Moved event → ((lock : Lock) (by : ℕ) → IsHeldUp plan core caller lock by → ⊥) → ((need found version : ℕ) → IsShort plan core caller need found version → ⊥)
      → (frame.stage ≡ stages.Idle → ⊥) → HasCauses plan core caller answer after
  moved after answer event a free enough busy = record {
    waiting = λ lock by. (λ e. absurd (let clash : progress.Moved event ≡ progress.Waiting lock by = sym a ∙ e in cc), λ u. absurd (free lock by u));
    stays = λ lock by e. absurd (let clash : progress.Moved event ≡ progress.Waiting lock by = sym a ∙ e in cc);
    refused = λ need found version. (λ e. absurd (let clash : progress.Moved event ≡ progress.Refused need found version = sym a ∙ e in cc), λ u. absurd (enough need found version u));
    idle = (λ e. absurd (let clash : progress.Moved event ≡ progress.Idle = sym a ∙ e in cc), λ i. absurd (busy i));
    rests = λ e. absurd (let clash : progress.Moved event ≡ progress.Idle = sym a ∙ e in cc);
    looked = λ place e. let clash : progress.Moved event ≡ progress.Looked place = sym a ∙ e in cc;
    raced = λ seen now e. let clash : progress.Moved event ≡ progress.Raced seen now = sym a ∙ e in cc;
  }

  -- then it has its causes
  causes : (after : Core) (answer : Progress) → Comes after answer → HasCauses plan core caller answer after
  causes after answer (idles_now idle stays a) = record {
    waiting = λ lock by. (λ e. absurd (let clash : progress.Idle ≡ progress.Waiting lock by = sym a ∙ e in cc), λ u. absurd (no_take lock by Nothing (at_rest_due idle) refl u));
    stays = λ lock by e. stays;
    refused = λ need found version. (
      λ e. absurd (let clash : progress.Idle ≡ progress.Refused need found version = sym a ∙ e in cc),
      λ u. absurd (not_short need found version Nothing (at_rest_due idle) (λ n f. cc) u),
    );
    idle = (λ e. idle, λ e. a);
    rests = λ e. stays;
    looked = λ place e. let clash : progress.Idle ≡ progress.Looked place = sym a ∙ e in cc;
    raced = λ seen now e. let clash : progress.Idle ≡ progress.Raced seen now = sym a ∙ e in cc;
  }
  causes after answer (falls_short need d short a) = record {
    waiting = λ lock by. (
      λ e. absurd (let clash : progress.Refused need core.pool.free core.pool.version ≡ progress.Waiting lock by = sym a ∙ e in cc),
      λ u. absurd (no_take lock by (Reserves need) d refl u),
    );
    stays = λ lock by e. absurd (let clash : progress.Refused need core.pool.free core.pool.version ≡ progress.Waiting lock by = sym a ∙ e in cc);
    refused = λ n found version. (
      λ e.
          let same : progress.Refused need core.pool.free core.pool.version ≡ progress.Refused n found version = sym a ∙ e in
          let n_is : need ≡ n = cc in
          let found_is : core.pool.free ≡ found = cc in
          let version_is : core.pool.version ≡ version = cc in
          record { due = d ∙ ap Reserves n_is; found_is = sym found_is; version_is = sym version_is; short = omega (arith, short, n_is, found_is) },
      λ u. a ∙ (λ i. progress.Refused (same_need (sym d ∙ u.due) i) (sym u.found_is i) (sym u.version_is i)),
    );
    idle = (λ e. absurd (let clash : progress.Refused need core.pool.free core.pool.version ≡ progress.Idle = sym a ∙ e in cc), λ i. absurd (not_idle (Reserves need) d (λ f. cc) i));
    rests = λ e. absurd (let clash : progress.Refused need core.pool.free core.pool.version ≡ progress.Idle = sym a ∙ e in cc);
    looked = λ place e. let clash : progress.Refused need core.pool.free core.pool.version ≡ progress.Looked place = sym a ∙ e in cc;
    raced = λ seen now e. let clash : progress.Refused need core.pool.free core.pool.version ≡ progress.Raced seen now = sym a ∙ e in cc;
  }
    where
      same_need : {m n : ℕ} → Reserves m ≡ Reserves n → m ≡ n
      same_need e = cc
  causes after answer (reserves_now need event d enough a) =
      moved after answer event a (λ lock by u. no_take lock by (Reserves need) d refl u) (λ n found version u. fits n found (same_need (sym d ∙ u.due)) u.found_is u.short) (λ i. not_idle (Reserves need) d (λ f. cc) i)
    where
      same_need : {m n : ℕ} → Reserves m ≡ Reserves n → m ≡ n
      same_need e = cc

      fits : (n found : ℕ) → need ≡ n → found ≡ core.pool.free → found < n → ⊥
      fits n found p q r = omega (arith, p, q, r, enough)
  causes after answer (goes d event e act nobody a) =
      moved after answer event a (λ lock by u. nobody u.waits.name by (ap target_of_take (sym e) ∙ u.waits.takes) u.waits.held) (λ n found version u. not_short n found version d e (act_not_reserves d act) u) (λ i. not_idle d e (act_not_nothing d act) i)
  causes after answer (ends end entry d a) = record {
    waiting = λ lock by. (λ e. absurd (let clash : progress.Done entry ≡ progress.Waiting lock by = sym a ∙ e in cc), λ u. absurd (no_take lock by (Finishes end) d refl u));
    stays = λ lock by e. absurd (let clash : progress.Done entry ≡ progress.Waiting lock by = sym a ∙ e in cc);
    refused = λ need found version. (
      λ e. absurd (let clash : progress.Done entry ≡ progress.Refused need found version = sym a ∙ e in cc),
      λ u. absurd (not_short need found version (Finishes end) d (λ n f. cc) u),
    );
    idle = (λ e. absurd (let clash : progress.Done entry ≡ progress.Idle = sym a ∙ e in cc), λ i. absurd (not_idle (Finishes end) d (λ f. cc) i));
    rests = λ e. absurd (let clash : progress.Done entry ≡ progress.Idle = sym a ∙ e in cc);
    looked = λ place e. let clash : progress.Done entry ≡ progress.Looked place = sym a ∙ e in cc;
    raced = λ seen now e. let clash : progress.Done entry ≡ progress.Raced seen now = sym a ∙ e in cc;
  }
  causes after answer (waits_now name holder takes held apart stays a) = record {
    waiting = λ lock by. (
      λ e.
          let same : progress.Waiting (lock_of name) holder ≡ progress.Waiting lock by = sym a ∙ e in
          let lock_is : lock_of name ≡ lock = cc in
          let by_is : holder ≡ by = cc in
          record { waits = record { name = name; takes = takes; held = subst (λ h. Holds h name) by_is held; apart = λ f. apart (f ∙ sym by_is) }; lock_is = sym lock_is },
      λ u.
          let same = held_up lock by name takes u in
          let there : u.waits.held.object ≡ held.object = same_some (sym u.waits.held.there ∙ ap (finite.get heap) same ∙ held.there) in
          let by_is : holder ≡ by = same_holder (sym held.held ∙ ap (λ (o : Object). o.mark) (sym there) ∙ u.waits.held.held) in
          a ∙ (λ i. progress.Waiting ((ap lock_of (sym same) ∙ sym u.lock_is) i) (by_is i)),
    );
    stays = λ lock by e. stays;
    refused = λ need found version. (
      λ e. absurd (let clash : progress.Waiting (lock_of name) holder ≡ progress.Refused need found version = sym a ∙ e in cc),
      λ u. absurd (no_some (sym (ap target_of_take u.due) ∙ takes)),
    );
    idle = (
      λ e. absurd (let clash : progress.Waiting (lock_of name) holder ≡ progress.Idle = sym a ∙ e in cc),
      λ i. absurd (no_some (sym (ap target_of_take (at_rest_due i)) ∙ takes)),
    );
    rests = λ e. stays;
    looked = λ place e. let clash : progress.Waiting (lock_of name) holder ≡ progress.Looked place = sym a ∙ e in cc;
    raced = λ seen now e. let clash : progress.Waiting (lock_of name) holder ≡ progress.Raced seen now = sym a ∙ e in cc;
  }

  -- ---- how each answer comes about

  -- an event that takes place at an object
  moves_at : (d : Due) → due plan frame ≡ d → (name : Name) → aim d ≡ Some name → (found : Option Object) → finite.get heap name ≡ found → (event : Event) → event_of d found ≡ Some event
      → (outcome : Acted) → act plan caller frame d found ≡ Some outcome → stepped plan core caller ≡ (acted core caller name outcome, progress.Moved event)
  moves_at d e name at found there event happens outcome acts =
      by_due plan core caller frame d refl e ∙ (λ i. done_or core (at i) (touching plan core caller frame d name at i))
      ∙ (λ i. done_or core (Some name) (with_event core caller name (event_of d (there i)) (act plan caller frame d (there i))))
      ∙ (λ i. done_or core (Some name) (with_event core caller name (happens i) (acts i)))

  abbrev ComesNow : Type 0
  ComesNow = Comes (stepped plan core caller).0 (stepped plan core caller).1

  none_takes : (d : Due) → target_of_take d ≡ None → (name : Name) (by : ℕ) → target_of_take d ≡ Some name → Holds by name → ⊥
  none_takes d none name by e held = no_some (sym none ∙ e)

  -- one that takes nothing
  does : (d : Due) → due plan frame ≡ d → IsAct d → target_of_take d ≡ None → (name : Name) → aim d ≡ Some name → (found : Option Object) → finite.get heap name ≡ found → (event : Event) → event_of d found ≡ Some event
      → (outcome : Acted) → act plan caller frame d found ≡ Some outcome → ComesNow
  does d e is_act none name at found there event happens outcome acts =
      goes d event e is_act (none_takes d none) (ap (λ (s : Stepped). s.1) (moves_at d e name at found there event happens outcome acts))

  -- one that takes an object that nobody holds
  gets : (d : Due) → due plan frame ≡ d → IsAct d → (name : Name) → target_of_take d ≡ Some name → aim d ≡ Some name → (object : Object) → finite.get heap name ≡ Some object → ((by : ℕ) → object.mark ≢ marks.Held by) → (event : Event)
      → event_of d (Some object) ≡ Some event → (outcome : Acted) → act plan caller frame d (Some object) ≡ Some outcome → ComesNow
  gets d e is_act name takes at object there unheld event happens outcome acts =
      goes d event e is_act
      (λ other by f held. unheld by (ap (λ (o : Object). o.mark) (same_some (sym there ∙ ap (finite.get heap) (same_some (sym takes ∙ f)) ∙ held.there)) ∙ held.held))
      (ap (λ (s : Stepped). s.1) (moves_at d e name at (Some object) there event happens outcome acts))

  -- one that takes an object that another holds
  waits_at_one : (d : Due) → due plan frame ≡ d → (name : Name) → target_of_take d ≡ Some name → aim d ≡ Some name → (object : Object) → finite.get heap name ≡ Some object → (by : ℕ) → object.mark ≡ marks.Held by → caller ≢ by
      → act plan caller frame d (Some object) ≡ None → ComesNow
  waits_at_one d e name takes at object there by mark apart stuck =
      let is : stepped plan core caller ≡ (core, progress.Waiting (lock_of name) by) =
      by_due plan core caller frame d refl e ∙ (λ i. done_or core (at i) (touching plan core caller frame d name at i))
      ∙ (λ i. done_or core (Some name) (with_event core caller name (event_of d (there i)) (act plan caller frame d (there i))))
      ∙ none (event_of d (Some object)) (act plan caller frame d (Some object)) stuck
      ∙ (λ i. (core, waits_for name (there i))) ∙ (λ i. (core, waits_at name (mark i))) in
      waits_now name by (ap target_of_take e ∙ takes) (record { object = object; there = there; held = mark }) apart (ap (λ (s : Stepped). s.0) is) (ap (λ (s : Stepped). s.1) is)
    where
      none : (event : Option Event) (outcome : Option Acted) → outcome ≡ None → done_or core (Some name) (with_event core caller name event outcome) ≡ (core, stands heap (Some name))
      none None outcome f = refl
      none (Some event) None f = refl
      none (Some event) (Some outcome) f = absurd (no_some (sym f))

  dominates : Dominates core.world caller frame (due plan frame)
  dominates = events_dominate plan core calls caller is all.lawful all.sound

  called_acts : frame.stage ≡ stages.Called → frame.loose ≡ [] → due plan frame ≡ Nothing → ⊥
  called_acts called tidy e = by (nat_lt frame.spares (allocs_of plan frame.call)) (slice_get (roots_of plan frame.call) frame.taken) (sym (ap (λ l. due_in (next_after plan frame l)) tidy ∙ ap (λ s. due_in (next_stage plan frame s)) called) ∙ e)
    where
      by : (b : Bool) (number : Option ℕ) → (if b then Reserves (allocs_of plan frame.call) else next_root number) ≡ Nothing → ⊥
      by true number f = cc
      by false None f = cc
      by false (Some number) f = cc

  -- nothing comes next only where no call is in hand
  nothing_idle : due plan frame ≡ Nothing → frame.stage ≡ stages.Idle
  nothing_idle e = by (all.sound.each caller).stands
    where
      not_called : (s : Stage) → (s ≡ stages.Running) ⊎ ((end : End) × (s ≡ stages.Ended end)) → s ≡ stages.Called → ⊥
      not_called s (inl p) q = let clash : stages.Running ≡ stages.Called = sym p ∙ q in cc
      not_called s (inr p) q = let clash : stages.Ended p.0 ≡ stages.Called = sym p.1 ∙ q in cc

      by : Stands plan heap calls caller frame → frame.stage ≡ stages.Idle
      by (idles f) = ap (λ (g : Frame). g.stage) f
      by (waits call w) = absurd (called_acts (ap (λ (g : Frame). g.stage) w.is) (ap (λ (g : Frame). g.loose) w.is) e)
      by (works call entered w) = absurd (entered_acts plan frame (all.sound.each caller).ready (entered_busy plan heap calls caller frame (works call entered w) entered) (not_called frame.stage w.stage) (ap aim_of e))

  asks : (need : ℕ) → due plan frame ≡ Reserves need → (b : Bool) → nat_lt core.pool.free need ≡ b → ComesNow
  asks need e true t =
      falls_short need e (grind (arith, nat_tests, t)) (ap (λ (s : Stepped). s.1) (by_due plan core caller frame (Reserves need) refl e ∙ ap (λ c. if c then refuses core caller frame need else reserves core caller frame need) t))
  asks need e false t =
      reserves_now need (events.Reserve need (core.pool.version + 1)) e (grind (arith, nat_tests, t))
      (ap (λ (s : Stepped). s.1) (by_due plan core caller frame (Reserves need) refl e ∙ ap (λ c. if c then refuses core caller frame need else reserves core caller frame need) t))

  taking : (name : Name) → due plan frame ≡ Takes name → (object : Object) → finite.get heap name ≡ Some object → (Holds caller name → ⊥) → (mark : Mark) → object.mark ≡ mark → ComesNow
  taking name e object there mine marks.Free m =
      gets (Takes name) e tt name refl refl object there (λ by f. free_held (sym m ∙ f)) (events.Take name) (ap (λ k. Some (taken_event name k)) m) _ (ap (take plan caller name frame object) m)
  taking name e object there mine (marks.Held by) m =
      waits_at_one (Takes name) e name refl refl object there by m (λ f. mine (record { object = object; there = there; held = m ∙ ap marks.Held (sym f) })) (ap (take plan caller name frame object) m)
  taking name e object there mine (marks.Sealed ticket) m =
      gets (Takes name) e tt name refl refl object there (λ by f. sealed_held (sym m ∙ f)) (events.SeeSealed name) (ap (λ k. Some (taken_event name k)) m) _ (ap (take plan caller name frame object) m)

  takes_one : (name : Name) → due plan frame ≡ Takes name → ((object : Object) × (finite.get heap name ≡ Some object)) → (Holds caller name → ⊥) → ComesNow
  takes_one name e found mine = taking name e found.0 found.1 mine found.0.mark refl

  reads : (name : Name) (field : ℕ) → due plan frame ≡ Reads name field → ComesNow
  reads name field e = let held = subst (Dominates core.world caller frame) e dominates in does (Reads name field) e tt refl name refl (Some held.object) held.there (events.Read name field) refl _ refl

  writes : (name : Name) (field : ℕ) (value : Value) → due plan frame ≡ Writes name field value → ComesNow
  writes name field value e = let held = subst (Dominates core.world caller frame) e dominates in does (Writes name field value) e tt refl name refl (Some held.object) held.there (events.Write name field) refl _ refl

  -- what a field refers to is there
  linked : (from name : Name) (object : Object) (field : ℕ) → finite.get heap from ≡ Some object → field_of object field ≡ Ref (Some name) → (found : Object) × (finite.get heap name ≡ Some found)
  linked from name object field there refers =
      let found = (field_names (source_of plan) heap all.sound.heap name from object there field refers).1 in
      there_in (finite.get heap name) found.0 (sym (get_plain heap name) ∙ found.1)

  unbooked : (name : Name) → has_booked frame name ≡ false → Holds caller name → ⊥
  unbooked name other held = let booked = (all.sound.each caller).book.all name held in let clash : true ≡ false = sym (ap is_some booked.1) ∙ other in cc

  makes : (kind : ℕ) → due plan frame ≡ Makes (next_name frame) kind → Works plan core calls caller is all.lawful all.sound → (found : Option Object) → finite.get heap (next_name frame) ≡ found → ComesNow
  makes kind e w None there = does (Makes (next_name frame) kind) e tt refl (next_name frame) refl None there (events.Make (next_name frame)) refl _ refl
  makes kind e w (Some object) there = absurd (let few = w.2.own_names (next_name frame) object there refl in omega (arith, few))

  comes : ComesNow
  comes = by (due plan frame) refl (why.why plan frame)
    where
      by : (d : Due) → due plan frame ≡ d → Why plan frame d → ComesNow
      by d e why.idles = idles_now (nothing_idle e) (ap (λ (s : Stepped). s.0) (by_due plan core caller frame Nothing refl e)) (ap (λ (s : Stepped). s.1) (by_due plan core caller frame Nothing refl e))
      by d e (why.reserves tidy stage few) = asks (allocs_of plan frame.call) e (nat_lt core.pool.free (allocs_of plan frame.call)) refl
      by d e (why.takes_root number tidy called next) =
          let call = (called_waits plan core calls caller is all called).0 in
          let root_is = root_of_call plan frame.call frame.taken number call.fits next in
          let o = all.sound.heap.roots root_is.0 (root number) root_is.1 in
          let found = there_in (finite.get heap (root number)) o.0 (sym (get_plain heap (root number)) ∙ o.1) in
          let mine : Holds caller (root number) → ⊥ = λ h. let less = ((subst (Dominates core.world caller frame) e dominates).1 (root number) h).1 in omega (arith, less) in
          takes_it number e found mine found.0.mark refl
        where
          takes_it : (number : ℕ) → due plan frame ≡ TakesRoot number → (found : (object : Object) × (finite.get heap (root number) ≡ Some object)) → (Holds caller (root number) → ⊥) → (mark : Mark) → found.0.mark ≡ mark → ComesNow
          takes_it number e found mine marks.Free m =
              gets (TakesRoot number) e tt (root number) refl refl found.0 found.1 (λ by f. free_held (sym m ∙ f)) (events.TakeRoot number) refl _ (ap (take_root caller number frame found.0) m)
          takes_it number e found mine (marks.Held by) m =
              waits_at_one (TakesRoot number) e (root number) refl refl found.0 found.1 by m (λ f. mine (record { object = found.0; there = found.1; held = m ∙ ap marks.Held (sym f) })) (ap (take_root caller number frame found.0) m)
          takes_it number e found mine (marks.Sealed ticket) m = absurd (let hidden = (all.sound.tickets.seals (root number) found.0 ticket found.1 m).1 in omega (arith, hidden))
      by d e (why.enters tidy stage next) = goes Enters (events.Enter (core.clock + 1)) e tt (none_takes Enters refl) (ap (λ (s : Stepped). s.1) (by_due plan core caller frame Enters refl e))
      by d e (why.reads_code local field n at to) = reads n field e
      by d e (why.reads_first field n booked given at hand) = reads n field e
      by d e (why.writes_code local field content n at to) = writes n field _ e
      by d e (why.writes_first field n target value booked given at hand to may) = writes n field _ e
      by d e (why.takes_code n at to other) =
          let w = works_running plan core calls caller is all.lawful all.sound at.running in
          let got = (hand_before plan core calls caller is all.lawful all.sound w _ at) in
          takes_one n e (linked got.read.name n got.read.object got.field got.read.there (same_some (sym got.read.in_hand ∙ target_held frame.hand n to))) (unbooked n other)
      by d e (why.takes_first field n target value booked given at hand to other) =
          let w = works_loose plan core calls caller is all.lawful all.sound n given.rest given.first in
          let c = cleared plan core calls caller is all.lawful all.sound w n booked given in
          takes_one target e (linked n target c.object field c.there (sym (cleared_hand plan core calls caller is all.lawful all.sound n booked c value field hand at) ∙ target_value value target to)) (unbooked target (either_false (has_booked frame target) frame.seen other))
      by d e (why.lets_go n rest first what) =
          let w = works_loose plan core calls caller is all.lawful all.sound n rest first in
          let held = (loose_held plan core calls caller is all.lawful all.sound w n rest first).held in
          does (LetsGo n) e tt refl n refl (Some held.object) held.there (events.LetGo n) refl _ refl
      by d e (why.gives_up n booked given none) =
          let w = works_loose plan core calls caller is all.lawful all.sound n given.rest given.first in
          let c = cleared plan core calls caller is all.lawful all.sound w n booked given in
          does (GivesUp n) e tt refl n refl (Some c.object) c.there (events.GiveUp n) refl _ refl
      by d e (why.seals end entry rest tidy ended null entries) =
          let are = subst (AreEntries frame.book) entries (entries_are names frame.book) in
          let at = (all.sound.each caller).book.booked entry.0 entry.1 are.0 in
          does (Seals entry.0) e tt refl entry.0 refl (Some at.object) at.there (events.Seal entry.0) refl _ refl
      by d e (why.makes kind at few) = makes kind e (works_running plan core calls caller is all.lawful all.sound at.running) (finite.get heap (next_name frame)) refl
      by d e (why.finishes end tidy stage null none) = ends end _ e (ap (λ (s : Stepped). s.1) (by_due plan core caller frame (Finishes end) refl e))

  -- each answer has its causes
  pub has_causes : (after : Core) (answer : Progress) → stepped plan core caller ≡ (after, answer) → HasCauses plan core caller answer after
  has_causes after answer e = subst (λ (s : Stepped). HasCauses plan core caller s.1 s.0) e (causes (stepped plan core caller).0 (stepped plan core caller).1 comes)
