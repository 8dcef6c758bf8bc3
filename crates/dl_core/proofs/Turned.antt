-- A change of one caller's frame alone keeps all that holds, if it keeps what holds of that caller and of what is counted.
use Rattle.std.proofs.Common.{◌≡◌, ◌≢◌, inl, inr, ℕ, ◌+◌, ◌<◌, length, Some, sym, ap, subst, ◌∙◌, arith}
use Rattle.std.specs.Prelude.{slice_get, sum_by, Contains}
use Rattle.std.proofs.lemmas.List.{length-set, get_or-set_same, get_or-set_other}
use Rattle.std.proofs.lemmas.List.Sums.{sum_by-set}
use Rattle.dl_ir.specs.declared.names.Name.{Name}
use Rattle.dl_ir.specs.declared.names.Value.TheVariants.{Ref}
use Rattle.dl_ir.specs.Heap.{IsHidden}
use Rattle.dl_core.specs.declared.stages.Stage.TheVariants as stages
use Rattle.dl_core.specs.Heaps.{Heap, IsHeld}
use Rattle.dl_core.specs.Plans.{Plan, IsCaller, roots_of}
use Rattle.dl_core.specs.Frames.{Frame, IsEntered, idle}
use Rattle.dl_core.specs.LocalSteps.{IsReady}
use Rattle.dl_core.specs.Core.{Core, Pool, Shared, frame_of, with_frame}
use Rattle.dl_core.specs.Reached.{Calls}
use Rattle.dl_core.specs.Reach.{ticket_in}
use Rattle.dl_core.specs.Changes.{IsApart}
use Rattle.dl_core.specs.Lawful.{IsLawful, HasReason, IsTakenRoot, AddUp}
use Rattle.dl_core.specs.Laws.{IsKept}
use Rattle.dl_core.specs.Sound.{IsSound, HasBook, Stands, HasHistory, KeepsOrder, HasTickets, HasLog}
use Rattle.dl_core.proofs.Names.{same_number}

-- what holds of a caller with another frame
pub record IsOwnTurn (plan : Plan) (heap : Heap) (calls : Calls) (caller : ℕ) (next : Frame) : Type 0 where
  pub book : HasBook heap caller next
  pub stands : Stands plan heap calls caller next
  pub ready : IsReady plan next
  pub held : IsEntered next → (local : ℕ) (n : Name) → slice_get next.locals local ≡ Some (Ref (Some n)) → IsHeld heap caller n
  pub why : IsEntered next → (n : Name) → IsHeld heap caller n → HasReason heap next n
  pub hidden : (n : Name) → IsHeld heap caller n → IsHidden n → IsEntered next
  pub are_roots : next.ticket ≡ 0 → (n : Name) → IsHeld heap caller n → IsTakenRoot plan next n
  pub has_roots : next.ticket ≡ 0 → (n : Name) → IsTakenRoot plan next n → IsHeld heap caller n
  pub idle : next.stage ≡ stages.Idle → (n : Name) → IsHeld heap caller n → ⊥
  pub roots : (n : Name) → IsHeld heap caller n → n.ticket ≡ 0 → Contains (roots_of plan next.call) n.index

module _ (plan : Plan) (core : Core) (calls : Calls) (caller : ℕ) (lawful : IsLawful plan core calls) (sound : IsSound plan core calls) (is_caller : IsCaller plan caller) (next : Frame) where
  abbrev heap : Heap
  heap = core.world.heap

  abbrev frame : Frame
  frame = frame_of core.world caller

  abbrev pub world : Shared
  world = with_frame core.world caller next

  within : caller < length core.world.frames
  within = omega (arith, is_caller.to_last, sound.frames)

  pub frame_own : frame_of world caller ≡ next
  frame_own = get_or-set_same core.world.frames caller next idle within

  pub frame_other : (d : ℕ) → d ≢ caller → frame_of world d ≡ frame_of core.world d
  frame_other d other = get_or-set_other core.world.frames caller d next idle other

  pub for_each : (P : ℕ → Frame → Type 0) → P caller next → ((d : ℕ) → d ≢ caller → P d (frame_of core.world d)) → (d : ℕ) → P d (frame_of world d)
  for_each P mine theirs d = elim (same_number d caller) [
    | inl same ↦ subst (λ c. P c (frame_of world c)) (sym same) (subst (P caller) (sym frame_own) mine)
    | inr other ↦ subst (P d) (sym (frame_other d other)) (theirs d other)
  ]

  pub sum_changed : (g : Frame → ℕ) → sum_by g world.frames + g frame ≡ sum_by g core.world.frames + g next
  sum_changed g = sum_by-set g core.world.frames caller next idle within

  -- all that holds is kept, with another clock, another pool and other calls
  pub turned_kept : (clock : ℕ) (pool : Pool) (calls' : Calls) → IsOwnTurn plan heap calls' caller next → ((d : ℕ) → d ≢ caller → Stands plan heap calls d (frame_of core.world d) → Stands plan heap calls' d (frame_of core.world d))
      → IsApart heap (ticket_in world) → AddUp plan (record { world = world; clock = clock; pool = pool }) calls' → length pool.accounts ≡ length plan.sizes + 1 → length calls' ≡ length plan.sizes
      → ((d : ℕ) → HasHistory plan (record { world = world; clock = clock; pool = pool }) calls' d) → ((d : ℕ) → KeepsOrder plan (record { world = world; clock = clock; pool = pool }) calls' d)
      → HasTickets plan (record { world = world; clock = clock; pool = pool }) → HasLog plan (record { world = world; clock = clock; pool = pool }) calls' → IsKept plan (record { world = world; clock = clock; pool = pool }) calls'
  turned_kept clock pool calls' own others apart totals accounts lists history order tickets log = record {
    lawful = record {
      free_refs = lawful.free_refs;
      locals_held = λ d local n entered e. for_each (λ d' f. IsEntered f → (l : ℕ) (m : Name) → slice_get f.locals l ≡ Some (Ref (Some m)) → IsHeld heap d' m) own.held (λ d' other entered' l m e'. lawful.locals_held d' l m entered' e') d entered local n e;
      books = λ d n entered h. let k = (each_book d).all n h in record { booked = k.0; there = k.1; fields = ((each_book d).booked n k.0 k.1).fields };
      held_why = λ d n entered h. for_each (λ d' f. IsEntered f → (m : Name) → IsHeld heap d' m → HasReason heap f m) own.why (λ d' other entered' m h'. lawful.held_why d' m entered' h') d entered n h;
      who_holds = record {
        hidden = for_each (λ d f. (n : Name) → IsHeld heap d n → IsHidden n → IsEntered f) own.hidden (λ d other. lawful.who_holds.hidden d);
        roots = λ d n z h. for_each (λ d' f. f.ticket ≡ 0 → (m : Name) → IsHeld heap d' m → IsTakenRoot plan f m) own.are_roots (λ d' other z' m h'. lawful.who_holds.roots d' m z' h') d z n h;
        taken = λ d n z r. for_each (λ d' f. f.ticket ≡ 0 → (m : Name) → IsTakenRoot plan f m → IsHeld heap d' m) own.has_roots (λ d' other z' m r'. lawful.who_holds.taken d' m z' r') d z n r;
        idle = λ d n e h. for_each (λ d' f. f.stage ≡ stages.Idle → (m : Name) → IsHeld heap d' m → ⊥) own.idle (λ d' other e' m h'. lawful.who_holds.idle d' m e' h') d e n h;
      };
      older_reach = apart;
      totals = totals;
    };
    sound = record {
      heap = sound.heap;
      holders = sound.holders;
      frames = length-set core.world.frames caller next ∙ sound.frames;
      accounts = accounts;
      lists = lists;
      nobody = λ d not_one. elim (same_number d caller) [
        | inl same ↦ absurd (not_one (subst (IsCaller plan) (sym same) is_caller))
        | inr other ↦ ap (λ (f : Frame). f.stage) (frame_other d other) ∙ sound.nobody d not_one
      ];
      each = λ d. record {
        book = each_book d;
        stands = for_each (λ d' f. Stands plan heap calls' d' f) own.stands (λ d' other. others d' other (sound.each d').stands) d;
        ready = for_each (λ d' f. IsReady plan f) own.ready (λ d' other. (sound.each d').ready) d;
        roots = for_each (λ d' f. (n : Name) → IsHeld heap d' n → n.ticket ≡ 0 → Contains (roots_of plan f.call) n.index) own.roots (λ d' other. (sound.each d').roots) d;
        history = history d;
        order = order d;
      };
      tickets = tickets;
      log = log;
    };
  }
    where
      each_book : (d : ℕ) → HasBook heap d (frame_of world d)
      each_book = for_each (λ d f. HasBook heap d f) own.book (λ d other. (sound.each d).book)
