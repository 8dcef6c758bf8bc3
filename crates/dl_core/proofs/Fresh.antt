-- The state in which a run starts is lawful.
use Rattle.std.proofs.Common.{◌≡◌, ℕ, zero, suc, ◌+◌, ◌≤◌, Bool, true, false, List, [], length, replicate, get_or, Option, Some, None, refl, sym, ap, subst, ◌∙◌, arith}
use Rattle.std.specs.Prelude.{sum_by}
use Rattle.std.specs.Option.{option_map}
use Rattle.std.specs.FinMap as finite
use Rattle.std.proofs.lemmas.List.Sums.{sum_by-cons}
use Rattle.dl_ir.specs.declared.calls.Call.{Call}
use Rattle.dl_ir.specs.declared.names.Name.{Name}
use Rattle.dl_ir.specs.declared.objects.Obj.{Obj}
use Rattle.dl_ir.specs.Heap.{IsHeapOf, hidden_count}
use Rattle.dl_ir.specs.References as references
use Rattle.dl_core.specs.declared.objects.Mark.TheVariants.{Free, Held, Sealed}
use Rattle.dl_core.specs.declared.objects.Object.{Object}
use Rattle.dl_core.specs.Heaps.{refs, plain, marked, marked_object, first_mark, IsHeld}
use Rattle.dl_core.specs.Plans.{Plan, IsPlan, source_of, size_of}
use Rattle.dl_core.specs.Frames.{Frame, IsEntered, idle}
use Rattle.dl_core.specs.Core.{frame_of, fresh}
use Rattle.dl_core.specs.Reached.{no_calls, calls_of}
use Rattle.dl_core.specs.Changes.{IsCounted}
use Rattle.dl_core.specs.Lawful.{IsLawful, AddUp, entered_in, spares_in}
use Rattle.dl_core.proofs.Names.{same_some, no_some}
use Rattle.dl_core.proofs.Plain.{get_marked, plain_marked, plain_refs}
use Rattle.dl_core.proofs.Typing.{no_root_refs}
use Rattle.dl_lemmas.proofs.Places.{same_everywhere}

zero_everywhere : {X : Type 0} (weight : X → ℕ) (n : ℕ) (x : X) → weight x ≡ 0 → sum_by weight (replicate n x) ≡ 0
zero_everywhere weight zero x z = refl
zero_everywhere weight (suc n) x z = omega (arith, sum_by-cons weight x (replicate n x), z, zero_everywhere weight n x z)

-- no calls
abbrev none_called : List Call
none_called = []

pub nothing_begun : (n i : ℕ) → length (get_or (replicate n none_called) i none_called) ≡ 0
nothing_begun zero i = refl
nothing_begun (suc n) zero = refl
nothing_begun (suc n) (suc i) = nothing_begun n i

module _ (plan : Plan) (is : IsPlan plan) where
  -- each caller is idle
  pub fresh_frame : (caller : ℕ) → frame_of (fresh plan).world caller ≡ idle
  fresh_frame caller = same_everywhere (length plan.sizes + 1) caller idle

  -- what is in the heap is in the start heap
  pub from_start : (name : Name) (object : Object) → finite.get (marked plan.heap) name ≡ Some object → (o : Obj) × (finite.get plan.heap name ≡ Some o) × (object ≡ marked_object o)
  from_start name object e = by (finite.get plan.heap name) refl (sym (get_marked plan.heap name) ∙ e)
    where
      by : (found : Option Obj) → finite.get plan.heap name ≡ found → option_map marked_object (finite.get plan.heap name) ≡ Some object → (o : Obj) × (finite.get plan.heap name ≡ Some o) × (object ≡ marked_object o)
      by None p q = absurd (no_some (sym (ap (option_map marked_object) p) ∙ q))
      by (Some o) p q = (o, p, same_some (sym q ∙ ap (option_map marked_object) p))

  -- nobody holds anything
  pub fresh_unheld : (caller : ℕ) (name : Name) → IsHeld (marked plan.heap) caller name → ⊥
  fresh_unheld caller name held =
      let o = from_start name held.object held.there in
      by o.0.sealed (sym (ap (λ (x : Object). x.mark) o.2) ∙ held.held)
    where
      by : (sealed : Bool) → first_mark sealed ≡ Held caller → ⊥
      by true e = cc
      by false e = cc

  fresh_refs : (name : Name) → refs (marked plan.heap) name ≡ references.refs plan.heap name
  fresh_refs name = sym (plain_refs (marked plan.heap) name) ∙ ap (λ h. references.refs h name) (plain_marked plan.heap)

  pub fresh_heap : IsHeapOf (source_of plan) (plain (marked plan.heap))
  fresh_heap = subst (IsHeapOf (source_of plan)) (sym (plain_marked plan.heap)) is.start.startable.of_module

  fresh_counted : IsCounted (marked plan.heap)
  fresh_counted = record {
    one = λ name object there free hidden.
        let o = from_start name object there in
        fresh_refs name ∙ is.start.startable.settled name o.0 o.1 hidden (unsealed o.0.sealed (sym (ap (λ (x : Object). x.mark) o.2) ∙ free));
    roots = λ name z. no_root_refs (source_of plan) (marked plan.heap) fresh_heap name z;
  }
    where
      unsealed : (sealed : Bool) → first_mark sealed ≡ Free → sealed ≡ false
      unsealed true e = absurd (let clash : Sealed 0 ≡ Free = e in cc)
      unsealed false e = refl

  not_entered : (caller : ℕ) → IsEntered (frame_of (fresh plan).world caller) → ⊥
  not_entered caller entered = let z : (frame_of (fresh plan).world caller).ticket ≡ 0 = ap (λ (f : Frame). f.ticket) (fresh_frame caller) in omega (arith, entered, z)

  fresh_adds : AddUp plan (fresh plan) (no_calls plan)
  fresh_adds = record {
    places =
        let none : spares_in (fresh plan).world ≡ 0 = zero_everywhere (λ (f : Frame). f.spares) (length plan.sizes + 1) idle refl in
        let same : hidden_count (plain (marked plan.heap)) ≡ hidden_count plan.heap = ap hidden_count (plain_marked plan.heap) in
        omega (arith, none, same, is.start.room);
    enough = λ caller entered. absurd (not_entered caller entered);
    sizes = λ caller c. by caller;
    clock = let none : entered_in (fresh plan).world ≡ 0 = zero_everywhere _ (length plan.sizes + 1) idle refl in omega (arith, none);
    version = omega arith;
  }
    where
      by : (caller : ℕ) → length (calls_of (no_calls plan) caller) ≤ size_of plan caller
      by zero = omega arith
      by (suc place) = omega (arith, nothing_begun (length plan.sizes) place)

  -- the state in which a run starts is lawful
  pub fresh_lawful : IsLawful plan (fresh plan) (no_calls plan)
  fresh_lawful = record {
    free_refs = fresh_counted;
    locals_held = λ caller local name entered. absurd (not_entered caller entered);
    books = λ caller name entered. absurd (not_entered caller entered);
    held_why = λ caller name entered. absurd (not_entered caller entered);
    who_holds = record {
      hidden = λ caller name held. absurd (fresh_unheld caller name held);
      roots = λ caller name z held. absurd (fresh_unheld caller name held);
      taken = λ caller name z root. absurd (let none : (frame_of (fresh plan).world caller).taken ≡ 0 = ap (λ (f : Frame). f.taken) (fresh_frame caller) in omega (arith, root.within, none));
      idle = λ caller name e held. fresh_unheld caller name held;
    };
    older_reach = record { apart = λ caller name object entered. absurd (not_entered caller entered) };
    totals = fresh_adds;
  }
