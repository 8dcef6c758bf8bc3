-- What is left of a run that is closed when no pass has a call in hand.
use Rattle.std.proofs.Common.{◌≡◌, ℕ, zero, suc, ◌+◌, List, [], ◌∷◌, ◌++◌, map, length, Some, refl, sym, ap, ap₂, subst, ◌∙◌, arith, inl, inr}
use Rattle.std.specs.Prelude.{All, slice_get}
use Rattle.std.specs.List.{flat_map, zip}
use Rattle.std.specs.List.Sorted.{IsNonDecreasingBy}
use Rattle.std.proofs.lemmas.Bool.{cases_lt}
use Rattle.std.proofs.lemmas.List.{length-map}
use Rattle.dl_ir.specs.declared.answers.Entry.{Entry}
use Rattle.dl_ir.specs.declared.answers.Refusal.{Refusal}
use Rattle.dl_ir.specs.declared.calls.Call.{Call}
use Rattle.dl_ir.specs.declared.closed.Closed.{Closed}
use Rattle.dl_ir.specs.Heap.{Objects, hidden_count}
use Rattle.dl_shape.specs.Pool.{IsLawfulPool, HasVersionsOfMovesAlone}
use Rattle.dl_shape.specs.Replay.{replayed, IsLegal}
use Rattle.dl_shape.specs.Rising.{in_rising}
use Rattle.dl_core.specs.Plans.{Plan, IsPlan, source_of}
use Rattle.dl_core.specs.Frames.{Frame}
use Rattle.dl_core.specs.Core.{Account, frame_of, entry_of, entries_of, refusals_of}
use Rattle.dl_core.specs.Passes.{PassView, entries_in, refusals_in}
use Rattle.dl_core.specs.Closing.{EndsOn, IsLawfulEnd, AreDone, AreOfCallers, all_of, begun_on, history_left}
use Rattle.dl_core.specs.Sound.{IsSound, numbers_from}
use Rattle.dl_core.proofs.LawfulAlways.{lawful_always}
use Rattle.dl_order.specs.Ends.{IsRunOver, RunsClose, history_in, all_refusals}
use Rattle.dl_core.specs.Machines.{AreAllIdle}
use Rattle.dl_order.proofs.Ends.{runs_end}
use Rattle.dl_lemmas.proofs.Places.{in_map, one_at}

-- what passes have, in order, is what callers have
pieces : {Y : Type 0} (f : PassView → List Y) (g : ℕ → List Y) (first : ℕ) (views : List PassView) → ((at : ℕ) (view : PassView) → slice_get views at ≡ Some view → f view ≡ g (first + at))
    → all_of (map f views) ≡ flat_map g (numbers_from first (length views))
pieces f g first [] same = refl
pieces f g first (view ∷ views) same =
    ap₂ (λ xs ys. xs ++ ys) (let here : first + 0 ≡ first = omega arith in same 0 view refl ∙ ap g here)
    (pieces f g (first + 1) views (λ at other there. let later : first + suc at ≡ first + 1 + at = omega arith in same (suc at) other there ∙ ap g later))

module _ (plan : Plan) (views : List PassView) (closed : Closed) (is : IsPlan plan) (done : AreDone views) (on : EndsOn plan views closed) where
  abbrev calls : List (List Call)
  calls = begun_on views

  sound : IsSound plan on.core calls
  sound = (lawful_always plan on.core calls is on.reached).sound

  many : length views ≡ length plan.sizes
  many = sym (length-map views (λ (view : PassView). view.calls)) ∙ sound.lists

  resting : AreAllIdle on.core
  resting zero = sound.nobody 0 (λ caller. omega (arith, caller.from_one))
  resting (suc at) = elim (cases_lt at (length views)) [
    | inr past ↦ sound.nobody (suc at) (λ caller. omega (arith, past, many, caller.to_last))
    | inl within ↦
        let view = one_at views at within in
        let number = (done at view.0 view.1).1 in
        let here : view.0.caller ≡ suc at = omega (arith, number) in
        ap (λ (c : ℕ). (frame_of on.core.world c).stage) (sym here) ∙ ap (λ (f : Frame). f.stage) (on.frames at view.0 view.1) ∙ (done at view.0 view.1).0.stage
  ]

  run : IsRunOver plan on.core calls
  run = runs_end plan on.core calls is on.reached resting

  entries_same : (at : ℕ) (view : PassView) → slice_get views at ≡ Some view → entries_in view ≡ entries_of on.core (1 + at)
  entries_same at view there =
      let number = (done at view there).1 in
      let here : view.caller ≡ 1 + at = omega (arith, number) in
      ap₂ (λ (f : Frame) (a : Account). map (entry_of view.caller) (zip f.finished a.versions)) (sym (on.frames at view there)) (sym (on.accounts at view there))
      ∙ ap (entries_of on.core) here

  refusals_same : (at : ℕ) (view : PassView) → slice_get views at ≡ Some view → refusals_in view ≡ refusals_of on.core (1 + at)
  refusals_same at view there =
      let number = (done at view there).1 in
      let here : view.caller ≡ 1 + at = omega (arith, number) in
      ap (λ (a : Account). a.refusals) (sym (on.accounts at view there)) ∙ ap (refusals_of on.core) here

  history_same : history_left closed ≡ history_in plan on.core
  history_same =
      ap (in_rising (λ (entry : Entry). entry.ticket))
      (ap all_of on.entries ∙ pieces entries_in (entries_of on.core) 1 views entries_same ∙ ap (λ n. flat_map (entries_of on.core) (numbers_from 1 n)) many)

  refused_same : all_of closed.refusals ≡ all_refusals plan on.core
  refused_same = ap all_of on.refusals ∙ pieces refusals_in (refusals_of on.core) 1 views refusals_same ∙ ap (λ n. flat_map (refusals_of on.core) (numbers_from 1 n)) many

  -- each caller's refusals are those that its pass kept
  by_callers : AreOfCallers closed.refusals
  by_callers at list there =
      let view = in_map refusals_in views at list (ap (λ (lists : List (List Refusal)). slice_get lists at) (sym on.refusals) ∙ there) in
      let own : refusals_of on.core (1 + at) ≡ list = sym (refusals_same at view.0 view.1) ∙ view.2 in
      let number : 1 + at ≡ at + 1 = omega arith in
      subst (λ (caller : ℕ). All (λ (refusal : Refusal). refusal.caller ≡ caller) list × IsNonDecreasingBy (λ (refusal : Refusal). refusal.index) list) number
      (subst (λ (refusals : List Refusal). All (λ (refusal : Refusal). refusal.caller ≡ 1 + at) refusals × IsNonDecreasingBy (λ (refusal : Refusal). refusal.index) refusals) own (run.refusals (1 + at)))

  lawful_end : IsLawfulEnd plan calls closed
  lawful_end = record {
    legal = subst (IsLegal (source_of plan) calls plan.heap) (sym history_same) run.legal;
    pool = subst (λ (history : List Entry). IsLawfulPool plan.places (source_of plan) calls plan.heap history (all_of closed.refusals)) (sym history_same)
        (subst (IsLawfulPool plan.places (source_of plan) calls plan.heap (history_in plan on.core)) (sym refused_same) run.pool);
    versions = subst (All (HasVersionsOfMovesAlone (source_of plan) calls)) (sym history_same) run.versions;
    refusals = by_callers;
    heap = on.heap ∙ run.heap ∙ ap (replayed (source_of plan) calls plan.heap) (sym history_same);
    free = ap₂ (λ (free : ℕ) (heap : Objects). free + hidden_count heap) on.free on.heap ∙ run.free;
  }

pub runs_close : RunsClose
runs_close plan views closed is done on = lawful_end plan views closed is done on
