-- What the machine in Rust leaves: the lists that it keeps are those of the state.
use Rattle.std.proofs.Common.{◌≡◌, ℕ, suc, ◌+◌, ◌≤◌, List, [], ◌∷◌, length, map, Some, refl, sym, ap, ◌∙◌, arith}
use Rattle.std.specs.Prelude.{All, slice_get}
use Rattle.std.specs.List.{zip}
use Rattle.std.proofs.lemmas.List.Elements.{All-head, All-tail}
use Rattle.dl_ir.specs.declared.answers.Entry.{Entry}
use Rattle.dl_ir.specs.Rows.{Rows}
use Rattle.std.specs.FinMap as finite
use Rattle.dl_instr.specs.declared.code.Code.{Code}
use Rattle.dl_core.specs.declared.counters.Counters.{Counters}
use Rattle.dl_core.specs.declared.frames.Frame.{Frame as Kept}
use Rattle.dl_core.specs.declared.objects.Object.{Object}
use Rattle.dl_core.specs.Accounts.{finished_in, versions_in}
use Rattle.dl_core.specs.Core.{Account, entries_of, entry_of, refusals_of}
use Rattle.dl_core.specs.Frames.{behind_of}
use Rattle.dl_core.specs.Machinery.{IsOfRun}
use Rattle.dl_core.specs.Parts.{core_of}
use Rattle.dl_core.specs.Sound.{numbers_from}
use Rattle.dl_core.proofs.FromKept.{heap_fits}
use Rattle.dl_core.proofs.InRun.{all, account_is, count, frame_is}

-- entries are made of what an operation and what the pool tell of them
again : (caller : ℕ) (entries : List Entry) → All (λ (entry : Entry). entry.caller ≡ caller) entries → map (entry_of caller) (zip (map finished_in entries) (map versions_in entries)) ≡ entries
again caller [] own = refl
again caller (e ∷ entries) own =
    let first : e.caller ≡ caller = All-head (λ (entry : Entry). entry.caller ≡ caller) e entries own in
    let rest = again caller entries (All-tail (λ (entry : Entry). entry.caller ≡ caller) e entries own) in
    λ i. record e { caller = sym first i } ∷ rest i

-- what is told of each frame is told of the numbers of their callers
lists : {X : Type 0} (f : Kept → X) (g : ℕ → X) (n : ℕ) (frames : List Kept) → ((at : ℕ) (frame : Kept) → slice_get frames at ≡ Some frame → f frame ≡ g (n + at)) → map f frames ≡ map g (numbers_from n (length frames))
lists f g n [] each = refl
lists f g n (x ∷ xs) each =
    let first = each 0 x refl ∙ ap g {x = n + 0} {y = n} (omega arith) in
    let rest = lists f g (n + 1) xs (λ at frame there. each (suc at) frame there ∙ ap g {x = n + suc at} {y = n + 1 + at} (omega arith)) in
    λ i. first i ∷ rest i

behind_count : {X : Type 0} (xs : List X) (n : ℕ) → length xs ≡ n + 1 → length (behind_of xs) ≡ n
behind_count [] n e = absurd (omega (arith, e))
behind_count (x ∷ xs) n e = omega (arith, e)

behind_at : {X : Type 0} (xs : List X) (at : ℕ) (x : X) → slice_get (behind_of xs) at ≡ Some x → slice_get xs (1 + at) ≡ Some x
behind_at [] at x e = e
behind_at (y ∷ xs) at x e = ap (slice_get (y ∷ xs)) {x = 1 + at} {y = suc at} (omega arith) ∙ e

module _ (code : Code) (places : ℕ) (sizes : List ℕ) (heap : Rows Object) (frames : List Kept) (counters : Counters) (run : IsOfRun code places sizes heap frames counters) where
  pub callers : length (behind_of frames) ≡ length sizes
  callers = behind_count frames (length sizes) (count code places sizes heap frames counters run)

  pub objects_fit : finite.len heap.rows ≤ heap.room
  objects_fit = heap_fits run.plan heap frames counters run.calls run.is (all code places sizes heap frames counters run) (omega (arith, run.room, run.places_are))

  entries_at : (caller : ℕ) (frame : Kept) → slice_get frames caller ≡ Some frame → frame.entries.items ≡ entries_of (core_of heap frames counters) caller
  entries_at caller frame there =
      sym (again caller frame.entries.items (run.each caller frame there).own)
      ∙ sym ((λ i. map (entry_of caller) (zip (frame_is code places sizes heap frames counters run caller frame there i).finished (account_is code places sizes heap frames counters run caller frame there i).versions)))

  refusals_at : (caller : ℕ) (frame : Kept) → slice_get frames caller ≡ Some frame → frame.refusals.items ≡ refusals_of (core_of heap frames counters) caller
  refusals_at caller frame there = sym (ap (λ (a : Account). a.refusals) (account_is code places sizes heap frames counters run caller frame there))

  pub entries_left : map (λ (frame : Kept). frame.entries.items) (behind_of frames) ≡ map (entries_of (core_of heap frames counters)) (numbers_from 1 (length sizes))
  entries_left =
      lists (λ (frame : Kept). frame.entries.items) (entries_of (core_of heap frames counters)) 1 (behind_of frames) (λ at frame there. entries_at (1 + at) frame (behind_at frames at frame there))
      ∙ ap (λ n. map (entries_of (core_of heap frames counters)) (numbers_from 1 n)) callers

  pub refusals_left : map (λ (frame : Kept). frame.refusals.items) (behind_of frames) ≡ map (refusals_of (core_of heap frames counters)) (numbers_from 1 (length sizes))
  refusals_left =
      lists (λ (frame : Kept). frame.refusals.items) (refusals_of (core_of heap frames counters)) 1 (behind_of frames) (λ at frame there. refusals_at (1 + at) frame (behind_at frames at frame there))
      ∙ ap (λ n. map (refusals_of (core_of heap frames counters)) (numbers_from 1 n)) callers
