-- Passes that are ready for their files, from the start to the end.
use Rattle.std.proofs.Common.{◌≡◌, ℕ, zero, suc, ◌+◌, ◌<◌, List, [], ◌∷◌, ◌++◌, length, take, drop, get_or, Some, refl, sym, ap, subst, ◌∙◌, arith, map}
use Rattle.std.specs.Prelude.{All, slice_get}
use Rattle.std.proofs.lemmas.Grind.{common_steps}
use Rattle.std.proofs.lemmas.Option.{slice_get_within, get_or_from_slice_get}
use Rattle.dl_ir.specs.declared.calls.Call.{Call}
use Rattle.dl_ir.specs.CallForms.{IsCallOf}
use Rattle.dl_core.specs.Plans.{Plan, source_of}
use Rattle.dl_core.specs.Passes.{PassView, fresh_pass}
use Rattle.dl_core.specs.Closing.{AreFresh, AreIdle}
use Rattle.dl_machine.specs.Files.{IsReadyFor, HasServed, AreReady, HaveServed, callers_on}
use Rattle.dl_machine.proofs.Serving.{serves_none}
use Rattle.dl_lemmas.proofs.Places.{one_at}

module _ {P : Type 0} (plan : Plan) (is_of : P → Type 0) (view : P → PassView) where
  pub ready_first : (files : List (List Call)) (passes : List P) (file : List Call) (pass : P) → 0 < length passes → AreReady plan is_of view files passes
      → is_of (get_or passes 0 pass) × IsReadyFor plan (get_or files 0 file) (view (get_or passes 0 pass))
  ready_first files [] file pass some h = absurd (omega arith)
  ready_first [] (q ∷ qs) file pass some h = absurd h
  ready_first (g ∷ gs) (q ∷ qs) file pass some h = h.0

  pub ready_take : (files : List (List Call)) (passes : List P) → 0 < length passes → AreReady plan is_of view files passes → AreReady plan is_of view (take 1 files) (take 1 passes)
  ready_take files [] some h = absurd (omega arith)
  ready_take [] (q ∷ qs) some h = absurd h
  ready_take (g ∷ gs) (q ∷ qs) some h = (h.0, tt)

  pub ready_drop : (files : List (List Call)) (passes : List P) → 0 < length passes → AreReady plan is_of view files passes → AreReady plan is_of view (drop 1 files) (drop 1 passes)
  ready_drop files [] some h = absurd (omega arith)
  ready_drop [] (q ∷ qs) some h = absurd h
  ready_drop (g ∷ gs) (q ∷ qs) some h = h.1

  -- the size of the caller that comes after so many
  size_at : (sizes : List ℕ) (files : List (List Call)) (at : ℕ) (file : List Call) → sizes ≡ map length files → slice_get files at ≡ Some file → get_or sizes at 0 ≡ length file
  size_at sizes files at file same there = ap (λ (all : List ℕ). get_or all at 0) same ∙ size_of_file files at file there
    where
      size_of_file : (files : List (List Call)) (at : ℕ) (file : List Call) → slice_get files at ≡ Some file → get_or (map length files) at 0 ≡ length file
      size_of_file [] at file there = cc there
      size_of_file (f ∷ fs) zero file there = cc there
      size_of_file (f ∷ fs) (suc at) file there = size_of_file fs at file there

  ready_all : (files : List (List Call)) (passes : List P) → length passes ≡ length files
      → ((at : ℕ) (pass : P) (file : List Call) → slice_get passes at ≡ Some pass → slice_get files at ≡ Some file → is_of pass × IsReadyFor plan file (view pass))
      → AreReady plan is_of view files passes
  ready_all [] [] same each = tt
  ready_all [] (p ∷ ps) same each = absurd (omega arith)
  ready_all (f ∷ fs) [] same each = absurd (omega arith)
  ready_all (f ∷ fs) (p ∷ ps) same each = (each 0 p f refl refl, ready_all fs ps (omega arith) (λ at pass file p_there f_there. each (suc at) pass file p_there f_there))

  fresh_ready : (at : ℕ) (file : List Call) → get_or plan.sizes at 0 ≡ length file → All (IsCallOf (source_of plan)) file → IsReadyFor plan file (fresh_pass plan (suc at))
  fresh_ready at file size fits = record {
    served = record { idle = record { stage = refl; unreserved = refl }; serves = serves_none (suc at) (fresh_pass plan (suc at)).front };
    nothing = refl;
    room = omega arith;
    fits = fits;
  }

  all_at : (files : List (List Call)) (at : ℕ) (file : List Call) → All (λ file. All (IsCallOf (source_of plan)) file) files → slice_get files at ≡ Some file → All (IsCallOf (source_of plan)) file
  all_at files at file fits there = subst (All (IsCallOf (source_of plan))) (get_or_from_slice_get files at file file there) (fits at file (slice_get_within files at file there))

  pub ready_from : (files : List (List Call)) (passes : List P) → AreFresh plan is_of view passes → plan.sizes ≡ map length files → All (λ file. All (IsCallOf (source_of plan)) file) files
      → length passes ≡ length files → AreReady plan is_of view files passes
  ready_from files passes fresh sizes fits same = ready_all files passes same (λ at pass file p_there f_there.
      let each = fresh.each at pass p_there in
      (each.0, subst (IsReadyFor plan file) (sym each.1 ∙ refl) (ready_at at file (size_at plan.sizes files at file sizes f_there) (all_at files at file fits f_there))))
    where
      ready_at : (at : ℕ) (file : List Call) → get_or plan.sizes at 0 ≡ length file → All (IsCallOf (source_of plan)) file → IsReadyFor plan file (fresh_pass plan (at + 1))
      ready_at at file size all = let next : suc at ≡ at + 1 = omega arith in subst (λ caller. IsReadyFor plan file (fresh_pass plan caller)) next (fresh_ready at file size all)

module _ {P : Type 0} (view : P → PassView) where
  caller_at : (ps qs : List P) (at : ℕ) (p q : P) → callers_on view ps ≡ callers_on view qs → slice_get ps at ≡ Some p → slice_get qs at ≡ Some q → (view p).caller ≡ (view q).caller
  caller_at [] qs at p q same p_there q_there = cc p_there
  caller_at (x ∷ xs) [] at p q same p_there q_there = cc q_there
  caller_at (x ∷ xs) (y ∷ ys) zero p q same p_there q_there = cc (same, p_there, q_there)
  caller_at (x ∷ xs) (y ∷ ys) (suc at) p q same p_there q_there = let t : callers_on view xs ≡ callers_on view ys = cc same in caller_at xs ys at p q t p_there q_there

module _ {P : Type 0} (plan : Plan) (is_of : P → Type 0) (view : P → PassView) (old new : List P) (fresh : AreFresh plan is_of view old) (served : HaveServed is_of view new)
    (callers : callers_on view new ≡ callers_on view old) (same : length new ≡ length old) where
  pub served_at : (at : ℕ) (pass : P) → slice_get new at ≡ Some pass → is_of pass × HasServed (view pass)
  served_at at pass there = subst (λ p. is_of p × HasServed (view p)) (get_or_from_slice_get new at pass pass there) (served at pass (slice_get_within new at pass there))

  pub number_at : (at : ℕ) (pass : P) → slice_get new at ≡ Some pass → (view pass).caller ≡ at + 1
  number_at at pass there =
      let within : at < length new = slice_get_within new at pass there in
      let before = one_at old at (omega arith) in
      caller_at view new old at pass before.0 callers there before.1 ∙ ap (λ (v : PassView). v.caller) (fresh.each at before.0 before.1).1

  pub idle_from : AreIdle plan is_of view new
  idle_from = record {
    count = same ∙ fresh.count;
    each = λ at pass there. let is = served_at at pass there in (is.0, is.1.idle, number_at at pass there);
  }

pub whole : {A : Type 0} (n : ℕ) (new old : List A) → n ≡ length old → length new ≡ length old → take n (new ++ drop (length new) old) ≡ new
whole n new old e same = grind (arith, common_steps)
