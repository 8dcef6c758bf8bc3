-- The pool rule is kept by the steps on the states of places, and by steps on other words of the table.
use Rattle.std.proofs.Common.{◌≡◌, ◌≢◌, ℕ, ◌+◌, ◌-◌, ◌<◌, List, length, get_or, set, sym, refl, ap, arith, length-set}
use Rattle.std.proofs.lemmas.List.{get_or-set_other, set-get_or}
use mathlib.Core.Option.{Option, some}
use lib.ListN.{get_elem?}
use Rattle.atomic_table.specs.Table.{State}
use Rattle.dl_pool.specs.declared.views.Seen.{Seen}
use Rattle.dl_pool.specs.declared.views.Seen.TheVariants.{Load, Exchange, Stored}
use Rattle.dl_pool.specs.declared.views.Part.{Part}
use Rattle.dl_pool.specs.declared.views.Member.{Member}
use Rattle.dl_pool.specs.declared.views.Layout.{Layout}
use Rattle.dl_pool.specs.Rule.{parts, vacant_in, word_of, PoolKept}
use Rattle.dl_pool.specs.Views.{stepping, claimed, looked, vacated}
use Rattle.dl_pool.proofs.Moving.{stayed}
use Rattle.dl_pool.proofs.WordSteps.{after, placed, mine}
use Rattle.dl_pool.proofs.Vacant.{vacant_changed, vacant_word, taken_word}

module _ {S X : Type 0} (opening callers : ℕ) (l : Layout) (s : State S (Member X)) (homes : List (Option S)) (id : ℕ) (v : Member X) (rest : X) (kept : PoolKept opening callers l s) (at : get_elem? s.views id ≡ some v) where
  -- the words change beside word 0, and of the view the look and the spares
  aside : (ws : List ℕ) (seen : Seen) (spares : ℕ) → length ws ≡ length s.words → get_or ws 0 0 ≡ get_or s.words 0 0 → vacant_in l ws + v.pool.spares ≡ vacant_in l s.words + spares → ((w k : ℕ) → seen ≡ Load w k → w ≢ 0)
      → PoolKept opening callers l (after opening callers l s homes id v rest kept at ws (record (stepping seen v.pool) { spares = spares }))
  aside ws seen spares wide word places far =
      let q : Part = record (stepping seen v.pool) { spares = spares } in
      let f = kept.fits id v.pool (mine opening callers l s homes id v rest kept at) in
      placed opening callers l s homes id v rest kept at ws q (stayed opening callers l s.words ws (parts s.views) id v.pool q (mine opening callers l s homes id v rest kept at) wide word places (λ f. refl)
      (f.0, (λ w k e z. absurd (far w k e z)), f.2) (λ owner h. h) kept)

  -- a step on another word, by which vacancy does not change: of the pool's part the look alone changes
  pub beside_kept : (i x : ℕ) (seen : Seen) → i ≢ 0 → vacant_in l (set s.words i x) ≡ vacant_in l s.words → ((w k : ℕ) → seen ≡ Load w k → w ≢ 0)
      → PoolKept opening callers l (after opening callers l s homes id v rest kept at (set s.words i x) (stepping seen v.pool))
  beside_kept i x seen ne places far = aside (set s.words i x) seen v.pool.spares (length-set s.words i x) (get_or-set_other s.words i 0 x 0 (λ e. ne (sym e))) (omega arith) far

  -- a step that writes the word that it found
  pub looked_kept : (i : ℕ) → PoolKept opening callers l (after opening callers l s homes id v rest kept at (set s.words i (get_or s.words i 0)) (looked i (get_or s.words i 0) v.pool))
  looked_kept i =
      let same : set s.words i (get_or s.words i 0) ≡ s.words = set-get_or s.words i 0 in
      let places : vacant_in l (set s.words i (get_or s.words i 0)) ≡ vacant_in l s.words = ap (vacant_in l) same in
      aside (set s.words i (get_or s.words i 0)) (Exchange i (get_or s.words i 0)) v.pool.spares (ap length same) (ap (λ (ws : List ℕ). get_or ws 0 0) same) (omega arith) (λ w k e. let no : ⊥ = cc e in absurd no)

  -- the state of a place is a word of its own
  state_beside : (place : ℕ) → word_of l place ≢ 0
  state_beside place e = let a = kept.laid.first in omega arith

  pub claimed_kept : (place mark : ℕ) → place < l.places → get_or s.words (word_of l place) 0 ≡ 0 → mark ≢ 0 → 0 < v.pool.spares
      → PoolKept opening callers l (after opening callers l s homes id v rest kept at (set s.words (word_of l place) mark) (claimed (word_of l place) v.pool))
  claimed_kept place mark less was is some_left =
      let i : ℕ = word_of l place in
      let a = vacant_changed l s.words place mark kept.laid less in
      let b = vacant_word (get_or s.words i 0) was in
      let c = taken_word mark is in
      aside (set s.words i mark) (Exchange i 0) (v.pool.spares - 1) (length-set s.words i mark) (get_or-set_other s.words i 0 mark 0 (λ e. state_beside place (sym e))) (omega arith) (λ w k e. let no : ⊥ = cc e in absurd no)

  pub vacated_kept : (place : ℕ) → place < l.places → get_or s.words (word_of l place) 0 ≢ 0
      → PoolKept opening callers l (after opening callers l s homes id v rest kept at (set s.words (word_of l place) 0) (vacated (word_of l place) v.pool))
  vacated_kept place less was =
      let i : ℕ = word_of l place in
      let a = vacant_changed l s.words place 0 kept.laid less in
      let b = taken_word (get_or s.words i 0) was in
      let c = vacant_word 0 refl in
      aside (set s.words i 0) (Stored i) (v.pool.spares + 1) (length-set s.words i 0) (get_or-set_other s.words i 0 0 0 (λ e. state_beside place (sym e))) (omega arith) (λ w k e. let no : ⊥ = cc e in absurd no)
