-- The rule of a table of one pool and its places, where seats have lists of claimed places.
use Rattle.std.specs.Prelude.{◌≡◌, ℕ, ◌+◌, ◌-◌, ◌*◌, ◌<◌, ◌≤◌, ◌⊎◌, cond, eqb, List, [], ◌∷◌, ◌++◌, slice_index}
use mathlib.Core.Option.{some}
use lib.ListN.{get_elem?}
use Rattle.atomic_table.specs.Table.{State}
use Rattle.dl_pool.specs.declared.views.Member.{Member}
use Rattle.dl_pool.specs.declared.views.Move.{Move}
use Rattle.dl_pool.specs.declared.views.Part.{Part}
use Rattle.dl_pool.specs.Rule.{version_of, word_of, accounts, weigh_each, took, gave, PoolKept}
use Rattle.dl_pool.specs.Views.{first_part}
use Rattle.dl_pool.specs.Log.{HasCaller}
use Rattle.dl_pool_trial.specs.declared.rule.Hold.{Hold}
use Rattle.dl_pool_trial.specs.declared.rule.Rest.{Rest}
use Rattle.dl_pool_trial.specs.declared.rule.Setting.{Setting}

-- by the list, the caller c has claimed the place p
abbrev pub Among : ℕ → ℕ → List Hold → Type 0
Among c p [] = ⊥
Among c p (t ∷ ts) = ((t.caller ≡ c) × (t.place ≡ p)) ⊎ Among c p ts

-- the list without the place
abbrev pub without : ℕ → List Hold → List Hold
without p [] = []
without p (t ∷ ts) = cond (eqb t.place p) (without p ts) (t ∷ without p ts)

-- a move is made
abbrev pub one_less : Rest → Rest
one_less x = record x { left = x.left - 1 }

-- the seat's caller claims a place
abbrev pub with_place : ℕ → Rest → Rest
with_place p x = record x { claimed = record { caller = x.number; place = p } ∷ x.claimed }

-- a place is vacated
abbrev pub without_place : ℕ → Rest → Rest
without_place p x = record x { claimed = without p x.claimed }

-- a seat that may make no move
abbrev pub no_rest : Rest
no_rest = record { number = 0; claimed = []; left = 0 }

-- the seat that is dealt out to the caller c, and the one that deals it
abbrev pub share : ℕ → Rest
share c = record { number = c; claimed = []; left = 4096 }

abbrev pub rest_less : Rest → Rest
rest_less x = record x { left = x.left - 4096 }

-- two seats together
abbrev pub both_rests : Rest → Rest → Rest
both_rests x y = record { number = x.number; claimed = x.claimed ++ y.claimed; left = x.left + y.left }

-- the moves that may still be made
abbrev pub left_all : List (Member Rest) → ℕ
left_all [] = 0
left_all (v ∷ vs) = v.rest.left + left_all vs

-- the seat that the table is made with
abbrev pub newcomer : Member Rest
newcomer = record { pool = first_part; rest = record { number = 0; claimed = []; left = 8388608 } }

-- the rule: the pool rule; whose a place is, its state says; and the moves that are left fit into the pool word
pub record TrialKept (k : Setting) (s : State (Unit {0}) (Member Rest)) : Type 0 where
  pub pool : PoolKept k.layout.places k.callers k.layout s
  pub numbered : (j : ℕ) (v : Member Rest) → get_elem? s.views j ≡ some v → v.rest.number ≡ v.pool.number
  pub taken : (j : ℕ) (v : Member Rest) (c p : ℕ) → get_elem? s.views j ≡ some v → Among c p v.rest.claimed
      → (p < k.layout.places) × (slice_index s.words (word_of k.layout p) ≡ 1 + c) × (0 < c) × HasCaller c (accounts v.pool)
  pub held : (p : ℕ) → p < k.layout.places
      → (slice_index s.words (word_of k.layout p) ≡ 0) ⊎ ((j : ℕ) × (v : Member Rest) × (c : ℕ) × (get_elem? s.views j ≡ some v) × Among c p v.rest.claimed)
  pub moves : version_of (slice_index s.words 0) + left_all s.views ≤ 8388608

-- how many moves the lists of a view have, and how many places these took and gave back
abbrev pub moves_in : Part → ℕ
moves_in p = weigh_each (λ (m : Move). 1) (accounts p)

abbrev pub taken_in : Part → ℕ
taken_in p = weigh_each took (accounts p)

abbrev pub given_in : Part → ℕ
given_in p = weigh_each gave (accounts p)

-- between two views of a caller m moves were added, which took t places and gave g back
pub record Adds (m t g : ℕ) (before after : Part) : Type 0 where
  pub number : after.number ≡ before.number
  pub moves : moves_in after ≡ moves_in before + m
  pub taken : taken_in after ≡ taken_in before + t
  pub given : given_in after ≡ given_in before + g

-- n rounds were made: each reserved one place and gave it back
abbrev pub MakesRounds : ℕ → Part → Part → Type 0
MakesRounds n before after = Adds (2 * n) n n before after
