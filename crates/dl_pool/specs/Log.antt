-- What the lists of all callers are together: the log of a pool.
use Rattle.std.specs.Prelude.{◌≡◌, ℕ, ◌<◌, ◌≤◌, ◌⊎◌, List, [], ◌∷◌, slice_index}
use mathlib.Core.Option.{some}
use lib.ListN.{get_elem?}
use Rattle.dl_pool.specs.declared.views.Account.{Account}
use Rattle.dl_pool.specs.declared.views.Part.{Part}
use Rattle.dl_pool.specs.declared.views.Layout.{Layout}
use Rattle.dl_pool.specs.Rule.{version_of, free_of, Every, accounts, total, makes, once_to, WasFree, FitsList, Kept}

-- one of the accounts is that of the caller c
abbrev pub HasCaller : ℕ → List Account → Type 0
HasCaller c [] = ⊥
HasCaller c (a ∷ rest) = (a.number ≡ c) ⊎ HasCaller c rest

-- a view that keeps the account of each caller
abbrev pub HasAllCallers : ℕ → Part → Type 0
HasAllCallers callers p = (c : ℕ) → 0 < c → c ≤ callers → HasCaller c (accounts p)

-- the lists of one view are a whole log that ends at this pool word
pub record IsWholeLog (opening word : ℕ) (p : Part) : Type 0 where
  -- the versions of the moves are 1 to the last one, each once
  pub once : (x : ℕ) → total (makes x) (p ∷ []) ≡ once_to (version_of word) x
  -- at each version some number of places was free, and at the last one the number that the word has
  pub never_short : (u : ℕ) → u ≤ version_of word → (n : ℕ) × WasFree opening (p ∷ []) u n
  pub free : WasFree opening (p ∷ []) (version_of word) (free_of word)
  -- each list rises, and each refusal found too little, and the number that was free at its version
  pub lists : Every (FitsList opening (p ∷ []) (version_of word)) (accounts p)

-- where the rule is kept, a view that keeps the account of each caller has the whole log
abbrev pub WholeLogs : Type 0
WholeLogs = (opening callers : ℕ) (l : Layout) (ws : List ℕ) (ps : List Part) (id : ℕ) (p : Part) → Kept opening callers l ws ps → get_elem? ps id ≡ some p → HasAllCallers callers p
    → IsWholeLog opening (slice_index ws 0) p
