-- How many rounds are left of a scheduled run, by its state alone.
use Rattle.std.specs.Prelude.{◌≡◌, ◌<◌, ℕ, zero, suc, Bool, true, false, fold, if◌then◌else◌}
use Rattle.std.proofs.Common.{sym, ◌∙◌, inl, inr}
use Rattle.std.proofs.Props.{props}
use Rattle.std.proofs.lemmas.Bool.{cases_order, false≢true}
use mathlib.Core.HLevel.{Σ_prop_path}
use Rattle.dl_core.specs.Plans.{Plan}
use Rattle.dl_core.specs.Core.{Core}
use Rattle.dl_core.specs.Reached.{Calls}
use Rattle.dl_core.specs.Sound.{callers_of}
use Rattle.dl_trace.specs.Runs.{is_done, all_done, given}

-- a function so many times
abbrev pub repeated : {A : Type 0} → (A → A) → ℕ → A → A
repeated f zero a = a
repeated f (suc more) a = repeated f more (f a)

-- what turns and rounds make of the state
abbrev pub state_turn : Plan → Calls → Core → ℕ → Core
state_turn plan files core caller = if is_done files core caller then core else (given plan files core caller).0

abbrev pub state_round : Plan → Calls → Core → Core
state_round plan files core = fold (state_turn plan files) core (callers_of plan)

-- whether all callers are done after so many rounds
abbrev pub done_after : Plan → Calls → Core → ℕ → Bool
done_after plan files core count = all_done plan files (repeated (state_round plan files) count core)

-- the least number that passes a test
abbrev pub IsLeast : (ℕ → Bool) → ℕ → Type 0
IsLeast test n = (test n ≡ true) × ((fewer : ℕ) → fewer < n → test fewer ≡ false)

-- so many rounds are left
abbrev pub RoundsLeft : Plan → Calls → Core → Type 0
RoundsLeft plan files core = (count : ℕ) × IsLeast (done_after plan files core) count

-- there is one least number
pub one_least : (test : ℕ → Bool) (a b : ℕ) → IsLeast test a → IsLeast test b → a ≡ b
one_least test a b is_a is_b = elim (cases_order a b) [
  | inl same ↦ same
  | inr (inl less) ↦ absurd (false≢true (sym (is_b.1 a less) ∙ is_a.0))
  | inr (inr more) ↦ absurd (false≢true (sym (is_a.1 b more) ∙ is_b.0))
]

least_prop : (test : ℕ → Bool) (n : ℕ) → IsProp (IsLeast test n)
least_prop test n = hlevel props

pub left_prop : (plan : Plan) (files : Calls) (core : Core) → IsProp (RoundsLeft plan files core)
left_prop plan files core a b = Σ_prop_path (least_prop (done_after plan files core)) (one_least (done_after plan files core) a.0 b.0 a.1 b.1)
