-- How the places of the plain steps are found: from the last to the first, each as late as it can stand.
use Rattle.std.specs.Prelude.{◌≡◌, ◌<◌, ◌≤◌, ◌+◌, ◌-◌, ◌↔◌, ◌⊎◌, ℕ, zero, suc, Option, Some, None, List, length, slice_get}
use Rattle.dl_ir.specs.declared.modules.OpDecl.{OpDecl}
use Rattle.dl_instr.specs.declared.steps.Step.{Step}
use Rattle.dl_instr.specs.Drops.{IsAddedDrop, moved}
use Rattle.dl_instr.specs.Jumps.{jump_of}

-- where the step jumps to, if it is there and jumps
abbrev pub jump_in : Option Step → Option ℕ
jump_in None = None
jump_in (Some step) = jump_of step

-- some step jumps to the place
pub record IsTarget (steps : List Step) (place : ℕ) : Type 0 where
  pub from : ℕ
  pub step : Step
  pub there : slice_get steps from ≡ Some step
  pub jumps : jump_of step ≡ Some place

-- the step, its jump left open
abbrev pub opened : Step → Step
opened step = moved (λ place. 0) step

-- a plain step may stand at a place: the steps are the same but for the places of jumps, and there are jumps to behind both or to behind none
pub record Fits (plain steps : List Step) (i y : ℕ) : Type 0 where
  pub step : Step
  pub other : Step
  pub here : slice_get plain i ≡ Some step
  pub there : slice_get steps y ≡ Some other
  pub same : opened step ≡ opened other
  pub targets : IsTarget plain (i + 1) ↔ IsTarget steps (y + 1)

-- the last place below another where a plain step may stand
pub record IsNearest (plain steps : List Step) (i next x : ℕ) : Type 0 where
  pub below : x < next
  pub fits : Fits plain steps i x
  pub last : (y : ℕ) → x < y → y < next → Fits plain steps i y → ⊥

-- the place of the plain step that is this number of steps before the end, counted from the end
abbrev pub IsLate : List Step → List Step → ℕ → ℕ → Type 0
IsLate plain steps zero x = x ≡ length steps
IsLate plain steps (suc d) x = (next : ℕ) × IsLate plain steps d next × IsNearest plain steps (length plain - suc d) next x

-- where a jump to a plain step goes
abbrev pub IsFront : List Step → List Step → ℕ → ℕ → Type 0
IsFront plain steps zero z = z ≡ 0
IsFront plain steps (suc u) z = (x : ℕ) × IsLate plain steps (length plain - u) x × (z ≡ x + 1)

-- a plain step has no place before the latest place of the next one
pub record IsStuck (plain steps : List Step) : Type 0 where
  pub behind : ℕ
  pub next : ℕ
  pub few : behind < length plain
  pub late : IsLate plain steps behind next
  pub none : (y : ℕ) → y < next → Fits plain steps (length plain - suc behind) y → ⊥

-- the jump of a plain step is moved right
abbrev pub IsJumpMoved : List Step → List Step → ℕ → ℕ → Type 0
IsJumpMoved plain steps i x = (step other : Step) (t z : ℕ) → slice_get plain i ≡ Some step → slice_get steps x ≡ Some other
    → jump_of step ≡ Some t → jump_of other ≡ Some z → IsFront plain steps t z

-- it is moved wrong
pub record IsJumpWrong (plain steps : List Step) (i x : ℕ) : Type 0 where
  pub step : Step
  pub other : Step
  pub t : ℕ
  pub z : ℕ
  pub here : slice_get plain i ≡ Some step
  pub there : slice_get steps x ≡ Some other
  pub from : jump_of step ≡ Some t
  pub to : jump_of other ≡ Some z
  pub wrong : IsStuck plain steps ⊎ ((front : ℕ) × IsFront plain steps t front × (z ≡ front → ⊥))

-- at each place between two stands a step that may have been added
abbrev pub AllAdded : OpDecl → List Step → ℕ → ℕ → Type 0
AllAdded op steps from to = (y : ℕ) → from ≤ y → y < to → IsAddedDrop op steps y

-- the last steps have their places, and between these stand steps that may have been added; behind the last step stands nothing
abbrev pub IsMatched : OpDecl → List Step → List Step → ℕ → ℕ → Type 0
IsMatched op plain steps zero x = x ≡ length steps
IsMatched op plain steps (suc d) x = (next : ℕ) × IsMatched op plain steps d next × IsNearest plain steps (length plain - suc d) next x
    × AllAdded op steps (x + 1) next × IsJumpMoved plain steps (length plain - suc d) x × (d ≡ 0 → x + 1 ≡ next)
