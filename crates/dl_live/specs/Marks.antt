-- How early drops are found: marks at places, for one local at a time.
use Rattle.std.specs.Prelude.{◌≡◌, ◌<◌, ◌≤◌, ◌+◌, ◌⊎◌, ◌↔◌, ℕ, Bool, true, false, Option, Some, None, List, [], ◌∷◌, ◌++◌, length, slice_get}
use Rattle.dl_ir.specs.declared.modules.OpDecl.{OpDecl}
use Rattle.dl_instr.specs.declared.steps.Step.{Step}
use Rattle.dl_instr.specs.Drops.{IsReadFrom, GoesOn, reads, sets}
use Rattle.dl_live.specs.Dropped.{IsBrought, IsDroppedBefore, is_open, is_joined, drops_of, start_of}

-- there is a mark, and it is set
abbrev pub or_false : Option Bool → Bool
or_false None = false
or_false (Some mark) = mark

-- the place is marked
abbrev pub is_marked : List Bool → ℕ → Bool
is_marked marks at = or_false (slice_get marks at)

-- how many places are not marked
abbrev pub unmarked : List Bool → ℕ
unmarked [] = 0
unmarked (true ∷ rest) = unmarked rest
unmarked (false ∷ rest) = unmarked rest + 1

-- a path goes on from the step to a marked place
abbrev pub GoesOnMarked : Step → ℕ → List Bool → Type 0
GoesOnMarked step at marks = (next : ℕ) × GoesOn step at next × (is_marked marks next ≡ true)

-- the step reads the local, or leaves it and goes on to a marked place
abbrev pub IsLiveBy : Step → ℕ → ℕ → List Bool → Type 0
IsLiveBy step local at marks = (reads local step ≡ true) ⊎ ((sets local step ≡ false) × GoesOnMarked step at marks)

-- each marked place is one before which the local is live
abbrev pub AllLive : List Step → ℕ → List Bool → Type 0
AllLive steps local marks = (at : ℕ) → is_marked marks at ≡ true → IsReadFrom steps local at

-- the place is marked if the local is live before it by what is marked behind it
abbrev pub IsSettled : List Step → ℕ → List Bool → ℕ → Type 0
IsSettled steps local marks at = (step : Step) → slice_get steps at ≡ Some step → IsLiveBy step local at marks → is_marked marks at ≡ true

-- marked are exactly the places before which the local is live
abbrev pub AreLive : List Step → ℕ → List Bool → Type 0
AreLive steps local marks = (at : ℕ) → (is_marked marks at ≡ true) ↔ IsReadFrom steps local at

-- the steps from the first place to the last begin a piece
pub record IsBegun (steps : List Step) (first last : ℕ) : Type 0 where
  pub ordered : first ≤ last
  pub opens : is_open (slice_get steps first) ≡ true
  pub others : (at : ℕ) → first < at → at ≤ last → is_joined (slice_get steps at) ≡ true

-- a path goes on from the step at a place
pub record GoesOnAt (steps : List Step) (at to : ℕ) : Type 0 where
  pub step : Step
  pub there : slice_get steps at ≡ Some step
  pub on : GoesOn step at to

-- marked are exactly the places to which a piece brings the local
abbrev pub AreBrought : List Step → ℕ → List Bool → Type 0
AreBrought steps local marks = (to : ℕ) → to < length steps → (is_marked marks to ≡ true) ↔ IsBrought steps local to

-- marked are exactly the places before which a drop of the local is added
abbrev pub AreDropped : OpDecl → List Step → ℕ → List Bool → Type 0
AreDropped op steps local marks = (at : ℕ) → (is_marked marks at ≡ true) ↔ IsDroppedBefore op steps at local

-- the marks of a local, if there are any
abbrev pub marks_or_none : Option (List Bool) → List Bool
marks_or_none None = []
marks_or_none (Some marks) = marks

-- the local is marked at the place, in marks of each local
abbrev pub is_picked : List (List Bool) → ℕ → ℕ → Bool
is_picked table at local = is_marked (marks_or_none (slice_get table local)) at

-- the drops that marks of each local tell before the step at a place
abbrev pub drops_at : List (List Bool) → ℕ → List Step
drops_at table at = drops_of (is_picked table at) (length table)

-- for each local of the operation its marks
pub record IsTable (op : OpDecl) (steps : List Step) (table : List (List Bool)) : Type 0 where
  pub one_each : length table ≡ length (op.params ++ op.vars)
  pub rows : (at local : ℕ) → (is_picked table at local ≡ true) ↔ IsDroppedBefore op steps at local

-- the places that jumps go to
abbrev pub AreStarts : List (List Bool) → List ℕ → Type 0
AreStarts table starts = (at : ℕ) → at < length starts → slice_get starts at ≡ Some (start_of (drops_at table) at)
