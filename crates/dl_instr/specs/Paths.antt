-- How paths are followed: the places that they have come to, and those that they go on to.
use Rattle.std.specs.Prelude.{◌≡◌, ◌<◌, ◌==◌, ◌||◌, ℕ, Bool, true, false, Some, List, [], ◌∷◌, length, slice_get}
use Rattle.dl_instr.specs.declared.liveness.Reached.{Reached, Reached-F}
use Rattle.dl_instr.specs.declared.liveness.Reached.TheFolds.{fold-Reached}
use Rattle.dl_instr.specs.declared.steps.Step.{Step}
use Rattle.dl_instr.specs.Drops.{IsReadFrom, GoesOn, reads, sets}

abbrev pub place_of : Reached-F (List ℕ) → List ℕ
place_of Reached-F.Nowhere = []
place_of (Reached-F.At place rest) = place ∷ rest.now

-- the places as a list
abbrev pub places_of : Reached → List ℕ
places_of = fold-Reached (List ℕ) place_of

-- the number is one of the list
abbrev pub is_among : ℕ → List ℕ → Bool
is_among n [] = false
is_among n (x ∷ xs) = (x == n) || is_among n xs

-- from a place a path goes on to another without setting the local
pub record CanGo (steps : List Step) (local from to : ℕ) : Type 0 where
  pub step : Step
  pub there : slice_get steps from ≡ Some step
  pub unset : sets local step ≡ false
  pub on : GoesOn step from to

-- a path goes on from a place to one that is not reached yet
pub record IsNew (steps : List Step) (local : ℕ) (reached : List ℕ) (from to : ℕ) : Type 0 where
  pub goes : CanGo steps local from to
  pub within : to < length steps
  pub unreached : is_among to reached ≡ false

-- no path goes on from the place to one that is not reached yet
abbrev pub IsClosed : List Step → ℕ → List ℕ → ℕ → Type 0
IsClosed steps local reached from = (to : ℕ) → CanGo steps local from to → to < length steps → is_among to reached ≡ true

-- from one of the places the local is read before it is set
abbrev pub IsReadFromSome : List Step → ℕ → List ℕ → Type 0
IsReadFromSome steps local places = (from : ℕ) × (is_among from places ≡ true) × IsReadFrom steps local from

-- from none of the places it is
abbrev pub IsReadFromNone : List Step → ℕ → List ℕ → Type 0
IsReadFromNone steps local places = (from : ℕ) → is_among from places ≡ true → IsReadFrom steps local from → ⊥

-- from no place of some a path goes on to one that is not reached yet
abbrev pub AllClosed : List Step → ℕ → List ℕ → List ℕ → Type 0
AllClosed steps local some reached = (from : ℕ) → is_among from some ≡ true → IsClosed steps local reached from

-- from one of some places a path goes on to a place that is not reached yet
abbrev pub SomeNew : List Step → ℕ → List ℕ → List ℕ → ℕ → Type 0
SomeNew steps local some reached to = (from : ℕ) × (is_among from some ≡ true) × IsNew steps local reached from to

-- a step at one of the places reads the local
abbrev pub SomeReads : List Step → ℕ → List ℕ → Type 0
SomeReads steps local places = (at : ℕ) × (is_among at places ≡ true) × ((step : Step) × (slice_get steps at ≡ Some step) × (reads local step ≡ true))

-- no step at one of them does
abbrev pub NoneReads : List Step → ℕ → List ℕ → Type 0
NoneReads steps local places = (at : ℕ) → is_among at places ≡ true → (step : Step) → slice_get steps at ≡ Some step → reads local step ≡ false
