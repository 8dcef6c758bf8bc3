-- How many events an operation that runs alone still has.
use Rattle.std.specs.Prelude.{◌≡◌, ℕ, zero, suc, Option, Some, None}
use Rattle.std.specs.Coded.{×_prop, Unit-prop}
use Rattle.std.proofs.Common.{ap, refl}
use mathlib.Core.HLevel.{Σ_prop_path}
use mathlib.Core.HLevel.{⊥_prop}
use Rattle.dl_core.specs.declared.answers.Progress.{Progress}
use Rattle.dl_core.specs.declared.answers.Progress.TheVariants as progress
use Rattle.dl_core.specs.Core.{Stepped, step}
use Rattle.dl_core.specs.Plans.{Plan}

-- the operation goes on after this answer, or it is over
abbrev pub GoesOn : Progress → Type 0
GoesOn (progress.Moved event) = Unit {0}
GoesOn answer = ⊥

abbrev pub IsOver : Progress → Type 0
IsOver (progress.Done entry) = Unit {0}
IsOver (progress.Refused need found version) = Unit {0}
IsOver answer = ⊥

-- the caller's operation ends with the event behind so many others, of which the first is this step
abbrev pub EndsAfter : Plan → ℕ → ℕ → Option Stepped → Type 0
EndsAfter plan caller more None = ⊥
EndsAfter plan caller zero (Some done) = IsOver done.1
EndsAfter plan caller (suc more) (Some done) = GoesOn done.1 × EndsAfter plan caller more (step plan done.0 caller)

-- there is one such number
goes_prop : (answer : Progress) → IsProp (GoesOn answer)
goes_prop (progress.Moved event) = Unit-prop
goes_prop (progress.Waiting lock by) = ⊥_prop
goes_prop (progress.Refused need found version) = ⊥_prop
goes_prop (progress.Done entry) = ⊥_prop
goes_prop progress.Idle = ⊥_prop
goes_prop (progress.Looked place) = ⊥_prop
goes_prop (progress.Raced seen now) = ⊥_prop

over_prop : (answer : Progress) → IsProp (IsOver answer)
over_prop (progress.Moved event) = ⊥_prop
over_prop (progress.Waiting lock by) = ⊥_prop
over_prop (progress.Refused need found version) = Unit-prop
over_prop (progress.Done entry) = Unit-prop
over_prop progress.Idle = ⊥_prop
over_prop (progress.Looked place) = ⊥_prop
over_prop (progress.Raced seen now) = ⊥_prop

not_both : (answer : Progress) → GoesOn answer → IsOver answer → ⊥
not_both (progress.Moved event) goes over = over
not_both (progress.Waiting lock by) goes over = over
not_both (progress.Refused need found version) goes over = goes
not_both (progress.Done entry) goes over = goes
not_both progress.Idle goes over = over
not_both (progress.Looked place) goes over = over
not_both (progress.Raced seen now) goes over = over

ends_prop : (plan : Plan) (caller more : ℕ) (done : Option Stepped) → IsProp (EndsAfter plan caller more done)
ends_prop plan caller more None = ⊥_prop
ends_prop plan caller zero (Some done) = over_prop done.1
ends_prop plan caller (suc more) (Some done) = ×_prop (goes_prop done.1) (ends_prop plan caller more (step plan done.0 caller))

pub one_end : (plan : Plan) (caller more other : ℕ) (done : Option Stepped) → EndsAfter plan caller more done → EndsAfter plan caller other done → more ≡ other
one_end plan caller more other None a b = absurd a
one_end plan caller zero zero (Some done) a b = refl
one_end plan caller zero (suc other) (Some done) a b = absurd (not_both done.1 b.0 a)
one_end plan caller (suc more) zero (Some done) a b = absurd (not_both done.1 a.0 b)
one_end plan caller (suc more) (suc other) (Some done) a b = ap suc (one_end plan caller more other (step plan done.0 caller) a.1 b.1)

pub EndsAfter-prop : (plan : Plan) (caller : ℕ) (done : Option Stepped) → IsProp ((more : ℕ) × EndsAfter plan caller more done)
EndsAfter-prop plan caller done a b = Σ_prop_path (λ more. ends_prop plan caller more done) (one_end plan caller a.0 b.0 done a.1 b.1)
