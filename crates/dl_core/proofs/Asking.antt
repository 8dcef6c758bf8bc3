-- What a call takes before it enters.
use Rattle.std.proofs.Common.{◌≡◌, ◌<◌, ◌≤◌, ℕ, None, ap, ◌∙◌, arith}
use Rattle.std.specs.Prelude.{slice_get, get_or, List, []}
use Rattle.std.proofs.lemmas.Bool.Decides.{nat_tests}
use Rattle.std.specs.Prelude.{unwrap_or}
use Rattle.std.proofs.lemmas.Option.{unwrap_or-slice_get}
use Rattle.dl_core.specs.declared.dues.Due.TheVariants.{Reserves}
use Rattle.dl_core.specs.Plans.{Plan, allocs_of, roots_of}
use Rattle.dl_core.specs.Frames.{Frame}
use Rattle.dl_core.specs.LocalSteps.{next_called, next_root}

pub reserves_first : (plan : Plan) (frame : Frame) (need : ℕ) → allocs_of plan frame.call ≡ need → frame.spares < need → next_called plan frame ≡ Reserves need
reserves_first plan frame need e l = rw e (grind (arith, l, nat_tests))

pub then_roots : (plan : Plan) (frame : Frame) (need : ℕ) → allocs_of plan frame.call ≡ need → need ≤ frame.spares → next_called plan frame ≡ next_root (slice_get (roots_of plan frame.call) frame.taken)
then_roots plan frame need e l = rw e (grind (arith, l, nat_tests))

pub none_there : {X : Type 0} (xs : List (List X)) (at place : ℕ) → None ≡ slice_get xs at → None ≡ slice_get (get_or xs at []) place
none_there xs at place e = ap (λ rest. slice_get rest place) (ap (λ o. unwrap_or o []) e ∙ unwrap_or-slice_get xs at [])
