-- A run goes on with each step that a caller is given.
use Rattle.std.proofs.Common.{◌≡◌, Option, Some, None, refl, ap, subst}
use Rattle.dl_core.specs.declared.answers.Progress.{Progress}
use Rattle.dl_core.specs.Core.{Core, Stepped, step, stepped, or_stands}
use Rattle.dl_core.specs.Plans.{Plan}
use Rattle.dl_core.specs.Reached.{Calls, IsReached, steps}

pub run_goes_on : (plan : Plan) (core after : Core) (calls : Calls) (caller : _) (answer : Progress) → IsReached plan core calls → stepped plan core caller ≡ (after, answer) → IsReached plan after calls
run_goes_on plan core after calls caller answer reached e = by (step plan core caller) refl e
  where
    by : (done : Option Stepped) → step plan core caller ≡ done → or_stands plan core caller done ≡ (after, answer) → IsReached plan after calls
    by None none is = subst (λ (c : Core). IsReached plan c calls) (ap (λ (s : Stepped). s.0) is) reached
    by (Some done) some is = subst (λ (c : Core). IsReached plan c calls) (ap (λ (s : Stepped). s.0) is) (steps caller done.1 reached some)
