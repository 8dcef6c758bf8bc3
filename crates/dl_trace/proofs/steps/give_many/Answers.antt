use Rattle.std.proofs.Common.{◌≡◌, ℕ, sym, ap, arith, replicate}
use Rattle.std.specs.Prelude.{fold}
use Rattle.dl_trace.specs.Runs.{give_to}
use Rattle.dl_trace.proofs.Goings.{goes_as, goes_both, fold_many}
use Rattle.dl_trace.proofs.steps.give_many.Goals as goal

pub times-preserved : goal.times-preserved
times-preserved g c =
    goes_as c.args.files.now (λ plan run like e. sym (fold_many (give_to plan c.args.files.now) c.times._time run c.args.give.caller)) (goes_both c.args.files.now c.times.invariant c.give_step.ensures)

pub returns : goal.returns
returns g c =
    let all : c.times._time ≡ c.args.give.times = omega arith in
    goes_as c.args.files.now (λ plan run like e. ap (λ (n : ℕ). fold (give_to plan c.args.files.now) run (replicate n c.args.give.caller)) all) c.times.invariant
