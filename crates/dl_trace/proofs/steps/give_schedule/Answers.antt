use Rattle.std.proofs.Common.{◌≡◌, List, take, sym, ap, arith}
use Rattle.std.specs.Prelude.{fold}
use Rattle.std.proofs.lemmas.List.{take_all}
use Rattle.dl_schedule.specs.declared.give.Give.{Give}
use Rattle.dl_trace.specs.Runs.{give_times}
use Rattle.dl_trace.proofs.Goings.{goes_as, goes_both, fold_taken}
use Rattle.dl_trace.proofs.steps.give_schedule.Goals as goal

pub gives-preserved : goal.gives-preserved
gives-preserved g c =
    goes_as c.args.files.now (λ plan run like e. sym (fold_taken (give_times plan c.args.files.now) c.args.schedule.now c.gives.give-index run _ (omega arith))) (goes_both c.args.files.now c.gives.invariant c.give_many.ensures)

pub returns : goal.returns
returns g c =
    let all : take c.gives.give-index c.args.schedule.now ≡ c.args.schedule.now = take_all c.gives.give-index c.args.schedule.now (omega arith) in
    goes_as c.args.files.now (λ plan run like e. ap (λ (gives : List Give). fold (give_times plan c.args.files.now) run gives) all) c.gives.invariant
