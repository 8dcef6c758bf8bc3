use Rattle.std.proofs.Common.{subst}
use Rattle.dl_core.specs.declared.answers.Progress.TheVariants as progress
use Rattle.dl_core.specs.Advances.{Progresses, IsDone}
use Rattle.dl_core.specs.Passes.{PassView}
use Rattle.dl_coarse_tests.proofs.Serving.{is_served}
use Rattle.dl_coarse_tests.proofs.meetings.serve.Goals as goal

pub returns-in-Done-clause-served : goal.returns-in-Done-clause-served
returns-in-Done-clause-served g c =
    let plan = g.G.Ground.plan c.args.ground.now in
    let before : PassView = g.G.Ground.view c.args.pass.now in
    let begun : PassView = g.G.Ground.view c.begin.new.pass in
    let after : PassView = g.G.Ground.view c.advance.new.pass in
    let done : Progresses g.G.Ground.manner plan begun (progress.Done c.in-Done.entry) after =
    subst (λ answer. Progresses g.G.Ground.manner plan begun answer after) c.in-Done.is c.advance.ensures.view in
    is_served g.G.Ground.manner plan c.args.call.now before after c.in-Done.entry
    (subst (λ view. IsDone g.G.Ground.manner plan view c.in-Done.entry after) c.begin.ensures.view done)
