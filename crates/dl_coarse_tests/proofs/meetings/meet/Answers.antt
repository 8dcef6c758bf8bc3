use Rattle.std.proofs.Common.{◌∙◌, sym, subst}
use Rattle.dl_core.specs.Passes.{PassView, told_by}
use Rattle.dl_coarse_tests.specs.Meetings.{HasServed, IsRested}
use Rattle.dl_coarse_tests.proofs.Serving.{above_told, ready_learnt, rested_learnt, rested_on, rested_self, up_to}
use Rattle.dl_coarse_tests.proofs.meetings.meet.Goals as goal

pub serve_all-requires-2-clause-ready : goal.serve_all-requires-2-clause-ready
serve_all-requires-2-clause-ready g c κs within =
    ready_learnt (g.G.Ground.plan c.args.ground.now) c.args.files.second.now (g.G.Ground.view c.args.second.now) (g.G.Ground.view c.tell.new.learner) (told_by (g.G.Ground.view c.serve_all.new.pass))
    c.tell.ensures.learner c.requires.second

pub returns-clause-rested : goal.returns-clause-rested
returns-clause-rested g c =
    let view = g.G.Ground.view in
    let one : PassView = view c.args.first.now in
    let served : HasServed one c.in_ok-before.before.items (view c.serve_all.new.pass) = c.in_ok-before.ensures.served in
    let before_last = subst (IsRested one) (sym (c.tell-2.ensures.teller ∙ c.tell.ensures.teller)) served.rested in
    let other : PassView = view c.args.second.now in
    let learnt = rested_learnt other other (view c.tell.new.learner) (told_by (view c.serve_all.new.pass)) c.tell.ensures.learner (rested_self other c.requires.second.idle) in
    let served_later : HasServed (view c.tell.new.learner) c.in_ok-after.after.items (view c.serve_all-2.new.pass) = c.in_ok-after.ensures.served in
    let later = rested_on other (view c.tell.new.learner) (view c.serve_all-2.new.pass) learnt served_later.rested in
    let again = rested_learnt other (view c.serve_all-2.new.pass) (view c.tell-2.new.learner) (told_by (view c.tell.new.teller)) c.tell-2.ensures.learner later in (
      rested_learnt one (view c.tell-2.new.teller) (view c.tell-3.new.learner) (told_by (view c.tell-2.new.learner)) c.tell-3.ensures.learner before_last,
      subst (IsRested other) (sym c.tell-3.ensures.teller) again,
    )

pub returns-clause-fresh : goal.returns-clause-fresh
returns-clause-fresh g c =
    let view = g.G.Ground.view in
    let one : PassView = view c.serve_all.new.pass in
    let served : HasServed (view c.args.first.now) c.in_ok-before.before.items one = c.in_ok-before.ensures.served in
    let served_later : HasServed (view c.tell.new.learner) c.in_ok-after.after.items (view c.serve_all-2.new.pass) = c.in_ok-after.ensures.served in
    record {
      told = up_to one.front c.front-first_front.result c.in_ok-before.before.items c.front-first_front.ensures served.kept;
      drawn = above_told one (view c.args.second.now) (view c.tell.new.learner) c.in_ok-after.after.items c.front-first_front.result c.tell.ensures.learner c.front-first_front.ensures served_later.drawn;
    }
