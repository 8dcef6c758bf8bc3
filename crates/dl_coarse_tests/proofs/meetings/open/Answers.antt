use Rattle.dl_coarse_tests.proofs.Opening.{are_opened, starts_plan}
use Rattle.dl_coarse_tests.proofs.meetings.open.Goals as goal

pub start-requires : goal.start-requires
start-requires g c = record { plan = starts_plan c.args.code c.args.files.first.now c.args.files.second.now c.requires.may }

pub returns-in-Some : goal.returns-in-Some
returns-in-Some g c =
    let ground = c.in_ok-ground.ground in
    are_opened (g.G.Ground.plan ground) (g.G.Ground.is_of ground) g.G.Ground.view c.args.code c.args.files.first.now c.args.files.second.now c.in_ok-ground.passes.items c.in-Some.first c.in-Some.second
    c.in_ok-ground.ensures.plan c.in_ok-ground.ensures.fresh c.in-Some.ensures
