use Rattle.dl_coarse_tests.proofs.Opening.{are_idle, one_ready, other_ready}
use Rattle.dl_coarse_tests.proofs.meetings.meet_on.Goals as goal

pub meet-requires-clause-first : goal.meet-requires-clause-first
meet-requires-clause-first g c κs within =
    let ground = c.in_ok-ground.ground in
    one_ready (g.G.Ground.plan ground) (g.G.Ground.is_of ground) g.G.Ground.view c.args.code c.args.files.first.now c.args.files.second.now c.requires.may c.in_ok-ground.first c.in_ok-ground.second c.in_ok-ground.ensures

pub meet-requires-clause-second : goal.meet-requires-clause-second
meet-requires-clause-second g c κs within =
    let ground = c.in_ok-ground.ground in
    other_ready (g.G.Ground.plan ground) (g.G.Ground.is_of ground) g.G.Ground.view c.args.code c.args.files.first.now c.args.files.second.now c.requires.may c.in_ok-ground.first c.in_ok-ground.second c.in_ok-ground.ensures

pub close-requires : goal.close-requires
close-requires g c =
    let ground = c.in_ok-ground.ground in
    let of = c.meet.ensures.of in
    let rested = c.in_ok-meeting.ensures.rested in
    record {
      idle = are_idle (g.G.Ground.plan ground) (g.G.Ground.is_of ground) g.G.Ground.view c.args.code c.args.files.first.now c.args.files.second.now c.requires.may c.in_ok-ground.first c.in_ok-ground.second c.in_ok-ground.ensures
          c.meet.new.first c.meet.new.second of.0 of.1 rested.0 rested.1 c.in_ok-passes.passes.items c.in_ok-passes.ensures;
    }
