use Rattle.std.proofs.Common.{◌≡◌, ◌+◌, length}
use Rattle.dl_coarse_tests.specs.Meetings.{HasServed}
use Rattle.dl_coarse_tests.proofs.meetings.serve_all.Given as goal

abbrev pub invariant-calls : goal.invariant-calls
invariant-calls g l =
    g.G.Ground.is_of l.ground l.pass
    × HasServed (g.G.Ground.view l.initial.pass) l.entries.items (g.G.Ground.view l.pass)
    × (length (g.G.Ground.view l.pass).calls ≡ length (g.G.Ground.view l.initial.pass).calls + l.call-index)
