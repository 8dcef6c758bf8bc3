use Rattle.std.proofs.Common.{◌≡◌, ◌++◌, take}
use Rattle.dl_machine.specs.Files.{HasServed}
use Rattle.dl_machine.proofs.calls.run_file.Given as goal

abbrev pub invariant-loop-one : goal.invariant-loop-one
invariant-loop-one g l =
    g.G.Ground.is_of l.ground l.pass × HasServed (g.G.Ground.view l.pass)
    × ((g.G.Ground.view l.pass).calls ≡ (g.G.Ground.view l.initial.pass).calls ++ take l.one-index l.file)
    × ((g.G.Ground.view l.pass).caller ≡ (g.G.Ground.view l.initial.pass).caller)
