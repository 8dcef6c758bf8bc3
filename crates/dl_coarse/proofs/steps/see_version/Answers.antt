use Rattle.std.proofs.Common.{rules}
use Rattle.dl_coarse.proofs.Keeps.{seen}
use Rattle.dl_coarse.proofs.steps.see_version.Goals as goal

pub load-requires : goal.load-requires
load-requires g c = let t = c.requires.turn in
    (search rules, search rules, seen g.M.Machine.runs g.M.Machine.state (g.M.Machine.opening c.args.table.now.key) _ _ c.args.seat.now.me t.0 t.1)
