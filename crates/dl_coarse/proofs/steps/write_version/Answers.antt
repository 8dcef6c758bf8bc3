use Rattle.std.proofs.Common.{rules}
use Rattle.dl_coarse.proofs.Keeps.{versioned}
use Rattle.dl_coarse.proofs.steps.write_version.Goals as goal

pub store-requires : goal.store-requires
store-requires g c = let t = c.requires.turn in
    (search rules, search rules, versioned g.M.Machine.runs g.M.Machine.state (g.M.Machine.opening c.args.table.now.key) _ _ c.args.version c.args.seat.now.me t.0 t.1 t.2)
