use Rattle.std.proofs.Common.{rules}
use Rattle.dl_coarse.proofs.Keeps.{clocked}
use Rattle.dl_coarse.proofs.steps.write_clock.Goals as goal

pub store-requires : goal.store-requires
store-requires g c = let t = c.requires.turn in
    (search rules, search rules, clocked g.M.Machine.runs g.M.Machine.state (g.M.Machine.opening c.args.table.now.key) _ _ c.args.clock c.args.seat.now.me t.0 t.1 t.2)
