use Rattle.std.proofs.Common.{rules}
use Rattle.dl_coarse.specs.Openings.{first_sight}
use Rattle.dl_coarse.proofs.Keeps.{come}
use Rattle.dl_coarse.proofs.closings.another.Goals as goal

pub load_new_seat-seat-requires : goal.load_new_seat-seat-requires
load_new_seat-seat-requires g c = (search rules, come g.M.Machine.runs g.M.Machine.state (g.M.Machine.opening c.args.table.now.key) _ (first_sight (g.M.Machine.opening c.args.table.now.key) (g.M.Machine.state c.args.table.now.key)))
