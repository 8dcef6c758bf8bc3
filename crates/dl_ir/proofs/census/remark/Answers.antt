use Rattle.std.proofs.Common.{◌&&◌}
use Rattle.dl_ir.proofs.Lookups.{has_marked, has_beside}
use Rattle.dl_ir.proofs.census.remark.Goals as goal

pub returns-then-fitted-fits-clause-here : goal.returns-then-fitted-fits-clause-here
returns-then-fitted-fits-clause-here c = rw c.mark.ensures (has_marked (c.args.is_open && c.args.fits) c.args.names.now.rows c.args.name)

pub returns-then-fitted-fits-clause-beside : goal.returns-then-fitted-fits-clause-beside
returns-then-fitted-fits-clause-beside c n other = rw c.mark.ensures (has_beside (c.args.is_open && c.args.fits) c.args.names.now.rows c.args.name n other)
