use Rattle.std.proofs.Common.{length}
use Rattle.dl_core.proofs.going_on.+first_referring.Given as goal

abbrev pub decreases-first_referring : goal.decreases-first_referring
decreases-first_referring l = length l.locals.now
