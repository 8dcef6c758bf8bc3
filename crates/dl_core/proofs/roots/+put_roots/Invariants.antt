use Rattle.std.proofs.Common.{length}
use Rattle.dl_core.proofs.roots.+put_roots.Given as goal

abbrev pub decreases-put_roots : goal.decreases-put_roots
decreases-put_roots l = length l.params.now
