use Rattle.std.proofs.Common.{length}
use Rattle.dl_core.proofs.codes.+first_reference.Given as goal

abbrev pub decreases-first_reference : goal.decreases-first_reference
decreases-first_reference l = length l.fields.now
