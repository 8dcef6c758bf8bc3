use Rattle.std.proofs.Common.{length}
use Rattle.dl_instr.specs.Paths.{places_of}
use Rattle.dl_instr.proofs.Paths.{missing}
use Rattle.dl_instr.proofs.liveness.+is_read_from_some.Given as goal

abbrev pub decreases-is_read_from_some : goal.decreases-is_read_from_some
decreases-is_read_from_some l = missing (length l.steps.now) (places_of l.reached.now)
