use Rattle.std.proofs.Common.{◌-◌}
use Rattle.dl_command.proofs.ReadingLemmas.{SoFar}
use Rattle.dl_command.proofs.reading.read_all.Given as goal

abbrev pub invariant-pieces : goal.invariant-pieces
invariant-pieces g l = SoFar (g.F.Files.source l.fn.files) (g.F.Files.source l.files) l.file l.path l.limit l.bytes.items l.taken

abbrev pub decreases-pieces : goal.decreases-pieces
decreases-pieces g l = l.limit - l.taken
