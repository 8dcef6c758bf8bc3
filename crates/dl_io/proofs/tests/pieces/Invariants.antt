use Rattle.std.proofs.Common.{◌≡◌, Some}
use Rattle.dl_io.proofs.tests.pieces.Given as goal

abbrev pub invariant-reads : goal.invariant-reads
invariant-reads g l = (g.F.Files.source l.files).attached ≡ Some l.file
