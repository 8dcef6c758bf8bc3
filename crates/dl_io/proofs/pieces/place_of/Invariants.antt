use Rattle.std.proofs.Common.{◌≡◌, drop}
use Rattle.dl_io.specs.Files.{bytes_in}
use Rattle.dl_io.proofs.pieces.place_of.Given as goal

abbrev pub invariant-loop-i : goal.invariant-loop-i
invariant-loop-i l = bytes_in (drop l.i l.files) l.path ≡ bytes_in l.files l.path
