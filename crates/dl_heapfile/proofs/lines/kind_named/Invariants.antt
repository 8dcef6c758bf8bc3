use Rattle.std.proofs.Common.{◌≡◌, drop}
use Rattle.dl_heapfile.specs.Reading.{kind_named}
use Rattle.dl_heapfile.proofs.lines.kind_named.Given as goal

-- the kinds that are left decide
abbrev pub invariant-loop-at : goal.invariant-loop-at
invariant-loop-at l = record {
  same : kind_named l.at l.word (drop l.at l.kinds) ≡ kind_named 0 l.word l.kinds;
}
