use Rattle.std.proofs.Common.{◌≡◌, drop, length}
use Rattle.dl_heapfile.specs.Reading.{fields}
use Rattle.dl_heapfile.proofs.Cuts.{onto}
use Rattle.dl_heapfile.proofs.lines.fields.Given as goal

-- the values held, with those to come, are all of them
abbrev pub invariant-loop-decl : goal.invariant-loop-decl
invariant-loop-decl l = record {
  same : onto l.held (fields (drop l.decl-index l.decls) l.rest) ≡ fields l.decls l.text;
  count : length l.held ≡ l.decl-index;
}
