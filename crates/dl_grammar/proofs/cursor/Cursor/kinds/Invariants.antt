use Rattle.std.proofs.Common.{◌≡◌, ◌≤◌, length, []}
use Rattle.dl_grammar.specs.Readers as read
use Rattle.dl_grammar.proofs.cursor.Cursor.kinds.Given as goal

-- the kinds that are left are read from here on
abbrev pub invariant-found : goal.invariant-found
invariant-found l = record {
  same : read.kinds_from ([], 0) l.fn.self.rest.now ≡ read.kinds_from l.found l.self.rest.now;
  most : l.found.1 ≤ 1024;
}

abbrev pub decreases-found : goal.decreases-found
decreases-found l = length l.self.rest.now
