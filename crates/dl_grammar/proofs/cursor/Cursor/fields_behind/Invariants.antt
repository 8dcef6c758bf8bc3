use Rattle.std.proofs.Common.{◌≡◌, ◌+◌, ◌≤◌, length}
use Rattle.dl_grammar.specs.Readers as read
use Rattle.dl_grammar.proofs.cursor.Cursor.fields_behind.Given as goal

-- the fields that are left are read from here on
abbrev pub invariant-found : goal.invariant-found
invariant-found l = record {
  same : read.fields_behind l.most l.bound l.stand l.fn.self.rest.now ≡ read.fields_more l.most l.bound l.stand l.found l.self.rest.now;
  few : l.stand + length l.found ≤ l.most;
}

abbrev pub decreases-found : goal.decreases-found
decreases-found l = length l.self.rest.now
