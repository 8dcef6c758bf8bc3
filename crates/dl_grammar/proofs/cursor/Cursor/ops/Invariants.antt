use Rattle.std.proofs.Common.{◌≡◌, length, []}
use Rattle.dl_grammar.specs.Readers as read
use Rattle.dl_grammar.proofs.cursor.Cursor.ops.Given as goal

-- the operations that are left are read from here on
abbrev pub invariant-found : goal.invariant-found
invariant-found l = read.ops_from [] l.fn.self.rest.now ≡ read.ops_from l.found l.self.rest.now

abbrev pub decreases-found : goal.decreases-found
decreases-found l = length l.self.rest.now
