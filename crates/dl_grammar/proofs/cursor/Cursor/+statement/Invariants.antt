use Rattle.std.proofs.Common.{◌≡◌, ◌+◌, ◌*◌, length, []}
use Rattle.dl_grammar.specs.Readers as read
use Rattle.dl_grammar.proofs.cursor.Cursor.+statement.Given as goal

abbrev pub decreases-block : goal.decreases-block
decreases-block l = 8 * l.room

abbrev pub decreases-otherwise : goal.decreases-otherwise
decreases-otherwise l = 8 * l.room + 1

abbrev pub decreases-branch : goal.decreases-branch
decreases-branch l = 8 * l.room + 2

abbrev pub decreases-repetition : goal.decreases-repetition
decreases-repetition l = 8 * l.room + 2

abbrev pub decreases-statement : goal.decreases-statement
decreases-statement l = 8 * l.room + 3

abbrev pub decreases-statements : goal.decreases-statements
decreases-statements l = 8 * l.room + 4

-- the statements that are left are read from here on
abbrev pub invariant-statements-found : goal.invariant-statements-found
invariant-statements-found l = read.statements_from (read.statement l.room) [] l.fn.self.rest.now ≡ read.statements_from (read.statement l.room) l.found l.self.rest.now

abbrev pub decreases-statements-found : goal.decreases-statements-found
decreases-statements-found l = length l.self.rest.now
