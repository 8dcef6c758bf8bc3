use Rattle.std.proofs.Common.{◌≡◌, ◌+◌, ◌*◌, length}
use Rattle.dl_grammar.specs.Readers as read
use Rattle.dl_grammar.proofs.cursor.Cursor.+expression.Given as goal

abbrev pub decreases-negation : goal.decreases-negation
decreases-negation l = 8 * l.room

abbrev pub decreases-bracket : goal.decreases-bracket
decreases-bracket l = 8 * l.room

abbrev pub decreases-factor : goal.decreases-factor
decreases-factor l = 8 * l.room + 1

abbrev pub decreases-scaled : goal.decreases-scaled
decreases-scaled l = 8 * l.room + 2

abbrev pub decreases-term_behind : goal.decreases-term_behind
decreases-term_behind l = 8 * l.room + 3

abbrev pub decreases-term : goal.decreases-term
decreases-term l = 8 * l.room + 4

abbrev pub decreases-added : goal.decreases-added
decreases-added l = 8 * l.room + 5

abbrev pub decreases-sum_behind : goal.decreases-sum_behind
decreases-sum_behind l = 8 * l.room + 6

abbrev pub decreases-sum : goal.decreases-sum
decreases-sum l = 8 * l.room + 7

-- what is left of the term is read from here on
abbrev pub invariant-term_behind-scaled : goal.invariant-term_behind-scaled
invariant-term_behind-scaled l = read.term_behind (read.factor l.room) l.fn.first l.fn.self.rest.now ≡ read.term_behind (read.factor l.room) l.left l.self.rest.now

abbrev pub decreases-term_behind-scaled : goal.decreases-term_behind-scaled
decreases-term_behind-scaled l = length l.self.rest.now

-- what is left of the sum is read from here on
abbrev pub invariant-sum_behind-added : goal.invariant-sum_behind-added
invariant-sum_behind-added l = read.sum_behind (read.factor l.room) l.fn.first l.fn.self.rest.now ≡ read.sum_behind (read.factor l.room) l.left l.self.rest.now

abbrev pub decreases-sum_behind-added : goal.decreases-sum_behind-added
decreases-sum_behind-added l = length l.self.rest.now
