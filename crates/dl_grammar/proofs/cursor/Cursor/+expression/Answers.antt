use Rattle.dl_grammar.proofs.Steps.{term_shrinks, sum_shrinks}
use Rattle.dl_grammar.proofs.cursor.Cursor.+expression.Goals as goal

pub term_behind-scaled-smaller : goal.term_behind-scaled-smaller
term_behind-scaled-smaller t c = term_shrinks _ _ _ _ _ c.in_ok-left.ensures

pub sum_behind-added-smaller : goal.sum_behind-added-smaller
sum_behind-added-smaller t c = sum_shrinks _ _ _ _ _ c.in_ok-left.ensures
