use Rattle.dl_grammar.proofs.MoreSteps.{kind_shrinks}
use Rattle.dl_grammar.proofs.cursor.Cursor.kinds.Goals as goal

pub found-smaller : goal.found-smaller
found-smaller c = kind_shrinks _ _ _ _ c.in_ok-found.ensures.reads
