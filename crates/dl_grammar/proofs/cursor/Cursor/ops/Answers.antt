use Rattle.dl_grammar.proofs.MoreSteps.{op_shrinks}
use Rattle.dl_grammar.proofs.cursor.Cursor.ops.Goals as goal

pub found-smaller : goal.found-smaller
found-smaller c = op_shrinks _ _ _ _ c.in_ok-found.ensures
