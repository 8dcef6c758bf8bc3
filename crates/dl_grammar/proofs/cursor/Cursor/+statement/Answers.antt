use Rattle.dl_grammar.proofs.Steps.{statement_shrinks}
use Rattle.dl_grammar.proofs.cursor.Cursor.+statement.Goals as goal

pub statements-found-smaller : goal.statements-found-smaller
statements-found-smaller t c = statement_shrinks _ _ _ _ c.in_ok-statement.ensures
