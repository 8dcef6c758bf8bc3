use Rattle.std.proofs.Common.{[], ◌∷◌, ◌++◌}
use Rattle.dl_grammar.specs.declared.lexeme.Fixed.TheVariants as f
use Rattle.dl_print.specs.Canonical as spec
use Rattle.dl_print.specs.Canonical.{Word, Name, Number, Space, Indent, Feed}
use Rattle.dl_print.specs.Levels.{depth}
use Rattle.dl_print.proofs.Steps.{then_put, stop_put}
use Rattle.dl_print.proofs.statements.put_emit.Goals as goal

pub returns-in_err-put_indent : goal.returns-in_err-put_indent
returns-in_err-put_indent g c =
    stop_put (Indent (depth c.args.level.now) ∷ []) ((Word f.Emit ∷ Space ∷ []) ++ ((spec.sum_pieces c.args.e.now) ++ (Word f.Semicolon ∷ Feed ∷ []))) c.from_residual.ensures.0 c.in_err-put_indent.ensures

pub returns-in_err-put : goal.returns-in_err-put
returns-in_err-put g c =
    then_put (Indent (depth c.args.level.now) ∷ []) ((Word f.Emit ∷ Space ∷ []) ++ ((spec.sum_pieces c.args.e.now) ++ (Word f.Semicolon ∷ Feed ∷ []))) c.in_ok-put_indent.ensures.ok
    (stop_put (Word f.Emit ∷ Space ∷ []) ((spec.sum_pieces c.args.e.now) ++ (Word f.Semicolon ∷ Feed ∷ [])) c.from_residual-in_err-put.ensures.0 c.in_err-put.ensures)

pub returns-in_err-put_expression : goal.returns-in_err-put_expression
returns-in_err-put_expression g c =
    then_put (Indent (depth c.args.level.now) ∷ []) ((Word f.Emit ∷ Space ∷ []) ++ ((spec.sum_pieces c.args.e.now) ++ (Word f.Semicolon ∷ Feed ∷ []))) c.in_ok-put_indent.ensures.ok
    (then_put (Word f.Emit ∷ Space ∷ []) ((spec.sum_pieces c.args.e.now) ++ (Word f.Semicolon ∷ Feed ∷ [])) c.in_ok-put.ensures.ok
    (stop_put (spec.sum_pieces c.args.e.now) (Word f.Semicolon ∷ Feed ∷ []) c.from_residual-in_err-put_expression.ensures.0 c.in_err-put_expression.ensures))

pub returns : goal.returns
returns g c =
    then_put (Indent (depth c.args.level.now) ∷ []) ((Word f.Emit ∷ Space ∷ []) ++ ((spec.sum_pieces c.args.e.now) ++ (Word f.Semicolon ∷ Feed ∷ []))) c.in_ok-put_indent.ensures.ok
    (then_put (Word f.Emit ∷ Space ∷ []) ((spec.sum_pieces c.args.e.now) ++ (Word f.Semicolon ∷ Feed ∷ [])) c.in_ok-put.ensures.ok
    (then_put (spec.sum_pieces c.args.e.now) (Word f.Semicolon ∷ Feed ∷ []) c.in_ok-put_expression.ensures.ok
    (c.put-2.ensures)))
