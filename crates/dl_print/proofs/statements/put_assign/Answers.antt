use Rattle.std.proofs.Common.{[], ◌∷◌, ◌++◌}
use Rattle.dl_grammar.specs.declared.lexeme.Fixed.TheVariants as f
use Rattle.dl_print.specs.Canonical as spec
use Rattle.dl_print.specs.Canonical.{Word, Name, Number, Space, Indent, Feed}
use Rattle.dl_print.specs.Levels.{depth}
use Rattle.dl_print.proofs.Steps.{then_put, stop_put}
use Rattle.dl_print.proofs.statements.put_assign.Goals as goal

pub returns-in_err-put_indent : goal.returns-in_err-put_indent
returns-in_err-put_indent g c =
    stop_put (Indent (depth c.args.level.now) ∷ []) ((Name c.args.x.now.text ∷ []) ++ ((Space ∷ Word f.Assign ∷ Space ∷ []) ++ ((spec.rhs_pieces c.args.rhs.now) ++ (Word f.Semicolon ∷ Feed ∷ [])))) c.from_residual.ensures.0 c.in_err-put_indent.ensures

pub returns-in_err-put_name : goal.returns-in_err-put_name
returns-in_err-put_name g c =
    then_put (Indent (depth c.args.level.now) ∷ []) ((Name c.args.x.now.text ∷ []) ++ ((Space ∷ Word f.Assign ∷ Space ∷ []) ++ ((spec.rhs_pieces c.args.rhs.now) ++ (Word f.Semicolon ∷ Feed ∷ [])))) c.in_ok-put_indent.ensures.ok
    (stop_put (Name c.args.x.now.text ∷ []) ((Space ∷ Word f.Assign ∷ Space ∷ []) ++ ((spec.rhs_pieces c.args.rhs.now) ++ (Word f.Semicolon ∷ Feed ∷ []))) c.from_residual-in_err-put_name.ensures.0 c.in_err-put_name.ensures)

pub returns-in_err-put : goal.returns-in_err-put
returns-in_err-put g c =
    then_put (Indent (depth c.args.level.now) ∷ []) ((Name c.args.x.now.text ∷ []) ++ ((Space ∷ Word f.Assign ∷ Space ∷ []) ++ ((spec.rhs_pieces c.args.rhs.now) ++ (Word f.Semicolon ∷ Feed ∷ [])))) c.in_ok-put_indent.ensures.ok
    (then_put (Name c.args.x.now.text ∷ []) ((Space ∷ Word f.Assign ∷ Space ∷ []) ++ ((spec.rhs_pieces c.args.rhs.now) ++ (Word f.Semicolon ∷ Feed ∷ []))) c.in_ok-put_name.ensures.ok
    (stop_put (Space ∷ Word f.Assign ∷ Space ∷ []) ((spec.rhs_pieces c.args.rhs.now) ++ (Word f.Semicolon ∷ Feed ∷ [])) c.from_residual-in_err-put.ensures.0 c.in_err-put.ensures))

pub returns-in_err-put_rhs : goal.returns-in_err-put_rhs
returns-in_err-put_rhs g c =
    then_put (Indent (depth c.args.level.now) ∷ []) ((Name c.args.x.now.text ∷ []) ++ ((Space ∷ Word f.Assign ∷ Space ∷ []) ++ ((spec.rhs_pieces c.args.rhs.now) ++ (Word f.Semicolon ∷ Feed ∷ [])))) c.in_ok-put_indent.ensures.ok
    (then_put (Name c.args.x.now.text ∷ []) ((Space ∷ Word f.Assign ∷ Space ∷ []) ++ ((spec.rhs_pieces c.args.rhs.now) ++ (Word f.Semicolon ∷ Feed ∷ []))) c.in_ok-put_name.ensures.ok
    (then_put (Space ∷ Word f.Assign ∷ Space ∷ []) ((spec.rhs_pieces c.args.rhs.now) ++ (Word f.Semicolon ∷ Feed ∷ [])) c.in_ok-put.ensures.ok
    (stop_put (spec.rhs_pieces c.args.rhs.now) (Word f.Semicolon ∷ Feed ∷ []) c.from_residual-in_err-put_rhs.ensures.0 c.in_err-put_rhs.ensures)))

pub returns : goal.returns
returns g c =
    then_put (Indent (depth c.args.level.now) ∷ []) ((Name c.args.x.now.text ∷ []) ++ ((Space ∷ Word f.Assign ∷ Space ∷ []) ++ ((spec.rhs_pieces c.args.rhs.now) ++ (Word f.Semicolon ∷ Feed ∷ [])))) c.in_ok-put_indent.ensures.ok
    (then_put (Name c.args.x.now.text ∷ []) ((Space ∷ Word f.Assign ∷ Space ∷ []) ++ ((spec.rhs_pieces c.args.rhs.now) ++ (Word f.Semicolon ∷ Feed ∷ []))) c.in_ok-put_name.ensures.ok
    (then_put (Space ∷ Word f.Assign ∷ Space ∷ []) ((spec.rhs_pieces c.args.rhs.now) ++ (Word f.Semicolon ∷ Feed ∷ [])) c.in_ok-put.ensures.ok
    (then_put (spec.rhs_pieces c.args.rhs.now) (Word f.Semicolon ∷ Feed ∷ []) c.in_ok-put_rhs.ensures.ok
    (c.put-2.ensures))))
