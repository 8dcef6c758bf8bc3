use Rattle.std.proofs.Common.{[], ◌∷◌, ◌++◌}
use Rattle.dl_grammar.specs.declared.lexeme.Fixed.TheVariants as f
use Rattle.dl_print.specs.Canonical as spec
use Rattle.dl_print.specs.Canonical.{Word, Name, Number, Space, Indent, Feed}
use Rattle.dl_print.proofs.Steps.{then_put, stop_put}
use Rattle.dl_print.proofs.statements.put_test.Goals as goal

pub returns-in_err-put : goal.returns-in_err-put
returns-in_err-put g c =
    stop_put (Space ∷ Word f.LParen ∷ []) ((spec.condition_pieces c.args.c.now) ++ (Word f.RParen ∷ Space ∷ [])) c.from_residual.ensures.0 c.in_err-put.ensures

pub returns-in_err-put_condition : goal.returns-in_err-put_condition
returns-in_err-put_condition g c =
    then_put (Space ∷ Word f.LParen ∷ []) ((spec.condition_pieces c.args.c.now) ++ (Word f.RParen ∷ Space ∷ [])) c.in_ok-put.ensures.ok
    (stop_put (spec.condition_pieces c.args.c.now) (Word f.RParen ∷ Space ∷ []) c.from_residual-in_err-put_condition.ensures.0 c.in_err-put_condition.ensures)

pub returns : goal.returns
returns g c =
    then_put (Space ∷ Word f.LParen ∷ []) ((spec.condition_pieces c.args.c.now) ++ (Word f.RParen ∷ Space ∷ [])) c.in_ok-put.ensures.ok
    (then_put (spec.condition_pieces c.args.c.now) (Word f.RParen ∷ Space ∷ []) c.in_ok-put_condition.ensures.ok
    (c.put-2.ensures))
