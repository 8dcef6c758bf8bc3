use Rattle.std.proofs.Common.{[], ◌∷◌, ◌++◌}
use Rattle.dl_grammar.specs.declared.lexeme.Fixed.TheVariants as f
use Rattle.dl_print.specs.Canonical as spec
use Rattle.dl_print.specs.Canonical.{Word, Space}
use Rattle.dl_print.specs.Operands.{operator_fixed, left_of, right_of}
use Rattle.dl_print.proofs.Parts.{shown_operation}
use Rattle.dl_print.proofs.Steps.{then_put, stop_put}
use Rattle.dl_print.proofs.expressions.+expression.Goals as goal

pub put_negation-returns-in_err-put : goal.put_negation-returns-in_err-put
put_negation-returns-in_err-put g t c =
    stop_put (Word f.Minus ∷ []) (spec.as_factor (spec.shown c.args.inner.now)) c.from_residual.ensures.0 c.in_err-put.ensures

pub put_negation-returns : goal.put_negation-returns
put_negation-returns g t c = then_put (Word f.Minus ∷ []) (spec.as_factor (spec.shown c.args.inner.now)) c.in_ok-put.ensures.ok c.put_factor.ensures

pub put_expression-returns-in_err-put_left-in-Bin : goal.put_expression-returns-in_err-put_left-in-Bin
put_expression-returns-in_err-put_left-in-Bin g t c =
    rw (shown_operation c.args.e.now c.in-Bin.op c.in-Bin.left c.in-Bin.right c.in-Bin.is, ← c.get-in-Bin.ensures)
    (stop_put (left_of c.in-Bin.op (spec.shown c.get-in-Bin.result.now)) ((Space ∷ Word (operator_fixed c.in-Bin.op) ∷ Space ∷ []) ++ (right_of c.in-Bin.op (spec.shown c.in-Bin.right))) c.from_residual.ensures.0 c.in_err-put_left-in-Bin.ensures)

pub put_expression-returns-in_err-put_operator-in-Bin : goal.put_expression-returns-in_err-put_operator-in-Bin
put_expression-returns-in_err-put_operator-in-Bin g t c =
    rw (shown_operation c.args.e.now c.in-Bin.op c.in-Bin.left c.in-Bin.right c.in-Bin.is, ← c.get-in-Bin.ensures)
    (then_put (left_of c.in-Bin.op (spec.shown c.get-in-Bin.result.now)) ((Space ∷ Word (operator_fixed c.in-Bin.op) ∷ Space ∷ []) ++ (right_of c.in-Bin.op (spec.shown c.in-Bin.right))) c.in_ok-put_left-in-Bin.ensures.ok
    (stop_put (Space ∷ Word (operator_fixed c.in-Bin.op) ∷ Space ∷ []) (right_of c.in-Bin.op (spec.shown c.in-Bin.right)) c.from_residual-in_err-put_operator-in-Bin.ensures.0 c.in_err-put_operator-in-Bin.ensures))

pub put_expression-returns-in_ok-put_operator-in-Bin : goal.put_expression-returns-in_ok-put_operator-in-Bin
put_expression-returns-in_ok-put_operator-in-Bin g t c =
    rw (shown_operation c.args.e.now c.in-Bin.op c.in-Bin.left c.in-Bin.right c.in-Bin.is, ← c.get-in-Bin.ensures, ← c.get-in-Bin-2.ensures)
    (then_put (left_of c.in-Bin.op (spec.shown c.get-in-Bin.result.now)) ((Space ∷ Word (operator_fixed c.in-Bin.op) ∷ Space ∷ []) ++ (right_of c.in-Bin.op (spec.shown c.get-in-Bin-2.result.now))) c.in_ok-put_left-in-Bin.ensures.ok (then_put (Space ∷ Word (operator_fixed c.in-Bin.op) ∷ Space ∷ []) (right_of c.in-Bin.op (spec.shown c.get-in-Bin-2.result.now)) c.in_ok-put_operator-in-Bin.ensures.ok c.put_right.ensures))

pub put_bracketed-returns-in_err-put : goal.put_bracketed-returns-in_err-put
put_bracketed-returns-in_err-put g t c =
    stop_put (Word f.LParen ∷ []) ((spec.shown c.args.e.now).pieces ++ Word f.RParen ∷ []) c.from_residual.ensures.0 c.in_err-put.ensures

pub put_bracketed-returns-in_err-put_expression : goal.put_bracketed-returns-in_err-put_expression
put_bracketed-returns-in_err-put_expression g t c =
    then_put (Word f.LParen ∷ []) ((spec.shown c.args.e.now).pieces ++ Word f.RParen ∷ []) c.in_ok-put.ensures.ok
    (stop_put (spec.shown c.args.e.now).pieces (Word f.RParen ∷ []) c.from_residual-in_err-put_expression.ensures.0 c.in_err-put_expression.ensures)

pub put_bracketed-returns : goal.put_bracketed-returns
put_bracketed-returns g t c =
    then_put (Word f.LParen ∷ []) ((spec.shown c.args.e.now).pieces ++ Word f.RParen ∷ []) c.in_ok-put.ensures.ok
    (then_put (spec.shown c.args.e.now).pieces (Word f.RParen ∷ []) c.in_ok-put_expression.ensures.ok c.put-2.ensures)
