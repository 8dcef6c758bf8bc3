use Rattle.std.proofs.Common.{[], ◌∷◌, ◌++◌}
use Rattle.dl_grammar.specs.declared.lexeme.Fixed.TheVariants as f
use Rattle.dl_print.specs.Canonical as spec
use Rattle.dl_print.specs.Canonical.{Word, Name, Number, Space, Indent, Feed}
use Rattle.dl_print.proofs.Steps.{then_put, stop_put}
use Rattle.dl_print.proofs.declarations.put_signature.Goals as goal

pub returns-in_err-put : goal.returns-in_err-put
returns-in_err-put g c =
    stop_put (Word f.Op ∷ Space ∷ []) ((Name c.args.op.now.name.text ∷ []) ++ ((Word f.LParen ∷ []) ++ ((spec.fields_pieces c.args.op.now.params) ++ (Word f.RParen ∷ [])))) c.from_residual.ensures.0 c.in_err-put.ensures

pub returns-in_err-put_name : goal.returns-in_err-put_name
returns-in_err-put_name g c =
    then_put (Word f.Op ∷ Space ∷ []) ((Name c.args.op.now.name.text ∷ []) ++ ((Word f.LParen ∷ []) ++ ((spec.fields_pieces c.args.op.now.params) ++ (Word f.RParen ∷ [])))) c.in_ok-put.ensures.ok
    (stop_put (Name c.args.op.now.name.text ∷ []) ((Word f.LParen ∷ []) ++ ((spec.fields_pieces c.args.op.now.params) ++ (Word f.RParen ∷ []))) c.from_residual-in_err-put_name.ensures.0 c.in_err-put_name.ensures)

pub returns-in_err-put-2 : goal.returns-in_err-put-2
returns-in_err-put-2 g c =
    then_put (Word f.Op ∷ Space ∷ []) ((Name c.args.op.now.name.text ∷ []) ++ ((Word f.LParen ∷ []) ++ ((spec.fields_pieces c.args.op.now.params) ++ (Word f.RParen ∷ [])))) c.in_ok-put.ensures.ok
    (then_put (Name c.args.op.now.name.text ∷ []) ((Word f.LParen ∷ []) ++ ((spec.fields_pieces c.args.op.now.params) ++ (Word f.RParen ∷ []))) c.in_ok-put_name.ensures.ok
    (stop_put (Word f.LParen ∷ []) ((spec.fields_pieces c.args.op.now.params) ++ (Word f.RParen ∷ [])) c.from_residual-in_err-put-2.ensures.0 c.in_err-put-2.ensures))

pub returns-in_err-put_fields : goal.returns-in_err-put_fields
returns-in_err-put_fields g c =
    rw (← c.as_slice.ensures)
    (then_put (Word f.Op ∷ Space ∷ []) ((Name c.args.op.now.name.text ∷ []) ++ ((Word f.LParen ∷ []) ++ ((spec.fields_pieces c.as_slice.result.now) ++ (Word f.RParen ∷ [])))) c.in_ok-put.ensures.ok
    (then_put (Name c.args.op.now.name.text ∷ []) ((Word f.LParen ∷ []) ++ ((spec.fields_pieces c.as_slice.result.now) ++ (Word f.RParen ∷ []))) c.in_ok-put_name.ensures.ok
    (then_put (Word f.LParen ∷ []) ((spec.fields_pieces c.as_slice.result.now) ++ (Word f.RParen ∷ [])) c.in_ok-put-2.ensures.ok
    (stop_put (spec.fields_pieces c.as_slice.result.now) (Word f.RParen ∷ []) c.from_residual-in_err-put_fields.ensures.0 c.in_err-put_fields.ensures))))

pub returns : goal.returns
returns g c =
    rw (← c.as_slice.ensures)
    (then_put (Word f.Op ∷ Space ∷ []) ((Name c.args.op.now.name.text ∷ []) ++ ((Word f.LParen ∷ []) ++ ((spec.fields_pieces c.as_slice.result.now) ++ (Word f.RParen ∷ [])))) c.in_ok-put.ensures.ok
    (then_put (Name c.args.op.now.name.text ∷ []) ((Word f.LParen ∷ []) ++ ((spec.fields_pieces c.as_slice.result.now) ++ (Word f.RParen ∷ []))) c.in_ok-put_name.ensures.ok
    (then_put (Word f.LParen ∷ []) ((spec.fields_pieces c.as_slice.result.now) ++ (Word f.RParen ∷ [])) c.in_ok-put-2.ensures.ok
    (then_put (spec.fields_pieces c.as_slice.result.now) (Word f.RParen ∷ []) c.in_ok-put_fields.ensures.ok
    (c.put-3.ensures)))))
