use Rattle.std.proofs.Common.{[], ◌∷◌, ◌++◌}
use Rattle.dl_grammar.specs.declared.lexeme.Fixed.TheVariants as f
use Rattle.dl_print.specs.Canonical as spec
use Rattle.dl_print.specs.Canonical.{Word, Space, Indent, Feed}
use Rattle.dl_print.proofs.Parts.{kind_fields_full}
use Rattle.dl_print.proofs.Steps.{then_put, stop_put}
use Rattle.dl_print.proofs.declarations.put_kind_fields.Goals as goal

pub returns-in_err-put : goal.returns-in_err-put
returns-in_err-put g c = rw (kind_fields_full c.args.fields.now c.is_empty.result c.is_empty.ensures c.if-is_empty.false) (stop_put (Word f.LBrace ∷ Space ∷ []) (spec.fields_pieces c.args.fields.now ++ Space ∷ Word f.RBrace ∷ []) c.from_residual.ensures.0 c.in_err-put.ensures)

pub returns-in_err-put_fields : goal.returns-in_err-put_fields
returns-in_err-put_fields g c =
    rw (kind_fields_full c.args.fields.now c.is_empty.result c.is_empty.ensures c.if-is_empty.false)
    (then_put (Word f.LBrace ∷ Space ∷ []) (spec.fields_pieces c.args.fields.now ++ Space ∷ Word f.RBrace ∷ []) c.in_ok-put.ensures.ok (stop_put (spec.fields_pieces c.args.fields.now) (Space ∷ Word f.RBrace ∷ []) c.from_residual-in_err-put_fields.ensures.0 c.in_err-put_fields.ensures))

pub returns : goal.returns
returns g c =
    rw (kind_fields_full c.args.fields.now c.is_empty.result c.is_empty.ensures c.if-is_empty.false)
    (then_put (Word f.LBrace ∷ Space ∷ []) (spec.fields_pieces c.args.fields.now ++ Space ∷ Word f.RBrace ∷ []) c.in_ok-put.ensures.ok (then_put (spec.fields_pieces c.args.fields.now) (Space ∷ Word f.RBrace ∷ []) c.in_ok-put_fields.ensures.ok c.put-3.ensures))
