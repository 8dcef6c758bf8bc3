use Rattle.std.proofs.Common.{[], ◌∷◌}
use Rattle.dl_grammar.specs.declared.lexeme.Fixed.TheVariants as f
use Rattle.dl_print.specs.Canonical as spec
use Rattle.dl_print.specs.Canonical.{Word, Name, Number, Space, Indent, Feed}
use Rattle.dl_print.proofs.Steps.{then_put, stop_put}
use Rattle.dl_print.proofs.declarations.put_next_field.Goals as goal

pub returns-in_err-put : goal.returns-in_err-put
returns-in_err-put g c =
    stop_put (Word f.Comma ∷ Space ∷ []) (spec.field_pieces c.args.field.now) c.from_residual.ensures.0 c.in_err-put.ensures

pub returns : goal.returns
returns g c =
    then_put (Word f.Comma ∷ Space ∷ []) (spec.field_pieces c.args.field.now) c.in_ok-put.ensures.ok
    (c.put_field.ensures)
