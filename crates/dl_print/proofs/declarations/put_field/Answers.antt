use Rattle.std.proofs.Common.{[], ◌∷◌}
use Rattle.dl_grammar.specs.declared.lexeme.Fixed.TheVariants as f
use Rattle.dl_print.specs.Canonical as spec
use Rattle.dl_print.specs.Canonical.{Word, Name, Space}
use Rattle.dl_print.proofs.Parts.{put_type}
use Rattle.dl_print.proofs.Steps.{then_put, stop_put}
use Rattle.dl_print.proofs.declarations.put_field.Goals as goal

pub returns-in_err-put_name : goal.returns-in_err-put_name
returns-in_err-put_name g c =
    stop_put (Name c.args.field.now.name.text ∷ []) (Word f.Colon ∷ Space ∷ spec.type_piece c.args.field.now.ty.text ∷ []) c.from_residual.ensures.0 c.in_err-put_name.ensures

pub returns-in_err-put : goal.returns-in_err-put
returns-in_err-put g c =
    then_put (Name c.args.field.now.name.text ∷ []) (Word f.Colon ∷ Space ∷ spec.type_piece c.args.field.now.ty.text ∷ []) c.in_ok-put_name.ensures.ok
    (stop_put (Word f.Colon ∷ Space ∷ []) (spec.type_piece c.args.field.now.ty.text ∷ []) c.from_residual-in_err-put.ensures.0 c.in_err-put.ensures)

pub returns : goal.returns
returns g c = rw (← c.as_slice.ensures)
    (then_put (Name c.args.field.now.name.text ∷ []) (Word f.Colon ∷ Space ∷ spec.type_piece c.as_slice.result.now ∷ []) c.in_ok-put_name.ensures.ok
    (then_put (Word f.Colon ∷ Space ∷ []) (spec.type_piece c.as_slice.result.now ∷ []) c.in_ok-put.ensures.ok (put_type c.as_slice.result.now c.put-2.ensures)))
