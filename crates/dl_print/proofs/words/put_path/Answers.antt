use Rattle.std.proofs.Common.{[], ◌∷◌, ◌++◌}
use Rattle.dl_grammar.specs.declared.lexeme.Fixed.TheVariants as f
use Rattle.dl_print.specs.Canonical.{Word, Name}
use Rattle.dl_print.proofs.Steps.{then_put, stop_put}
use Rattle.dl_print.proofs.words.put_path.Goals as goal

pub returns-in_err-put_name : goal.returns-in_err-put_name
returns-in_err-put_name g c =
    stop_put (Name c.args.p.now.text ∷ []) ((Word f.Dot ∷ []) ++ (Name c.args.f.now.text ∷ [])) c.from_residual.ensures.0 c.in_err-put_name.ensures

pub returns-in_err-put : goal.returns-in_err-put
returns-in_err-put g c =
    then_put (Name c.args.p.now.text ∷ []) ((Word f.Dot ∷ []) ++ (Name c.args.f.now.text ∷ [])) c.in_ok-put_name.ensures.ok
    (stop_put (Word f.Dot ∷ []) (Name c.args.f.now.text ∷ []) c.from_residual-in_err-put.ensures.0 c.in_err-put.ensures)

pub returns : goal.returns
returns g c =
    then_put (Name c.args.p.now.text ∷ []) ((Word f.Dot ∷ []) ++ (Name c.args.f.now.text ∷ [])) c.in_ok-put_name.ensures.ok
    (then_put (Word f.Dot ∷ []) (Name c.args.f.now.text ∷ []) c.in_ok-put.ensures.ok
    (c.put_name-2.ensures))
