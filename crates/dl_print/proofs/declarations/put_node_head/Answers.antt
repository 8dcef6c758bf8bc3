use Rattle.std.proofs.Common.{[], ◌∷◌, ◌++◌}
use Rattle.dl_grammar.specs.declared.lexeme.Fixed.TheVariants as f
use Rattle.dl_print.specs.Canonical.{Word, Name, Space}
use Rattle.dl_print.proofs.Steps.{then_put, stop_put}
use Rattle.dl_print.proofs.declarations.put_node_head.Goals as goal

pub returns-in_err-put : goal.returns-in_err-put
returns-in_err-put g c =
    stop_put (Word f.Node ∷ Space ∷ []) ((Name c.args.kind.now.name.text ∷ []) ++ (Space ∷ [])) c.from_residual.ensures.0 c.in_err-put.ensures

pub returns-in_err-put_name : goal.returns-in_err-put_name
returns-in_err-put_name g c =
    then_put (Word f.Node ∷ Space ∷ []) ((Name c.args.kind.now.name.text ∷ []) ++ (Space ∷ [])) c.in_ok-put.ensures.ok
    (stop_put (Name c.args.kind.now.name.text ∷ []) (Space ∷ []) c.from_residual-in_err-put_name.ensures.0 c.in_err-put_name.ensures)

pub returns : goal.returns
returns g c =
    then_put (Word f.Node ∷ Space ∷ []) ((Name c.args.kind.now.name.text ∷ []) ++ (Space ∷ [])) c.in_ok-put.ensures.ok
    (then_put (Name c.args.kind.now.name.text ∷ []) (Space ∷ []) c.in_ok-put_name.ensures.ok
    (c.put-2.ensures))
