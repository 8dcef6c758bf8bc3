use Rattle.std.proofs.Common.{[], ◌∷◌, ◌++◌}
use Rattle.dl_grammar.specs.declared.lexeme.Fixed.TheVariants as f
use Rattle.dl_print.specs.Canonical.{Word, Name, Number, Space}
use Rattle.dl_print.proofs.Steps.{then_put, stop_put}
use Rattle.dl_print.proofs.declarations.put_root_head.Goals as goal

pub returns-in_err-put : goal.returns-in_err-put
returns-in_err-put g c =
    stop_put (Word f.Root ∷ Space ∷ []) ((Name c.args.kind.now.name.text ∷ []) ++ ((Space ∷ []) ++ ((Number c.args.kind.now.count ∷ []) ++ (Space ∷ [])))) c.from_residual.ensures.0 c.in_err-put.ensures

pub returns-in_err-put_name : goal.returns-in_err-put_name
returns-in_err-put_name g c =
    then_put (Word f.Root ∷ Space ∷ []) ((Name c.args.kind.now.name.text ∷ []) ++ ((Space ∷ []) ++ ((Number c.args.kind.now.count ∷ []) ++ (Space ∷ [])))) c.in_ok-put.ensures.ok
    (stop_put (Name c.args.kind.now.name.text ∷ []) ((Space ∷ []) ++ ((Number c.args.kind.now.count ∷ []) ++ (Space ∷ []))) c.from_residual-in_err-put_name.ensures.0 c.in_err-put_name.ensures)

pub returns-in_err-put-2 : goal.returns-in_err-put-2
returns-in_err-put-2 g c =
    then_put (Word f.Root ∷ Space ∷ []) ((Name c.args.kind.now.name.text ∷ []) ++ ((Space ∷ []) ++ ((Number c.args.kind.now.count ∷ []) ++ (Space ∷ [])))) c.in_ok-put.ensures.ok
    (then_put (Name c.args.kind.now.name.text ∷ []) ((Space ∷ []) ++ ((Number c.args.kind.now.count ∷ []) ++ (Space ∷ []))) c.in_ok-put_name.ensures.ok
    (stop_put (Space ∷ []) ((Number c.args.kind.now.count ∷ []) ++ (Space ∷ [])) c.from_residual-in_err-put-2.ensures.0 c.in_err-put-2.ensures))

pub returns-in_err-put_count : goal.returns-in_err-put_count
returns-in_err-put_count g c =
    then_put (Word f.Root ∷ Space ∷ []) ((Name c.args.kind.now.name.text ∷ []) ++ ((Space ∷ []) ++ ((Number c.args.kind.now.count ∷ []) ++ (Space ∷ [])))) c.in_ok-put.ensures.ok
    (then_put (Name c.args.kind.now.name.text ∷ []) ((Space ∷ []) ++ ((Number c.args.kind.now.count ∷ []) ++ (Space ∷ []))) c.in_ok-put_name.ensures.ok
    (then_put (Space ∷ []) ((Number c.args.kind.now.count ∷ []) ++ (Space ∷ [])) c.in_ok-put-2.ensures.ok
    (stop_put (Number c.args.kind.now.count ∷ []) (Space ∷ []) c.from_residual-in_err-put_count.ensures.0 c.in_err-put_count.ensures)))

pub returns : goal.returns
returns g c =
    then_put (Word f.Root ∷ Space ∷ []) ((Name c.args.kind.now.name.text ∷ []) ++ ((Space ∷ []) ++ ((Number c.args.kind.now.count ∷ []) ++ (Space ∷ [])))) c.in_ok-put.ensures.ok
    (then_put (Name c.args.kind.now.name.text ∷ []) ((Space ∷ []) ++ ((Number c.args.kind.now.count ∷ []) ++ (Space ∷ []))) c.in_ok-put_name.ensures.ok
    (then_put (Space ∷ []) ((Number c.args.kind.now.count ∷ []) ++ (Space ∷ [])) c.in_ok-put-2.ensures.ok
    (then_put (Number c.args.kind.now.count ∷ []) (Space ∷ []) c.in_ok-put_count.ensures.ok
    (c.put-3.ensures))))
