use Rattle.std.proofs.Common.{[], ◌∷◌, ◌++◌}
use Rattle.dl_grammar.specs.declared.lexeme.Fixed.TheVariants as f
use Rattle.dl_print.specs.Canonical.{Word, Number, Space}
use Rattle.dl_print.proofs.Steps.{then_put, stop_put}
use Rattle.dl_print.proofs.declarations.put_quotas.Goals as goal

pub returns-in_err-put : goal.returns-in_err-put
returns-in_err-put g c =
    stop_put (Space ∷ Word f.Allocs ∷ Space ∷ []) ((Number c.args.op.now.allocs ∷ []) ++ ((Space ∷ Word f.Fuel ∷ Space ∷ []) ++ (Number c.args.op.now.fuel ∷ []))) c.from_residual.ensures.0 c.in_err-put.ensures

pub returns-in_err-put_count : goal.returns-in_err-put_count
returns-in_err-put_count g c =
    then_put (Space ∷ Word f.Allocs ∷ Space ∷ []) ((Number c.args.op.now.allocs ∷ []) ++ ((Space ∷ Word f.Fuel ∷ Space ∷ []) ++ (Number c.args.op.now.fuel ∷ []))) c.in_ok-put.ensures.ok
    (stop_put (Number c.args.op.now.allocs ∷ []) ((Space ∷ Word f.Fuel ∷ Space ∷ []) ++ (Number c.args.op.now.fuel ∷ [])) c.from_residual-in_err-put_count.ensures.0 c.in_err-put_count.ensures)

pub returns-in_err-put-2 : goal.returns-in_err-put-2
returns-in_err-put-2 g c =
    then_put (Space ∷ Word f.Allocs ∷ Space ∷ []) ((Number c.args.op.now.allocs ∷ []) ++ ((Space ∷ Word f.Fuel ∷ Space ∷ []) ++ (Number c.args.op.now.fuel ∷ []))) c.in_ok-put.ensures.ok
    (then_put (Number c.args.op.now.allocs ∷ []) ((Space ∷ Word f.Fuel ∷ Space ∷ []) ++ (Number c.args.op.now.fuel ∷ [])) c.in_ok-put_count.ensures.ok
    (stop_put (Space ∷ Word f.Fuel ∷ Space ∷ []) (Number c.args.op.now.fuel ∷ []) c.from_residual-in_err-put-2.ensures.0 c.in_err-put-2.ensures))

pub returns : goal.returns
returns g c =
    then_put (Space ∷ Word f.Allocs ∷ Space ∷ []) ((Number c.args.op.now.allocs ∷ []) ++ ((Space ∷ Word f.Fuel ∷ Space ∷ []) ++ (Number c.args.op.now.fuel ∷ []))) c.in_ok-put.ensures.ok
    (then_put (Number c.args.op.now.allocs ∷ []) ((Space ∷ Word f.Fuel ∷ Space ∷ []) ++ (Number c.args.op.now.fuel ∷ [])) c.in_ok-put_count.ensures.ok
    (then_put (Space ∷ Word f.Fuel ∷ Space ∷ []) (Number c.args.op.now.fuel ∷ []) c.in_ok-put-2.ensures.ok
    (c.put_count-2.ensures)))
