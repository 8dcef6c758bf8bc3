use Rattle.std.proofs.Common.{[], ◌∷◌, ◌++◌, map}
use Rattle.dl_grammar.specs.declared.lexeme.Fixed.TheVariants as f
use Rattle.dl_print.specs.Canonical as spec
use Rattle.dl_print.specs.Canonical.{Word, Name, Number, Space, Indent, Feed}
use Rattle.dl_print.proofs.Steps.{then_put, stop_put}
use Rattle.dl_print.proofs.declarations.put_op.Goals as goal

pub returns-in_err-put_signature : goal.returns-in_err-put_signature
returns-in_err-put_signature g c =
    stop_put (spec.signature_pieces c.args.op.now) ((spec.quota_pieces c.args.op.now) ++ ((Space ∷ Word f.LBrace ∷ Feed ∷ []) ++ ((spec.vars_line c.args.op.now.vars) ++ ((spec.lines_at (map spec.statement_lines c.args.op.now.body) 1) ++ (Word f.RBrace ∷ Feed ∷ []))))) c.from_residual.ensures.0 c.in_err-put_signature.ensures

pub returns-in_err-put_quotas : goal.returns-in_err-put_quotas
returns-in_err-put_quotas g c =
    then_put (spec.signature_pieces c.args.op.now) ((spec.quota_pieces c.args.op.now) ++ ((Space ∷ Word f.LBrace ∷ Feed ∷ []) ++ ((spec.vars_line c.args.op.now.vars) ++ ((spec.lines_at (map spec.statement_lines c.args.op.now.body) 1) ++ (Word f.RBrace ∷ Feed ∷ []))))) c.in_ok-put_signature.ensures.ok
    (stop_put (spec.quota_pieces c.args.op.now) ((Space ∷ Word f.LBrace ∷ Feed ∷ []) ++ ((spec.vars_line c.args.op.now.vars) ++ ((spec.lines_at (map spec.statement_lines c.args.op.now.body) 1) ++ (Word f.RBrace ∷ Feed ∷ [])))) c.from_residual-in_err-put_quotas.ensures.0 c.in_err-put_quotas.ensures)

pub returns-in_err-put : goal.returns-in_err-put
returns-in_err-put g c =
    then_put (spec.signature_pieces c.args.op.now) ((spec.quota_pieces c.args.op.now) ++ ((Space ∷ Word f.LBrace ∷ Feed ∷ []) ++ ((spec.vars_line c.args.op.now.vars) ++ ((spec.lines_at (map spec.statement_lines c.args.op.now.body) 1) ++ (Word f.RBrace ∷ Feed ∷ []))))) c.in_ok-put_signature.ensures.ok
    (then_put (spec.quota_pieces c.args.op.now) ((Space ∷ Word f.LBrace ∷ Feed ∷ []) ++ ((spec.vars_line c.args.op.now.vars) ++ ((spec.lines_at (map spec.statement_lines c.args.op.now.body) 1) ++ (Word f.RBrace ∷ Feed ∷ [])))) c.in_ok-put_quotas.ensures.ok
    (stop_put (Space ∷ Word f.LBrace ∷ Feed ∷ []) ((spec.vars_line c.args.op.now.vars) ++ ((spec.lines_at (map spec.statement_lines c.args.op.now.body) 1) ++ (Word f.RBrace ∷ Feed ∷ []))) c.from_residual-in_err-put.ensures.0 c.in_err-put.ensures))

pub returns-in_err-put_vars : goal.returns-in_err-put_vars
returns-in_err-put_vars g c =
    rw (← c.as_slice.ensures)
    (then_put (spec.signature_pieces c.args.op.now) ((spec.quota_pieces c.args.op.now) ++ ((Space ∷ Word f.LBrace ∷ Feed ∷ []) ++ ((spec.vars_line c.as_slice.result.now) ++ ((spec.lines_at (map spec.statement_lines c.args.op.now.body) 1) ++ (Word f.RBrace ∷ Feed ∷ []))))) c.in_ok-put_signature.ensures.ok
    (then_put (spec.quota_pieces c.args.op.now) ((Space ∷ Word f.LBrace ∷ Feed ∷ []) ++ ((spec.vars_line c.as_slice.result.now) ++ ((spec.lines_at (map spec.statement_lines c.args.op.now.body) 1) ++ (Word f.RBrace ∷ Feed ∷ [])))) c.in_ok-put_quotas.ensures.ok
    (then_put (Space ∷ Word f.LBrace ∷ Feed ∷ []) ((spec.vars_line c.as_slice.result.now) ++ ((spec.lines_at (map spec.statement_lines c.args.op.now.body) 1) ++ (Word f.RBrace ∷ Feed ∷ []))) c.in_ok-put.ensures.ok
    (stop_put (spec.vars_line c.as_slice.result.now) ((spec.lines_at (map spec.statement_lines c.args.op.now.body) 1) ++ (Word f.RBrace ∷ Feed ∷ [])) c.from_residual-in_err-put_vars.ensures.0 c.in_err-put_vars.ensures))))

pub returns-in_err-put_body : goal.returns-in_err-put_body
returns-in_err-put_body g c =
    rw (← c.as_slice.ensures)
    (then_put (spec.signature_pieces c.args.op.now) ((spec.quota_pieces c.args.op.now) ++ ((Space ∷ Word f.LBrace ∷ Feed ∷ []) ++ ((spec.vars_line c.as_slice.result.now) ++ ((spec.lines_at (map spec.statement_lines c.args.op.now.body) 1) ++ (Word f.RBrace ∷ Feed ∷ []))))) c.in_ok-put_signature.ensures.ok
    (then_put (spec.quota_pieces c.args.op.now) ((Space ∷ Word f.LBrace ∷ Feed ∷ []) ++ ((spec.vars_line c.as_slice.result.now) ++ ((spec.lines_at (map spec.statement_lines c.args.op.now.body) 1) ++ (Word f.RBrace ∷ Feed ∷ [])))) c.in_ok-put_quotas.ensures.ok
    (then_put (Space ∷ Word f.LBrace ∷ Feed ∷ []) ((spec.vars_line c.as_slice.result.now) ++ ((spec.lines_at (map spec.statement_lines c.args.op.now.body) 1) ++ (Word f.RBrace ∷ Feed ∷ []))) c.in_ok-put.ensures.ok
    (then_put (spec.vars_line c.as_slice.result.now) ((spec.lines_at (map spec.statement_lines c.args.op.now.body) 1) ++ (Word f.RBrace ∷ Feed ∷ [])) c.in_ok-put_vars.ensures.ok
    (stop_put (spec.lines_at (map spec.statement_lines c.args.op.now.body) 1) (Word f.RBrace ∷ Feed ∷ []) c.from_residual-in_err-put_body.ensures.0 c.in_err-put_body.ensures)))))

pub returns : goal.returns
returns g c =
    rw (← c.as_slice.ensures)
    (then_put (spec.signature_pieces c.args.op.now) ((spec.quota_pieces c.args.op.now) ++ ((Space ∷ Word f.LBrace ∷ Feed ∷ []) ++ ((spec.vars_line c.as_slice.result.now) ++ ((spec.lines_at (map spec.statement_lines c.args.op.now.body) 1) ++ (Word f.RBrace ∷ Feed ∷ []))))) c.in_ok-put_signature.ensures.ok
    (then_put (spec.quota_pieces c.args.op.now) ((Space ∷ Word f.LBrace ∷ Feed ∷ []) ++ ((spec.vars_line c.as_slice.result.now) ++ ((spec.lines_at (map spec.statement_lines c.args.op.now.body) 1) ++ (Word f.RBrace ∷ Feed ∷ [])))) c.in_ok-put_quotas.ensures.ok
    (then_put (Space ∷ Word f.LBrace ∷ Feed ∷ []) ((spec.vars_line c.as_slice.result.now) ++ ((spec.lines_at (map spec.statement_lines c.args.op.now.body) 1) ++ (Word f.RBrace ∷ Feed ∷ []))) c.in_ok-put.ensures.ok
    (then_put (spec.vars_line c.as_slice.result.now) ((spec.lines_at (map spec.statement_lines c.args.op.now.body) 1) ++ (Word f.RBrace ∷ Feed ∷ [])) c.in_ok-put_vars.ensures.ok
    (then_put (spec.lines_at (map spec.statement_lines c.args.op.now.body) 1) (Word f.RBrace ∷ Feed ∷ []) c.in_ok-put_body.ensures.ok
    (c.put-2.ensures))))))
