use Rattle.std.proofs.lemmas.Result.{err_from_is_err_and}
use Rattle.dl_types.proofs.Bodies.{body_fails}
use Rattle.dl_types.proofs.module.op_behind.Goals as goal

pub returns-in_err-body : goal.returns-in_err-body
returns-in_err-body c =
    let p = err_from_is_err_and c.from_residual-in_err-body.result c.from_residual-in_err-body.ensures.1 in
    rw (p.1, p.2)
    (λ ne. body_fails c.args.kinds.now c.args.op.now c.args.params c.in_ok-vars.vars c.as_slice.result.now c.as_slice-3.result.now c.as_slice-4.result.now c.as_slice-2.result.now c.in_err-body.field-0.0
    c.as_slice.ensures c.as_slice-2.ensures c.as_slice-3.ensures c.as_slice-4.ensures c.in_ok-vars.ensures.gives (c.in_err-body.ensures ne))
