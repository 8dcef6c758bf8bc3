use Rattle.std.proofs.Common.{[], ◌∷◌, ◌++◌}
use Rattle.dl_print.specs.Canonical as spec
use Rattle.dl_print.specs.Canonical.{Word, Name, Number, Space, Indent, Feed}
use Rattle.dl_print.proofs.Steps.{then_put, stop_put}
use Rattle.dl_print.proofs.declarations.put_kind.Goals as goal

pub returns-in_err-put_kind_head : goal.returns-in_err-put_kind_head
returns-in_err-put_kind_head g c =
    stop_put (spec.kind_head c.args.kind.now) ((spec.kind_fields c.args.kind.now.fields) ++ (Feed ∷ [])) c.from_residual.ensures.0 c.in_err-put_kind_head.ensures

pub returns-in_err-put_kind_fields : goal.returns-in_err-put_kind_fields
returns-in_err-put_kind_fields g c =
    rw (← c.as_slice.ensures)
    (then_put (spec.kind_head c.args.kind.now) ((spec.kind_fields c.as_slice.result.now) ++ (Feed ∷ [])) c.in_ok-put_kind_head.ensures.ok
    (stop_put (spec.kind_fields c.as_slice.result.now) (Feed ∷ []) c.from_residual-in_err-put_kind_fields.ensures.0 c.in_err-put_kind_fields.ensures))

pub returns : goal.returns
returns g c =
    rw (← c.as_slice.ensures)
    (then_put (spec.kind_head c.args.kind.now) ((spec.kind_fields c.as_slice.result.now) ++ (Feed ∷ [])) c.in_ok-put_kind_head.ensures.ok
    (then_put (spec.kind_fields c.as_slice.result.now) (Feed ∷ []) c.in_ok-put_kind_fields.ensures.ok
    (c.put.ensures)))
