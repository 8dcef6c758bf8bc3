use Rattle.std.proofs.Common.{[], ◌∷◌, ◌++◌}
use Rattle.dl_print.specs.Canonical as spec
use Rattle.dl_print.specs.Canonical.{Word, Name, Number, Space, Indent, Feed}
use Rattle.dl_print.proofs.Steps.{then_put, stop_put}
use Rattle.dl_print.proofs.operands.put_condition.Goals as goal

pub returns-in_err-put_side : goal.returns-in_err-put_side
returns-in_err-put_side g c =
    stop_put (spec.side_pieces c.args.c.now.left) ((Space ∷ Word (spec.relation_fixed c.args.c.now.rel) ∷ Space ∷ []) ++ (spec.side_pieces c.args.c.now.right)) c.from_residual.ensures.0 c.in_err-put_side.ensures

pub returns-in_err-put_relation : goal.returns-in_err-put_relation
returns-in_err-put_relation g c =
    then_put (spec.side_pieces c.args.c.now.left) ((Space ∷ Word (spec.relation_fixed c.args.c.now.rel) ∷ Space ∷ []) ++ (spec.side_pieces c.args.c.now.right)) c.in_ok-put_side.ensures.ok
    (stop_put (Space ∷ Word (spec.relation_fixed c.args.c.now.rel) ∷ Space ∷ []) (spec.side_pieces c.args.c.now.right) c.from_residual-in_err-put_relation.ensures.0 c.in_err-put_relation.ensures)

pub returns : goal.returns
returns g c =
    then_put (spec.side_pieces c.args.c.now.left) ((Space ∷ Word (spec.relation_fixed c.args.c.now.rel) ∷ Space ∷ []) ++ (spec.side_pieces c.args.c.now.right)) c.in_ok-put_side.ensures.ok
    (then_put (Space ∷ Word (spec.relation_fixed c.args.c.now.rel) ∷ Space ∷ []) (spec.side_pieces c.args.c.now.right) c.in_ok-put_relation.ensures.ok
    (c.put_side-2.ensures))
