use Rattle.std.proofs.Common.{[], ◌∷◌, ◌++◌}
use Rattle.std.specs.List.{flat_map}
use Rattle.dl_grammar.specs.declared.lexeme.Fixed.TheVariants as f
use Rattle.dl_print.specs.Canonical as spec
use Rattle.dl_print.specs.Canonical.{Word, Name, Number, Space, Indent, Feed}
use Rattle.dl_print.proofs.Steps.{then_put, stop_put}
use Rattle.dl_print.proofs.module.print_module.Goals as goal

pub returns-in_err-put : goal.returns-in_err-put
returns-in_err-put g c =
    stop_put (Word f.Domlock ∷ Space ∷ []) ((Number c.args.tree.now.version ∷ []) ++ ((Feed ∷ []) ++ ((flat_map spec.kind_line c.args.tree.now.kinds) ++ (flat_map spec.op_lines c.args.tree.now.ops)))) c.from_residual.ensures.0 c.in_err-put.ensures

pub returns-in_err-put_count : goal.returns-in_err-put_count
returns-in_err-put_count g c =
    then_put (Word f.Domlock ∷ Space ∷ []) ((Number c.args.tree.now.version ∷ []) ++ ((Feed ∷ []) ++ ((flat_map spec.kind_line c.args.tree.now.kinds) ++ (flat_map spec.op_lines c.args.tree.now.ops)))) c.in_ok-put.ensures.ok
    (stop_put (Number c.args.tree.now.version ∷ []) ((Feed ∷ []) ++ ((flat_map spec.kind_line c.args.tree.now.kinds) ++ (flat_map spec.op_lines c.args.tree.now.ops))) c.from_residual-in_err-put_count.ensures.0 c.in_err-put_count.ensures)

pub returns-in_err-put-2 : goal.returns-in_err-put-2
returns-in_err-put-2 g c =
    then_put (Word f.Domlock ∷ Space ∷ []) ((Number c.args.tree.now.version ∷ []) ++ ((Feed ∷ []) ++ ((flat_map spec.kind_line c.args.tree.now.kinds) ++ (flat_map spec.op_lines c.args.tree.now.ops)))) c.in_ok-put.ensures.ok
    (then_put (Number c.args.tree.now.version ∷ []) ((Feed ∷ []) ++ ((flat_map spec.kind_line c.args.tree.now.kinds) ++ (flat_map spec.op_lines c.args.tree.now.ops))) c.in_ok-put_count.ensures.ok
    (stop_put (Feed ∷ []) ((flat_map spec.kind_line c.args.tree.now.kinds) ++ (flat_map spec.op_lines c.args.tree.now.ops)) c.from_residual-in_err-put-2.ensures.0 c.in_err-put-2.ensures))

pub returns-in_err-put_kinds : goal.returns-in_err-put_kinds
returns-in_err-put_kinds g c =
    rw (← c.as_slice.ensures)
    (then_put (Word f.Domlock ∷ Space ∷ []) ((Number c.args.tree.now.version ∷ []) ++ ((Feed ∷ []) ++ ((flat_map spec.kind_line c.as_slice.result.now) ++ (flat_map spec.op_lines c.args.tree.now.ops)))) c.in_ok-put.ensures.ok
    (then_put (Number c.args.tree.now.version ∷ []) ((Feed ∷ []) ++ ((flat_map spec.kind_line c.as_slice.result.now) ++ (flat_map spec.op_lines c.args.tree.now.ops))) c.in_ok-put_count.ensures.ok
    (then_put (Feed ∷ []) ((flat_map spec.kind_line c.as_slice.result.now) ++ (flat_map spec.op_lines c.args.tree.now.ops)) c.in_ok-put-2.ensures.ok
    (stop_put (flat_map spec.kind_line c.as_slice.result.now) (flat_map spec.op_lines c.args.tree.now.ops) c.from_residual-in_err-put_kinds.ensures.0 c.in_err-put_kinds.ensures))))

pub returns : goal.returns
returns g c =
    rw (← c.as_slice.ensures, ← c.as_slice-2.ensures)
    (then_put (Word f.Domlock ∷ Space ∷ []) ((Number c.args.tree.now.version ∷ []) ++ ((Feed ∷ []) ++ ((flat_map spec.kind_line c.as_slice.result.now) ++ (flat_map spec.op_lines c.as_slice-2.result.now)))) c.in_ok-put.ensures.ok
    (then_put (Number c.args.tree.now.version ∷ []) ((Feed ∷ []) ++ ((flat_map spec.kind_line c.as_slice.result.now) ++ (flat_map spec.op_lines c.as_slice-2.result.now))) c.in_ok-put_count.ensures.ok
    (then_put (Feed ∷ []) ((flat_map spec.kind_line c.as_slice.result.now) ++ (flat_map spec.op_lines c.as_slice-2.result.now)) c.in_ok-put-2.ensures.ok
    (then_put (flat_map spec.kind_line c.as_slice.result.now) (flat_map spec.op_lines c.as_slice-2.result.now) c.in_ok-put_kinds.ensures.ok
    (c.put_ops.ensures)))))
