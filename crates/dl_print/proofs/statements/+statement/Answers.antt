use Rattle.std.proofs.Common.{◌≡◌, [], ◌∷◌, ◌++◌, ◌+◌, map, drop}
use Rattle.dl_grammar.specs.declared.lexeme.Fixed.TheVariants as f
use Rattle.dl_print.specs.Canonical as spec
use Rattle.dl_print.specs.Canonical.{Word, Space, Indent, Feed, statement_lines}
use Rattle.dl_print.specs.Levels.{depth}
use Rattle.dl_print.proofs.Parts.{lines_if, inside_puts, inside_passes, otherwise_full}
use Rattle.dl_print.proofs.Steps.{then_put, stop_put, put_start, put_fails, put_step, statement_at}
use Rattle.dl_print.proofs.statements.+statement.Goals as goal

pub put_while-returns-in_err-put_indent : goal.put_while-returns-in_err-put_indent
put_while-returns-in_err-put_indent g t c =
    stop_put (Indent (depth c.args.level.now) ∷ []) ((Word f.While ∷ []) ++ ((spec.test_pieces c.args.c.now) ++ ((spec.block_pieces (map statement_lines c.args.body.now) (depth c.args.level.now)) ++ (Feed ∷ [])))) c.from_residual.ensures.0 c.in_err-put_indent.ensures

pub put_while-returns-in_err-put : goal.put_while-returns-in_err-put
put_while-returns-in_err-put g t c =
    then_put (Indent (depth c.args.level.now) ∷ []) ((Word f.While ∷ []) ++ ((spec.test_pieces c.args.c.now) ++ ((spec.block_pieces (map statement_lines c.args.body.now) (depth c.args.level.now)) ++ (Feed ∷ [])))) c.in_ok-put_indent.ensures.ok
    (stop_put (Word f.While ∷ []) ((spec.test_pieces c.args.c.now) ++ ((spec.block_pieces (map statement_lines c.args.body.now) (depth c.args.level.now)) ++ (Feed ∷ []))) c.from_residual-in_err-put.ensures.0 c.in_err-put.ensures)

pub put_while-returns-in_err-put_test : goal.put_while-returns-in_err-put_test
put_while-returns-in_err-put_test g t c =
    then_put (Indent (depth c.args.level.now) ∷ []) ((Word f.While ∷ []) ++ ((spec.test_pieces c.args.c.now) ++ ((spec.block_pieces (map statement_lines c.args.body.now) (depth c.args.level.now)) ++ (Feed ∷ [])))) c.in_ok-put_indent.ensures.ok
    (then_put (Word f.While ∷ []) ((spec.test_pieces c.args.c.now) ++ ((spec.block_pieces (map statement_lines c.args.body.now) (depth c.args.level.now)) ++ (Feed ∷ []))) c.in_ok-put.ensures.ok
    (stop_put (spec.test_pieces c.args.c.now) ((spec.block_pieces (map statement_lines c.args.body.now) (depth c.args.level.now)) ++ (Feed ∷ [])) c.from_residual-in_err-put_test.ensures.0 c.in_err-put_test.ensures))

pub put_while-returns-in_err-put_block : goal.put_while-returns-in_err-put_block
put_while-returns-in_err-put_block g t c =
    then_put (Indent (depth c.args.level.now) ∷ []) ((Word f.While ∷ []) ++ ((spec.test_pieces c.args.c.now) ++ ((spec.block_pieces (map statement_lines c.args.body.now) (depth c.args.level.now)) ++ (Feed ∷ [])))) c.in_ok-put_indent.ensures.ok
    (then_put (Word f.While ∷ []) ((spec.test_pieces c.args.c.now) ++ ((spec.block_pieces (map statement_lines c.args.body.now) (depth c.args.level.now)) ++ (Feed ∷ []))) c.in_ok-put.ensures.ok
    (then_put (spec.test_pieces c.args.c.now) ((spec.block_pieces (map statement_lines c.args.body.now) (depth c.args.level.now)) ++ (Feed ∷ [])) c.in_ok-put_test.ensures.ok
    (stop_put (spec.block_pieces (map statement_lines c.args.body.now) (depth c.args.level.now)) (Feed ∷ []) c.from_residual-in_err-put_block.ensures.0 c.in_err-put_block.ensures)))

pub put_while-returns : goal.put_while-returns
put_while-returns g t c =
    then_put (Indent (depth c.args.level.now) ∷ []) ((Word f.While ∷ []) ++ ((spec.test_pieces c.args.c.now) ++ ((spec.block_pieces (map statement_lines c.args.body.now) (depth c.args.level.now)) ++ (Feed ∷ [])))) c.in_ok-put_indent.ensures.ok
    (then_put (Word f.While ∷ []) ((spec.test_pieces c.args.c.now) ++ ((spec.block_pieces (map statement_lines c.args.body.now) (depth c.args.level.now)) ++ (Feed ∷ []))) c.in_ok-put.ensures.ok
    (then_put (spec.test_pieces c.args.c.now) ((spec.block_pieces (map statement_lines c.args.body.now) (depth c.args.level.now)) ++ (Feed ∷ [])) c.in_ok-put_test.ensures.ok
    (then_put (spec.block_pieces (map statement_lines c.args.body.now) (depth c.args.level.now)) (Feed ∷ []) c.in_ok-put_block.ensures.ok
    (c.put-2.ensures))))

pub put_block-returns-in_err-put : goal.put_block-returns-in_err-put
put_block-returns-in_err-put g t c =
    stop_put (Word f.LBrace ∷ Feed ∷ []) ((spec.lines_at (map statement_lines c.args.block.now) (depth c.args.level.now + 1)) ++ ((Indent (depth c.args.level.now) ∷ []) ++ (Word f.RBrace ∷ []))) c.from_residual.ensures.0 c.in_err-put.ensures

pub put_block-returns-in_err-put_statements : goal.put_block-returns-in_err-put_statements
put_block-returns-in_err-put_statements g t c =
    then_put (Word f.LBrace ∷ Feed ∷ []) ((spec.lines_at (map statement_lines c.args.block.now) (depth c.args.level.now + 1)) ++ ((Indent (depth c.args.level.now) ∷ []) ++ (Word f.RBrace ∷ []))) c.in_ok-put.ensures.ok
    (stop_put (spec.lines_at (map statement_lines c.args.block.now) (depth c.args.level.now + 1)) ((Indent (depth c.args.level.now) ∷ []) ++ (Word f.RBrace ∷ [])) c.from_residual-in_err-put_statements.ensures.0 (inside_puts c.args.block.now c.args.level c.in_err-put_statements.ensures))

pub put_block-returns-in_err-put_indent : goal.put_block-returns-in_err-put_indent
put_block-returns-in_err-put_indent g t c =
    then_put (Word f.LBrace ∷ Feed ∷ []) ((spec.lines_at (map statement_lines c.args.block.now) (depth c.args.level.now + 1)) ++ ((Indent (depth c.args.level.now) ∷ []) ++ (Word f.RBrace ∷ []))) c.in_ok-put.ensures.ok
    (then_put (spec.lines_at (map statement_lines c.args.block.now) (depth c.args.level.now + 1)) ((Indent (depth c.args.level.now) ∷ []) ++ (Word f.RBrace ∷ [])) (inside_passes c.args.block.now c.args.level c.in_ok-put_statements.ensures.ok)
    (stop_put (Indent (depth c.args.level.now) ∷ []) (Word f.RBrace ∷ []) c.from_residual-in_err-put_indent.ensures.0 c.in_err-put_indent.ensures))

pub put_block-returns : goal.put_block-returns
put_block-returns g t c =
    then_put (Word f.LBrace ∷ Feed ∷ []) ((spec.lines_at (map statement_lines c.args.block.now) (depth c.args.level.now + 1)) ++ ((Indent (depth c.args.level.now) ∷ []) ++ (Word f.RBrace ∷ []))) c.in_ok-put.ensures.ok
    (then_put (spec.lines_at (map statement_lines c.args.block.now) (depth c.args.level.now + 1)) ((Indent (depth c.args.level.now) ∷ []) ++ (Word f.RBrace ∷ [])) (inside_passes c.args.block.now c.args.level c.in_ok-put_statements.ensures.ok)
    (then_put (Indent (depth c.args.level.now) ∷ []) (Word f.RBrace ∷ []) c.in_ok-put_indent.ensures.ok
    (c.put-2.ensures)))

pub put_statement-returns-in_err-put_if_head-in-If : goal.put_statement-returns-in_err-put_if_head-in-If
put_statement-returns-in_err-put_if_head-in-If g t c =
    let is = lines_if c.args.s.now c.in-If.c c.in-If.yes c.in-If.no c.in-If.is in
    rw is (stop_put (Indent (depth c.args.level.now) ∷ Word f.If ∷ spec.test_pieces c.in-If.c) ((spec.block_pieces (map statement_lines c.in-If.yes) (depth c.args.level.now)) ++ ((spec.otherwise_pieces (map statement_lines c.in-If.no) (depth c.args.level.now)) ++ (Feed ∷ []))) c.from_residual.ensures.0 c.in_err-put_if_head-in-If.ensures)

pub put_statement-returns-in_err-put_block-in-If : goal.put_statement-returns-in_err-put_block-in-If
put_statement-returns-in_err-put_block-in-If g t c =
    let is = lines_if c.args.s.now c.in-If.c c.in-If.yes c.in-If.no c.in-If.is in
    rw is (then_put (Indent (depth c.args.level.now) ∷ Word f.If ∷ spec.test_pieces c.in-If.c) ((spec.block_pieces (map statement_lines c.in-If.yes) (depth c.args.level.now)) ++ ((spec.otherwise_pieces (map statement_lines c.in-If.no) (depth c.args.level.now)) ++ (Feed ∷ []))) c.in_ok-put_if_head-in-If.ensures.ok
    (stop_put (spec.block_pieces (map statement_lines c.in-If.yes) (depth c.args.level.now)) ((spec.otherwise_pieces (map statement_lines c.in-If.no) (depth c.args.level.now)) ++ (Feed ∷ [])) c.from_residual-in_err-put_block-in-If.ensures.0 c.in_err-put_block-in-If.ensures))

pub put_statement-returns-in_err-put_otherwise-in-If : goal.put_statement-returns-in_err-put_otherwise-in-If
put_statement-returns-in_err-put_otherwise-in-If g t c =
    let is = lines_if c.args.s.now c.in-If.c c.in-If.yes c.in-If.no c.in-If.is in
    rw is (then_put (Indent (depth c.args.level.now) ∷ Word f.If ∷ spec.test_pieces c.in-If.c) ((spec.block_pieces (map statement_lines c.in-If.yes) (depth c.args.level.now)) ++ ((spec.otherwise_pieces (map statement_lines c.in-If.no) (depth c.args.level.now)) ++ (Feed ∷ []))) c.in_ok-put_if_head-in-If.ensures.ok
    (then_put (spec.block_pieces (map statement_lines c.in-If.yes) (depth c.args.level.now)) ((spec.otherwise_pieces (map statement_lines c.in-If.no) (depth c.args.level.now)) ++ (Feed ∷ [])) c.in_ok-put_block-in-If.ensures.ok
    (stop_put (spec.otherwise_pieces (map statement_lines c.in-If.no) (depth c.args.level.now)) (Feed ∷ []) c.from_residual-in_err-put_otherwise-in-If.ensures.0 c.in_err-put_otherwise-in-If.ensures)))

pub put_statement-returns-in_ok-put_otherwise-in-If : goal.put_statement-returns-in_ok-put_otherwise-in-If
put_statement-returns-in_ok-put_otherwise-in-If g t c =
    let is = lines_if c.args.s.now c.in-If.c c.in-If.yes c.in-If.no c.in-If.is in
    rw is (then_put (Indent (depth c.args.level.now) ∷ Word f.If ∷ spec.test_pieces c.in-If.c) ((spec.block_pieces (map statement_lines c.in-If.yes) (depth c.args.level.now)) ++ ((spec.otherwise_pieces (map statement_lines c.in-If.no) (depth c.args.level.now)) ++ (Feed ∷ []))) c.in_ok-put_if_head-in-If.ensures.ok
    (then_put (spec.block_pieces (map statement_lines c.in-If.yes) (depth c.args.level.now)) ((spec.otherwise_pieces (map statement_lines c.in-If.no) (depth c.args.level.now)) ++ (Feed ∷ [])) c.in_ok-put_block-in-If.ensures.ok
    (then_put (spec.otherwise_pieces (map statement_lines c.in-If.no) (depth c.args.level.now)) (Feed ∷ []) c.in_ok-put_otherwise-in-If.ensures.ok
    (c.put.ensures))))

pub put_otherwise-returns-in_err-put : goal.put_otherwise-returns-in_err-put
put_otherwise-returns-in_err-put g t c =
    let full : c.args.no.now ≡ [] → ⊥ = λ e. let test = c.is_empty.ensures.1 e in let other = c.if-is_empty.false in absurd (cc) in
    rw (otherwise_full c.args.no.now (depth c.args.level.now) full) (stop_put (Space ∷ Word f.Else ∷ Space ∷ []) (spec.block_pieces (map statement_lines c.args.no.now) (depth c.args.level.now)) c.from_residual.ensures.0 c.in_err-put.ensures)

pub put_otherwise-returns : goal.put_otherwise-returns
put_otherwise-returns g t c =
    let full : c.args.no.now ≡ [] → ⊥ = λ e. let test = c.is_empty.ensures.1 e in let other = c.if-is_empty.false in absurd (cc) in
    rw (otherwise_full c.args.no.now (depth c.args.level.now) full) (then_put (Space ∷ Word f.Else ∷ Space ∷ []) (spec.block_pieces (map statement_lines c.args.no.now) (depth c.args.level.now)) c.in_ok-put.ensures.ok c.put_block.ensures)

pub put_statements-statements-init : goal.put_statements-statements-init
put_statements-statements-init g t c = put_start _ _ _ c.requires

pub put_statements-returns-in_err-put_statement : goal.put_statements-returns-in_err-put_statement
put_statements-returns-in_err-put_statement g t c =
    let level = depth c.args.level.now in
    let items = c.as_slice-s-items.result.now in
    let next = statement_at items level c.statements.s-index c.s-item.result c.statements-test.true c.s-item.is in
    let puts = put_fails (statement_lines c.s-item.result level) (spec.lines_at (map statement_lines (drop (c.statements.s-index + 1) items)) level)
    c.statements.invariant next c.from_residual.ensures.0 c.in_err-put_statement.ensures in
    rw (← c.as_slice-s-items.ensures) puts

pub put_statements-statements-preserved : goal.put_statements-statements-preserved
put_statements-statements-preserved g t c =
    let level = depth c.args.level.now in
    let items = c.as_slice-s-items.result.now in
    let next = statement_at items level c.statements.s-index c.s-item.result c.statements-test.true c.s-item.is in
    put_step (statement_lines c.s-item.result level) (spec.lines_at (map statement_lines (drop (c.statements.s-index + 1) items)) level)
    c.statements.invariant next c.in_ok-put_statement.ensures.ok
