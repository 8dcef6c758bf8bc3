use Rattle.std.proofs.Common.{◌≡◌, ◌+◌, ◌-◌, ◌<◌, ◌≤◌, ◌∙◌, false, Some, refl, sym, ap, length, arith}
use Rattle.dl_instr.specs.Code.{stmt_code, block_code}
use Rattle.dl_instr.specs.declared.steps.Step.TheVariants.{Test}
use Rattle.dl_instr.proofs.Patches.{not_so}
use Rattle.dl_instr.proofs.PlainSteps.{row_first, row_next, row_length, if_else_ends, while_ends, if_test_alone, if_test_else, if_first, if_none, if_jump, if_second, while_first, while_jump, while_none}
use Rattle.dl_instr.proofs.plain.+finds.Goals as goal
use Rattle.dl_instr.proofs.plain.+finds.Goals.{stmt_step-then-is_empty, stmt_step-else-is_empty}

pub block_step-returns-then-left-count : goal.block_step-returns-then-left-count
block_step-returns-then-left-count t c =
    let items = c.as_slice-s-items.result.now in
    let less : c.loop-s.left < length (stmt_code c.s-item.result c.loop-s.place) = omega (arith, c.in_ok-end.ensures) in
    c.stmt_step.ensures ∙ sym (row_first items c.loop-s.s-index c.s-item.result c.loop-s.place c.loop-s.left (omega arith) c.s-item.is less) ∙ c.loop-s.invariant.1

pub block_step-loop-s-preserved : goal.block_step-loop-s-preserved
block_step-loop-s-preserved t c =
    let items = c.as_slice-s-items.result.now in
    let end = c.in_ok-end.end in
    let at : end ≡ c.loop-s.place + length (stmt_code c.s-item.result c.loop-s.place) = c.in_ok-end.ensures in
    let more : length (stmt_code c.s-item.result c.loop-s.place) ≤ c.loop-s.left = omega (arith, at) in (
      row_length items c.loop-s.s-index c.s-item.result c.loop-s.place end (omega arith) c.s-item.is at ∙ c.loop-s.invariant.0,
      row_next items c.loop-s.s-index c.s-item.result c.loop-s.place c.loop-s.left end (omega arith) c.s-item.is at more ∙ c.loop-s.invariant.1,
    )

pub stmt_step-overflow_add-place : goal.stmt_step-overflow_add-place
stmt_step-overflow_add-place t c =
    let whole = if_else_ends c.args.s.now c.in-If.c c.in-If.yes c.in-If.no c.args.first c.in_ok-end-in-If.end c.in-If.is (not_so c.is_empty.result c.is_empty.ensures c.if-is_empty.false) c.in_ok-end-in-If.ensures in
    omega (arith, whole)

pub stmt_step-returns-in_err-last-in-If : goal.stmt_step-returns-in_err-last-in-If
stmt_step-returns-in_err-last-in-If t c =
    let whole = if_else_ends c.args.s.now c.in-If.c c.in-If.yes c.in-If.no c.args.first c.in_ok-end-in-If.end c.in-If.is
    (not_so c.is_empty-else-at-end.result c.is_empty-else-at-end.ensures c.if-is_empty-2.false) c.in_ok-end-in-If.ensures in
    absurd (omega (arith, whole, c.in_err-last-in-If.ensures))

pub stmt_step-returns-in_err-end-in-While : goal.stmt_step-returns-in_err-end-in-While
stmt_step-returns-in_err-end-in-While t c =
    let n = c.args.first + 1 + length (block_code c.in-While.body (c.args.first + 1)) in
    let whole = while_ends c.args.s.now c.in-While.c c.in-While.body c.args.first n c.in-While.is refl in
    absurd (omega (arith, whole, c.in_err-end-in-While.ensures))

pub stmt_step-overflow_add-end-then-at-eq0-2 : goal.stmt_step-overflow_add-end-then-at-eq0-2
stmt_step-overflow_add-end-then-at-eq0-2 t c =
    let whole = while_ends c.args.s.now c.in-While.c c.in-While.body c.args.first c.in_ok-end-in-While.end c.in-While.is c.in_ok-end-in-While.ensures in
    omega (arith, whole)

pub stmt_step-returns-after-is_empty : goal.stmt_step-returns-after-is_empty
stmt_step-returns-after-is_empty t c = elim c.if-is_empty.branch [
  | stmt_step-then-is_empty w ↦
      ap Some (c.test.ensures ∙ ap (Test c.in-If.c false) w.place-is)
      ∙ if_test_alone c.args.s.now c.in-If.c c.in-If.yes c.args.first c.args.at c.in_ok-end-in-If.end c.in_ok-end-in-If.ensures c.in-If.no c.in-If.is (c.is_empty.ensures.0 w.if-is_empty.true) (omega arith)
  | stmt_step-else-is_empty w ↦
      ap Some (c.test.ensures ∙ ap (Test c.in-If.c false) w.place-is)
      ∙ if_test_else c.args.s.now c.in-If.c c.in-If.yes c.args.first c.args.at c.in_ok-end-in-If.end c.in_ok-end-in-If.ensures c.in-If.no c.in-If.is (not_so c.is_empty.result c.is_empty.ensures w.if-is_empty.false) (omega arith)
]

pub stmt_step-returns-then-at-end : goal.stmt_step-returns-then-at-end
stmt_step-returns-then-at-end t c =
    c.block_step.ensures
    ∙ if_first c.args.s.now c.in-If.c c.in-If.yes c.args.first c.args.at c.in_ok-end-in-If.end c.in_ok-end-in-If.ensures c.in-If.no (c.args.at - 1) c.in-If.is (omega arith) (omega (arith, c.in_ok-end-in-If.ensures))

pub stmt_step-returns-then-is_empty-2 : goal.stmt_step-returns-then-is_empty-2
stmt_step-returns-then-is_empty-2 t c =
    if_none c.args.s.now c.in-If.c c.in-If.yes c.args.first c.args.at c.in_ok-end-in-If.end c.in_ok-end-in-If.ensures c.in-If.no c.in-If.is (c.is_empty-else-at-end.ensures.0 c.if-is_empty-2.true) (omega arith)

pub stmt_step-returns-then-at-end-2 : goal.stmt_step-returns-then-at-end-2
stmt_step-returns-then-at-end-2 t c =
    if_jump c.args.s.now c.in-If.c c.in-If.yes c.args.first c.args.at c.in_ok-end-in-If.end c.in_ok-end-in-If.ensures c.in-If.no c.in_ok-last-in-If.last c.in-If.is
    (not_so c.is_empty-else-at-end.result c.is_empty-else-at-end.ensures c.if-is_empty-2.false) (omega arith) c.in_ok-last-in-If.ensures

pub stmt_step-returns-else-at-end-2 : goal.stmt_step-returns-else-at-end-2
stmt_step-returns-else-at-end-2 t c =
    c.block_step-else-at-end-2.ensures
    ∙ if_second c.args.s.now c.in-If.c c.in-If.yes c.args.first c.args.at c.in_ok-end-in-If.end c.in_ok-end-in-If.ensures c.in-If.no (c.args.at - (c.in_ok-end-in-If.end - c.args.first) - 1) c.in-If.is
    (not_so c.is_empty-else-at-end.result c.is_empty-else-at-end.ensures c.if-is_empty-2.false) (omega arith)

pub stmt_step-returns-then-at-end-3 : goal.stmt_step-returns-then-at-end-3
stmt_step-returns-then-at-end-3 t c =
    c.block_step-then-at-end-3.ensures
    ∙ while_first c.args.s.now c.in-While.c c.in-While.body c.args.first c.args.at c.in_ok-end-in-While.end c.in_ok-end-in-While.ensures (c.args.at - 1) c.in-While.is (omega arith) (omega (arith, c.in_ok-end-in-While.ensures))

pub stmt_step-returns-then-at-end-4 : goal.stmt_step-returns-then-at-end-4
stmt_step-returns-then-at-end-4 t c =
    while_jump c.args.s.now c.in-While.c c.in-While.body c.args.first c.args.at c.in_ok-end-in-While.end c.in_ok-end-in-While.ensures c.in-While.is (omega arith)

pub stmt_step-returns-else-at-end-4 : goal.stmt_step-returns-else-at-end-4
stmt_step-returns-else-at-end-4 t c =
    while_none c.args.s.now c.in-While.c c.in-While.body c.args.first c.args.at c.in_ok-end-in-While.end c.in_ok-end-in-While.ensures c.in-While.is (omega arith)
