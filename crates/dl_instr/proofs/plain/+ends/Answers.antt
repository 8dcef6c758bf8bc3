use Rattle.std.proofs.Common.{◌≡◌, ◌+◌, length, refl, arith}
use Rattle.dl_instr.specs.Code.{stmt_code, block_code}
use Rattle.dl_instr.proofs.PlainSteps.{same_end, added_one, if_else_ends, while_ends}
use Rattle.dl_instr.proofs.Patches.{not_so}
use Rattle.dl_instr.proofs.plain.+ends.Goals as goal

pub stmt_end-returns-else-is_empty : goal.stmt_end-returns-else-is_empty
stmt_end-returns-else-is_empty t c =
    let whole = if_else_ends c.args.s.now c.in-If.c c.in-If.yes c.in-If.no c.args.first c.in-Some.end c.in-If.is (not_so c.is_empty.result c.is_empty.ensures c.if-is_empty.false) c.in-Some.ensures in
    same_end c.inner_end-else-is_empty.result (c.in-Some.end + 1 + length (block_code c.in-If.no (c.in-Some.end + 1))) (c.args.first + length (stmt_code c.args.s.now c.args.first)) whole c.inner_end-else-is_empty.ensures

pub stmt_end-returns-in-None-inner_end : goal.stmt_end-returns-in-None-inner_end
stmt_end-returns-in-None-inner_end t c =
    let n = c.args.first + 1 + length (block_code c.in-While.body (c.args.first + 1)) in
    let same : n ≡ c.args.first + 1 + length (block_code c.in-While.body (c.args.first + 1)) = refl in
    let whole = while_ends c.args.s.now c.in-While.c c.in-While.body c.args.first n c.in-While.is same in
    omega (arith, whole, c.in-None-inner_end.ensures)

pub stmt_end-returns-in-Some-inner_end : goal.stmt_end-returns-in-Some-inner_end
stmt_end-returns-in-Some-inner_end t c =
    let end = c.in-Some-inner_end.end in
    let whole = while_ends c.args.s.now c.in-While.c c.in-While.body c.args.first end c.in-While.is c.in-Some-inner_end.ensures in
    same_end c.checked_add-in-Some-inner_end.result (end + 1) (c.args.first + length (stmt_code c.args.s.now c.args.first)) whole (added_one c.checked_add-in-Some-inner_end.result end c.checked_add-in-Some-inner_end.ensures)
