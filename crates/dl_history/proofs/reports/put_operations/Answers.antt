use Rattle.std.proofs.Common.{rules, List, ◌++◌, ap}
use Rattle.dl_ir.specs.declared.answers.Entry.{Entry}
use Rattle.dl_text.proofs.Loops.{puts_is}
use Rattle.dl_text.proofs.WritingLemmas.{passes_both, passes_fails, puts_both, puts_fails, puts_more}
use Rattle.dl_history.specs.Histories.{joined}
use Rattle.dl_history.specs.Report.{version_line, answers_part, history_part}
use Rattle.dl_history.proofs.reports.put_operations.Goals as goal

pub returns-in_err-put_head : goal.returns-in_err-put_head
returns-in_err-put_head g c =
    let e = c.from_residual.ensures.0 in
    let q = c.in_err-put_head.ensures in
    search (rules, puts_fails, puts_more)

pub returns-in_err-put_answers : goal.returns-in_err-put_answers
returns-in_err-put_answers g c =
    let e = c.from_residual-in_err-put_answers.ensures.0 in
    let p1 = c.in_ok-put_head.ensures.ok in
    let q = c.in_err-put_answers.ensures in
    search (rules, passes_both, passes_fails, puts_more)

pub returns : goal.returns
returns g c =
    let source = c.args.source.now in
    let files = c.args.files.now in
    puts_is (ap (λ (entries : List Entry). (version_line source ++ answers_part files c.args.history.now.entries (joined c.args.refusals.now)) ++ history_part source files entries) c.entries.ensures)
    (puts_both (passes_both c.in_ok-put_head.ensures.ok c.in_ok-put_answers.ensures.ok) c.put_history.ensures)
