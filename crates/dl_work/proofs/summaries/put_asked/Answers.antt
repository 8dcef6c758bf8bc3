use Rattle.std.proofs.Common.{rules}
use Rattle.dl_text.proofs.WritingLemmas.{passes_both, passes_fails, puts_both, puts_fails, puts_more}
use Rattle.dl_work.proofs.summaries.put_asked.Goals as goal

pub returns-in_err-put : goal.returns-in_err-put
returns-in_err-put g c =
    let e = c.from_residual.ensures.0 in
    let q = c.in_err-put.ensures in
    search (rules, puts_fails, puts_more)

pub returns-in_err-put_number : goal.returns-in_err-put_number
returns-in_err-put_number g c =
    let e = c.from_residual-in_err-put_number.ensures.0 in
    let p1 = c.in_ok-put.ensures.ok in
    let q = c.in_err-put_number.ensures in
    search (rules, passes_both, passes_fails, puts_more)

pub returns-in_err-put-2 : goal.returns-in_err-put-2
returns-in_err-put-2 g c =
    let e = c.from_residual-in_err-put-2.ensures.0 in
    let p1 = c.in_ok-put.ensures.ok in
    let p2 = c.in_ok-put_number.ensures.ok in
    let q = c.in_err-put-2.ensures in
    search (rules, passes_both, passes_fails, puts_more)

pub returns-in_err-put_number-2 : goal.returns-in_err-put_number-2
returns-in_err-put_number-2 g c =
    let e = c.from_residual-in_err-put_number-2.ensures.0 in
    let p1 = c.in_ok-put.ensures.ok in
    let p2 = c.in_ok-put_number.ensures.ok in
    let p3 = c.in_ok-put-2.ensures.ok in
    let q = c.in_err-put_number-2.ensures in
    search (rules, passes_both, passes_fails, puts_more)

pub returns : goal.returns
returns g c =
    let p1 = c.in_ok-put.ensures.ok in
    let p2 = c.in_ok-put_number.ensures.ok in
    let p3 = c.in_ok-put-2.ensures.ok in
    let p4 = c.in_ok-put_number-2.ensures.ok in
    let q = c.put_line.ensures in
    search (rules, passes_both, puts_both)
