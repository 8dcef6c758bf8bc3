use Rattle.std.proofs.Common.{rules}
use Rattle.dl_text.proofs.WritingLemmas.{passes_both, passes_fails, puts_both, puts_fails, puts_more}
use Rattle.dl_work.proofs.summaries.put_rest.Goals as goal

pub returns-in_err-put_line : goal.returns-in_err-put_line
returns-in_err-put_line g c =
    let e = c.from_residual.ensures.0 in
    let q = c.in_err-put_line.ensures in
    search (rules, puts_fails, puts_more)

pub returns-in_err-put_line-2 : goal.returns-in_err-put_line-2
returns-in_err-put_line-2 g c =
    let e = c.from_residual-in_err-put_line-2.ensures.0 in
    let p1 = c.in_ok-put_line.ensures.ok in
    let q = c.in_err-put_line-2.ensures in
    search (rules, passes_both, passes_fails, puts_more)

pub returns-in_err-put_line-3 : goal.returns-in_err-put_line-3
returns-in_err-put_line-3 g c =
    let e = c.from_residual-in_err-put_line-3.ensures.0 in
    let p1 = c.in_ok-put_line.ensures.ok in
    let p2 = c.in_ok-put_line-2.ensures.ok in
    let q = c.in_err-put_line-3.ensures in
    search (rules, passes_both, passes_fails, puts_more)

pub returns : goal.returns
returns g c =
    let p1 = c.in_ok-put_line.ensures.ok in
    let p2 = c.in_ok-put_line-2.ensures.ok in
    let p3 = c.in_ok-put_line-3.ensures.ok in
    let q = c.put.ensures in
    search (rules, passes_both, puts_both)
