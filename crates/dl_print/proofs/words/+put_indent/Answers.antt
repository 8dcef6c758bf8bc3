use Rattle.dl_text.proofs.WritingLemmas.{puts_both, puts_fails}
use Rattle.dl_print.proofs.Parts.{depth_inside}
use Rattle.dl_print.proofs.words.+put_indent.Goals as goal

pub returns-in_err-put-in-Inside : goal.returns-in_err-put-in-Inside
returns-in_err-put-in-Inside g t c =
    let further = depth_inside c.args.level.now c.in-Inside.outer c.in-Inside.is in
    rw further (puts_fails _ c.from_residual.ensures.0 c.in_err-put-in-Inside.ensures)

pub returns-in_ok-put-in-Inside : goal.returns-in_ok-put-in-Inside
returns-in_ok-put-in-Inside g t c =
    let further = depth_inside c.args.level.now c.in-Inside.outer c.in-Inside.is in
    rw further (puts_both c.in_ok-put-in-Inside.ensures.ok c.put_indent.ensures)
