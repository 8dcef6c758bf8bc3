use Rattle.std.proofs.Common.{arith, ap, ◌∙◌, take, drop}
use Rattle.dl_heapfile.proofs.FeedFree.{cut_long, uncut_short}
use Rattle.dl_heapfile.proofs.lines.first_line.Goals as goal

pub returns-in-empty : goal.returns-in-empty
returns-in-empty c =
    uncut_short c.args.text.now c.split_at.result.1.now (c.split_at.ensures.back ∙ ap (λ n. drop n c.args.text.now) c.line_len.ensures.run) (omega (arith, c.in-empty.len_below))

pub returns-in-len1-up : goal.returns-in-len1-up
returns-in-len1-up c =
    cut_long c.args.text.now c.split_at.result.0.now c.split_at.result.1.now (c.split_at.ensures.front ∙ ap (λ n. take n c.args.text.now) c.line_len.ensures.run)
    (c.split_at.ensures.back ∙ ap (λ n. drop n c.args.text.now) c.line_len.ensures.run) (omega (arith, c.in-len1-up.len_at_least))
