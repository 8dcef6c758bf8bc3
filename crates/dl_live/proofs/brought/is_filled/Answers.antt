use Rattle.std.proofs.Common.{sym, ◌∙◌, arith}
use Rattle.dl_live.proofs.Pieces.{filled_later}
use Rattle.dl_live.proofs.brought.is_filled.Goals as goal

pub loop-at-preserved : goal.loop-at-preserved
loop-at-preserved c = λ f.
    filled_later c.args.steps.now c.args.local c.args.first c.args.last c.loop-at.at c.index-steps-at.result (omega arith) c.index-steps-at.is (sym c.fills.ensures ∙ c.if-fills.false) f
    (c.loop-at.invariant f)
