use Rattle.std.proofs.Common.{◌+◌, sym, subst, arith}
use Rattle.dl_live.proofs.Pieces.{BroughtBelow, brought_more, brought_none, brought_all}
use Rattle.dl_live.proofs.brought.brought_places.Goals as goal
use Rattle.dl_live.proofs.brought.brought_places.Goals.{then-brings, else-brings}

pub loop-last-preserved : goal.loop-last-preserved
loop-last-preserved c =
    let steps = c.args.steps.now in
    let last = c.loop-last.last in
    elim c.if-brings.branch [
      | then-brings w ↦
          let m = w.mark_next.ensures in
          subst (λ marks. BroughtBelow steps c.args.local marks (last + 1)) (sym w.marks-is)
          (brought_more steps c.args.local last c.loop-last.marks w.mark_next.new.marks c.loop-last.invariant w.if-brings.ensures m.same m.marked m.kept m.exact)
      | else-brings w ↦
          subst (λ marks. BroughtBelow steps c.args.local marks (last + 1)) (sym w.marks-is)
          (brought_none steps c.args.local last c.loop-last.marks c.loop-last.invariant w.if-brings.ensures)
    ]

pub returns : goal.returns
returns c = brought_all c.args.steps.now c.args.local c.loop-last.last c.loop-last.marks (omega arith) c.loop-last.invariant
