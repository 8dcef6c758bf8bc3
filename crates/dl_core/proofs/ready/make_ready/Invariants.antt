use Rattle.dl_core.specs.LocalSteps.{steps_left}
use Rattle.dl_core.specs.Shown.{shown, with_code}
use Rattle.dl_core.proofs.Ways.{IsOnWay}
use Rattle.dl_core.proofs.ready.make_ready.Given as goal

abbrev pub invariant-loop-due : goal.invariant-loop-due
invariant-loop-due l = IsOnWay l.code l.initial.frame l.frame

abbrev pub decreases-loop-due : goal.decreases-loop-due
decreases-loop-due l = steps_left (with_code l.code) (shown l.frame)
